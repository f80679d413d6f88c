-- An agent whose port alone has moved.
use Rattle.std.proofs.Common.{◌≡◌, ℕ, Bool, List, [], refl, ap, sym, ◌∙◌, Some, None, Option, subst}
use Rattle.std.specs.List.{AllByRecursion as Each}
use Rattle.qrexec_frame.specs.declared.message.Message.{Message}
use Rattle.vchan_rule.specs.Seated.{SeatedEnd, view, IsOpen}
use Rattle.vchan_rule.specs.Ends.{IsSameEnd}
use Rattle.vchan_rule.proofs.EndLaws.{same_end_then}
use Rattle.vchan_packet.specs.Packet.{sent_to}
use Rattle.vchan_packet.specs.declared.SendAnswer.{SendAnswer}
use Rattle.vchan_packet.specs.declared.SendAnswer.TheVariants.{Sent}
use Rattle.vchan_packet.proofs.PacketLaws.{sent_got}
use Rattle.vchan_lifecycle.specs.Lifecycle.{drained_to}
use Rattle.vchan_lifecycle.specs.declared.DrainAnswer.{DrainAnswer}
use Rattle.vchan_lifecycle.specs.declared.DrainAnswer.TheVariants as drain
use Rattle.vchan_protocol.specs.History.Core.{first_ended}
use Rattle.vchan_protocol.specs.declared.side.EndedBy.{EndedBy}
use Rattle.vchan_protocol.specs.declared.side.EndedBy.TheVariants as by
use Rattle.end_view.specs.EndView.{EndView}
use Rattle.task_duties.specs.Agent.Saying.{IsOfVersion}
use Rattle.control_port.specs.Port.{PortState, HasSaid, HasHeard, HasHeardAll, OnlyHears, Hands}
use Rattle.control_port.specs.Talking.{may_hear}
use Rattle.control_port.specs.declared.talk.Talker.{Talker}
use Rattle.control_port.proofs.PortLaws.{said_still}
use Rattle.qrexec_data.specs.declared.outcome.SessionFault.{SessionFault}
use Rattle.task_duties.specs.Hearing.{hears}
use Rattle.agent_task.specs.declared.agent.Agent.{Agent}
use Rattle.agent_task.specs.Standing.{Stands, IsHearing, Awaits, HasHeardOut, IsUp}
use Rattle.agent_task.specs.Ending.{HasEnded, end_by, IsDrained}
use Rattle.agent_task.proofs.HeardLaws.{KeepsVersion, kept_at_next, kept_at_end}

abbrev pub with_port : Agent → PortState → Agent
with_port a port = record a { control = record a.control { port = port } }

pub same_end_is : (a b : SeatedEnd) → b ≡ a → IsSameEnd a b
same_end_is a b is = (ap (λ e. e.page) is, ap (λ e. e.side.role) is, ap (λ e. e.side.orders) is, ap (λ e. e.start) is)

-- what stays of a port: its end, version and side, and all that was sent
pub record PortKeeps (old new : PortState) (said : List Message) : Type 0 where
  pub end : IsSameEnd old.end new.end
  pub own : new.own ≡ old.own
  pub talker : new.talker ≡ old.talker
  pub version : KeepsVersion old new
  pub said_is : HasSaid new said

of_version_lem : (said : List Message) (old new : Option ℕ) → (old ≡ None → said ≡ []) → ((v : ℕ) → old ≡ Some v → new ≡ Some v) → Each (IsOfVersion old) said → Each (IsOfVersion new) said
of_version_lem said None new quiet kept each = subst (λ (l : List Message). Each (IsOfVersion new) l) (sym (quiet refl)) tt
of_version_lem said (Some v) new quiet kept each = subst (λ (w : Option ℕ). Each (IsOfVersion w) said) (sym (kept v refl)) each

still_quiet : (said : List Message) (old new : Option ℕ) → (old ≡ None → said ≡ []) → ((v : ℕ) → old ≡ Some v → new ≡ Some v) → new ≡ None → said ≡ []
still_quiet said None new quiet kept none = quiet refl
still_quiet said (Some v) new quiet kept none = let some : new ≡ Some v = kept v refl in cc

pub port_stands : (a : Agent) (port : PortState) (heard said : List Message) → PortKeeps a.control.port port said → Stands a heard said → Stands (with_port a port) heard said
port_stands a port heard said k s = record {
  port = record { own = k.own ∙ s.port.own; talker = k.talker ∙ s.port.talker; end = same_end_then a.given.control.value a.control.port.end port.end s.port.end k.end };
  calls = s.calls;
  slots = s.slots;
  answers = s.answers;
  asked_for = s.asked_for;
  speaks = record {
    said_is = k.said_is;
    asks = s.speaks.asks;
    of_version = of_version_lem said a.control.port.version port.version s.quiet k.version s.speaks.of_version;
    told = s.speaks.told;
    unsaid = s.speaks.unsaid;
  };
  quiet = still_quiet said a.control.port.version port.version s.quiet k.version;
}

kept_same : (old new : PortState) → new.version ≡ old.version → KeepsVersion old new
kept_same old new same v is = same ∙ is

-- ---- the greeting

ended_sent : (e : EndView) (sent : SendAnswer) (payload : List ℕ) → (sent_to e sent payload).ended ≡ e.ended
ended_sent e Sent payload = refl
ended_sent e _ payload = refl

-- no bytes came, so all that came were handed out as before
pub still_all : (old new : PortState) (heard : List Message) → (view new.end).got ≡ (view old.end).got
    → (new.talker ≡ old.talker) × (new.own ≡ old.own) × (new.version ≡ old.version) × (new.fault ≡ old.fault) → HasHeardAll old heard → HasHeardAll new heard
still_all old new heard got same all =
    ap (λ (bytes : List ℕ). hears new.own (may_hear new.talker) bytes) got ∙ ap (λ (o : ℕ). hears o (may_hear new.talker) (view old.end).got) same.1
    ∙ ap (λ (k : Talker). hears old.own (may_hear k) (view old.end).got) same.0 ∙ all
    ∙ sym (ap (λ (v : Option ℕ). record { version = v; messages = heard; fault = new.fault }) same.2 ∙ ap (λ (f : Option SessionFault). record { version = old.version; messages = heard; fault = f }) same.3)

pub greets_up : (a : Agent) (port : PortState) (sent : SendAnswer) (payload : List ℕ) → IsUp a → IsSameEnd a.control.port.end port.end → IsOpen port.end → view port.end ≡ sent_to (view a.control.port.end) sent payload
    → ((said : List Message) → HasSaid a.control.port said → HasSaid port said) → ((heard : List Message) → HasHeard a.control.port heard → HasHeard port heard)
    → (port.talker ≡ a.control.port.talker) × (port.own ≡ a.control.port.own) × (port.version ≡ a.control.port.version) × (port.fault ≡ a.control.port.fault) → IsUp (with_port a port)
greets_up a port sent payload up end opened view_is said heard same =
    let h = up.hearing in
    record {
      hearing = record {
        heard = h.heard;
        said = h.said;
        stands = port_stands a port h.heard h.said (record { end = end; own = same.1; talker = same.0; version = kept_same a.control.port port same.2; said_is = said h.said h.stands.speaks.said_is }) h.stands;
        keeps = h.keeps;
        hears = heard h.heard h.hears;
        sound = record { fine = same.3 ∙ h.sound.fine; is_open = opened; up = h.sound.up };
      };
      all = still_all a.control.port port h.heard (ap (λ e. e.got) view_is ∙ sent_got (view a.control.port.end) sent payload) same up.all;
      going = ap (λ e. e.ended) view_is ∙ ended_sent (view a.control.port.end) sent payload ∙ up.going;
    }

-- ---- a drain

ended_by : (e : EndView) (drained : DrainAnswer) (after : List ℕ) (saw : Bool) → e.ended ≡ None → HasEnded (end_by drained) (drained_to e drained after saw)
ended_by e (drain.More count) after saw none = none
ended_by e (drain.NotYet prod cons) after saw none = none
ended_by e drain.AllRead after saw none = (refl, ap (λ (o : Option EndedBy). first_ended o (Some by.AllRead)) none)
ended_by e (drain.PeerGone prod cons) after saw none = (refl, ap (λ (o : Option EndedBy). first_ended o (Some by.PeerGone)) none)

pub is_drained : (a new : Agent) (drained : DrainAnswer) (after : List ℕ) (saw : Bool) → IsUp a → view new.control.port.end ≡ drained_to (view a.control.port.end) drained after saw → IsDrained drained new
is_drained a new drained after saw up is = subst (λ (e : EndView). HasEnded (end_by drained) e) (sym is) (ended_by (view a.control.port.end) drained after saw up.going)

-- bytes that came are handed out later
pub hears_later : (a : Agent) (port : PortState) → IsHearing a → IsSameEnd a.control.port.end port.end → IsOpen port.end → ((said : List Message) → HasSaid a.control.port said → HasSaid port said)
    → ((heard : List Message) → HasHeard a.control.port heard → HasHeard port heard)
    → (port.talker ≡ a.control.port.talker) × (port.own ≡ a.control.port.own) × (port.greeted ≡ a.control.port.greeted) × (port.version ≡ a.control.port.version) × (port.fault ≡ a.control.port.fault) → IsHearing (with_port a port)
hears_later a port h end opened said heard same = record {
  heard = h.heard;
  said = h.said;
  stands = port_stands a port h.heard h.said (record { end = end; own = same.1; talker = same.0; version = kept_same a.control.port port same.3; said_is = said h.said h.stands.speaks.said_is }) h.stands;
  keeps = h.keeps;
  hears = heard h.heard h.hears;
  sound = record { fine = same.4 ∙ h.sound.fine; is_open = opened; up = h.sound.up };
}

-- ---- the next message

hears_keeps : (old new : PortState) (said : List Message) → OnlyHears old new → KeepsVersion old new → HasSaid old said → PortKeeps old new said
hears_keeps old new said only kept h = record { end = same_end_is old.end new.end only.0; own = only.2; talker = only.1; version = kept; said_is = said_still old new said only h }

still_open : (old new : PortState) → OnlyHears old new → IsOpen old.end → IsOpen new.end
still_open old new only opened = subst (λ e. IsOpen e) (sym only.0) opened

pub handed_one : (a : Agent) (port : PortState) (m : Message) → IsHearing a → OnlyHears a.control.port port → ((heard : List Message) → HasHeard a.control.port heard → Hands port heard (Some m)) → Awaits (with_port a port) m
handed_one a port m h only hands =
    let one = hands h.heard h.hears in
    record {
      heard = h.heard;
      said = h.said;
      stands = port_stands a port h.heard h.said (hears_keeps a.control.port port h.said only (kept_at_next a.control.port port h.heard m h.hears only one) h.stands.speaks.said_is) h.stands;
      keeps = h.keeps;
      hears = one.0;
      sound = record { fine = one.3; is_open = still_open a.control.port port only h.sound.is_open; up = h.sound.up };
    }

pub handed_all : (a : Agent) (port : PortState) → IsHearing a → OnlyHears a.control.port port → ((heard : List Message) → HasHeard a.control.port heard → Hands port heard None) → HasHeardOut (with_port a port)
handed_all a port h only hands =
    let none = hands h.heard h.hears in
    record {
      heard = h.heard;
      said = h.said;
      stands = port_stands a port h.heard h.said (hears_keeps a.control.port port h.said only (kept_at_end a.control.port port h.heard h.hears only none) h.stands.speaks.said_is) h.stands;
      keeps = h.keeps;
      all = none.0;
      hears = none.1;
      is_open = still_open a.control.port port only h.sound.is_open;
      up = h.sound.up;
    }
