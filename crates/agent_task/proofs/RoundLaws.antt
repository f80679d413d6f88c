-- A round of an agent: what it sends, and how its control channel ends.
use Rattle.std.proofs.Common.{◌≡◌, ℕ, List, ◌++◌, refl, ap, sym, ◌∙◌, Some, None, Option, subst}
use Rattle.std.specs.Prelude.{false, map}
use Rattle.list_laws.specs.Lists.{AreDifferent}
use Rattle.qrexec_frame.specs.declared.message.Message.{Message}
use Rattle.qrexec_data.specs.declared.outcome.SessionFault.{SessionFault}
use Rattle.vchan_rule.specs.Seated.{view, IsOpen}
use Rattle.vchan_rule.specs.Ends.{IsSameEnd}
use Rattle.vchan_rule.proofs.EndLaws.{same_end_then}
use Rattle.vchan_lifecycle.specs.Lifecycle.{retired_view}
use Rattle.vchan_lifecycle.specs.declared.DrainAnswer.{DrainAnswer}
use Rattle.end_view.specs.EndView.{EndView}
use Rattle.task_duties.specs.declared.done.ControlEnd.{ControlEnd}
use Rattle.task_duties.specs.declared.done.ControlEnd.TheVariants.{Drained, Gone, Fault}
use Rattle.task_duties.specs.Hearing.{Heard, hears}
use Rattle.task_duties.specs.Agent.Owes.{ControlOver}
use Rattle.task_duties.specs.Words.{ident_of}
use Rattle.control_port.specs.Port.{PortState, HasSaid, HasHeardAll, OnlySends}
use Rattle.control_port.specs.Talking.{may_hear}
use Rattle.agent_control.specs.declared.control.AgentControl.{AgentControl}
use Rattle.agent_control.specs.Speaking.{SaysMore}
use Rattle.agent_slots.specs.Slots.{held_at}
use Rattle.agent_task.specs.declared.agent.Agent.{Agent}
use Rattle.agent_task.specs.declared.agent.Given.{Given}
use Rattle.agent_task.specs.Given.{data_ends}
use Rattle.agent_task.specs.Standing.{IsHearing, HasHeardOut, IsUp, HasSameEnds, CanRest, CanGiveUp}
use Rattle.agent_task.specs.Ending.{HasEnded, end_by, over_by, IsDrained, heard_at, IsOver, IsRunning, RunsAs}
use Rattle.agent_task.proofs.PortLaws.{with_port, PortKeeps, port_stands, still_all}
use Rattle.agent_task.proofs.KeptLaws.{kept_said, kept_still}
use Rattle.agent_task.proofs.AskingLaws.{calls_said}

-- ---- open or over

pub running_up : (a : Agent) → IsRunning a → a.over ≡ None → IsUp a
running_up a running none = subst (λ (o : Option ControlEnd). RunsAs o a) none running

pub up_running : (a : Agent) → IsUp a → IsRunning a
up_running a up = subst (λ (o : Option ControlEnd). RunsAs o a) (sym up.hearing.sound.up) up

pub running_over : (a : Agent) (how : ControlEnd) → IsRunning a → a.over ≡ Some how → IsOver how a
running_over a how running is = subst (λ (o : Option ControlEnd). RunsAs o a) is running

pub over_running : (a : Agent) (how : ControlEnd) → IsOver how a → IsRunning a
over_running a how over = subst (λ (o : Option ControlEnd). RunsAs o a) (sym over.over_is) over

-- memory didn't run out in any turn of its sessions
pub running_whole : (a : Agent) → IsRunning a → a.slots.spent ≡ false
running_whole a running = by_over a.over refl
  where
    by_over : (o : Option ControlEnd) → a.over ≡ o → a.slots.spent ≡ false
    by_over None is = (running_up a running is).hearing.stands.slots.whole
    by_over (Some how) is = (running_over a how running is).stands.slots.whole

-- ---- what can be given up

pub hearing_rests : (a : Agent) → IsHearing a → CanGiveUp a
hearing_rests a h = record {
  control = h.stands.port.end;
  held = h.stands.slots.held;
  idle = h.sound.is_open.0;
  rests = subst (λ (o : Option ControlEnd). CanRest o (view a.control.port.end)) (sym h.sound.up) tt;
}

pub over_rests : (how : ControlEnd) (a : Agent) → IsOver how a → CanGiveUp a
over_rests how a over = record {
  control = over.stands.port.end;
  held = over.stands.slots.held;
  idle = over.idle;
  rests = subst (λ (o : Option ControlEnd). CanRest o (view a.control.port.end)) (sym over.over_is) over.retired;
}

pub running_rests : (a : Agent) → IsRunning a → CanGiveUp a
running_rests a running = by_over a.over refl
  where
    by_over : (o : Option ControlEnd) → a.over ≡ o → CanGiveUp a
    by_over None is = hearing_rests a (running_up a running is).hearing
    by_over (Some how) is = over_rests how a (running_over a how running is)

-- it has the same ends, and its control end is open
pub still_rests : (old new : Agent) → IsHearing old → HasSameEnds old new → IsSameEnd old.control.port.end new.control.port.end → IsOpen new.control.port.end → CanGiveUp new
still_rests old new h same end opened = record {
  control = subst (λ (g : Given). IsSameEnd g.control.value new.control.port.end) (sym same.0) (same_end_then old.given.control.value old.control.port.end new.control.port.end h.stands.port.end end);
  held = same.2 ∙ h.stands.slots.held ∙ ap (λ (g : Given). map held_at (data_ends g)) (sym same.0);
  idle = opened.0;
  rests = subst (λ (o : Option ControlEnd). CanRest o (view new.control.port.end)) (sym (same.1 ∙ h.sound.up)) tt;
}

-- ---- what is sent

pub says_up : (a : Agent) (control : AgentControl) (calls : ℕ) → IsUp a → SaysMore calls a.control control → IsUp (record a { control = control })
says_up a control calls up more =
    let h = up.hearing in
    let speaks = more.speaks h.heard h.said h.stands.speaks in
    record {
      hearing = record {
        heard = h.heard;
        said = h.said ++ speaks.0;
        stands = record {
          port = record {
            own = ap (λ (p : PortState). p.own) more.port.0 ∙ h.stands.port.own;
            talker = ap (λ (p : PortState). p.talker) more.port.0 ∙ h.stands.port.talker;
            end = same_end_then a.given.control.value a.control.port.end control.port.end h.stands.port.end more.end;
          };
          calls = record {
            calls = ap (λ l. map (λ x. x.call) l) more.asked ∙ h.stands.calls.calls;
            apart = subst (λ l. AreDifferent (map (λ x. ident_of x.call.number) l)) (sym more.asked) h.stands.calls.apart;
          };
          slots = h.stands.slots;
          answers = record { asked = more.asked ∙ h.stands.answers.asked; unused = h.stands.answers.unused; called = h.stands.answers.called; served = h.stands.answers.served };
          asked_for = h.stands.asked_for;
          speaks = speaks.1;
          quiet = λ none. let some : control.port.version ≡ Some more.can.version = more.can.version_is in cc;
        };
        keeps = (
          kept_said a.over a.slots.called a.control.unsaid.items control.unsaid.items more.told a.slots.opened h.heard h.said speaks.0 calls more.unsaid speaks.2 h.keeps.0,
          λ running. calls_said a.control.queue control.queue a.control.unsaid.items control.unsaid.items more.told a.slots.opened h.heard h.said speaks.0 calls more.unsaid speaks.2 more.opened more.asked h.stands.speaks.unsaid
              h.stands.speaks.asks more.next (h.keeps.1 running),
        );
        hears = more.heard h.heard h.hears;
        sound = record { fine = ap (λ (p : PortState). p.fault) more.port.0 ∙ h.sound.fine; is_open = more.can.is_open; up = h.sound.up };
      };
      all = still_all a.control.port control.port h.heard more.port.2 (ap (λ (p : PortState). p.talker) more.port.0, ap (λ (p : PortState). p.own) more.port.0, ap (λ (p : PortState). p.version) more.port.0, ap (λ (p : PortState). p.fault) more.port.0) up.all;
      going = more.port.1 ∙ up.going;
    }

-- ---- the end of the channel

pub none_over : (fault : Option SessionFault) (drained : DrainAnswer) → over_by fault drained ≡ None → (fault ≡ None) × (end_by drained ≡ None)
none_over (Some f) drained is = cc
none_over None drained is = (refl, is)

-- nothing is wrong, and the drain finds no end
pub goes_on : (a : Agent) (drained : DrainAnswer) → HasHeardOut a → IsDrained drained a → over_by a.control.port.fault drained ≡ None → IsUp a
goes_on a drained out ended over = going (none_over a.control.port.fault drained over)
  where
    going : (a.control.port.fault ≡ None) × (end_by drained ≡ None) → IsUp a
    going (fine, none) = record {
      hearing = record {
        heard = out.heard;
        said = out.said;
        stands = out.stands;
        keeps = out.keeps;
        hears = out.hears fine;
        sound = record { fine = fine; is_open = out.is_open; up = out.up };
      };
      all = out.all;
      going = subst (λ (o : Option ControlEnd). HasEnded o (view a.control.port.end)) none ended;
    }

-- the end of a port was retired
pub record HungUp (old new : PortState) : Type 0 where
  pub end : IsSameEnd old.end new.end
  pub view_is : view new.end ≡ retired_view (view old.end)
  pub said : (said : List Message) → HasSaid old said → HasSaid new said
  pub only : OnlySends old new

heard_hung_up : (old new : PortState) → HungUp old new → heard_at new ≡ heard_at old
heard_hung_up old new h =
    ap (λ (e : EndView). hears new.own (may_hear new.talker) e.got) h.view_is
    ∙ ap (λ (p : PortState). hears p.own (may_hear p.talker) (view old.end).got) h.only

all_hung_up : (old new : PortState) (heard : List Message) → HungUp old new → HasHeardAll old heard → HasHeardAll new heard
all_hung_up old new heard h all =
    heard_hung_up old new h ∙ all ∙ sym (ap (λ (p : PortState). record { version = p.version; messages = heard; fault = p.fault }) h.only)

control_over : (a : Agent) (port : PortState) (drained : DrainAnswer) (how : ControlEnd) (fault : Option SessionFault) → HungUp a.control.port port → HasHeardOut a → IsDrained drained a → a.control.port.fault ≡ fault
    → over_by fault drained ≡ Some how → ControlOver (view port.end) (heard_at port) how
control_over a port drained how (Some f) hung out ended is over =
    let how_is : Fault f ≡ how = cc in
    subst (λ (x : ControlEnd). ControlOver (view port.end) (heard_at port) x) how_is
    (ap (λ (h : Heard). h.fault) (heard_hung_up a.control.port port hung ∙ out.all) ∙ is)
control_over a port drained how None hung out ended is over = by_how (end_by drained) how over ended
  where
    by_how : (o : Option ControlEnd) (how : ControlEnd) → o ≡ Some how → HasEnded o (view a.control.port.end) → ControlOver (view port.end) (heard_at port) how
    by_how None how e h = cc
    by_how (Some Drained) how e h =
        let how_is : Drained ≡ how = cc in
        subst (λ (x : ControlEnd). ControlOver (view port.end) (heard_at port) x) how_is (ap (λ (v : EndView). v.saw) hung.view_is ∙ h.0, ap (λ (v : EndView). v.ended) hung.view_is ∙ h.1)
    by_how (Some Gone) how e h =
        let how_is : Gone ≡ how = cc in
        subst (λ (x : ControlEnd). ControlOver (view port.end) (heard_at port) x) how_is (ap (λ (v : EndView). v.saw) hung.view_is ∙ h.0, ap (λ (v : EndView). v.ended) hung.view_is ∙ h.1)
    by_how (Some (Fault f)) how e h = absurd h

-- a fault is what it is over by
fault_over : (drained : DrainAnswer) (how : ControlEnd) (f : SessionFault) (fault : Option SessionFault) → fault ≡ Some f → over_by fault drained ≡ Some how → how ≡ Fault f
fault_over drained how f None is over = cc
fault_over drained how f (Some g) is over =
    let same : g ≡ f = cc in
    let how_is : Fault g ≡ how = cc in
    sym how_is ∙ ap (λ (x : SessionFault). Fault x) same

pub is_over : (a : Agent) (port : PortState) (drained : DrainAnswer) (how : ControlEnd) → HungUp a.control.port port → HasHeardOut a → IsDrained drained a → over_by a.control.port.fault drained ≡ Some how
    → IsOver how (record (with_port a port) { over = Some how })
is_over a port drained how hung out ended over =
    let keeps : PortKeeps a.control.port port out.said = record {
      end = hung.end;
      own = ap (λ (p : PortState). p.own) hung.only;
      talker = ap (λ (p : PortState). p.talker) hung.only;
      version = λ v is. ap (λ (p : PortState). p.version) hung.only ∙ is;
      said_is = hung.said out.said out.stands.speaks.said_is;
    } in
    let stands = port_stands a port out.heard out.said keeps out.stands in
    record {
      heard = out.heard;
      said = out.said;
      stands = record { port = stands.port; calls = stands.calls; slots = stands.slots; answers = stands.answers; asked_for = stands.asked_for; speaks = stands.speaks; quiet = stands.quiet };
      keeps = (kept_still a.over how a.slots.called a.control.unsaid.items a.slots.opened out.heard out.said out.keeps.0, λ up. cc);
      all = all_hung_up a.control.port port out.heard hung out.all;
      how_is = control_over a port drained how a.control.port.fault hung out ended refl over;
      fault_is = λ f is. fault_over drained how f a.control.port.fault (sym (ap (λ (h : Heard). h.fault) (heard_hung_up a.control.port port hung ∙ out.all)) ∙ is) over;
      over_is = refl;
      idle = ap (λ (v : EndView). v.idle) hung.view_is ∙ out.is_open.0;
      retired = ap (λ (v : EndView). v.retired) hung.view_is;
    }
