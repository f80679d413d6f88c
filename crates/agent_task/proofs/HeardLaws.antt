-- The version that was agreed on is that of the bytes that came, so it stays.
use Rattle.std.proofs.Common.{◌≡◌, ℕ, List, [], ◌∷◌, ◌++◌, length, refl, ap, sym, ◌∙◌, Some, None, Option, subst}
use Rattle.std.specs.Prelude.{Bool, Ok}
use Rattle.qrexec_frame.specs.declared.kind.Channel.TheVariants.{Control}
use Rattle.qrexec_frame.specs.declared.message.Message.{Message}
use Rattle.qrexec_frame.specs.Grammar.{Fault}
use Rattle.qrexec_frame.specs.Fronts.{front, reading}
use Rattle.qrexec_frame.specs.Streams.{Placed, Ending, Reading, read_on, then_reading}
use Rattle.qrexec_frame.proofs.DecodingLaws.{stands_reading}
use Rattle.qrexec_hello.specs.Greeting.{greeting}
use Rattle.vchan_rule.specs.Seated.{view}
use Rattle.task_duties.specs.Hearing.{hears_on, hears}
use Rattle.control_port.specs.Port.{PortState, HasHeard, HearsSoFar, Nothing, Greeted, OnlyHears, Hands}
use Rattle.control_port.specs.Talking.{may_hear}
use Rattle.agent_task.specs.Ending.{heard_at}

greeted_version : (own v : ℕ) (may : Message → Bool) (p : Placed Message) (placed : List (Placed Message)) (e : Ending Fault) → greeting own p.message ≡ Ok v → (hears_on own may (p ∷ placed) e).version ≡ Some v
greeted_version own v may p placed e is = rw is refl

version_of : (own : ℕ) (may : Message → Bool) (given more : List (Placed Message)) (v : ℕ) (heard : List Message) (e : Ending Fault) → HearsSoFar own may given (Some v) heard → (hears_on own may (given ++ more) e).version ≡ Some v
version_of own may given more v heard e (Nothing a b c) = cc
version_of own may given more v heard e (Greeted p placed u is greets version each heard_is) =
    let same : u ≡ v = cc in
    ap (λ (g : List (Placed Message)). (hears_on own may (g ++ more) e).version) is ∙ greeted_version own u may p (placed ++ more) e greets ∙ ap (λ (n : ℕ). Some n) same

-- the version that was agreed on is the one in the bytes
pub version_known : (p : PortState) (heard : List Message) (v : ℕ) → HasHeard p heard → p.version ≡ Some v → (heard_at p).version ≡ Some v
version_known p heard v h is =
    let rest : Reading Message Fault = read_on (front p.decoder.channel) (p.decoder.left ++ h.stands.after) (length h.stands.before) 0 in
    let all : reading Control (view p.end).got ≡ then_reading h.given rest = ap (λ c. reading c (view p.end).got) (sym h.channel) ∙ stands_reading p.decoder (view p.end).got h.given h.stands in
    ap (λ (r : Reading Message Fault). (hears_on p.own (may_hear p.talker) r.placed r.ending).version) all
    ∙ version_of p.own (may_hear p.talker) h.given rest.placed v heard rest.ending (subst (λ (w : Option ℕ). HearsSoFar p.own (may_hear p.talker) h.given w heard) is h.so_far)

pub heard_same : (old new : PortState) → OnlyHears old new → heard_at new ≡ heard_at old
heard_same old new only =
    ap (λ e. hears new.own (may_hear new.talker) (view e).got) only.0 ∙ ap (λ k. hears new.own (may_hear k) (view old.end).got) only.1 ∙ ap (λ o. hears o (may_hear old.talker) (view old.end).got) only.2

-- a version that was agreed on stays
abbrev pub KeepsVersion : PortState → PortState → Type 0
KeepsVersion old new = (v : ℕ) → old.version ≡ Some v → new.version ≡ Some v

pub kept_at_next : (old new : PortState) (heard : List Message) (m : Message) → HasHeard old heard → OnlyHears old new → Hands new heard (Some m) → KeepsVersion old new
kept_at_next old new heard m h only hands v is = by_version new.version refl
  where
    by_version : (w : Option ℕ) → new.version ≡ w → new.version ≡ Some v
    by_version None none = cc
    by_version (Some w) some =
        let known = version_known new (heard ++ m ∷ []) w hands.0 some in
        let was = version_known old heard v h is in
        some ∙ sym known ∙ heard_version ∙ was
      where
        heard_version : (heard_at new).version ≡ (heard_at old).version
        heard_version = ap (λ h. h.version) (heard_same old new only)

pub kept_at_end : (old new : PortState) (heard : List Message) → HasHeard old heard → OnlyHears old new → Hands new heard None → KeepsVersion old new
kept_at_end old new heard h only hands v is =
    sym (ap (λ x. x.version) hands.0) ∙ ap (λ x. x.version) (heard_same old new only) ∙ version_known old heard v h is
