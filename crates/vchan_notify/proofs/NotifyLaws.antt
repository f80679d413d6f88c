-- The answers of the four calls that look or take an event.
use Rattle.std.proofs.Common.{◌≡◌, ◌≢◌, ◌↔◌, ℕ, Bool, true, false, not, ◌==◌, Option, Some, None, IsSomeAnd, List, [], ◌∷◌, sym, ap, ◌∙◌, subst, arith, refl}
use Rattle.std.specs.Prelude.{IsTrue}
use Rattle.std.proofs.lemmas.Bool.{false≢true}
use Rattle.std.proofs.lemmas.Bool.Decides.{nat_tests}
use Rattle.ring_words.specs.declared.page.Role.{Role}
use Rattle.ring_words.specs.declared.page.Role.TheVariants.{Server, Client}
use Rattle.vchan_protocol.specs.declared.call.Answer.{Answer}
use Rattle.vchan_protocol.specs.declared.call.Call.TheVariants.{DataReady, BufferSpace, TakeEvent, PeerGone}
use Rattle.vchan_protocol.specs.declared.call.Answer.TheVariants.{Gone}
use Rattle.vchan_protocol.specs.declared.op.Op.{Op}
use Rattle.vchan_protocol.specs.declared.op.Op.TheVariants.{Load}
use Rattle.vchan_protocol.specs.declared.op.PastEvent.{PastEvent}
use Rattle.vchan_protocol.specs.declared.side.Notes.{Notes}
use Rattle.vchan_protocol.specs.declared.side.Side.{Side}
use Rattle.vchan_protocol.specs.Table.Plan.{Plan, answers, does}
use Rattle.vchan_protocol.specs.Table.Ends.{Standing, peer_gone}
use Rattle.vchan_protocol.specs.Table.Calls.{Trace}
use Rattle.vchan_protocol.specs.History.Core.{standing_of, noted}
use Rattle.vchan_protocol.specs.OneEnd.OneCall.{side_called}
use Rattle.vchan_protocol.proofs.Answering.AnswerLaws.{has_cause}
use Rattle.vchan_notify.specs.Notify.{AnswersReady, AnswersSpace, AnswersEvent, AnswersGone, HasFoundGone}

told : {T : Type 0} (o : Option T) (tells : T → Answer) (answer : Answer) (P : Answer → Type 0) → IsSomeAnd o (λ x. answer ≡ tells x) → ((x : T) → P (tells x)) → P answer
told None tells answer P h all = absurd h
told (Some x) tells answer P h all = subst P (sym h) (all x)

pub ready_answers : (e : Standing) (events : List PastEvent) (answer : Answer) → Trace e DataReady events answer → AnswersReady answer
ready_answers e events answer trace = told _ _ answer AnswersReady (has_cause e DataReady events answer trace) (λ x. tt)

pub space_answers : (e : Standing) (events : List PastEvent) (answer : Answer) → Trace e BufferSpace events answer → AnswersSpace answer
space_answers e events answer trace = told _ _ answer AnswersSpace (has_cause e BufferSpace events answer trace) (λ x. tt)

pub event_answers : (e : Standing) (events : List PastEvent) (answer : Answer) → Trace e TakeEvent events answer → AnswersEvent answer
event_answers e events answer trace = told _ _ answer AnswersEvent (has_cause e TakeEvent events answer trace) (λ x. tt)

pub gone_answers : (e : Standing) (events : List PastEvent) (answer : Answer) → Trace e PeerGone events answer → AnswersGone answer
gone_answers e events answer trace = told _ _ answer AnswersGone (has_cause e PeerGone events answer trace) (λ x. tt)

-- ---- the gone word is noted as it was loaded

load_noted : (role : Role) (taken : ℕ) (n : Notes) → (noted (Load (peer_gone role)) role taken n).gone ≡ Some taken
load_noted Server taken n = refl
load_noted Client taken n = refl

-- the value that a look at the gone word took
record LooksAtGone (s : Side) (answer : Answer) : Type 0 where
  taken : ℕ
  noted_is : s.notes.gone ≡ Some taken
  tells : answer ≡ Gone (not (taken == 0))

looks_at : (was : Side) (payload : List ℕ) (events : List PastEvent) (answer : Answer) → Trace (standing_of was) PeerGone events answer → LooksAtGone (side_called was PeerGone payload events answer) answer
looks_at was payload [] answer led = absurd (apart _ _ answer led)
  where
    apart : (op : Op) (next : ℕ → Plan) (answer : Answer) → does op next ≡ answers answer → ⊥
    apart op next answer led = cc
looks_at was payload (event ∷ []) answer led = record {
  taken = event.taken;
  noted_is = ap (λ (op : Op). (noted op was.role event.taken was.notes).gone) led.0 ∙ load_noted was.role event.taken was.notes;
  tells = same _ answer led.1;
}
  where
    same : (told answer : Answer) → answers told ≡ answers answer → answer ≡ told
    same told answer led = cc
looks_at was payload (event ∷ later ∷ events) answer led = absurd led.1

gone_tells : (taken : ℕ) (is : Bool) → is ≡ not (taken == 0) → IsTrue is ↔ (taken ≢ 0)
gone_tells taken is told = by_test (taken == 0) refl told
  where
    by_test : (zero : Bool) → (taken == 0) ≡ zero → is ≡ not zero → IsTrue is ↔ (taken ≢ 0)
    by_test true none told = let at : taken ≡ 0 = grind (arith, nat_tests, none) in ((λ yes. absurd (false≢true (sym told ∙ yes))), (λ some. absurd (some at)))
    by_test false some told = ((λ yes none. grind (arith, nat_tests, some, none)), (λ apart. told))

-- the end has found its peer gone exactly where the call says so
pub found_gone : (was new : Side) (payload : List ℕ) (answer : Answer) (is : Bool) → Trace (standing_of was) PeerGone new.trail answer → new ≡ side_called was PeerGone payload new.trail answer → Gone is ≡ answer
    → IsTrue is ↔ HasFoundGone new
found_gone was new payload answer is trace new_is told =
    let look = looks_at was payload new.trail answer trace in
    let gone : new.notes.gone ≡ Some look.taken = ap (λ (s : Side). s.notes.gone) new_is ∙ look.noted_is in
    subst (λ (o : Option ℕ). IsTrue is ↔ IsSomeAnd o (λ taken. taken ≢ 0)) (sym gone) (gone_tells look.taken is (same is (not (look.taken == 0)) (told ∙ look.tells)))
  where
    same : (a b : Bool) → Gone a ≡ Gone b → a ≡ b
    same a b is = cc
