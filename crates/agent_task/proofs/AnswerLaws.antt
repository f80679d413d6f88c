-- What an answer makes of the calls and of their sessions.
use Rattle.std.proofs.Common.{◌≡◌, ℕ, zero, suc, List, [], ◌∷◌, ◌++◌, refl, ap, sym, ◌∙◌, Some, None, subst}
use Rattle.std.specs.Prelude.{Bool, true, false, map, slice_get, slice_set, if◌then◌else◌, ◌||◌, bytes_eq}
use Rattle.std.specs.List.{list_any, AllByRecursion as Each}
use Rattle.std.proofs.lemmas.Slice.Eq.{bytes_eq-Decides}
use Rattle.std.proofs.lemmas.Bool.{and_parts}
use Rattle.list_laws.specs.Lists.{AreDifferent}
use Rattle.list_laws.proofs.Places.{get_map}
use Rattle.list_laws.proofs.Each.{each_get}
use Rattle.list_laws.proofs.Tests.{other_bytes}
use Rattle.qrexec_frame.specs.declared.message.Message.{Message}
use Rattle.scenario_file.specs.declared.scenario.CallPlan.{CallPlan}
use Rattle.task_duties.specs.Words.{ident_of}
use Rattle.task_duties.specs.Agent.Answers.{Answer, Waits, IsRefused, At, Asked, Answers, waits, waits_as, answered, takes, takes_all}
use Rattle.task_duties.specs.Agent.Saying.{is_refusal}
use Rattle.agent_queue.specs.Queue.{Queued, QueueState, asked_as, asked_by, answered_call}
use Rattle.agent_task.specs.declared.agent.Given.{Given}
use Rattle.agent_task.specs.Standing.{called_by, called_of, AreCallsOf}

-- one message after the others
pub takes_last : (d : ℕ) (ms : List Message) (m : Message) (a : Answers) → takes_all d a (ms ++ m ∷ []) ≡ takes d (takes_all d a ms) m
takes_last d [] m a = refl
takes_last d (n ∷ ms) m a = takes_last d ms m (takes d a n)

-- the calls of a queue, after an answer
pub asked_answered : (ident : List ℕ) (answer : Answer) (calls : List Queued) → map asked_as (map (answered_call ident answer) calls) ≡ answered ident answer (map asked_as calls)
asked_answered ident answer [] = refl
asked_answered ident answer (c ∷ calls) = λ i. by_wait (waits_as ident (asked_as c)) i ∷ asked_answered ident answer calls i
  where
    by_wait : (b : Bool) → asked_as (if b then record { call = c.call; answer = answer; is_open = (if is_refusal answer then false else c.is_open) } else c) ≡ (if b then record { call = c.call; answer = answer } else asked_as c)
    by_wait true = refl
    by_wait false = refl

calls_answered : (ident : List ℕ) (answer : Answer) (asked : List Asked) → map (λ a. a.call) (answered ident answer asked) ≡ map (λ a. a.call) asked
calls_answered ident answer [] = refl
calls_answered ident answer (a ∷ asked) = λ i. by_wait (waits_as ident a) i ∷ calls_answered ident answer asked i
  where
    by_wait : (b : Bool) → (if b then record { call = a.call; answer = answer } else a).call ≡ a.call
    by_wait true = refl
    by_wait false = refl

idents_answered : (ident : List ℕ) (answer : Answer) (asked : List Asked) → map (λ a. ident_of a.call.number) (answered ident answer asked) ≡ map (λ a. ident_of a.call.number) asked
idents_answered ident answer [] = refl
idents_answered ident answer (a ∷ asked) = λ i. ident_of (by_wait (waits_as ident a) i).number ∷ idents_answered ident answer asked i
  where
    by_wait : (b : Bool) → (if b then record { call = a.call; answer = answer } else a).call ≡ a.call
    by_wait true = refl
    by_wait false = refl

pub still_calls : (g : Given) (old new : QueueState) (ident : List ℕ) (answer : Answer) → asked_by new ≡ answered ident answer (asked_by old) → AreCallsOf g old → AreCallsOf g new
still_calls g old new ident answer is h = record {
  calls = ap (λ l. map (λ a. a.call) l) is ∙ calls_answered ident answer (asked_by old) ∙ h.calls;
  apart = subst (λ l. AreDifferent l) (sym (ap (λ l. map (λ a. ident_of a.call.number) l) is ∙ idents_answered ident answer (asked_by old))) h.apart;
}

-- ---- the sessions of the calls

pub waits_none : (call : CallPlan) (x : Answer) → waits x ≡ true → called_by call x ≡ None
waits_none call Waits w = cc
waits_none call _ w = cc

-- a refusal gives no session
pub called_refused : (ident : List ℕ) (asked : List Asked) → map called_of (answered ident IsRefused asked) ≡ map called_of asked
called_refused ident [] = refl
called_refused ident (a ∷ asked) = λ i. by_wait (waits_as ident a) refl i ∷ called_refused ident asked i
  where
    by_wait : (b : Bool) → waits_as ident a ≡ b → called_of (if b then record { call = a.call; answer = IsRefused } else a) ≡ called_of a
    by_wait true is = sym (waits_none a.call a.answer (and_parts _ _ is).1)
    by_wait false is = refl

abbrev pub asked_ident : Asked → List ℕ
asked_ident a = ident_of a.call.number

not_answered : (ident : List ℕ) (answer : Answer) (asked : List Asked) → Each (λ i. ident ≡ i → ⊥) (map asked_ident asked) → answered ident answer asked ≡ asked
not_answered ident answer [] apart = refl
not_answered ident answer (a ∷ asked) apart =
    let other : bytes_eq (asked_ident a) ident ≡ false = other_bytes (asked_ident a) ident (λ e. apart.0 (sym e)) in
    rw other (ap (λ r. a ∷ r) (not_answered ident answer asked apart.1))

pub named : (ident : List ℕ) (a : Asked) → waits_as ident a ≡ true → asked_ident a ≡ ident
named ident a w = (bytes_eq-Decides (asked_ident a) ident).0 (and_parts (bytes_eq (asked_ident a) ident) (waits a.answer) w).0

-- an answer with a port gives the one call of the ident a session
pub called_answered : (ident : List ℕ) (to port : ℕ) (asked : List Asked) (place : ℕ) (a : Asked) → AreDifferent (map asked_ident asked) → slice_get asked place ≡ Some a → waits_as ident a ≡ true
    → slice_set (map called_of asked) place (Some (record { to = to; port = port; input = a.call.stdin })) ≡ map called_of (answered ident (At to port) asked)
called_answered ident to port [] place a apart is w = cc
called_answered ident to port (x ∷ asked) zero a apart is w =
    let same : x ≡ a = cc in
    let w' : waits_as ident x ≡ true = ap (λ y. waits_as ident y) same ∙ w in
    let rest : map called_of asked ≡ map called_of (answered ident (At to port) asked) =
    ap (λ l. map called_of l) (sym (not_answered ident (At to port) asked (subst (λ n. Each (λ j. n ≡ j → ⊥) (map asked_ident asked)) (named ident x w') apart.0))) in
    rw w' (ap (λ (y : Asked). Some (record { to = to; port = port; input = y.call.stdin }) ∷ map called_of asked) (sym same) ∙ ap (λ r. called_by x.call (At to port) ∷ r) rest)
called_answered ident to port (x ∷ asked) (suc i) a apart is w =
    let apart_x : asked_ident x ≡ ident → ⊥ = λ e. each_get (λ j. asked_ident x ≡ j → ⊥) (map asked_ident asked) i (asked_ident a) apart.0 (get_map asked_ident asked i a is) (e ∙ sym (named ident a w)) in
    rw (other_bytes (asked_ident x) ident apart_x) (ap (λ r. called_of x ∷ r) (called_answered ident to port asked i a apart.1 is w))

-- if a call waits as an ident, then some call does
pub some_waits : (ident : List ℕ) (asked : List Asked) (place : ℕ) (a : Asked) → slice_get asked place ≡ Some a → waits_as ident a ≡ true → list_any (waits_as ident) asked ≡ true
some_waits ident [] place a is w = cc
some_waits ident (x ∷ asked) zero a is w =
    let same : x ≡ a = cc in
    let here : waits_as ident x ≡ true = ap (λ y. waits_as ident y) same ∙ w in
    rw here refl
some_waits ident (x ∷ asked) (suc i) a is w = by_test (waits_as ident x) (some_waits ident asked i a is w)
  where
    by_test : (b : Bool) → list_any (waits_as ident) asked ≡ true → (b || list_any (waits_as ident) asked) ≡ true
    by_test true more = refl
    by_test false more = more
