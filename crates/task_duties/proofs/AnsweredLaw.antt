-- If no two messages name one end, and each names an end that is unused, a call with a Connect or a Refused waits no more.
use Rattle.std.proofs.Common.{◌≡◌, ℕ, List, [], ◌∷◌, refl, inl, inr, Option, Some, None, subst}
use Rattle.std.specs.Prelude.{true, false, Bool, ◌&&◌, ◌||◌, bytes_eq, if◌then◌else◌}
use Rattle.std.specs.List.{list_any, AllByRecursion as Each}
use Rattle.std.proofs.Math.Bool.{and-false}
use Rattle.list_laws.specs.Lists.{SomeOf}
use Rattle.qrexec_frame.specs.declared.message.Message.{Message}
use Rattle.qrexec_frame.specs.declared.message.Message.TheVariants.{Exec, Connect, Refused}
use Rattle.task_duties.specs.declared.place.PagePlace.TheVariants.{Payload}
use Rattle.task_duties.specs.Words.{ident_of, service_of_line}
use Rattle.task_duties.specs.Agent.Answers.{Answers, Answer, At, IsRefused, Asked, waits, waits_as, answered, serves, takes, takes_all}
use Rattle.task_duties.specs.Places.{has_place}
use Rattle.task_duties.proofs.ServedLaw.{AreApart, IsUnusedBy, unused_after}

-- no call of this ident waits
abbrev pub IsIdle : List ℕ → List Asked → Type 0
IsIdle ident asked = Each (λ a. waits_as ident a ≡ false) asked

still_idle : (ident other : List ℕ) (answer : Answer) → waits answer ≡ false → (asked : List Asked) → IsIdle ident asked → IsIdle ident (answered other answer asked)
still_idle ident other answer done [] idle = tt
still_idle ident other answer done (a ∷ asked) idle = (by_test (waits_as other a), still_idle ident other answer done asked idle.1)
  where
    by_test : (b : Bool) → waits_as ident (if b then record { call = a.call; answer = answer } else a) ≡ false
    by_test true = rw done (and-false (bytes_eq (ident_of a.call.number) ident))
    by_test false = idle.0

now_idle : (ident : List ℕ) (answer : Answer) → waits answer ≡ false → (asked : List Asked) → IsIdle ident (answered ident answer asked)
now_idle ident answer done [] = tt
now_idle ident answer done (a ∷ asked) = (by_test (waits_as ident a) refl, now_idle ident answer done asked)
  where
    by_test : (b : Bool) → waits_as ident a ≡ b → waits_as ident (if b then record { call = a.call; answer = answer } else a) ≡ false
    by_test true is = rw done (and-false (bytes_eq (ident_of a.call.number) ident))
    by_test false is = is

none_waits : (ident : List ℕ) (asked : List Asked) → list_any (waits_as ident) asked ≡ false → IsIdle ident asked
none_waits ident [] h = tt
none_waits ident (a ∷ asked) h = by_test (waits_as ident a) refl h (λ k. none_waits ident asked k)
  where
    by_test : (b : Bool) → waits_as ident a ≡ b → (b || list_any (waits_as ident) asked) ≡ false → (list_any (waits_as ident) asked ≡ false → IsIdle ident asked) → IsIdle ident (a ∷ asked)
    by_test true is k more = cc
    by_test false is k more = (is, more k)

-- one message
message_idle : (d : ℕ) (a : Answers) (m : Message) (ident : List ℕ) → IsIdle ident a.asked → IsIdle ident (takes d a m).asked
message_idle d a (Refused i) ident h = still_idle ident i IsRefused refl a.asked h
message_idle d a (Connect to port i) ident h = by_test (list_any (waits_as i) a.asked && has_place (Payload d to port) a.unused) refl
  where
    by_test : (b : Bool) → (list_any (waits_as i) a.asked && has_place (Payload d to port) a.unused) ≡ b → IsIdle ident (takes d a (Connect to port i)).asked
    by_test true is = rw is (still_idle ident i (At to port) refl a.asked h)
    by_test false is = rw is h
message_idle d a (Exec from port line) ident h = by_service (service_of_line line)
  where
    by_place : (svc : List ℕ) (b : Bool) → has_place (Payload from d port) a.unused ≡ b → IsIdle ident (serves d from port (Some svc) a).asked
    by_place svc true is = rw is h
    by_place svc false is = rw is h

    by_service : (o : Option (List ℕ)) → IsIdle ident (serves d from port o a).asked
    by_service None = h
    by_service (Some svc) = by_place svc (has_place (Payload from d port) a.unused) refl
message_idle d a m ident h = h

messages_idle : (d : ℕ) (ms : List Message) (a : Answers) (ident : List ℕ) → IsIdle ident a.asked → IsIdle ident (takes_all d a ms).asked
messages_idle d [] a ident h = h
messages_idle d (m ∷ ms) a ident h = messages_idle d ms (takes d a m) ident (message_idle d a m ident h)

abbrev pub AnswersTo : List ℕ → Message → Type 0
AnswersTo ident (Connect to port i) = i ≡ ident
AnswersTo ident (Refused i) = i ≡ ident
AnswersTo ident m = ⊥

reply_idle : (d : ℕ) (a : Answers) (m : Message) (ident : List ℕ) → IsUnusedBy d a.unused m → AnswersTo ident m → IsIdle ident (takes d a m).asked
reply_idle d a (Refused i) ident free is = subst (λ x. IsIdle x (answered i IsRefused a.asked)) is (now_idle i IsRefused refl a.asked)
reply_idle d a (Connect to port i) ident free is = subst (λ x. IsIdle x (takes d a (Connect to port i)).asked) is (by_test (list_any (waits_as i) a.asked) refl)
  where
    unused : has_place (Payload d to port) a.unused ≡ true
    unused = free (Payload d to port) refl

    by_test : (b : Bool) → list_any (waits_as i) a.asked ≡ b → IsIdle i (takes d a (Connect to port i)).asked
    by_test true some = rw (some, unused) (now_idle i (At to port) refl a.asked)
    by_test false none = rw none (none_waits i a.asked none)
reply_idle d a m ident free is = absurd is

pub answers_each : (d : ℕ) (ident : List ℕ) (a : Answers) (ms : List Message) → AreApart d ms → Each (IsUnusedBy d a.unused) ms → SomeOf (AnswersTo ident) ms
    → IsIdle ident (takes_all d a ms).asked
answers_each d ident a [] apart each there = absurd there
answers_each d ident a (m ∷ ms) apart each (inl here) = messages_idle d ms (takes d a m) ident (reply_idle d a m ident each.0 here)
answers_each d ident a (m ∷ ms) apart each (inr later) = answers_each d ident (takes d a m) ms apart.1 (unused_after d a m ms apart.0 each.1) later
