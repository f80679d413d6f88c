-- A side that serves keeps what it stands for.
use Rattle.std.proofs.Common.{◌≡◌, ℕ, ◌+◌, ◌<◌, ◌^◌, List, [], ◌++◌, length, take, append_assoc, refl, ap, sym, ◌∙◌, subst, ◌⊎◌, inl, inr, Some, None, Result, Ok, Err}
use Rattle.std.proofs.lemmas.List.{take-append-le, append-nil}
use Rattle.std.specs.Prelude.{true, false, Bool, is_none, is_some}
use Rattle.qrexec_frame.specs.declared.kind.Channel.TheVariants.{Data}
use Rattle.qrexec_frame.specs.declared.message.Message.{Message}
use Rattle.qrexec_frame.specs.declared.message.Message.TheVariants.{Hello}
use Rattle.qrexec_frame.specs.Messages.{written}
use Rattle.qrexec_frame.specs.Grammar.{Fault}
use Rattle.qrexec_frame.specs.Fronts.{front, reading, fault_at}
use Rattle.qrexec_frame.specs.Streams.{Whole, Bad, Short, Placed, Reading, Rest}
use Rattle.qrexec_hello.specs.Greeting.{greeting}
use Rattle.qrexec_hello.specs.declared.hello.HelloFault.{HelloFault}
use Rattle.service_gate.specs.Triple.{Triple}
use Rattle.qrexec_data.specs.declared.outcome.SessionFault.TheVariants as fault
use Rattle.qrexec_data.specs.declared.outcome.Outcome.{Outcome}
use Rattle.qrexec_data.specs.declared.outcome.Outcome.TheVariants as outcome
use Rattle.qrexec_data.specs.Seeing.{Seen, Undecided, serving_use, sees_all}
use Rattle.qrexec_data.specs.Reading.{InboxState, unread, read_messages, IsAtMessage}
use Rattle.qrexec_data.specs.Answering.{AnsweringState, AnswersTo, Greets, Stray, Late, Fed, Ended, after_greeting, faulted}
use Rattle.qrexec_data.specs.ServingSide.{ServingState, Serves, ReadsInput, NothingLeft, OneMessage, OneFault, IsServing, HasServed, ServingStandsFor, StillWaits}
use Rattle.qrexec_data.proofs.ReadingLaws.{ReadsNext, reading_short, reading_bad, reading_next, more_bytes}
use Rattle.qrexec_data.proofs.HearingLaws.{left_over, seen_frame}
use Rattle.qrexec_data.proofs.RepliesLaws.{placed_at}
use Rattle.qrexec_data.proofs.AnsweringLaws.{none_if}
use Rattle.qrexec_data.proofs.ServesLaws.{Heard, GoesOn, Decides, hears, sends_faulted}
use Rattle.qrexec_data.proofs.CallerLaws.{none_or_some}

-- ---- reading

-- nothing whole is left
serves_all : {S : Type 0} (owes : S → List ℕ → Triple) (owed : List ℕ → Triple) (s : ServingState S) (sent : List ℕ) → IsServing owes owed s sent → front Data (unread s.inbox) ≡ Short → HasServed owes owed s sent
serves_all owes owed s sent h short =
    let Q : Seen → Type 0 = λ x. Serves owes owed s.answering sent (read_messages s.inbox) x in
    let P : Reading Message Fault → Type 0 = λ x. Serves owes owed s.answering sent x.placed (sees_all serving_use x.placed x.ending) in
    record {
      serves = subst P (sym (reading_short s.inbox h.at short)) (subst Q (left_over serving_use (read_messages s.inbox) 0 (length (unread s.inbox))) h.serves);
      done = λ code some. let no : None ≡ Some (outcome.Done code) = sym h.undecided ∙ some in cc;
      goes_on = λ none. h;
    }

-- a fault of the frame
serves_fault : {S : Type 0} (owes : S → List ℕ → Triple) (owed : List ℕ → Triple) (s : ServingState S) (sent : List ℕ) → IsServing owes owed s sent → (g : Fault) → front Data (unread s.inbox) ≡ Bad g
    → HasServed owes owed (record s { answering = faulted (fault.Frame (fault_at s.inbox.read g)) s.answering }) sent
serves_fault owes owed s sent h g bad =
    let now = faulted (fault.Frame (fault_at s.inbox.read g)) s.answering in
    let P : Reading Message Fault → Type 0 = λ x. Serves owes owed now sent x.placed (sees_all serving_use x.placed x.ending) in
    let undecided : (sees_all serving_use (read_messages s.inbox) (Rest 0)).verdict ≡ Undecided = rw h.undecided at h.serves.outcome in
    let seen = seen_frame serving_use (read_messages s.inbox) undecided s.inbox.read g in
    let Q : Seen → Type 0 = λ x. Serves owes owed now sent (read_messages s.inbox) x in
    record {
      serves = subst P (sym (reading_bad s.inbox h.at g bad)) (subst Q (sym seen) (record {
        outcome = refl;
        ended = h.serves.ended;
        version = h.serves.version;
        sends = sends_faulted owes owed s.answering.version s.answering (Some (outcome.Fault (fault.Frame (fault_at s.inbox.read g)))) _ sent h.serves.sends;
      }));
      done = λ code some. cc;
      goes_on = λ none. cc;
    }

-- one message more
serves_message : {S : Type 0} (owes : S → List ℕ → Triple) (owed : List ℕ → Triple) (old new : ServingState S) (sent : List ℕ) → IsServing owes owed old sent → (m : Message) (n : ℕ) → old.inbox.read < 2 ^ 64
    → front Data (unread old.inbox) ≡ Whole m n → new.inbox ≡ record old.inbox { read = old.inbox.read + n } → AnswersTo owes m old.inbox.read old.answering new.answering
    → (new.answering.outcome ≡ None → IsServing owes owed new sent) × ((o : Outcome) → new.answering.outcome ≡ Some o → HasServed owes owed new sent)
serves_message {S} owes owed old new sent h m n small whole passed step = by_heard (hears owes owed sent old.answering new.answering (read_messages old.inbox) m old.inbox.read small h.serves h.undecided step)
  where
    next : ReadsNext old.inbox m n
    next = reading_next old.inbox h.at m n whole

    by_heard : Heard owes owed sent (read_messages old.inbox) (placed_at old.inbox.read m) new.answering
        → (new.answering.outcome ≡ None → IsServing owes owed new sent) × ((o : Outcome) → new.answering.outcome ≡ Some o → HasServed owes owed new sent)
    by_heard (GoesOn none shut serves) =
        let A : InboxState → Type 0 = IsAtMessage in
        let P : List (Placed Message) → Type 0 = λ placed. Serves owes owed new.answering sent placed (sees_all serving_use placed (Rest 0)) in
        let after : InboxState = record old.inbox { read = old.inbox.read + n } in
        let here : IsAtMessage after = record { within = next.within; whole = ap (λ x. x.ending) next.now } in
        let Q : InboxState → Type 0 = λ i. P (read_messages i) in (
          λ _. record { undecided = none; at = subst A (sym passed) here; going = λ closed. let no : false ≡ true = sym shut ∙ closed in cc; serves = subst Q (sym passed) (subst P (sym (ap (λ x. x.placed) next.now)) serves) },
          λ o some. let no : None ≡ Some o = sym none ∙ some in cc,
        )
    by_heard (Decides f some serves) =
        let P : Reading Message Fault → Type 0 = λ x. Serves owes owed new.answering sent x.placed (sees_all serving_use x.placed x.ending) in
        let G : List ℕ → Type 0 = λ got. P (reading Data got) in (
          λ none. let no : None ≡ Some (outcome.Fault f) = sym none ∙ some in cc,
          λ _ _. record {
            serves = subst G (ap (λ i. i.got) (sym passed)) (subst P (sym next.all) (serves next.rest next.ending));
            done = λ code done. let no : Some (outcome.Fault f) ≡ Some (outcome.Done code) = sym some ∙ done in cc;
            goes_on = λ none. let no : None ≡ Some (outcome.Fault f) = sym none ∙ some in cc;
          },
        )

pub serves_on : {S : Type 0} (owes : S → List ℕ → Triple) (owed : List ℕ → Triple) (old new : ServingState S) (more : Bool) (sent : List ℕ) → old.inbox.read < 2 ^ 64 → IsServing owes owed old sent
    → ReadsInput owes old new more → (more ≡ true → IsServing owes owed new sent) × (more ≡ false → HasServed owes owed new sent)
serves_on {S} owes owed old new more sent small h (NothingLeft short is stops) =
    let P : ServingState S → Type 0 = λ s. HasServed owes owed s sent in (λ goes. cc, λ _. subst P (sym is) (serves_all owes owed old sent h short))
serves_on owes owed old new more sent small h (OneMessage m n whole passed step ends) = by_outcome (none_or_some new.answering.outcome)
  where
    one : (new.answering.outcome ≡ None → IsServing owes owed new sent) × ((o : Outcome) → new.answering.outcome ≡ Some o → HasServed owes owed new sent)
    one = serves_message owes owed old new sent h m n small whole passed step

    by_outcome : ((new.answering.outcome ≡ None) ⊎ ((x : Outcome) × (new.answering.outcome ≡ Some x))) → (more ≡ true → IsServing owes owed new sent) × (more ≡ false → HasServed owes owed new sent)
    by_outcome (inl none) = let goes : more ≡ true = ends ∙ rw none refl in (λ _. one.0 none, λ stops. cc)
    by_outcome (inr some) = let stops : more ≡ false = ends ∙ rw some.1 refl in (λ goes. cc, λ _. one.1 some.0 some.1)
serves_on {S} owes owed old new more sent small h (OneFault g bad is stops) =
    let P : ServingState S → Type 0 = λ s. HasServed owes owed s sent in (λ goes. cc, λ _. subst P (sym is) (serves_fault owes owed old sent h g bad))

-- more bytes came
pub serves_more : {S : Type 0} (owes : S → List ℕ → Triple) (owed : List ℕ → Triple) (s : ServingState S) (sent piece : List ℕ) → IsServing owes owed s sent
    → IsServing owes owed (record s { inbox = record s.inbox { got = s.inbox.got ++ piece } }) sent
serves_more owes owed s sent piece h =
    let same : take s.inbox.read (s.inbox.got ++ piece) ≡ take s.inbox.read s.inbox.got = take-append-le s.inbox.read s.inbox.got piece h.at.within in
    let P : List ℕ → Type 0 = λ bytes. Serves owes owed s.answering sent (reading Data bytes).placed (sees_all serving_use (reading Data bytes).placed (Rest 0)) in
    record { undecided = h.undecided; at = more_bytes s.inbox piece h.at; going = h.going; serves = subst P (sym same) h.serves }

-- the steps of `read_one`
pub serves_one : {S : Type 0} (owes : S → List ℕ → Triple) (old inside : ServingState S) (m : Message) (n : ℕ) (inbox : InboxState) (answering : AnsweringState S) (more : Bool) → inside ≡ old
    → front Data (unread inside.inbox) ≡ Whole m n → inbox ≡ record inside.inbox { read = inside.inbox.read + n } → AnswersTo owes m inside.inbox.read inside.answering answering
    → more ≡ is_none answering.outcome → ReadsInput owes old (record { inbox = inbox; answering = answering }) more
serves_one {S} owes old inside m n inbox answering more is whole passed step ends =
    let P : ServingState S → Type 0 = λ s. ReadsInput owes s (record { inbox = inbox; answering = answering }) more in
    subst P is (OneMessage m n whole passed step ends)

pub serves_bad : {S : Type 0} (owes : S → List ℕ → Triple) (old inside : ServingState S) (g : Fault) (answering : AnsweringState S) → inside ≡ old → front Data (unread inside.inbox) ≡ Bad g
    → answering ≡ faulted (fault.Frame (fault_at inside.inbox.read g)) inside.answering → ReadsInput owes old (record inside { answering = answering }) false
serves_bad {S} owes old inside g answering is bad failed =
    let P : ServingState S → Type 0 = λ s. ReadsInput owes s (record inside { answering = answering }) false in
    subst P is (OneFault g bad (λ i. record inside { answering = failed i }) refl)

-- ---- what waited still waits

pub waits_on : {S : Type 0} (old new : AnsweringState S) → new.waiting ≡ old.waiting → StillWaits old new
waits_on old new same = ([], append-nil old.waiting ∙ sym same)

pub waits_then : {S : Type 0} (old mid new : AnsweringState S) → StillWaits old mid → StillWaits mid new → StillWaits old new
waits_then old mid new (a, first) (b, second) = (a ++ b, sym (append_assoc old.waiting a b) ∙ ap (λ l. l ++ b) first ∙ second)

greeted_waits : {S : Type 0} (old new : AnsweringState S) (r : Result ℕ HelloFault) → new ≡ after_greeting r old → StillWaits old new
greeted_waits old new (Ok version) is = (written (Hello old.own), sym (ap (λ a. a.waiting) is))
greeted_waits old new (Err f) is = waits_on old new (ap (λ a. a.waiting) is)

answers_waits : {S : Type 0} (owes : S → List ℕ → Triple) (m : Message) (at : ℕ) (old new : AnsweringState S) → AnswersTo owes m at old new → StillWaits old new
answers_waits owes m at old new (Greets none is) = greeted_waits old new (greeting old.own m) is
answers_waits owes m at old new (Stray some strays is) = waits_on old new (ap (λ a. a.waiting) is)
answers_waits owes m at old new (Late some bytes carries ended is) = waits_on old new (ap (λ a. a.waiting) is)
answers_waits owes m at old new (Fed some bytes carries more going feeds) = waits_on old new (ap (λ a. a.waiting) feeds.rest)
answers_waits owes m at old new (Ended some carries going ends) = waits_on old new (ap (λ a. a.waiting) ends.rest)

pub step_waits : {S : Type 0} (owes : S → List ℕ → Triple) (old new : ServingState S) (more : Bool) → ReadsInput owes old new more → StillWaits old.answering new.answering
step_waits owes old new more (NothingLeft short same stops) = waits_on old.answering new.answering (ap (λ s. s.answering.waiting) same)
step_waits owes old new more (OneMessage m n whole inbox answers goes) = answers_waits owes m old.inbox.read old.answering new.answering answers
step_waits owes old new more (OneFault g bad is stops) = waits_on old.answering new.answering (ap (λ s. s.answering.waiting) is)

-- what the loop of `read_on` keeps
pub record KeepsServing {S : Type 0} (owes : S → List ℕ → Triple) (start now : ServingState S) : Type 0 where
  pub got : now.inbox.got ≡ start.inbox.got
  pub own : now.answering.own ≡ start.answering.own
  pub chunk : now.answering.chunk ≡ start.answering.chunk
  pub waits : StillWaits start.answering now.answering
  pub serves : (owed : List ℕ → Triple) (sent : List ℕ) → IsServing owes owed start sent → IsServing owes owed now sent

pub keeps_serving : {S : Type 0} (owes : S → List ℕ → Triple) (start old new : ServingState S) (more : Bool) → KeepsServing owes start old → new.inbox.got ≡ old.inbox.got
    → new.answering.own ≡ old.answering.own → new.answering.chunk ≡ old.answering.chunk → old.inbox.read < 2 ^ 64 → ReadsInput owes old new more → more ≡ true → KeepsServing owes start new
keeps_serving owes start old new more k got own chunk small step goes = record {
  got = got ∙ k.got;
  own = own ∙ k.own;
  chunk = chunk ∙ k.chunk;
  waits = waits_then start.answering old.answering new.answering k.waits (step_waits owes old new more step);
  serves = λ owed sent h. (serves_on owes owed old new more sent small (k.serves owed sent h) step).0 goes;
}

-- a session that reads more bytes
pub serves_take : {S : Type 0} (owes : S → List ℕ → Triple) (owed : List ℕ → Triple) (old inside new : ServingState S) (inbox : InboxState) (sent piece : List ℕ) → inside ≡ old
    → is_some inside.answering.outcome ≡ false → inbox ≡ record inside.inbox { got = inside.inbox.got ++ piece } → new.answering.chunk ≡ inside.answering.chunk
    → ServingStandsFor owes owed old sent → (IsServing owes owed (record inside { inbox = inbox }) sent) × (HasServed owes owed new sent → ServingStandsFor owes owed new sent)
serves_take {S} owes owed old inside new inbox sent piece same open_now came chunk stands =
    let A : ServingState S → Type 0 = λ s. ServingStandsFor owes owed s sent in
    let s : ServingStandsFor owes owed inside sent = subst A (sym same) stands in
    let P : InboxState → Type 0 = λ i. IsServing owes owed (record inside { inbox = i }) sent in
    let N : ℕ → Type 0 = λ n. 0 < n in (
      subst P (sym came) (serves_more owes owed inside sent piece (s.read.goes_on (none_if inside.answering.outcome open_now))),
      λ read. record { chunk = subst N (sym chunk) s.chunk; read = read },
    )
