-- What a decoder prints is what it would give.
use Rattle.std.proofs.Common.{◌≡◌, ℕ, ◌<◌, Bool, true, false, List, length, drop, Option, Some, None, Result, Ok, Err, refl, sym, subst, ap, arith}
use Rattle.std.proofs.lemmas.List.{length-drop}
use Rattle.qrexec_frame.specs.declared.fault.FrameFault.{FrameFault}
use Rattle.qrexec_frame.specs.declared.fault.NextError.{NextError}
use Rattle.qrexec_frame.specs.declared.fault.NextError.TheVariants as error
use Rattle.qrexec_frame.specs.declared.message.Message.{Message}
use Rattle.qrexec_frame.specs.Streams.{Placed}
use Rattle.qrexec_frame.specs.Decoding.{DecoderState, Answers, StandsFor, Reads}
use Rattle.qrexec_frame.specs.Printing.{Printed}
use Rattle.qrexec_frame.proofs.GrammarLaws.{front_spelled}
use Rattle.qrexec_frame.proofs.DecodingLaws.{next_reads, short_less}

-- what holds of an answer of `next` holds of the same answer printed
Printed_map : (P Q : Result (Option Message) NextError → Type 0) (before after : List ℕ) (r : Result Bool NextError) → ((q : Result (Option Message) NextError) → P q → Q q) → Printed P before after r → Printed Q before after r
Printed_map P Q before after (Ok true) f p = (p.0, f (Ok (Some p.0)) p.1, p.2)
Printed_map P Q before after (Ok false) f p = (f (Ok None) p.0, p.1)
Printed_map P Q before after (Err e) f p = (f (Err e) p.0, p.1)

-- what is printed tells the reading of all bytes fed
pub printed_reads : (old new : DecoderState) (before after : List ℕ) (r : Result Bool NextError) → (old.fault ≡ None → Printed (Answers old new) before after r)
    → ((f : FrameFault) → old.fault ≡ Some f → (r ≡ Err (error.Fault f)) × (new ≡ old) × (after ≡ before)) → (fed : List ℕ) (given : List (Placed Message)) → StandsFor old fed given
    → Printed (Reads old new fed given) before after r
printed_reads old new before after r answer faulted fed given s = by_fault old.fault refl
  where
    same_fault : (f g : FrameFault) → old.fault ≡ Some f → old.fault ≡ Some g → f ≡ g
    same_fault f g one other = cc

    by_fault : (o : Option FrameFault) → old.fault ≡ o → Printed (Reads old new fed given) before after r
    by_fault None is = Printed_map (Answers old new) (Reads old new fed given) before after r (λ q a. next_reads old new q (λ _. a) (λ f some. absurd (cc)) fed given s) (answer is)
    by_fault (Some f) is =
        let told = faulted f is in
        let P : Result Bool NextError → Type 0 = λ q. Printed (Reads old new fed given) before after q in
        subst P (sym told.0) (next_reads old new (Err (error.Fault f)) (λ none. absurd (cc)) (λ g some. (ap (λ x. Err (error.Fault x)) (same_fault f g is some), told.1)) fed given s, told.2)

-- a message that was given is some bytes less
given_shorter : (old new : DecoderState) (m : Message) → Answers old new (Ok (Some m)) → length new.left < length old.left
given_shorter old new m answer =
    let found = front_spelled old.channel old.left m answer.0 answer.1 in
    let left : new.left ≡ drop answer.0 old.left = ap (λ d. d.left) answer.2 in
    rw left (omega (arith, length-drop answer.0 old.left, found.0, found.1))

-- if a line was printed, less is left
pub printed_shorter : (old new : DecoderState) (before after : List ℕ) (r : Result Bool NextError) → (old.fault ≡ None → Printed (Answers old new) before after r)
    → ((f : FrameFault) → old.fault ≡ Some f → (r ≡ Err (error.Fault f)) × (new ≡ old) × (after ≡ before)) → r ≡ Ok true → length new.left < length old.left
printed_shorter old new before after r answer faulted is = by_fault old.fault refl
  where
    by_fault : (o : Option FrameFault) → old.fault ≡ o → length new.left < length old.left
    by_fault None none =
        let P : Result Bool NextError → Type 0 = λ q. Printed (Answers old new) before after q in
        let printed : Printed (Answers old new) before after (Ok true) = subst P is (answer none) in
        given_shorter old new printed.0 printed.1
    by_fault (Some f) some = let told = (faulted f some).0 in absurd (cc)

answered_channel : (old new : DecoderState) (before after : List ℕ) (r : Result Bool NextError) → Printed (Answers old new) before after r → new.channel ≡ old.channel
answered_channel old new before after (Ok true) p = ap (λ d. d.channel) p.1.2
answered_channel old new before after (Ok false) p = ap (λ d. d.channel) p.0.1
answered_channel old new before after (Err (error.Fault f)) p = ap (λ d. d.channel) p.0.3
answered_channel old new before after (Err error.Memory) p = ap (λ d. d.channel) p.0.3

-- the channel stays
pub printed_channel : (old new : DecoderState) (before after : List ℕ) (r : Result Bool NextError) → (old.fault ≡ None → Printed (Answers old new) before after r)
    → ((f : FrameFault) → old.fault ≡ Some f → (r ≡ Err (error.Fault f)) × (new ≡ old) × (after ≡ before)) → new.channel ≡ old.channel
printed_channel old new before after r answer faulted = by_fault old.fault refl
  where
    by_fault : (o : Option FrameFault) → old.fault ≡ o → new.channel ≡ old.channel
    by_fault None none = answered_channel old new before after r (answer none)
    by_fault (Some f) some = ap (λ d. d.channel) (faulted f some).1

-- if no message is whole, the decoder stays
pub printed_stays : (old new : DecoderState) (before after : List ℕ) (r : Result Bool NextError) → (old.fault ≡ None → Printed (Answers old new) before after r)
    → ((f : FrameFault) → old.fault ≡ Some f → (r ≡ Err (error.Fault f)) × (new ≡ old) × (after ≡ before)) → r ≡ Ok false → new ≡ old
printed_stays old new before after r answer faulted is = by_fault old.fault refl
  where
    by_fault : (o : Option FrameFault) → old.fault ≡ o → new ≡ old
    by_fault None none =
        let P : Result Bool NextError → Type 0 = λ q. Printed (Answers old new) before after q in
        let printed : Printed (Answers old new) before after (Ok false) = subst P is (answer none) in
        printed.0.1
    by_fault (Some f) some = (faulted f some).1

-- and so few bytes are left then
pub printed_short : (old new : DecoderState) (before after : List ℕ) (r : Result Bool NextError) → (old.fault ≡ None → Printed (Answers old new) before after r)
    → ((f : FrameFault) → old.fault ≡ Some f → (r ≡ Err (error.Fault f)) × (new ≡ old) × (after ≡ before)) → r ≡ Ok false → length old.left < 65544
printed_short old new before after r answer faulted is = by_fault old.fault refl
  where
    by_fault : (o : Option FrameFault) → old.fault ≡ o → length old.left < 65544
    by_fault None none =
        let P : Result Bool NextError → Type 0 = λ q. Printed (Answers old new) before after q in
        let printed : Printed (Answers old new) before after (Ok false) = subst P is (answer none) in
        short_less old.channel old.left printed.0.0
    by_fault (Some f) some = let told = (faulted f some).0 in absurd (cc)
