-- What a reader answers is the reading of all bytes of its stream.
use Rattle.std.proofs.Common.{◌≡◌, ◌≢◌, ℕ, ◌+◌, ◌≤◌, ◌%◌, ◌^◌, List, [], ◌∷◌, ◌++◌, length, drop, zero, suc, Result, Option, Some, None, Ok, Err, refl, sym, ◌∙◌, ap, subst, arith}
use Rattle.std.proofs.Common.{append_assoc}
use Rattle.std.proofs.lemmas.List.{append-nil}
use Rattle.list_laws.specs.Lists.{IsPrefixOf}
use Rattle.qrexec_frame.specs.declared.kind.Channel.{Channel}
use Rattle.qrexec_frame.specs.declared.fault.FrameFault.{FrameFault}
use Rattle.qrexec_frame.specs.declared.fault.FrameFault.TheVariants as frame
use Rattle.qrexec_frame.specs.declared.fault.NextError.{NextError}
use Rattle.qrexec_frame.specs.declared.fault.NextError.TheVariants as error
use Rattle.qrexec_frame.specs.declared.message.Message.{Message}
use Rattle.qrexec_frame.specs.Grammar.{Fault, UnknownType, TooLong, BadLength, NoNul}
use Rattle.qrexec_frame.specs.Fronts.{front, reading, fault_at}
use Rattle.qrexec_frame.specs.Streams.{Whole, Placed, Rest}
use Rattle.qrexec_frame.specs.Decoding.{DecoderState, after_message, StandsFor}
use Rattle.qrexec_frame.proofs.DecodingLaws.{next_reads}
use Rattle.qrexec_c.specs.declared.reader.Reader.{Reader}
use Rattle.qrexec_c.specs.declared.found.Found.{Found}
use Rattle.qrexec_c.specs.Readers.{fault_of, fault_in, state_of, Stands, IsLess, IsNext, IsFault, ReadsNext, ReadsFault}

-- how many given-out bytes a decoder holds doesn't matter
repacked : (d : DecoderState) (stream : List ℕ) (given : List (Placed Message)) → StandsFor d stream given → StandsFor (record d { passed = 0 }) stream given
repacked d stream given s = record { before = s.before; after = s.after; fed_is = s.fed_is; at_is = s.at_is; given_is = s.given_is; none_after = s.none_after; faulty = s.faulty }

pub less_reads : (channel : Channel) (bytes : List ℕ) (old new : Reader) → old.fault ≡ 0 → IsLess channel bytes old new
    → (stream : List ℕ) (given : List (Placed Message)) → Stands channel old bytes stream given → reading channel stream ≡ record { placed = given; ending = Rest (length bytes) }
less_reads channel bytes old new sound less stream given s =
    let none : fault_of old.fault old.at old.kind old.len ≡ None = rw sound refl in
    let read = next_reads (state_of channel old bytes) (state_of channel old bytes) (Ok None) (λ _. (less.short, refl)) (λ f some. absurd (cc)) stream given s in
    read.1

-- a message at the front is the next one of the stream
pub message_reads : (channel : Channel) (bytes : List ℕ) (old : Reader) (m : Message) (n : ℕ) → old.fault ≡ 0 → front channel bytes ≡ Whole m n
    → (stream : List ℕ) (given : List (Placed Message)) → Stands channel old bytes stream given
    → (at : ℕ) × (old.at ≡ at % 2 ^ 64) × Stands channel (record old { at = (old.at + n) % 2 ^ 64 }) (drop n bytes) stream (given ++ record { at = at; message = m } ∷ [])
    × IsPrefixOf (given ++ record { at = at; message = m } ∷ []) (reading channel stream).placed
message_reads channel bytes old m n sound whole stream given s =
    let none : fault_of old.fault old.at old.kind old.len ≡ None = rw sound refl in
    let read = next_reads (state_of channel old bytes) (after_message (state_of channel old bytes) n) (Ok (Some m)) (λ _. (n, whole, refl)) (λ f some. absurd (cc)) stream given s in
    let none_behind : fault_of old.fault ((old.at + n) % 2 ^ 64) old.kind old.len ≡ None = rw sound refl in
    let behind : Option FrameFault → DecoderState = λ f. record { channel = channel; passed = 0; left = drop n bytes; at = (old.at + n) % 2 ^ 64; fault = f } in
    let Q : DecoderState → Type 0 = λ e. StandsFor e stream (given ++ record { at = read.0; message = m } ∷ []) in
    (read.0, read.1, subst Q (ap behind (none ∙ sym none_behind)) (repacked _ _ _ read.2), read.3)

pub next_message : (channel : Channel) (bytes : List ℕ) (old new : Reader) (found : Found) → old.fault ≡ 0 → IsNext channel bytes old new found
    → (stream : List ℕ) (given : List (Placed Message)) → Stands channel old bytes stream given → ReadsNext channel bytes old new found stream given
next_message channel bytes old new found sound next stream given s =
    let read = message_reads channel bytes old next.message (8 + found.len) sound next.whole stream given s in
    let P : Reader → Type 0 = λ r. Stands channel r (drop (8 + found.len) bytes) stream (given ++ record { at = read.0; message = next.message } ∷ []) in
    record {
      message = next.message;
      at = read.0;
      at_is = read.1;
      tells = next.tells;
      stands = subst P (sym next.new_is) read.2;
      next = read.3;
    }

-- a reader made with a fault holds it
pub holds : (channel : ℕ) (f : FrameFault) → fault_of (fault_in channel f).fault (fault_in channel f).at (fault_in channel f).kind (fault_in channel f).len ≡ Some f
holds channel (frame.UnknownType at kind) = refl
holds channel (frame.TooLong at kind len) = refl
holds channel (frame.BadLength at kind len) = refl
holds channel (frame.NoNul at kind) = refl

-- a reader made with a fault at an offset stands there
held : (channel at : ℕ) (g : Fault) → (fault_in channel (fault_at at g)).at ≡ at % 2 ^ 64
held channel at (UnknownType kind) = refl
held channel at (TooLong kind len) = refl
held channel at (BadLength kind len) = refl
held channel at (NoNul kind) = refl

pub fault_reads : (channel : Channel) (bytes : List ℕ) (old new : Reader) → old.fault ≡ 0 → IsFault channel bytes old new
    → (stream : List ℕ) (given : List (Placed Message)) → Stands channel old bytes stream given → ReadsFault channel bytes new stream given
fault_reads channel bytes old new sound bad stream given s =
    let none : fault_of old.fault old.at old.kind old.len ≡ None = rw sound refl in
    let f : FrameFault = fault_at old.at bad.fault in
    let read = next_reads (state_of channel old bytes) (record (state_of channel old bytes) { fault = Some (fault_at old.at bad.fault) }) (Err (error.Fault (fault_at old.at bad.fault)))
    (λ _. (bad.fault, bad.bad, refl, refl)) (λ f some. absurd (cc)) stream given s in
    let stood = read.2 in
    let P : Reader → Type 0 = λ r. ReadsFault channel bytes r stream given in
    subst P (sym bad.new_is) (record {
      fault = read.1;
      at = read.0;
      ends = read.3;
      fault_is = holds old.channel (fault_at old.at bad.fault) ∙ ap (λ f. Some f) read.4;
      stands = record {
        before = stood.before;
        after = stood.after;
        fed_is = stood.fed_is;
        at_is = held old.channel old.at bad.fault ∙ omega (arith, stood.at_is);
        given_is = stood.given_is;
        none_after = λ gone. absurd (let some = holds old.channel (fault_at old.at bad.fault) in cc);
        faulty = λ f is.
            let found = stood.faulty f (sym (holds old.channel (fault_at old.at bad.fault)) ∙ is) in
            (found.0, found.1, found.2 ∙ ap (λ at. fault_at at found.0) stood.at_is ∙ again found.0 (length stood.before) ∙ ap (λ at. fault_at at found.0) (sym (held old.channel old.at bad.fault ∙ omega (arith, stood.at_is))));
      };
    })
  where
    again : (g : Fault) (n : ℕ) → fault_at (n % 2 ^ 64) g ≡ fault_at (n % 2 ^ 64) g
    again g n = refl

-- a number of a fault tells one
pub some_fault : (n at kind len : ℕ) → n ≢ 0 → n ≤ 4 → (f : FrameFault) × (fault_of n at kind len ≡ Some f)
some_fault zero at kind len some few = absurd (some refl)
some_fault (suc zero) at kind len some few = (frame.UnknownType at kind, refl)
some_fault (suc (suc zero)) at kind len some few = (frame.TooLong at kind len, refl)
some_fault (suc (suc (suc zero))) at kind len some few = (frame.BadLength at kind len, refl)
some_fault (suc (suc (suc (suc zero)))) at kind len some few = (frame.NoNul at kind, refl)
some_fault (suc (suc (suc (suc (suc n))))) at kind len some few = absurd (omega (arith, few))

pub faulted_reads : (channel : Channel) (bytes : List ℕ) (old new : Reader) → old.fault ≢ 0 → old.fault ≤ 4 → new ≡ old
    → (stream : List ℕ) (given : List (Placed Message)) → Stands channel old bytes stream given → ReadsFault channel bytes new stream given
faulted_reads channel bytes old new some few same stream given s =
    let f = some_fault old.fault old.at old.kind old.len some few in
    let read = next_reads (state_of channel old bytes) (state_of channel old bytes) (Err (error.Fault f.0)) (λ none. absurd (let known = f.1 in cc))
    (λ g is. (ap (λ h. told h) (let known = f.1 in cc), refl)) stream given s in
    let P : Reader → Type 0 = λ r. ReadsFault channel bytes r stream given in
    subst P (sym same) (record { fault = read.1; at = read.0; ends = read.3; fault_is = f.1 ∙ ap (λ h. Some h) read.4; stands = read.2 })
  where
    told : FrameFault → Result (Option Message) NextError
    told h = Err (error.Fault h)

-- more bytes of the stream, for a reader that holds no fault
pub more_stands : (channel : Channel) (r : Reader) (bytes piece stream : List ℕ) (given : List (Placed Message)) → r.fault ≡ 0 → Stands channel r bytes stream given
    → Stands channel r (bytes ++ piece) (stream ++ piece) given
more_stands channel r bytes piece stream given sound s =
    let gone : fault_of r.fault r.at r.kind r.len ≡ None = rw sound refl in
    let none : s.after ≡ [] = s.none_after gone in
    record {
      before = s.before;
      after = [];
      fed_is = ap (λ x. x ++ piece) s.fed_is ∙ rw none (simp (append_assoc, append-nil));
      at_is = s.at_is;
      given_is = s.given_is;
      none_after = λ _. refl;
      faulty = λ f some. absurd (cc);
    }
