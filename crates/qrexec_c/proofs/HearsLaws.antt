-- What a session answers is what all bytes of the stream decide.
use Rattle.std.proofs.lemmas.Bool.{cases_eq}
use Rattle.std.proofs.lemmas.List.{append-nil}
use Rattle.std.proofs.Common.{◌≡◌, ◌≢◌, ℕ, ◌+◌, ◌≤◌, ◌%◌, ◌^◌, ◌⊎◌, inl, inr, List, [], ◌∷◌, ◌++◌, length, take, drop, Some, None, refl, sym, ◌∙◌, ap, subst, arith, append_assoc, length-drop, length-take-le}
use Rattle.std.specs.Prelude.{true, false}
use Rattle.qrexec_frame.specs.declared.kind.Channel.TheVariants.{Data}
use Rattle.qrexec_frame.specs.declared.message.Message.{Message}
use Rattle.qrexec_frame.specs.declared.message.Message.TheVariants as message
use Rattle.qrexec_frame.specs.declared.fault.FrameFault.{FrameFault}
use Rattle.qrexec_frame.specs.Grammar.{Fault}
use Rattle.qrexec_frame.specs.Fronts.{reading, fault_at}
use Rattle.qrexec_frame.specs.Streams.{Placed, Ending}
use Rattle.qrexec_frame.proofs.GrammarLaws.{is_prefix_code}
use Rattle.qrexec_data.specs.declared.outcome.SessionFault.{SessionFault}
use Rattle.qrexec_data.specs.declared.outcome.SessionFault.TheVariants as fault
use Rattle.qrexec_data.specs.Seeing.{Exited, Faulty, sees_all, seen_by}
use Rattle.qrexec_data.proofs.HearingLaws.{left_over, seen_frame}
use Rattle.qrexec_c.specs.declared.reader.Reader.{Reader}
use Rattle.qrexec_c.specs.declared.session.Session.{Session}
use Rattle.qrexec_c.specs.declared.found.Found.{Found}
use Rattle.qrexec_c.specs.Founds.{Tells}
use Rattle.qrexec_c.specs.Readers.{Stands, IsLess, IsNext, IsFault, IsNoReader, fault_of, channel_of}
use Rattle.qrexec_c.specs.Sessions.{AreNumbers, IsWaiting, takes, is_over, held_fault, Hears, GoesOn, TakesNext, HoldsFault, after_message}
use Rattle.qrexec_c.proofs.Streams.{less_reads, message_reads, fault_reads, more_stands, holds, some_fault}
use Rattle.qrexec_c.proofs.SessionLaws.{placed_at, HasLen, HasFirst, Heard, Goes, Ends, Fails, IsGoing, hears}
use Rattle.qrexec_c.proofs.SentLaws.{comes_kept, same_ends, heard_kept}

body_len : (f : Found) (bytes : List ℕ) → 8 + f.len ≤ length bytes → length (take f.len (drop 8 bytes)) ≡ f.len
body_len f bytes there = length-take-le f.len (drop 8 bytes) (let d = length-drop 8 bytes in omega (arith, d, there))

tells_len : (f : Found) (bytes : List ℕ) (m : Message) → 8 + f.len ≤ length bytes → Tells f bytes m → HasLen f.len m
tells_len f bytes (message.Stdin body) there told = ap length (sym told) ∙ body_len f bytes there
tells_len f bytes (message.Stdout body) there told = ap length (sym told) ∙ body_len f bytes there
tells_len f bytes (message.Stderr body) there told = ap length (sym told) ∙ body_len f bytes there
tells_len f bytes m there told = tt

tells_first : (f : Found) (bytes : List ℕ) (m : Message) → Tells f bytes m → HasFirst f.first m
tells_first f bytes (message.Hello version) told = told
tells_first f bytes (message.ExitCode code) told = told
tells_first f bytes m told = tt

-- a session, and the message that its reader found
pub record Found_next (s : Session) (r : Reader) (bytes : List ℕ) (f : Found) : Type 0 where
  pub sound : s.reader.fault ≡ 0
  pub none : s.fault ≡ 0
  pub on : is_over s ≡ false
  pub next : IsNext Data bytes s.reader r f

abbrev pub after : Session → Reader → Found → Session
after s r f = after_message f.kind f.len f.first s.reader.at (record s { reader = r })

-- one more message of the bytes with whatever follows them
record Reading (s : Session) (r : Reader) (bytes stream : List ℕ) (f : Found) (m : Message) (given : List (Placed Message)) (more : List ℕ) : Type 0 where
  at : ℕ
  at_is : s.reader.at ≡ at % 2 ^ 64
  stands : Stands Data r (drop (8 + f.len) (bytes ++ more)) (stream ++ more) (given ++ placed_at at m ∷ [])
  rest : List (Placed Message)
  reads_it : (reading Data (stream ++ more)).placed ≡ given ++ placed_at at m ∷ rest
  heard : Heard (record s { reader = r }) (after s r f) given (placed_at at m)

reading_of : (s : Session) (r : Reader) (bytes stream : List ℕ) (f : Found) (given : List (Placed Message)) (x : Found_next s r bytes f) → Hears s bytes stream given → (more : List ℕ)
    → Reading s r bytes stream f x.next.message given more
reading_of s r bytes stream f given x h more =
    let code = is_prefix_code Data in
    let whole = code.whole_stays bytes more x.next.message (8 + f.len) x.next.whole in
    let there = (code.sized bytes x.next.message (8 + f.len) x.next.whole).1 in
    let read = message_reads Data (bytes ++ more) s.reader x.next.message (8 + f.len) x.sound whole (stream ++ more) given (more_stands Data s.reader bytes more stream given x.sound h.stands) in
    let P : Reader → Type 0 = λ z. Stands Data z (drop (8 + f.len) (bytes ++ more)) (stream ++ more) (given ++ placed_at read.0 x.next.message ∷ []) in
    let now : Session = record s { reader = r } in
    let going : IsGoing now = record { own = h.own; sound = ap (λ z. z.fault) x.next.new_is ∙ x.sound; none = x.none; on = x.on } in
    record {
      at = read.0;
      at_is = read.1;
      stands = subst P (sym x.next.new_is) read.2;
      rest = read.3.0;
      reads_it = sym read.3.1 ∙ append_assoc given (placed_at read.0 x.next.message ∷ []) read.3.0;
      heard = hears f.kind f.len f.first s.reader.at read.0 now given x.next.message read.1 x.next.kind_is (tells_len f bytes x.next.message there x.next.tells)
          (tells_first f bytes x.next.message x.next.tells) going (heard_kept s now given refl refl refl refl (λ on. on) (λ y _. same_ends s now refl refl refl y) h.heard);
    }

seen_at : (side : ℕ) (got : List ℕ) (placed : List (Placed Message)) → (reading Data got).placed ≡ placed → seen_by (takes side) got ≡ sees_all (takes side) placed (reading Data got).ending
seen_at side got placed is = ap (λ z. sees_all (takes side) z (reading Data got).ending) is

exits_with : (s new : Session) (given : List (Placed Message)) (p : Placed Message) → new.fault ≡ 0 → is_over new ≡ true → Heard s new given p
    → (rest : List (Placed Message)) (ending : Ending Fault) → (sees_all (takes new.side) (given ++ p ∷ rest) ending).verdict ≡ Exited new.code
exits_with s new given p none over (Goes sound reader on heard pieces) = absurd (cc)
exits_with s new given p none over (Ends sound out decided) = decided
exits_with s new given p none over (Fails f some held decided) = absurd (some none)

record Failing (new : Session) (given : List (Placed Message)) (p : Placed Message) : Type 0 where
  held : SessionFault
  held_is : held_fault new ≡ Some held
  decided : (rest : List (Placed Message)) (ending : Ending Fault) → (sees_all (takes new.side) (given ++ p ∷ rest) ending).verdict ≡ Faulty held

fails_with : (s new : Session) (given : List (Placed Message)) (p : Placed Message) → new.fault ≢ 0 → Heard s new given p → Failing new given p
fails_with s new given p some (Goes sound reader on heard pieces) = absurd (some sound)
fails_with s new given p some (Ends sound out decided) = absurd (some sound)
fails_with s new given p some (Fails f bad held decided) = record { held = f; held_is = held; decided = decided }

some_one : (a b : SessionFault) → Some a ≡ Some b → a ≡ b
some_one a b is = cc

pub takes_next : (s new : Session) (r : Reader) (bytes stream : List ℕ) (f : Found) (given : List (Placed Message)) → new ≡ after s r f → Found_next s r bytes f → new.fault ≡ 0 → Hears s bytes stream given
    → TakesNext s new f bytes stream given
takes_next s new r bytes stream f given is x none h =
    let P : Session → Type 0 = λ z. z.fault ≡ 0 → TakesNext s z f bytes stream given in
    subst P (sym is) here none
  where
    here : (after s r f).fault ≡ 0 → TakesNext s (after s r f) f bytes stream given
    here none =
        let last = after s r f in
        let now = reading_of s r bytes stream f given x h [] in
        let kept = comes_kept f.kind f.len f.first s.reader.at (record s { reader = r }) in
        record {
          message = x.next.message;
          at = now.at;
          at_is = now.at_is;
          kind_is = x.next.kind_is;
          tells = x.next.tells;
          goes_on = λ on. by_heard on now.at now.heard (bare now.at (drop-nil bytes) (append_nil stream) now.stands) kept.own;
          exits = λ over more.
              let then = reading_of s r bytes stream f given x h more in
              ap (λ z. z.verdict) (seen_at last.side (stream ++ more) _ then.reads_it) ∙ exits_with _ last given (placed_at then.at x.next.message) none over then.heard then.rest _;
        }
      where
        last : Session
        last = after s r f

        append_nil : (xs : List ℕ) → xs ++ [] ≡ xs
        append_nil xs = append-nil xs

        drop-nil : (xs : List ℕ) → drop (8 + f.len) (xs ++ []) ≡ drop (8 + f.len) xs
        drop-nil xs = ap (drop (8 + f.len)) (append_nil xs)

        bare : (at : ℕ) → drop (8 + f.len) (bytes ++ []) ≡ drop (8 + f.len) bytes → stream ++ [] ≡ stream
            → Stands Data r (drop (8 + f.len) (bytes ++ [])) (stream ++ []) (given ++ placed_at at x.next.message ∷ []) → Stands Data r (drop (8 + f.len) bytes) stream (given ++ placed_at at x.next.message ∷ [])
        bare at b t stands =
            let B : List ℕ → Type 0 = λ z. Stands Data r z (stream ++ []) (given ++ placed_at at x.next.message ∷ []) in
            let T : List ℕ → Type 0 = λ z. Stands Data r (drop (8 + f.len) bytes) z (given ++ placed_at at x.next.message ∷ []) in
            subst T t (subst B b stands)

        by_heard : is_over last ≡ false → (at : ℕ) → Heard (record s { reader = r }) last given (placed_at at x.next.message)
            → Stands Data r (drop (8 + f.len) bytes) stream (given ++ placed_at at x.next.message ∷ []) → last.own ≡ s.own → GoesOn last (drop (8 + f.len) bytes) stream given (placed_at at x.next.message)
        by_heard on at (Goes sound reader out heard pieces) stands own =
            let R : Reader → Type 0 = λ z. Stands Data z (drop (8 + f.len) bytes) stream (given ++ placed_at at x.next.message ∷ []) in
            record { hears = record { own = rw own h.own; stands = subst R (sym reader) stands; heard = heard }; pieces = pieces }
        by_heard on at (Ends sound out decided) stands own = absurd (cc)
        by_heard on at (Fails g some held decided) stands own = absurd (some none)

pub holds_fault : (s new : Session) (r : Reader) (bytes stream : List ℕ) (f : Found) (given : List (Placed Message)) → new ≡ after s r f → Found_next s r bytes f → new.fault ≢ 0 → Hears s bytes stream given
    → HoldsFault new stream
holds_fault s new r bytes stream f given is x some h =
    let P : Session → Type 0 = λ z. z.fault ≢ 0 → HoldsFault z stream in
    subst P (sym is) here some
  where
    here : (after s r f).fault ≢ 0 → HoldsFault (after s r f) stream
    here some =
        let last = after s r f in
        let now = reading_of s r bytes stream f given x h [] in
        let first = fails_with _ last given _ some now.heard in
        record {
          held = first.held;
          held_is = first.held_is;
          verdict = λ more.
              let then = reading_of s r bytes stream f given x h more in
              let fails = fails_with _ last given _ some then.heard in
              ap (λ z. z.verdict) (seen_at last.side (stream ++ more) _ then.reads_it) ∙ fails.decided then.rest _ ∙ ap (λ z. Faulty z) (some_one _ _ (sym fails.held_is ∙ first.held_is));
        }

pub holds_frame : (s : Session) (r : Reader) (bytes stream : List ℕ) (given : List (Placed Message)) → s.reader.fault ≡ 0 → s.fault ≡ 0 → IsFault Data bytes s.reader r → Hears s bytes stream given
    → HoldsFault (record s { reader = r }) stream
holds_frame s r bytes stream given sound none bad h =
    record {
      held = fault.Frame (fault_at s.reader.at bad.fault);
      held_is = held;
      verdict = λ more.
          let still : IsFault Data (bytes ++ more) s.reader r = record { fault = bad.fault; bad = (is_prefix_code Data).bad_stays bytes more bad.fault bad.bad; new_is = bad.new_is } in
          let read = fault_reads Data (bytes ++ more) s.reader r sound still (stream ++ more) given (more_stands Data s.reader bytes more stream given sound h.stands) in
          let frames = seen_frame (takes s.side) given h.heard.verdict read.at read.fault in
          let one : fault_at read.at read.fault ≡ fault_at s.reader.at bad.fault = some_frame _ _ (sym read.fault_is ∙ tells) in
          ap (λ z. (sees_all (takes s.side) z.placed z.ending).verdict) read.ends ∙ ap (λ z. z.verdict) frames ∙ ap (λ z. Faulty (fault.Frame z)) one;
    }
  where
    some_frame : (a b : FrameFault) → Some a ≡ Some b → a ≡ b
    some_frame a b is = cc

    tells : fault_of r.fault r.at r.kind r.len ≡ Some (fault_at s.reader.at bad.fault)
    tells = ap (λ z. fault_of z.fault z.at z.kind z.len) bad.new_is ∙ holds s.reader.channel (fault_at s.reader.at bad.fault)

    held : held_fault (record s { reader = r }) ≡ Some (fault.Frame (fault_at s.reader.at bad.fault))
    held = rw tells refl

pub waits : (s : Session) (r : Reader) (bytes stream : List ℕ) (given : List (Placed Message)) → s.reader.fault ≡ 0 → IsLess Data bytes s.reader r → Hears s bytes stream given
    → IsWaiting s bytes stream given
waits s r bytes stream given sound less h =
    let read = less_reads Data bytes s.reader r sound less stream given h.stands in
    record {
      reads_it = read;
      verdict = ap (λ z. (sees_all (takes s.side) z.placed z.ending).verdict) read ∙ ap (λ z. z.verdict) (left_over (takes s.side) given (length bytes) 0) ∙ h.heard.verdict;
    }

-- ---- the same of the code's values

pub on_data : (s : Session) → AreNumbers s → channel_of s.reader.channel ≡ Some Data
on_data s numbers = rw numbers.channel refl

pub sound_if : (s : Session) (n : ℕ) → n ≤ 1 → (s.reader.fault ≢ 0 → (n ≡ 2) ⊎ (n ≡ 3)) → s.reader.fault ≡ 0
sound_if s n few faulted = by_fault (cases_eq s.reader.fault 0)
  where
    no : (n ≡ 2) ⊎ (n ≡ 3) → ⊥
    no (inl two) = omega (arith, few, two)
    no (inr three) = omega (arith, few, three)

    by_fault : ((s.reader.fault ≡ 0) ⊎ (s.reader.fault ≡ 0 → ⊥)) → s.reader.fault ≡ 0
    by_fault (inl zero) = zero
    by_fault (inr some) = absurd (no (faulted some))

pub sound_none : (s : Session) → AreNumbers s → held_fault s ≡ None → s.reader.fault ≡ 0
sound_none s numbers held = by_fault (cases_eq s.reader.fault 0)
  where
    by_fault : ((s.reader.fault ≡ 0) ⊎ (s.reader.fault ≡ 0 → ⊥)) → s.reader.fault ≡ 0
    by_fault (inl zero) = zero
    by_fault (inr some) = absurd (let f = some_fault s.reader.fault s.reader.at s.reader.kind s.reader.len some numbers.fault in let here : held_fault s ≡ Some (fault.Frame f.0) = rw f.1 refl in cc)

pub unchanged : (s : Session) (r : Reader) (bytes : List ℕ) (f g : Found) (n : ℕ) → AreNumbers s → (n ≡ 0 → IsLess Data bytes s.reader r × (g ≡ f)) → (n ≡ 3 → IsNoReader s.reader) → n ≤ 3
    → (n ≡ 0) ⊎ (3 ≤ n) → (record s { reader = r } ≡ s) × (g ≡ f)
unchanged s r bytes f g n numbers less none few (inl zero) = let l = less zero in (ap (λ z. record s { reader = z }) l.0.new_is, l.1)
unchanged s r bytes f g n numbers less none few (inr high) = absurd (no (none (omega (arith, few, high))))
  where
    no : IsNoReader s.reader → ⊥
    no (inl channel) = let data_one = on_data s numbers in cc
    no (inr fault_high) = let low = numbers.fault in omega (arith, low, fault_high)
