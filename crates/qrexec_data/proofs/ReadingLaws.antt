-- What the reading of all bytes is, by what stands at the front of those that were not read.
use Rattle.std.proofs.Common.{◌≡◌, ℕ, ◌+◌, ◌-◌, ◌<◌, ◌≤◌, List, [], ◌∷◌, ◌++◌, length, take, drop, refl, sym, ◌∙◌, ap, arith, length-append}
use Rattle.std.proofs.lemmas.List.{length-take-le, length-drop, append-nil, take-append-drop, take-append-le}
use Rattle.std.proofs.Math.Seq.{take-append-add}
use Rattle.qrexec_frame.specs.declared.kind.Channel.TheVariants.{Data}
use Rattle.qrexec_frame.specs.declared.message.Message.{Message}
use Rattle.qrexec_frame.specs.Grammar.{Fault, Spelled}
use Rattle.qrexec_frame.specs.Fronts.{front, reading}
use Rattle.qrexec_frame.specs.Streams.{Whole, Bad, Short, Placed, Ending, Rest, FaultAt, read_on, then_reading}
use Rattle.qrexec_frame.proofs.StreamLaws.{read_on_whole, read_on_short, read_on_bad, reads_then}
use Rattle.qrexec_frame.proofs.GrammarLaws.{Spelled_front, front_spelled, is_prefix_code}
use Rattle.qrexec_data.specs.Reading.{InboxState, read_bytes, unread, read_messages, IsAtMessage}

-- the reading of all bytes goes on from the messages that were read
pub reading_on : (i : InboxState) → IsAtMessage i → reading Data i.got ≡ then_reading (read_messages i) (read_on (front Data) (unread i) i.read 0)
reading_on i at =
    let size : length (read_bytes i) ≡ i.read = length-take-le i.read i.got at.within in
    let zero_first : 0 + length (read_bytes i) ≡ i.read = omega (arith, size) in
    let all = reads_then (front Data) (is_prefix_code Data) (read_bytes i) (unread i) 0 0 (omega arith) at.whole in
    ap (reading Data) (sym (take-append-drop i.read i.got)) ∙ all ∙ rw zero_first refl

-- no whole message follows
pub reading_short : (i : InboxState) → IsAtMessage i → front Data (unread i) ≡ Short → reading Data i.got ≡ record { placed = read_messages i; ending = Rest (length (unread i)) }
reading_short i at short =
    let ended = read_on_short (front Data) (unread i) i.read short in
    reading_on i at ∙ rw ended (rw (append-nil (read_messages i)) refl)

no_fault : (g : Fault) → front Data [] ≡ Bad g → ⊥
unfolding front
no_fault g h = cc

-- a faulty message follows
pub reading_bad : (i : InboxState) → IsAtMessage i → (g : Fault) → front Data (unread i) ≡ Bad g → reading Data i.got ≡ record { placed = read_messages i; ending = FaultAt i.read g }
reading_bad i at g bad = by_bytes (unread i) refl
  where
    by_bytes : (bytes : List ℕ) → unread i ≡ bytes → reading Data i.got ≡ record { placed = read_messages i; ending = FaultAt i.read g }
    by_bytes [] is = let none : front Data [] ≡ Bad g = ap (front Data) (sym is) ∙ bad in absurd (no_fault g none)
    by_bytes (b ∷ bytes) is =
        let some : 0 < length (unread i) = rw is (omega arith) in
        let ended = read_on_bad (front Data) (unread i) i.read g some bad in
        reading_on i at ∙ rw ended (rw (append-nil (read_messages i)) refl)

-- a whole message follows: it is the next of those read
pub record ReadsNext (i : InboxState) (m : Message) (n : ℕ) : Type 0 where
  pub some : 0 < n
  pub within : i.read + n ≤ length i.got
  pub now : reading Data (take (i.read + n) i.got) ≡ record { placed = read_messages i ++ record { at = i.read; message = m } ∷ []; ending = Rest 0 }
  pub rest : List (Placed Message)
  pub ending : Ending Fault
  pub all : reading Data i.got ≡ record { placed = read_messages i ++ record { at = i.read; message = m } ∷ rest; ending = ending }

pub reading_next : (i : InboxState) → IsAtMessage i → (m : Message) (n : ℕ) → front Data (unread i) ≡ Whole m n → ReadsNext i m n
reading_next i at m n whole = record {
  some = found.0;
  within = omega (arith, found.1, left, at.within);
  now = ap (reading Data) (sym parts) ∙ joined ∙ rw zero_first (rw one refl);
  rest = (read_on (front Data) (drop n (unread i)) (i.read + n) 0).placed;
  ending = (read_on (front Data) (drop n (unread i)) (i.read + n) 0).ending;
  all = reading_on i at ∙ rw on refl;
}
  where
    found : (0 < n) × (n ≤ length (unread i)) × Spelled Data (take n (unread i)) m
    found = front_spelled Data (unread i) m n whole

    left : length (unread i) ≡ length i.got - i.read
    left = length-drop i.read i.got

    size : length (take n (unread i)) ≡ n
    size = length-take-le n (unread i) found.1

    read_size : length (read_bytes i) ≡ i.read
    read_size = length-take-le i.read i.got at.within

    zero_first : 0 + length (read_bytes i) ≡ i.read
    zero_first = omega (arith, read_size)

    parts : read_bytes i ++ take n (unread i) ≡ take (i.read + n) i.got
    parts = sym (take-append-add (read_bytes i) (unread i) n) ∙ rw (read_size, take-append-drop i.read i.got) refl

    joined : reading Data (read_bytes i ++ take n (unread i)) ≡ then_reading (read_messages i) (read_on (front Data) (take n (unread i)) (0 + length (read_bytes i)) 0)
    joined = reads_then (front Data) (is_prefix_code Data) (read_bytes i) (take n (unread i)) 0 0 (omega arith) at.whole

    last : (more : List ℕ) → read_on (front Data) (take n (unread i) ++ more) i.read 0
        ≡ record { placed = record { at = i.read; message = m } ∷ (read_on (front Data) more (i.read + length (take n (unread i))) 0).placed; ending = (read_on (front Data) more (i.read + length (take n (unread i))) 0).ending }
    last more = read_on_whole (front Data) m (take n (unread i)) more i.read (omega (arith, size, found.0)) (Spelled_front Data (take n (unread i)) more m found.2)

    one : read_on (front Data) (take n (unread i)) i.read 0 ≡ record { placed = record { at = i.read; message = m } ∷ []; ending = Rest 0 }
    one = ap (λ bytes. read_on (front Data) bytes i.read 0) (sym (append-nil (take n (unread i)))) ∙ last []

    on : read_on (front Data) (unread i) i.read 0
        ≡ record { placed = record { at = i.read; message = m } ∷ (read_on (front Data) (drop n (unread i)) (i.read + n) 0).placed; ending = (read_on (front Data) (drop n (unread i)) (i.read + n) 0).ending }
    on = ap (λ bytes. read_on (front Data) bytes i.read 0) (sym (take-append-drop n (unread i))) ∙ last (drop n (unread i)) ∙ rw size refl

-- more bytes come
pub more_bytes : (i : InboxState) (piece : List ℕ) → IsAtMessage i → IsAtMessage (record i { got = i.got ++ piece })
more_bytes i piece at =
    let same : take i.read (i.got ++ piece) ≡ take i.read i.got = take-append-le i.read i.got piece at.within in
    record { within = omega (arith, at.within, length-append i.got piece); whole = ap (λ bytes. (reading Data bytes).ending) same ∙ at.whole }
