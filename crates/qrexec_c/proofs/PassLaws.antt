-- A data message of which the header has come, and the body passes.
use Rattle.std.proofs.Common.{◌≡◌, ◌≢◌, ℕ, ◌+◌, ◌%◌, ◌^◌, ◌≤◌, inl, Some, List, [], ◌∷◌, ◌++◌, length, take, drop, false, refl, sym, ◌∙◌, ap, subst, arith, length-append}
use Rattle.std.proofs.lemmas.List.{take_all, drop_all, length-drop, length-take-le, take-append-drop}
use Rattle.qrexec_frame.specs.declared.kind.Channel.{Channel}
use Rattle.qrexec_frame.specs.declared.kind.Kind.{Kind}
use Rattle.qrexec_frame.specs.declared.kind.Kind.TheVariants as kind
use Rattle.qrexec_frame.specs.declared.message.Message.{Message}
use Rattle.qrexec_frame.specs.Kinds.{kind_on, has_line, IsData}
use Rattle.qrexec_frame.specs.Grammar.{number_at, Fault, IsInRange}
use Rattle.qrexec_frame.specs.Fronts.{made}
use Rattle.qrexec_frame.specs.Streams.{Front, Whole, Placed}
use Rattle.qrexec_frame.proofs.FrontLaws.{IsEnded, front_no_body, front_whole}
use Rattle.qrexec_frame.proofs.GrammarLaws.{HasHeader_append, number_at_append}
use Rattle.qrexec_c.specs.declared.pass.Passing.{Passing}
use Rattle.qrexec_c.specs.Readers.{Stands, IsLess}
use Rattle.qrexec_c.specs.Passings.{Under, PassesOn, PassesWhole, ReadsPart, ReadsWhole}
use Rattle.qrexec_c.proofs.Streams.{more_stands, less_reads, message_reads}

-- the body of a data message has no line
no_line : (k : Kind) → IsData k → has_line k ≡ false
no_line kind.Stdin is = refl
no_line kind.Stdout is = refl
no_line kind.Stderr is = refl
no_line kind.Hello is = absurd is
no_line kind.ExitCode is = absurd is
no_line kind.Exec is = absurd is
no_line kind.JustExec is = absurd is
no_line kind.Connect is = absurd is
no_line kind.Refused is = absurd is
no_line kind.Terminated is = absurd is
no_line kind.Trigger3 is = absurd is
no_line kind.Trigger is = absurd is

pub passes_on : (channel : Channel) (p : Passing) (part piece : List ℕ) (left : ℕ) → Under channel p part → left + length piece ≡ p.left → left ≢ 0
    → PassesOn channel (part ++ piece) p (record p { left = left })
passes_on channel p part piece left under sum some =
    let header = HasHeader_append channel part piece p.kind p.len under.kind under.header in
    record {
      under = record {
        kind = under.kind;
        header = header;
        is_data = under.is_data;
        range = under.range;
        size = omega (arith, under.size, sum, length-append part piece);
        sound = under.sound;
      };
      short = front_no_body channel (part ++ piece) p.kind p.len under.kind header under.range (omega (arith, under.size, sum, some, length-append part piece));
      reader = refl;
    }

-- the numbers of a reader after the message under way
abbrev pub behind : Passing → ℕ → Passing
behind p left = record p { reader = record p.reader { at = (p.reader.at + (8 + p.len)) % 2 ^ 64 }; left = left; under = 0 }

pub passes_whole : (channel : Channel) (p : Passing) (part piece : List ℕ) (left : ℕ) → Under channel p part → length piece ≡ p.left → PassesWhole channel (part ++ piece) p (behind p left)
passes_whole channel p part piece left under all =
    let header = HasHeader_append channel part piece p.kind p.len under.kind under.header in
    let size : length (part ++ piece) ≡ 8 + p.len = omega (arith, under.size, all, length-append part piece) in
    let ended : IsEnded under.kind (take p.len (drop 8 (part ++ piece))) = inl (no_line under.kind under.is_data) in
    let body : take p.len (drop 8 (part ++ piece)) ≡ drop 8 (part ++ piece) = take_all p.len (drop 8 (part ++ piece)) (omega (arith, size, length-drop 8 (part ++ piece))) in
    record {
      kind = under.kind;
      is_data = under.is_data;
      whole = rw body at (front_whole channel (part ++ piece) p.kind p.len under.kind header under.range (omega (arith, size)) ended) ∙ ap (whole_of (made under.kind (drop 8 (part ++ piece)))) (sym size);
      at = refl;
      under = refl;
    }
  where
    whole_of : Message → ℕ → Front Message Fault
    whole_of m n = Whole m n

pub reads_part : (channel : Channel) (p : Passing) (part piece stream : List ℕ) (given : List (Placed Message)) (left : ℕ) → Under channel p part → left + length piece ≡ p.left → left ≢ 0
    → Stands channel p.reader part stream given → ReadsPart channel (part ++ piece) (record p { left = left }) (stream ++ piece) given
reads_part channel p part piece stream given left under sum some stands =
    let on = passes_on channel p part piece left under sum some in
    let more = more_stands channel p.reader part piece stream given under.sound stands in
    let less : IsLess channel (part ++ piece) p.reader p.reader = record { short = on.short; new_is = refl } in
    record { stands = more; ends = less_reads channel (part ++ piece) p.reader p.reader under.sound less (stream ++ piece) given more }

pub reads_whole : (channel : Channel) (p : Passing) (part piece stream : List ℕ) (given : List (Placed Message)) (left : ℕ) → Under channel p part → length piece ≡ p.left
    → Stands channel p.reader part stream given → ReadsWhole channel (part ++ piece) p (behind p left) (stream ++ piece) given
reads_whole channel p part piece stream given left under all stands =
    let passed = passes_whole channel p part piece left under all in
    let size : length (part ++ piece) ≡ 8 + p.len = omega (arith, under.size, all, length-append part piece) in
    let more = more_stands channel p.reader part piece stream given under.sound stands in
    let read = message_reads channel (part ++ piece) p.reader (made passed.kind (drop 8 (part ++ piece))) (length (part ++ piece)) under.sound passed.whole (stream ++ piece) given more in
    let none : drop (length (part ++ piece)) (part ++ piece) ≡ [] = drop_all (length (part ++ piece)) (part ++ piece) (omega arith) in
    let After : ℕ → List ℕ → Type 0 = λ n rest. Stands channel (record p.reader { at = (p.reader.at + n) % 2 ^ 64 }) rest (stream ++ piece) (given ++ record { at = read.0; message = made passed.kind (drop 8 (part ++ piece)) } ∷ []) in
    record {
      kind = passed.kind;
      at = read.0;
      at_is = read.1;
      is_data = passed.is_data;
      stands = subst (λ n. After n []) size (subst (After (length (part ++ piece))) none read.2);
      next = read.3;
    }

-- the numbers in a header are those of its eight bytes
number_in : (start : ℕ) (bytes : List ℕ) → start + 4 ≤ 8 → 8 ≤ length bytes → number_at start bytes ≡ number_at start (take 8 bytes)
number_in start bytes low there =
    ap (number_at start) (sym (take-append-drop 8 bytes)) ∙ number_at_append start (take 8 bytes) (drop 8 bytes) (omega (arith, low, length-take-le 8 bytes there))

pub begins : (channel : Channel) (p : Passing) (k : Kind) (number len : ℕ) (bytes : List ℕ) → p.reader.fault ≡ 0 → 8 ≤ length bytes → number ≡ number_at 0 bytes → len ≡ number_at 4 bytes
    → kind_on channel number ≡ Some k → IsInRange k len → IsData k → Under channel (record p { kind = number; len = len; left = len; under = 1 }) (take 8 bytes)
begins channel p k number len bytes sound there number_is len_is kind_is range data_is =
    let eight : length (take 8 bytes) ≡ 8 = length-take-le 8 bytes there in
    record {
      kind = k;
      header = record {
        there = omega (arith, eight);
        number_is = number_is ∙ number_in 0 bytes (omega arith) there;
        len_is = len_is ∙ number_in 4 bytes (omega arith) there;
        kind_is = kind_is;
      };
      is_data = data_is;
      range = range;
      size = omega (arith, eight);
      sound = sound;
    }
