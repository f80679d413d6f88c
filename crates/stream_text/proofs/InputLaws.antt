-- An input read line by line.
use Rattle.std.proofs.Common.{◌≡◌, ◌⊎◌, inl, inr, ℕ, ◌+◌, ◌-◌, List, ◌++◌, length, Result, Ok, Err, refl, sym, ap, subst, ◌∙◌}
use Rattle.std.specs.Result.{IsOk}
use Rattle.std.proofs.lemmas.Bool.{false≢true}
use Rattle.std.proofs.lemmas.List.{append_assoc, append-nil}
use Rattle.list_laws.specs.Results.{◌>>=◌}
use Rattle.qrexec_frame.specs.declared.kind.Channel.{Channel}
use Rattle.qrexec_frame.specs.Fronts.{reading}
use Rattle.stream_text.specs.Texts.{decoded, text_of}
use Rattle.stream_text.specs.declared.error.DecodeKind.{DecodeKind}
use Rattle.stream_text.specs.declared.error.DecodeError.{DecodeError}
use Rattle.stream_text.specs.declared.error.DecodeError.TheVariants as error
use Rattle.script_words.specs.ByteStrings.{IsPushRefusal, ByteFault, at_most, byte_string}
use Rattle.script_words.specs.declared.byte_string.PushError.{PushError}
use Rattle.script_words.specs.declared.byte_string.PushError.TheVariants as push
use Rattle.script_words.specs.KeptLines.{Lines, stops, line}
use Rattle.script_words.specs.LinesLeft.{IsNext}
use Rattle.script_words.specs.declared.lines.TooManyLines.{TooManyLines}
use Rattle.stream_text.specs.declared.error.DecodeKind.TheVariants as kind
use Rattle.stream_text.specs.Input.{FirstIsGood, IsLineRefusal, IsRefusal, in_line, input_lines, piece_at, refused_at, stream_from, stream_of}

-- bytes before a stream
abbrev pub before : List ℕ → Result (List ℕ) (ℕ × DecodeKind) → Result (List ℕ) (ℕ × DecodeKind)
before fed (Ok rest) = Ok (fed ++ rest)
before fed (Err e) = Err e

before_piece : (fed piece : List ℕ) (r : Result (List ℕ) (ℕ × DecodeKind)) → before fed (r >>= (λ rest. Ok (piece ++ rest))) ≡ before (fed ++ piece) r
before_piece fed piece (Ok rest) = ap Ok (sym (append_assoc fed piece rest))
before_piece fed piece (Err e) = refl

-- the bytes of the lines read so far, and those of the lines that are left, are the stream
abbrev pub IsReadTo : List ℕ → Lines → ℕ → List ℕ → Type 0
IsReadTo input left total fed = stream_of input ≡ before fed (stream_from left total)

-- one line more
pub read_line : (input : List ℕ) (left more : Lines) (number total : ℕ) (text : List ℕ) (fed piece : List ℕ) → left ≡ line number text more → piece_at number total text ≡ Ok piece → IsReadTo input left total fed
    → IsReadTo input more (total + length piece) (fed ++ piece)
unfolding stream_from
read_line input left more number total text fed piece cut is so_far =
    so_far ∙ ap (before fed) (ap (λ lines. stream_from lines total) cut ∙ from_line) ∙ before_piece fed piece (stream_from more (total + length piece))
  where
    from_line : stream_from (line number text more) total ≡ (stream_from more (total + length piece) >>= (λ rest. Ok (piece ++ rest)))
    from_line = rw is refl

-- a bad line
pub read_bad : (input : List ℕ) (left more : Lines) (number total : ℕ) (text : List ℕ) (fed : List ℕ) (e : DecodeError) → left ≡ line number text more → IsLineRefusal e (piece_at number total text) → IsReadTo input left total fed → IsRefusal e (stream_of input)
unfolding stream_from
read_bad input left more number total text fed error.Memory cut is so_far = tt
read_bad input left more number total text fed (error.Bad at bad) cut is so_far = so_far ∙ ap (before fed) (ap (λ lines. stream_from lines total) cut ∙ from_line)
  where
    from_line : stream_from (line number text more) total ≡ Err (at, bad)
    from_line = rw is refl

-- a line too many
pub read_refused : (input : List ℕ) (left after : Lines) (total : ℕ) (fed : List ℕ) (many : TooManyLines) (e : DecodeError) → IsNext (Err many) left after → e ≡ error.Bad many.line kind.TooManyLines → IsReadTo input left total fed → IsRefusal e (stream_of input)
unfolding stream_from
read_refused input left after total fed many e is same so_far =
    let family : DecodeError → Type 0 = λ e. IsRefusal e (stream_of input) in
    subst family (sym same) (so_far ∙ ap (λ lines. before fed (stream_from lines total)) is)

-- no line is left
pub read_all : (input : List ℕ) (left : Lines) (number total : ℕ) (fed : List ℕ) → left ≡ stops number → IsReadTo input left total fed → stream_of input ≡ Ok fed
unfolding stream_from
read_all input left number total fed none so_far = so_far ∙ ap (before fed) (ap (λ lines. stream_from lines total) none) ∙ ap Ok (append-nil fed)

-- the first line is read, and good; or none is read yet
abbrev pub IsBegun : List ℕ → Lines → ℕ → Type 0
IsBegun input left total = FirstIsGood (input_lines input) ⊎ ((left ≡ input_lines input) × (total ≡ 0))

-- a line that is good is the first, or stands after a good one
pub begun_good : (input : List ℕ) (left more : Lines) (number total : ℕ) (text : List ℕ) → left ≡ line number text more → IsOk (piece_at number total text) → IsBegun input left total → FirstIsGood (input_lines input)
begun_good input left more number total text cut good (inl begun) = begun
begun_good input left more number total text cut good (inr first) =
    subst FirstIsGood (sym cut ∙ first.0) (subst (λ (n : ℕ). IsOk (piece_at number n text)) first.1 good)

-- and so is the end
pub begun_end : (input : List ℕ) (left : Lines) (number total : ℕ) → left ≡ stops number → IsBegun input left total → FirstIsGood (input_lines input)
begun_end input left number total none (inl begun) = begun
begun_end input left number total none (inr first) = subst FirstIsGood (sym none ∙ first.0) tt

-- a line for which memory ran out is good
pub good_line : {A : Type 0} (e : DecodeError) (due : Result A (ℕ × DecodeKind)) → IsLineRefusal e due → e ≡ error.Memory → IsOk due
good_line e due is same = let family : DecodeError → Type 0 = λ e. IsLineRefusal e due in subst family same is

-- the error that a result bears is the one that it was made of
pub same_error : {A : Type 0} (e from : DecodeError) (r : Result A DecodeError) → e ≡ from → r ≡ Err e → r ≡ Err error.Memory → from ≡ error.Memory
same_error e from r same is memory = sym same ∙ ap (λ r. error_or r e) (sym is ∙ memory)
  where
    error_or : {A : Type 0} → Result A DecodeError → DecodeError → DecodeError
    error_or (Ok x) e = e
    error_or (Err e) other = e

pub is_good : {A : Type 0} (due : Result A (ℕ × DecodeKind)) (x : A) → due ≡ Ok x → IsOk due
is_good due x is = rw is refl

-- the refusal of a line is that of its byte string
pub refused_piece : (e : PushError) (number before : ℕ) (text : List ℕ) → IsPushRefusal e (at_most (8388608 - before) (byte_string text)) → IsLineRefusal (refused_at number e) (piece_at number before text)
refused_piece push.BadHex number before text is = ap (in_line number) is
refused_piece push.TooManyBytes number before text is = ap (in_line number) is
refused_piece push.Memory number before text is = some_in_line number (at_most (8388608 - before) (byte_string text)) is
  where
    some_in_line : (number : ℕ) (due : Result (List ℕ) ByteFault) → IsOk due → IsOk (in_line number due)
    some_in_line number (Ok piece) is = refl
    some_in_line number (Err fault) is = absurd (false≢true is)

-- a refusal of the input is one of its text
pub refusal_decoded : (channel : Channel) (input : List ℕ) (e : DecodeError) → IsRefusal e (stream_of input) → IsRefusal e (decoded channel input)
refusal_decoded channel input error.Memory is = tt
refusal_decoded channel input (error.Bad number bad) is = rw is refl

-- the text of the stream is that of the input
pub text_decoded : (channel : Channel) (input fed text : List ℕ) → stream_of input ≡ Ok fed → text ≡ text_of (reading channel fed) → decoded channel input ≡ Ok text
text_decoded channel input fed text is printed = rw (is, printed) refl
