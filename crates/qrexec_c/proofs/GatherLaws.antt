-- How far a message goes that has begun.
use Rattle.std.proofs.Common.{◌≡◌, ℕ, ◌+◌, ◌-◌, ◌<◌, ◌≤◌, ◌⊎◌, inl, inr, Some, None, List, ◌++◌, length, take, drop, refl, sym, ◌∙◌, ap, arith, length-append, append_assoc}
use Rattle.std.proofs.lemmas.Bool.{cases_lt, lt-ltb, le-ltb}
use Rattle.std.proofs.lemmas.List.{length-take-le, take-append-drop, take_all}
use Rattle.qrexec_frame.specs.declared.kind.Channel.{Channel}
use Rattle.qrexec_frame.specs.Grammar.{number_at}
use Rattle.qrexec_frame.specs.Fronts.{front}
use Rattle.qrexec_frame.specs.Streams.{Short}
use Rattle.qrexec_frame.proofs.FrontLaws.{front_no_type, front_too_long, front_bad_length, front_no_nul, front_whole}
use Rattle.qrexec_frame.proofs.GrammarLaws.{number_at_append}
use Rattle.qrexec_frame.proofs.SpellingLaws.{Standing, NoHeader, NoType, Long, OffRange, NoBody, Unended, Said, standing}
use Rattle.qrexec_c.specs.declared.gather.Gather.{Gather}
use Rattle.qrexec_c.specs.Readers.{channel_of}
use Rattle.qrexec_c.specs.Gathers.{came, until_of, IsNoGather, IsLong}

-- the length in a header lies in the bytes that have come, if they have it
pub number_begun : (got : ℕ) (bytes piece : List ℕ) → 8 ≤ got → got ≤ length bytes → number_at 4 bytes ≡ number_at 4 (take got bytes ++ piece)
number_begun got bytes piece eight within =
    let len : 8 ≤ length (take got bytes) = omega (arith, length-take-le got bytes within) in
    ap (number_at 4) (sym (take-append-drop got bytes)) ∙ number_at_append 4 (take got bytes) (drop got bytes) (omega (arith, len)) ∙ sym (number_at_append 4 (take got bytes) piece (omega (arith, len)))

-- or in them and the front of a piece
pub number_split : (got : ℕ) (bytes piece : List ℕ) → got ≤ 8 → 8 ≤ got + length piece → got ≤ length bytes
    → number_at 4 (take got bytes ++ take (8 - got) piece) ≡ number_at 4 (take got bytes ++ piece)
number_split got bytes piece low there within =
    let len : 8 ≤ length (take got bytes ++ take (8 - got) piece) = omega (arith, low, there, length-append (take got bytes) (take (8 - got) piece), length-take-le got bytes within, length-take-le (8 - got) piece (omega (arith, low, there))) in
    sym (number_at_append 4 (take got bytes ++ take (8 - got) piece) (drop (8 - got) piece) (omega (arith, len)))
    ∙ ap (number_at 4) (append_assoc (take got bytes) (take (8 - got) piece) (drop (8 - got) piece) ∙ ap (λ p. take got bytes ++ p) (take-append-drop (8 - got) piece))

pub until_header : (bytes : List ℕ) → length bytes < 8 → until_of bytes ≡ 8
until_header bytes less = rw (lt-ltb (length bytes) 8 less) refl

pub until_long : (bytes : List ℕ) → 8 ≤ length bytes → 128 < number_at 4 bytes → until_of bytes ≡ 8
until_long bytes there long = rw (le-ltb (length bytes) 8 there, lt-ltb 128 (number_at 4 bytes) long) refl

pub until_whole : (bytes : List ℕ) → 8 ≤ length bytes → number_at 4 bytes ≤ 128 → until_of bytes ≡ 8 + number_at 4 bytes
until_whole bytes there short = rw (le-ltb (length bytes) 8 there, le-ltb 128 (number_at 4 bytes) short) refl

pub until_within : (bytes : List ℕ) → (8 ≤ until_of bytes) × (until_of bytes ≤ 136)
until_within bytes = by_header (cases_lt (length bytes) 8)
  where
    by_long : 8 ≤ length bytes → ((128 < number_at 4 bytes) ⊎ (number_at 4 bytes ≤ 128)) → (8 ≤ until_of bytes) × (until_of bytes ≤ 136)
    by_long there (inl long) = let is = until_long bytes there long in (omega (arith, is), omega (arith, is))
    by_long there (inr short) = let is = until_whole bytes there short in (omega (arith, is, short), omega (arith, is, short))

    by_header : ((length bytes < 8) ⊎ (8 ≤ length bytes)) → (8 ≤ until_of bytes) × (until_of bytes ≤ 136)
    by_header (inl less) = let is = until_header bytes less in (omega (arith, is), omega (arith, is))
    by_header (inr there) = by_long there (cases_lt 128 (number_at 4 bytes))

-- a whole header says the same before more bytes
pub until_more : (bytes more : List ℕ) → 8 ≤ length bytes → until_of (bytes ++ more) ≡ until_of bytes
until_more bytes more there =
    let same : number_at 4 (bytes ++ more) ≡ number_at 4 bytes = number_at_append 4 bytes more (omega (arith, there)) in
    let longer : 8 ≤ length (bytes ++ more) = omega (arith, there, length-append bytes more) in
    rw (le-ltb (length bytes) 8 there, le-ltb (length (bytes ++ more)) 8 longer, same) refl

-- more bytes have come than are gathered, whatever follows them
pub over_more : (bytes more : List ℕ) → until_of (bytes ++ more) < length bytes → until_of bytes < length bytes
over_more bytes more over = by_header (cases_lt (length bytes) 8)
  where
    by_header : ((length bytes < 8) ⊎ (8 ≤ length bytes)) → until_of bytes < length bytes
    by_header (inl less) = absurd (omega (arith, over, less, (until_within (bytes ++ more)).0))
    by_header (inr there) = omega (arith, over, until_more bytes more there)

pub over_first : (bytes more : List ℕ) → until_of bytes < length bytes → until_of (bytes ++ more) < length bytes
over_first bytes more over = by_header (cases_lt (length bytes) 8)
  where
    by_header : ((length bytes < 8) ⊎ (8 ≤ length bytes)) → until_of (bytes ++ more) < length bytes
    by_header (inl less) = absurd (omega (arith, over, less, (until_within bytes).0))
    by_header (inr there) = omega (arith, over, until_more bytes more there)

-- what is less than a message has no header, or less than its body
short_less : (channel : Channel) (bytes : List ℕ) → front channel bytes ≡ Short → 8 ≤ length bytes → length bytes < 8 + number_at 4 bytes
short_less channel bytes short there = by_standing (standing channel bytes)
  where
    by_standing : Standing channel bytes → length bytes < 8 + number_at 4 bytes
    by_standing (NoHeader less) = absurd (omega (arith, less, there))
    by_standing (NoType there none) = absurd (let here = front_no_type channel bytes there none in cc)
    by_standing (Long kind header long) = absurd (let here = front_too_long channel bytes _ _ kind header long in cc)
    by_standing (OffRange kind header low off) = absurd (let here = front_bad_length channel bytes _ _ kind header low off in cc)
    by_standing (NoBody kind header range less) = omega (arith, less)
    by_standing (Unended kind header range there line last) = absurd (let here = front_no_nul channel bytes _ _ kind header range there line last in cc)
    by_standing (Said kind header range there ended) = absurd (let here = front_whole channel bytes _ _ kind header range there ended in cc)

-- all was taken that is gathered, and the message isn't whole
pub long_one : (channel : Channel) (bytes more : List ℕ) → length bytes ≡ until_of (bytes ++ more) → front channel bytes ≡ Short → IsLong bytes
long_one channel bytes more all short =
    let there : 8 ≤ length bytes = omega (arith, all, (until_within (bytes ++ more)).0) in
    let same = until_more bytes more there in
    let less = short_less channel bytes short there in
    by_long there (omega (arith, all, same)) less (cases_lt 128 (number_at 4 bytes))
  where
    by_long : 8 ≤ length bytes → length bytes ≡ until_of bytes → length bytes < 8 + number_at 4 bytes → ((128 < number_at 4 bytes) ⊎ (number_at 4 bytes ≤ 128)) → IsLong bytes
    by_long there is less (inl long) = record { header = is ∙ until_long bytes there long; long = long }
    by_long there is less (inr low) = absurd (let whole = until_whole bytes there low in omega (arith, is, whole, less))

-- a header of which the first bytes were laid from those that have come, and the others from a piece
pub header_split : (got : ℕ) (bytes piece one two none : List ℕ) → got ≤ 8 → 8 ≤ got + length piece → got ≤ length bytes → length two ≡ 8
    → take (0 + length (take got bytes)) one ≡ take 0 none ++ take got bytes
    → take (got + length (take (8 - got) piece)) two ≡ take got one ++ take (8 - got) piece
    → number_at 4 two ≡ number_at 4 (take got bytes ++ piece)
header_split got bytes piece one two none low there within size first second =
    let some : length (take got bytes) ≡ got = length-take-le got bytes within in
    let rest : length (take (8 - got) piece) ≡ 8 - got = length-take-le (8 - got) piece (omega (arith, low, there)) in
    let none_before : got ≡ 0 + length (take got bytes) = omega (arith, some) in
    let begun : take got one ≡ take got bytes = ap (λ n. take n one) none_before ∙ first in
    let sum : 8 ≡ got + length (take (8 - got) piece) = omega (arith, low, rest) in
    let all : two ≡ take got bytes ++ take (8 - got) piece
    = sym (take_all 8 two (omega (arith, size))) ∙ ap (λ n. take n two) sum ∙ second ∙ ap (λ b. b ++ take (8 - got) piece) begun in
    ap (number_at 4) all ∙ number_split got bytes piece low there within

-- all was taken that is gathered, of bytes that were laid behind those that had come
pub goes_long : (channel : Channel) (bytes new piece : List ℕ) (got count : ℕ) → got ≤ length bytes → take (got + count) new ≡ take got bytes ++ take count piece → count ≤ length piece
    → got + count ≡ until_of (take got bytes ++ piece) → front channel (take (got + count) new) ≡ Short → IsLong (take (got + count) new)
goes_long channel bytes new piece got count within filled some all short =
    let whole : take (got + count) new ++ drop count piece ≡ take got bytes ++ piece
    = ap (λ b. b ++ drop count piece) filled ∙ append_assoc (take got bytes) (take count piece) (drop count piece) ∙ ap (λ p. take got bytes ++ p) (take-append-drop count piece) in
    let sum : length (take got bytes ++ take count piece) ≡ got + count = omega (arith, length-append (take got bytes) (take count piece), length-take-le got bytes within, length-take-le count piece some) in
    let size : length (take (got + count) new) ≡ got + count = ap (λ b. length b) filled ∙ sum in
    long_one channel (take (got + count) new) (drop count piece) (size ∙ all ∙ ap (λ b. until_of b) (sym whole)) short

-- a reader that may take more bytes is one
pub is_gather : (g : Gather) (piece : List ℕ) (channel : Channel) → channel_of g.reader.channel ≡ Some channel → g.reader.fault ≡ 0 → g.got ≤ length g.bytes
    → g.got ≤ until_of (came g ++ piece) → IsNoGather g → ⊥
is_gather g piece channel is sound within under (inl (inl none)) = let both : Some channel ≡ None = sym is ∙ none in cc
is_gather g piece channel is sound within under (inl (inr more)) = omega (arith, sound, more)
is_gather g piece channel is sound within under (inr over) =
    let size = length-take-le g.got g.bytes within in
    let first = over_first (take g.got g.bytes) piece (omega (arith, over.1, size)) in
    omega (arith, first, under, size)
