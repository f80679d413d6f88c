-- What stands at the front, by the conditions of the grammar.
use Rattle.std.proofs.Common.{◌≡◌, ◌≢◌, ℕ, ◌+◌, ◌<◌, ◌≤◌, ◌%◌, ◌^◌, ◌⊎◌, inl, inr, List, length, take, drop, Some, None, true, false, refl, sym, ◌∙◌, ap, arith, cond}
use Rattle.std.proofs.lemmas.List.{length-take-le, length-drop}
use Rattle.std.proofs.lemmas.Bool.{cases_lt, cases_Bool, lt-ltb, le-ltb, eq-eqb, ne_eqb}
use Rattle.std.specs.Prelude.{nat_lt}
use Rattle.qrexec_frame.specs.declared.kind.Channel.{Channel}
use Rattle.qrexec_frame.specs.declared.message.Message.{Message}
use Rattle.qrexec_frame.specs.declared.kind.Kind.{Kind}
use Rattle.qrexec_frame.specs.Kinds.{kind_on, least_len, most_len, has_line}
use Rattle.qrexec_frame.specs.Grammar.{number_at, last_byte, Fault, UnknownType, TooLong, BadLength, NoNul, HasHeader, IsInRange}
use Rattle.qrexec_frame.specs.Fronts.{front, with_header, with_body, made}
use Rattle.qrexec_frame.specs.Streams.{Front, Whole, Bad, Short}

-- an offset of 64 bits stands for itself
pub whole_offset : (at : ℕ) → at < 2 ^ 64 → at ≡ at % 2 ^ 64
whole_offset at fits = omega arith

-- the body needs no NUL at its end, or has one
abbrev pub IsEnded : Kind → List ℕ → Type 0
IsEnded kind body = (has_line kind ≡ false) ⊎ (last_byte body ≡ 0)

pub front_no_header : (channel : Channel) (bytes : List ℕ) → length bytes < 8 → front channel bytes ≡ Short
unfolding front
front_no_header channel bytes less = rw (lt-ltb (length bytes) 8 less) refl

pub front_no_type : (channel : Channel) (bytes : List ℕ) → 8 ≤ length bytes → kind_on channel (number_at 0 bytes) ≡ None → front channel bytes ≡ Bad (UnknownType (number_at 0 bytes))
unfolding front
front_no_type channel bytes there none = rw (le-ltb (length bytes) 8 there, none) refl

-- with a header, what is at the front goes by its type
front_header : (channel : Channel) (bytes : List ℕ) (number len : ℕ) (kind : Kind) → HasHeader channel bytes number len kind → front channel bytes ≡ with_header (Some kind) number len bytes
unfolding front
front_header channel bytes number len kind header =
    let is : kind_on channel (number_at 0 bytes) ≡ Some kind = ap (kind_on channel) (sym header.number_is) ∙ header.kind_is in
    rw (le-ltb (length bytes) 8 header.there, is, ← header.number_is, ← header.len_is) refl

pub front_too_long : (channel : Channel) (bytes : List ℕ) (number len : ℕ) (kind : Kind) → HasHeader channel bytes number len kind → 65536 < len → front channel bytes ≡ Bad (TooLong number len)
front_too_long channel bytes number len kind header long = front_header channel bytes number len kind header ∙ rw (lt-ltb 65536 len long) refl

pub front_bad_length : (channel : Channel) (bytes : List ℕ) (number len : ℕ) (kind : Kind) → HasHeader channel bytes number len kind → len ≤ 65536 → ((len < least_len kind) ⊎ (most_len kind < len))
    → front channel bytes ≡ Bad (BadLength number len)
front_bad_length channel bytes number len kind header short (inl less) =
    front_header channel bytes number len kind header ∙ rw (le-ltb 65536 len short, lt-ltb len (least_len kind) less) refl
front_bad_length channel bytes number len kind header short (inr more) = front_header channel bytes number len kind header ∙ by_least (cases_lt len (least_len kind))
  where
    by_least : ((len < least_len kind) ⊎ (least_len kind ≤ len)) → with_header (Some kind) number len bytes ≡ Bad (BadLength number len)
    by_least (inl less) = rw (le-ltb 65536 len short, lt-ltb len (least_len kind) less) refl
    by_least (inr least) = rw (le-ltb 65536 len short, le-ltb len (least_len kind) least, lt-ltb (most_len kind) len more) refl

-- a length in the range leaves the body
with_header_in_range : (bytes : List ℕ) (number len : ℕ) (kind : Kind) → IsInRange kind len
    → with_header (Some kind) number len bytes ≡ cond (nat_lt (length bytes) (8 + len)) Short (with_body kind number (take len (drop 8 bytes)))
with_header_in_range bytes number len kind range =
    rw (le-ltb 65536 len range.short, le-ltb len (least_len kind) range.least, le-ltb (most_len kind) len range.most) refl

pub front_no_body : (channel : Channel) (bytes : List ℕ) (number len : ℕ) (kind : Kind) → HasHeader channel bytes number len kind → IsInRange kind len → length bytes < 8 + len → front channel bytes ≡ Short
front_no_body channel bytes number len kind header range less =
    front_header channel bytes number len kind header ∙ with_header_in_range bytes number len kind range ∙ rw (lt-ltb (length bytes) (8 + len) less) refl

front_body : (channel : Channel) (bytes : List ℕ) (number len : ℕ) (kind : Kind) → HasHeader channel bytes number len kind → IsInRange kind len → 8 + len ≤ length bytes
    → front channel bytes ≡ with_body kind number (take len (drop 8 bytes))
front_body channel bytes number len kind header range there =
    front_header channel bytes number len kind header ∙ with_header_in_range bytes number len kind range ∙ rw (le-ltb (length bytes) (8 + len) there) refl

pub front_no_nul : (channel : Channel) (bytes : List ℕ) (number len : ℕ) (kind : Kind) → HasHeader channel bytes number len kind → IsInRange kind len → 8 + len ≤ length bytes
    → has_line kind ≡ true → last_byte (take len (drop 8 bytes)) ≢ 0 → front channel bytes ≡ Bad (NoNul number)
front_no_nul channel bytes number len kind header range there line unended =
    front_body channel bytes number len kind header range there ∙ rw (line, ne_eqb (last_byte (take len (drop 8 bytes))) 0 unended) refl

-- the bytes of a whole body
pub length_body : (bytes : List ℕ) (len : ℕ) → 8 + len ≤ length bytes → length (take len (drop 8 bytes)) ≡ len
length_body bytes len there = length-take-le len (drop 8 bytes) (omega (arith, length-drop 8 bytes))

pub front_whole : (channel : Channel) (bytes : List ℕ) (number len : ℕ) (kind : Kind) → HasHeader channel bytes number len kind → IsInRange kind len → 8 + len ≤ length bytes
    → IsEnded kind (take len (drop 8 bytes)) → front channel bytes ≡ Whole (made kind (take len (drop 8 bytes))) (8 + len)
front_whole channel bytes number len kind header range there ended =
    front_body channel bytes number len kind header range there ∙ by_end ended ∙ ap sized (length_body bytes len there)
  where
    sized : ℕ → Front Message Fault
    sized n = Whole (made kind (take len (drop 8 bytes))) (8 + n)

    by_end : IsEnded kind (take len (drop 8 bytes)) → with_body kind number (take len (drop 8 bytes)) ≡ Whole (made kind (take len (drop 8 bytes))) (8 + length (take len (drop 8 bytes)))
    by_end (inl no_line) = rw no_line refl
    by_end (inr nul) = by_line (cases_Bool (has_line kind))
      where
        by_line : ((has_line kind ≡ true) ⊎ (has_line kind ≡ false)) → with_body kind number (take len (drop 8 bytes)) ≡ Whole (made kind (take len (drop 8 bytes))) (8 + length (take len (drop 8 bytes)))
        by_line (inl line) = rw (line, eq-eqb (last_byte (take len (drop 8 bytes))) 0 nul) refl
        by_line (inr no_line) = rw no_line refl
