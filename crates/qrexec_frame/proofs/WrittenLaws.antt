-- What is written of a message is spelled, and so it is read again.
use Rattle.std.proofs.Common.{◌≡◌, ℕ, ◌+◌, ◌-◌, ◌<◌, ◌≤◌, ◌^◌, List, [], ◌∷◌, ◌++◌, length, replicate, refl, sym, ◌∙◌, ap, arith, length-append, append_assoc}
use Rattle.std.proofs.lemmas.List.{length-replicate, append-nil}
use Rattle.std.proofs.lemmas.Nat.{from_le_bytes-to_le_bytes_4}
use Rattle.std.proofs.lemmas.Int.{to_z-of_z, ints}
use Rattle.std.specs.Int.{w32, cast_unsigned, cast_signed}
use Rattle.qrexec_frame.specs.declared.kind.Channel.{Channel}
use Rattle.qrexec_frame.specs.declared.message.Message.{Message}
use Rattle.qrexec_frame.specs.declared.message.Message.TheVariants as message
use Rattle.qrexec_frame.specs.declared.kind.Kind.{Kind}
use Rattle.qrexec_frame.specs.declared.kind.Kind.TheVariants as kind
use Rattle.qrexec_frame.specs.Kinds.{kind_on, number_of, least_len, most_len, IsData}
use Rattle.qrexec_frame.specs.Messages.{kind_of, body_of, four, framed, written, Fits, HasNumbers, IsSpellable, GoesOn}
use Rattle.qrexec_frame.specs.Texts.{HasNoNul, padded, ended, field_text, line_text}
use Rattle.qrexec_frame.specs.Grammar.{number_at, last_byte, Says, Spelled}
use Rattle.qrexec_frame.specs.Fronts.{front, made}
use Rattle.qrexec_frame.specs.Streams.{IsReadAgain}
use Rattle.qrexec_frame.proofs.TextLaws.{field_text_padded, line_text_ended, last_byte_ended}
use Rattle.qrexec_frame.proofs.GrammarLaws.{Spelled_front, most_len_le}

-- a number that was written is read
four_number : (n : ℕ) (more : List ℕ) → n < 2 ^ 32 → number_at 0 (four n ++ more) ≡ n
four_number n more fits = from_le_bytes-to_le_bytes_4 n fits

number_of_lt : (k : Kind) → number_of k < 2 ^ 32
number_of_lt kind.Hello = omega arith
number_of_lt kind.Stdin = omega arith
number_of_lt kind.Stdout = omega arith
number_of_lt kind.Stderr = omega arith
number_of_lt kind.ExitCode = omega arith
number_of_lt kind.Exec = omega arith
number_of_lt kind.JustExec = omega arith
number_of_lt kind.Connect = omega arith
number_of_lt kind.Refused = omega arith
number_of_lt kind.Terminated = omega arith
number_of_lt kind.Trigger3 = omega arith
number_of_lt kind.Trigger = omega arith

-- a fixed field has its length
pub length_padded : (len : ℕ) (text : List ℕ) → length text ≤ len → length (padded len text) ≡ len
length_padded len text fits = omega (arith, length-append text (replicate (len - length text) 0), length-replicate {A = ℕ} (len - length text) 0)

-- how many bytes the body of a message has
abbrev pub size_of : Message → ℕ
size_of (message.Hello version) = 4
size_of (message.Stdin bytes) = length bytes
size_of (message.Stdout bytes) = length bytes
size_of (message.Stderr bytes) = length bytes
size_of (message.ExitCode code) = 4
size_of (message.Exec domain port line) = 9 + length line
size_of (message.JustExec domain port line) = 9 + length line
size_of (message.Connect domain port ident) = 40
size_of (message.Refused ident) = 32
size_of (message.Terminated domain port) = 8
size_of (message.Trigger3 target ident service) = 97 + length service
size_of (message.Trigger target ident service) = 128

pub has_size : (m : Message) → Fits m → length (body_of m) ≡ size_of m
has_size (message.Hello version) fits = refl
has_size (message.Stdin bytes) fits = refl
has_size (message.Stdout bytes) fits = refl
has_size (message.Stderr bytes) fits = refl
has_size (message.ExitCode code) fits = refl
has_size (message.Exec domain port line) fits = omega (arith, length-append line (0 ∷ []))
has_size (message.JustExec domain port line) fits = omega (arith, length-append line (0 ∷ []))
has_size (message.Connect domain port ident) fits = omega (arith, length_padded 32 ident (omega (arith, fits.within)))
has_size (message.Refused ident) fits = length_padded 32 ident (omega (arith, fits.within))
has_size (message.Terminated domain port) fits = refl
has_size (message.Trigger3 target ident service) fits =
    let first = length_padded 64 target (omega (arith, fits.0.within)) in
    let second = length_padded 32 ident (omega (arith, fits.1.within)) in
    let all = length-append (padded 64 target) (padded 32 ident ++ ended service) in
    let rest = length-append (padded 32 ident) (ended service) in
    omega (arith, first, second, all, rest, length-append service (0 ∷ []))
has_size (message.Trigger target ident service) fits =
    let first = length_padded 64 service (omega (arith, fits.2.within)) in
    let second = length_padded 32 target (omega (arith, fits.0.within)) in
    let third = length_padded 32 ident (omega (arith, fits.1.within)) in
    let all = length-append (padded 64 service) (padded 32 target ++ padded 32 ident) in
    let rest = length-append (padded 32 target) (padded 32 ident) in
    omega (arith, first, second, third, all, rest)

-- the length of a body that is written lies in its type's range
record IsWithin (k : Kind) (len : ℕ) : Type 0 where
  least : least_len k ≤ len
  most : len ≤ most_len k

size_within : (m : Message) → Fits m → IsWithin (kind_of m) (size_of m)
size_within (message.Hello version) fits = record { least = omega arith; most = omega arith }
size_within (message.Stdin bytes) fits = record { least = omega arith; most = fits }
size_within (message.Stdout bytes) fits = record { least = omega arith; most = fits }
size_within (message.Stderr bytes) fits = record { least = omega arith; most = fits }
size_within (message.ExitCode code) fits = record { least = omega arith; most = omega arith }
size_within (message.Exec domain port line) fits = record { least = omega arith; most = omega (arith, fits.within) }
size_within (message.JustExec domain port line) fits = record { least = omega arith; most = omega (arith, fits.within) }
size_within (message.Connect domain port ident) fits = record { least = omega arith; most = omega arith }
size_within (message.Refused ident) fits = record { least = omega arith; most = omega arith }
size_within (message.Terminated domain port) fits = record { least = omega arith; most = omega arith }
size_within (message.Trigger3 target ident service) fits = record { least = omega arith; most = omega (arith, fits.2.within) }
size_within (message.Trigger target ident service) fits = record { least = omega arith; most = omega arith }

body_within : (m : Message) → Fits m → IsWithin (kind_of m) (length (body_of m))
body_within m fits = rw (has_size m fits) (size_within m fits)

-- a field at the end of a body
last_field : (front text : List ℕ) (start len : ℕ) → length front ≡ start → HasNoNul text → length text < len → field_text start len (front ++ padded len text) ≡ text
last_field front text start len at no_nul less =
    let whole : padded len text ++ [] ≡ padded len text = append-nil (padded len text) in
    ap (λ b. field_text start len (front ++ b)) (sym whole) ∙ field_text_padded front text [] start len at no_nul less

-- what is written of a message says it
body_says : (m : Message) → Fits m → HasNumbers m → Says (body_of m) m
body_says (message.Hello version) fits numbers = sym (four_number version [] numbers)
body_says (message.Stdin bytes) fits numbers = refl
body_says (message.Stdout bytes) fits numbers = refl
body_says (message.Stderr bytes) fits numbers = refl
body_says (message.ExitCode code) fits numbers =
    let small : cast_unsigned w32 code < 2 ^ 32 = omega (arith, ints) in
    sym (ap (cast_signed w32) (from_le_bytes-to_le_bytes_4 (cast_unsigned w32 code) small) ∙ to_z-of_z w32 code numbers)
body_says (message.Exec domain port line) fits numbers = (
  sym (four_number domain [] numbers.0),
  sym (four_number port (ended line) numbers.1),
  (last_byte_ended (four domain ++ (four port ++ line)), sym (line_text_ended (four domain ++ four port) line 8 refl fits.no_nul)),
)
body_says (message.JustExec domain port line) fits numbers = (
  sym (four_number domain [] numbers.0),
  sym (four_number port (ended line) numbers.1),
  (last_byte_ended (four domain ++ (four port ++ line)), sym (line_text_ended (four domain ++ four port) line 8 refl fits.no_nul)),
)
body_says (message.Connect domain port ident) fits numbers = (
  sym (four_number domain [] numbers.0),
  sym (four_number port (padded 32 ident) numbers.1),
  sym (last_field (four domain ++ four port) ident 8 32 refl fits.no_nul (omega (arith, fits.within))),
)
body_says (message.Refused ident) fits numbers = sym (last_field [] ident 0 32 refl fits.no_nul (omega (arith, fits.within)))
body_says (message.Terminated domain port) fits numbers = (sym (four_number domain [] numbers.0), sym (four_number port [] numbers.1))
body_says (message.Trigger3 target ident service) fits numbers =
    let first : length (padded 64 target) ≡ 64 = length_padded 64 target (omega (arith, fits.0.within)) in
    let second : length (padded 32 ident) ≡ 32 = length_padded 32 ident (omega (arith, fits.1.within)) in
    let both : length (padded 64 target ++ padded 32 ident) ≡ 96 = omega (arith, first, second, length-append (padded 64 target) (padded 32 ident)) in
    let parts : (padded 64 target ++ padded 32 ident) ++ ended service ≡ padded 64 target ++ (padded 32 ident ++ ended service) = append_assoc (padded 64 target) (padded 32 ident) (ended service) in
    let all : ((padded 64 target ++ padded 32 ident) ++ service) ++ (0 ∷ []) ≡ padded 64 target ++ (padded 32 ident ++ ended service) = append_assoc (padded 64 target ++ padded 32 ident) service (0 ∷ []) ∙ parts in (
      sym (field_text_padded [] target (padded 32 ident ++ ended service) 0 64 refl fits.0.no_nul (omega (arith, fits.0.within))),
      sym (field_text_padded (padded 64 target) ident (ended service) 64 32 first fits.1.no_nul (omega (arith, fits.1.within))),
      (
        ap last_byte (sym all) ∙ last_byte_ended ((padded 64 target ++ padded 32 ident) ++ service),
        sym (ap (line_text 96) (sym parts) ∙ line_text_ended (padded 64 target ++ padded 32 ident) service 96 both fits.2.no_nul),
      ),
    )
body_says (message.Trigger target ident service) fits numbers =
    let first : length (padded 64 service) ≡ 64 = length_padded 64 service (omega (arith, fits.2.within)) in
    let second : length (padded 32 target) ≡ 32 = length_padded 32 target (omega (arith, fits.0.within)) in
    let both : length (padded 64 service ++ padded 32 target) ≡ 96 = omega (arith, first, second, length-append (padded 64 service) (padded 32 target)) in
    let parts : (padded 64 service ++ padded 32 target) ++ padded 32 ident ≡ padded 64 service ++ (padded 32 target ++ padded 32 ident) = append_assoc (padded 64 service) (padded 32 target) (padded 32 ident) in (
      sym (field_text_padded [] service (padded 32 target ++ padded 32 ident) 0 64 refl fits.2.no_nul (omega (arith, fits.2.within))),
      sym (field_text_padded (padded 64 service) target (padded 32 ident) 64 32 first fits.0.no_nul (omega (arith, fits.0.within))),
      sym (ap (field_text 96 32) (sym parts) ∙ last_field (padded 64 service ++ padded 32 target) ident 96 32 both fits.1.no_nul (omega (arith, fits.1.within))),
    )

-- the written spelling spells the message
pub written_spelled : (channel : Channel) (m : Message) → IsSpellable m → GoesOn channel m → Spelled channel (written m) m
written_spelled channel m spellable goes =
    let range = body_within m spellable.0 in
    let number : number_at 0 (written m) ≡ number_of (kind_of m) = four_number (number_of (kind_of m)) [] (number_of_lt (kind_of m)) in
    let short : length (body_of m) < 2 ^ 32 = omega (arith, range.most, most_len_le (kind_of m)) in
    let len : number_at 4 (written m) ≡ length (body_of m) = four_number (length (body_of m)) (body_of m) short in
    record {
      kind = ap (kind_on channel) number ∙ goes;
      len = omega (arith, len);
      least = rw len range.least;
      most = rw len range.most;
      says = body_says m spellable.0 spellable.1;
    }

-- the messages of a channel that have a spelling are read again, whatever follows them
pub is_read_again : (channel : Channel) → IsReadAgain (front channel) written (λ m. IsSpellable m × GoesOn channel m)
is_read_again channel m more good = Spelled_front channel (written m) more m (written_spelled channel m good.0 good.1)

-- a message of a stream is written as its header and its bytes
pub written_data : (k : Kind) (bytes : List ℕ) → IsData k → written (made k bytes) ≡ framed (number_of k) bytes
written_data kind.Stdin bytes is = refl
written_data kind.Stdout bytes is = refl
written_data kind.Stderr bytes is = refl
written_data kind.Hello bytes is = absurd is
written_data kind.ExitCode bytes is = absurd is
written_data kind.Exec bytes is = absurd is
written_data kind.JustExec bytes is = absurd is
written_data kind.Connect bytes is = absurd is
written_data kind.Refused bytes is = absurd is
written_data kind.Terminated bytes is = absurd is
written_data kind.Trigger3 bytes is = absurd is
written_data kind.Trigger bytes is = absurd is
