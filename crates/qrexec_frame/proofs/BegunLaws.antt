-- What is less than a message begins one, once its header is there.
use Rattle.std.proofs.Common.{◌≡◌, ℕ, ◌+◌, ◌-◌, ◌<◌, ◌≤◌, inl, inr, List, [], ◌∷◌, ◌++◌, length, take, drop, replicate, sym, ◌∙◌, ap, arith, append_assoc, length-append}
use Rattle.std.proofs.lemmas.List.{length-drop, length-replicate, replicate-append-replicate, drop-append-le, take_all}
use Rattle.qrexec_frame.specs.declared.kind.Channel.{Channel}
use Rattle.qrexec_frame.specs.declared.message.Message.{Message}
use Rattle.qrexec_frame.specs.declared.kind.Kind.{Kind}
use Rattle.qrexec_frame.specs.Grammar.{number_at, last_byte, Spelled, HasHeader, IsInRange, IsBegun}
use Rattle.qrexec_frame.specs.Fronts.{front, made}
use Rattle.qrexec_frame.specs.Streams.{Short}
use Rattle.qrexec_frame.proofs.TextLaws.{last_byte_ended}
use Rattle.qrexec_frame.proofs.FrontLaws.{IsEnded, front_no_type, front_too_long, front_bad_length, front_no_nul, front_whole}
use Rattle.qrexec_frame.proofs.SpellingLaws.{Standing, NoHeader, NoType, Long, OffRange, NoBody, Unended, Said, standing}
use Rattle.qrexec_frame.proofs.GrammarLaws.{HasHeader_append, front_spelled}

-- a body that NULs complete ends with NUL
nul_last : (bytes : List ℕ) (len count : ℕ) → 8 ≤ length bytes → 0 < count → length bytes + count ≡ 8 + len → last_byte (take len (drop 8 (bytes ++ replicate count 0))) ≡ 0
nul_last bytes len count there some total =
    let before : List ℕ = bytes ++ replicate (count - 1) 0 in
    let one_more : count ≡ (count - 1) + 1 = omega (arith, some) in
    let nuls : replicate {A = ℕ} count 0 ≡ replicate (count - 1) 0 ++ replicate 1 0 = ap (λ n. replicate {A = ℕ} n 0) one_more ∙ sym (replicate-append-replicate (count - 1) 1 0) in
    let parts : bytes ++ replicate count 0 ≡ (bytes ++ replicate (count - 1) 0) ++ (0 ∷ []) = ap (λ r. bytes ++ r) nuls ∙ sym (append_assoc bytes (replicate (count - 1) 0) (0 ∷ [])) in
    let within : 8 ≤ length (bytes ++ replicate (count - 1) 0) = omega (arith, there, length-append bytes (replicate (count - 1) 0)) in
    let dropped : drop 8 ((bytes ++ replicate (count - 1) 0) ++ (0 ∷ [])) ≡ drop 8 (bytes ++ replicate (count - 1) 0) ++ (0 ∷ []) = drop-append-le 8 (bytes ++ replicate (count - 1) 0) (0 ∷ []) within in
    let size : length (bytes ++ replicate count 0) ≡ 8 + len = omega (arith, length-append bytes (replicate count 0), length-replicate {A = ℕ} count 0, total) in
    let whole : take len (drop 8 (bytes ++ replicate count 0)) ≡ drop 8 (bytes ++ replicate count 0) = take_all len (drop 8 (bytes ++ replicate count 0)) (omega (arith, size, length-drop 8 (bytes ++ replicate count 0))) in
    ap last_byte (whole ∙ ap (drop 8) parts ∙ dropped) ∙ last_byte_ended (drop 8 (bytes ++ replicate (count - 1) 0))

-- NULs complete a message of which the header is there
completed : (channel : Channel) (bytes : List ℕ) (kind : Kind) → HasHeader channel bytes (number_at 0 bytes) (number_at 4 bytes) kind → IsInRange kind (number_at 4 bytes)
    → (count : ℕ) → 0 < count → length bytes + count ≡ 8 + number_at 4 bytes → IsBegun channel bytes
completed channel bytes kind header range count some total =
    let size : length (bytes ++ replicate count 0) ≡ 8 + number_at 4 bytes = omega (arith, length-append bytes (replicate count 0), length-replicate {A = ℕ} count 0, total) in
    let more : HasHeader channel (bytes ++ replicate count 0) (number_at 0 bytes) (number_at 4 bytes) kind = HasHeader_append channel bytes (replicate count 0) (number_at 0 bytes) (number_at 4 bytes) kind header in
    let ended : IsEnded kind (take (number_at 4 bytes) (drop 8 (bytes ++ replicate count 0))) = inr (nul_last bytes (number_at 4 bytes) count header.there some total) in
    let whole = front_whole channel (bytes ++ replicate count 0) (number_at 0 bytes) (number_at 4 bytes) kind more range (omega (arith, size)) ended in
    let found = front_spelled channel (bytes ++ replicate count 0) (made kind (take (number_at 4 bytes) (drop 8 (bytes ++ replicate count 0)))) (8 + number_at 4 bytes) whole in
    let all : take (8 + number_at 4 bytes) (bytes ++ replicate count 0) ≡ bytes ++ replicate count 0 = take_all (8 + number_at 4 bytes) (bytes ++ replicate count 0) (omega (arith, size)) in
    let m : Message = made kind (take (number_at 4 bytes) (drop 8 (bytes ++ replicate count 0))) in
    let spelled : Spelled channel (bytes ++ replicate count 0) (made kind (take (number_at 4 bytes) (drop 8 (bytes ++ replicate count 0)))) = rw all at found.2 in
    let length_is : 0 < length (replicate {A = ℕ} count 0) = omega (arith, some, length-replicate {A = ℕ} count 0) in
    inr (replicate count 0, made kind (take (number_at 4 bytes) (drop 8 (bytes ++ replicate count 0))), length_is, spelled)

-- if less than a message stands at the front, the bytes begin one, or aren't a header yet
pub short_begun : (channel : Channel) (bytes : List ℕ) → front channel bytes ≡ Short → IsBegun channel bytes
short_begun channel bytes is = by_standing (standing channel bytes)
  where
    by_standing : Standing channel bytes → IsBegun channel bytes
    by_standing (NoHeader less) = inl less
    by_standing (NoType there none) = let here = front_no_type channel bytes there none in cc
    by_standing (Long kind header long) = let here = front_too_long channel bytes _ _ kind header long in cc
    by_standing (OffRange kind header short off) = let here = front_bad_length channel bytes _ _ kind header short off in cc
    by_standing (NoBody kind header range less) = completed channel bytes kind header range (8 + number_at 4 bytes - length bytes) (omega (arith, less)) (omega (arith, less))
    by_standing (Unended kind header range there line last) = let here = front_no_nul channel bytes _ _ kind header range there line last in cc
    by_standing (Said kind header range there ended) = let here = front_whole channel bytes _ _ kind header range there ended in cc
