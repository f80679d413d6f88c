-- Pieces in their written spelling.
use Rattle.std.proofs.Common.{◌≡◌, ℕ, ◌+◌, ◌<◌, ◌≤◌, List, [], ◌∷◌, ◌++◌, length, take, drop, map, refl, ap, sym, ◌∙◌, arith, append_assoc}
use Rattle.std.proofs.lemmas.List.{append-nil, length-take-le, take-append-drop}
use Rattle.std.proofs.Math.Seq.{take-append-add}
use Rattle.std.specs.Prelude.{Bool}
use Rattle.std.specs.List.{flat_map}
use Rattle.qrexec_frame.specs.Messages.{written}
use Rattle.qrexec_data.specs.Pieces.{Stream, In, Out, Err, Piece, message_of, ArePieces}

-- pieces as they are written
abbrev pub spelled : List Piece → List ℕ
spelled pieces = flat_map written (map message_of pieces)

pub spelled_one : (pieces : List Piece) (p : Piece) → spelled (pieces ++ p ∷ []) ≡ spelled pieces ++ written (message_of p)
spelled_one [] p = append-nil (written (message_of p))
spelled_one (q ∷ pieces) p = ap (λ r. written (message_of q) ++ r) (spelled_one pieces p) ∙ sym (append_assoc (written (message_of q)) (spelled pieces) (written (message_of p)))

-- one piece more, after what waits
pub spelled_behind : (head sent waiting : List ℕ) (pieces : List Piece) (p : Piece) → sent ++ waiting ≡ head ++ spelled pieces
    → sent ++ (waiting ++ written (message_of p)) ≡ head ++ spelled (pieces ++ p ∷ [])
spelled_behind head sent waiting pieces p is =
    sym (append_assoc sent waiting (written (message_of p))) ∙ ap (λ r. r ++ written (message_of p)) is ∙ append_assoc head (spelled pieces) (written (message_of p))
    ∙ ap (λ r. head ++ r) (sym (spelled_one pieces p))

pub each_one : (reads : Stream → Bool) (limit : ℕ) (pieces : List Piece) (p : Piece) → ArePieces reads limit pieces → ArePieces reads limit (p ∷ []) → ArePieces reads limit (pieces ++ p ∷ [])
each_one reads limit [] p each one = one
each_one reads limit (q ∷ pieces) p each one = (each.0, each_one reads limit pieces p each.1 one)

-- what has gone and what waits, after some of what waited has gone
pub gone_on : (sent waiting : List ℕ) (count : ℕ) → (sent ++ take count waiting) ++ drop count waiting ≡ sent ++ waiting
gone_on sent waiting count = append_assoc sent (take count waiting) (drop count waiting) ∙ ap (λ r. sent ++ r) (take-append-drop count waiting)

-- a beginning of a list, and then the next few
pub take_more : (xs : List ℕ) (n k : ℕ) → n ≤ length xs → take n xs ++ take k (drop n xs) ≡ take (n + k) xs
take_more xs n k within =
    let size : length (take n xs) ≡ n = length-take-le n xs within in
    sym (take-append-add (take n xs) (drop n xs) k) ∙ rw (size, take-append-drop n xs) refl

-- bytes that were written are some
pub written_some : (p : Piece) → 0 < length (written (message_of p))
written_some p = by_stream p.stream p.bytes
  where
    by_stream : (s : Stream) (bytes : List ℕ) → 0 < length (written (message_of (record { stream = s; bytes = bytes })))
    by_stream In bytes = omega arith
    by_stream Out bytes = omega arith
    by_stream Err bytes = omega arith
