use Rattle.std.proofs.Common.{◌≡◌, ℕ, ◌+◌, ◌<◌, ◌≤◌, ◌⊎◌, get_or, length}
use Rattle.ring_words.specs.Image.{byte_of}
use Rattle.ring_words.proofs.image.put_bytes.Given as goal

abbrev pub invariant-loop-at : goal.invariant-loop-at
invariant-loop-at l = record {
  same_length : length l.image ≡ length l.initial.image;
  inside : (k : ℕ) → k < l.at → get_or l.image (l.offset + k) 0 ≡ byte_of (get_or l.words k 0) 0;
  outside : (k : ℕ) → (k < l.offset) ⊎ (l.offset + l.at ≤ k) → get_or l.image k 0 ≡ get_or l.initial.image k 0;
}
