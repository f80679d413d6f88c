-- Words that are stored or loaded one after another.
use Rattle.std.proofs.Common.{◌≡◌, ℕ, suc, zero, ◌+◌, ◌<◌, ◌≤◌, ◌%◌, List, [], ◌∷◌, ◌++◌, length, take, drop, get_or, slice_index, slice_set, refl, sym, ap, ◌∙◌, arith, append_assoc}
use Rattle.std.proofs.lemmas.List.{length-set, length-take, take_more, take_more_set, take-append-drop, drop-set-lt}
use Rattle.std.proofs.Math.Seq.{drop-cons, set-append_seam}
use Rattle.ring_words.specs.Overwritten.{overwritten, low_bytes}

pub length_overwritten : (list : List ℕ) (first : ℕ) (values : List ℕ) → length (overwritten list first values) ≡ length list
length_overwritten list first [] = refl
length_overwritten list first (value ∷ values) = length_overwritten (slice_set list first value) (first + 1) values ∙ length-set list first value

-- one more value is stored after the others
pub overwritten_push : (list : List ℕ) (first : ℕ) (values : List ℕ) (value : ℕ) → overwritten list first (values ++ value ∷ []) ≡ slice_set (overwritten list first values) (first + length values) value
overwritten_push list first [] value = let same : first ≡ first + 0 = omega arith in ap (λ (k : ℕ). slice_set list k value) same
overwritten_push list first (head ∷ values) value =
    let same : first + 1 + length values ≡ first + length (head ∷ values) = omega arith in
    overwritten_push (slice_set list first head) (first + 1) values value
    ∙ ap (λ (k : ℕ). slice_set (overwritten (slice_set list first head) (first + 1) values) k value) same

pub overwritten_more : (list : List ℕ) (first : ℕ) (values : List ℕ) (i : ℕ) → i < length values →
    overwritten list first (take (i + 1) values) ≡ slice_set (overwritten list first (take i values)) (first + i) (slice_index values i)
overwritten_more list first values i h =
    let whole : length (take i values) ≡ i = omega (arith, length-take i values) in
    ap (λ (l : List ℕ). overwritten list first l) (take_more values i 0 h) ∙ overwritten_push list first (take i values) (slice_index values i)
    ∙ ap (λ (k : ℕ). slice_set (overwritten list first (take i values)) (first + k) (slice_index values i)) whole

pub length_low_bytes : (list : List ℕ) (first count : ℕ) → length (low_bytes list first count) ≡ count
length_low_bytes list first zero = refl
length_low_bytes list first (suc count) = ap suc (length_low_bytes list (first + 1) count)

pub low_bytes_push : (list : List ℕ) (first count : ℕ) → low_bytes list first (suc count) ≡ low_bytes list first count ++ slice_index list (first + count) % 256 ∷ []
low_bytes_push list first zero = let same : first ≡ first + 0 = omega arith in ap (λ (k : ℕ). slice_index list k % 256 ∷ []) same
low_bytes_push list first (suc count) =
    let same : first + 1 + count ≡ first + suc count = omega arith in
    ap (λ (l : List ℕ). slice_index list first % 256 ∷ l) (low_bytes_push list (first + 1) count)
    ∙ ap (λ (k : ℕ). slice_index list first % 256 ∷ (low_bytes list (first + 1) count ++ slice_index list k % 256 ∷ [])) same

-- one more word is loaded into the buffer
pub loaded_more : (list buffer : List ℕ) (first count : ℕ) → count < length buffer →
    slice_set (low_bytes list first count ++ drop count buffer) count (slice_index list (first + count) % 256) ≡ low_bytes list first (count + 1) ++ drop (count + 1) buffer
loaded_more list buffer first count h =
    let bytes = low_bytes list first count in
    let value = slice_index list (first + count) % 256 in
    let more : suc count ≡ count + 1 = omega arith in
    ap (λ (l : List ℕ). slice_set (bytes ++ l) count value) (drop-cons buffer count 0 h)
    ∙ ap (λ (k : ℕ). slice_set (bytes ++ get_or buffer count 0 ∷ drop (suc count) buffer) k value) (sym (length_low_bytes list first count))
    ∙ set-append_seam bytes (get_or buffer count 0) (drop (suc count) buffer) value
    ∙ sym (append_assoc bytes (value ∷ []) (drop (suc count) buffer))
    ∙ ap (λ (l : List ℕ). l ++ drop (suc count) buffer) (sym (low_bytes_push list first count))
    ∙ ap (λ (k : ℕ). low_bytes list first k ++ drop k buffer) more

-- values that overwrite a part of a list stand between what was before and after them
pub overwritten_is : (list : List ℕ) (first : ℕ) (values : List ℕ) → first + length values ≤ length list → overwritten list first values ≡ take first list ++ (values ++ drop (length values) (drop first list))
overwritten_is list first [] h = sym (take-append-drop first list)
overwritten_is list first (value ∷ values) h =
    let more : suc first ≡ first + 1 = omega arith in
    let list' = slice_set list first value in
    let front : take (first + 1) list' ≡ take first list ++ value ∷ [] = take_more_set list first value (omega arith) in
    let behind : drop (length values) (drop (first + 1) list') ≡ drop (length (value ∷ values)) (drop first list) =
    ap (λ (l : List ℕ). drop (length values) l) (drop-set-lt (first + 1) list first value (omega arith))
    ∙ sym (ap (λ (l : List ℕ). drop (length (value ∷ values)) l) (drop-cons list first 0 (omega arith)) ∙ ap (λ (k : ℕ). drop (length values) (drop k list)) more) in
    overwritten_is list' (first + 1) values (omega (arith, length-set list first value))
    ∙ ap (λ (l : List ℕ). l ++ (values ++ drop (length values) (drop (first + 1) list'))) front
    ∙ append_assoc (take first list) (value ∷ []) (values ++ drop (length values) (drop (first + 1) list'))
    ∙ ap (λ (l : List ℕ). take first list ++ (value ∷ (values ++ l))) behind
