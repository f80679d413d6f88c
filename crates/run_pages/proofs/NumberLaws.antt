-- Lists over numbers, one number more.
use Rattle.std.proofs.Common.{◌≡◌, ℕ, zero, suc, ◌+◌, ◌*◌, List, [], ◌∷◌, ◌++◌, map, ap, sym, ◌∙◌, arith, append_assoc}
use Rattle.std.specs.List.{flat_map}
use Rattle.std.proofs.lemmas.List.{append-nil, map-append}
use Rattle.std.proofs.lemmas.Grind.{flat_map-append}
use Rattle.task_duties.specs.Places.{numbers}

numbers_more : (from by k : ℕ) → numbers from by (suc k) ≡ numbers from by k ++ (from + by * k) ∷ []
numbers_more from by zero = ap (λ n. n ∷ []) (omega arith)
numbers_more from by (suc k) = ap (λ l. from ∷ l) (numbers_more (from + by) by k ∙ ap (λ n. numbers (from + by) by k ++ n ∷ []) (omega arith))

-- what is made of the numbers, after what was there before
pub map_more : {A : Type 0} (f : ℕ → A) (from by k n : ℕ) (old now : List A) → n ≡ from + by * k
    → now ≡ old ++ map f (numbers from by k) → now ++ f n ∷ [] ≡ old ++ map f (numbers from by (k + 1))
map_more f from by k n old now e is =
    let up : suc k ≡ k + 1 = omega arith in
    ap (λ l. l ++ f n ∷ []) is ∙ append_assoc old (map f (numbers from by k)) (f n ∷ [])
    ∙ ap (λ l. old ++ l) (ap (λ m. map f (numbers from by k) ++ f m ∷ []) e ∙ sym (map-append f (numbers from by k) ((from + by * k) ∷ []))
    ∙ ap (map f) (sym (numbers_more from by k)) ∙ ap (λ m. map f (numbers from by m)) up)

pub flat_more : {A : Type 0} (f : ℕ → List A) (from by k n : ℕ) (old now : List A) → n ≡ from + by * k
    → now ≡ old ++ flat_map f (numbers from by k) → now ++ f n ≡ old ++ flat_map f (numbers from by (k + 1))
flat_more f from by k n old now e is =
    let up : suc k ≡ k + 1 = omega arith in
    ap (λ l. l ++ f n) is ∙ append_assoc old (flat_map f (numbers from by k)) (f n)
    ∙ ap (λ l. old ++ l) (ap (λ l. flat_map f (numbers from by k) ++ l) (sym (append-nil (f n)) ∙ ap (λ m. f m ++ []) e)
    ∙ sym (flat_map-append f (numbers from by k) ((from + by * k) ∷ []))
    ∙ ap (flat_map f) (sym (numbers_more from by k)) ∙ ap (λ m. flat_map f (numbers from by m)) up)
