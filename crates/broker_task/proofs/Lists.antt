-- Lists whose elements are changed in place, and lists in step.
use Rattle.std.proofs.Common.{◌≡◌, ℕ, ◌<◌, suc, zero, List, [], ◌∷◌, length, map, get_or, refl, sym, ap, ◌∙◌, arith}
use Rattle.std.proofs.Math.ListN.{set}
use Rattle.broker_task.specs.Letters.{IsAt}

-- a list of which the first few elements were changed
abbrev pub mapped : {A : Type 0} → (A → A) → List A → ℕ → List A
mapped f [] n = []
mapped f (x ∷ xs) zero = x ∷ xs
mapped f (x ∷ xs) (suc n) = f x ∷ mapped f xs n

pub mapped_none : {A : Type 0} (f : A → A) (xs : List A) → mapped f xs 0 ≡ xs
mapped_none f [] = refl
mapped_none f (x ∷ xs) = refl

pub mapped_all : {A : Type 0} (f : A → A) (xs : List A) → mapped f xs (length xs) ≡ map f xs
mapped_all f [] = refl
mapped_all f (x ∷ xs) = ap (λ r. f x ∷ r) (mapped_all f xs)

pub mapped_next : {A : Type 0} (f : A → A) (xs : List A) (n : ℕ) (x : A) → n < length xs → x ≡ get_or (mapped f xs n) n x → set (mapped f xs n) n (f x) ≡ mapped f xs (suc n)
mapped_next f [] n x less is = absurd (omega (arith, less))
mapped_next f (y ∷ xs) zero x less is = ap (λ z. f z ∷ xs) is ∙ ap (λ r. f y ∷ r) (sym (mapped_none f xs))
mapped_next f (y ∷ xs) (suc n) x less is = ap (λ r. f y ∷ r) (mapped_next f xs n x (omega (arith, less)) is)

-- ---- elements at their places

pub at_mapped : {A B : Type 0} (f : A → B) (xs : List A) (i : ℕ) (y : B) → IsAt (map f xs) i y → (x : A) × IsAt xs i x × (y ≡ f x)
at_mapped f [] i y at = absurd (omega (arith, at.within))
at_mapped f (x ∷ xs) zero y at = (x, record { within = omega arith; is = refl }, at.is)
at_mapped f (x ∷ xs) (suc i) y at =
    let rest = at_mapped f xs i y (record { within = omega (arith, at.within); is = at.is }) in
    (rest.0, record { within = omega (arith, rest.1.within); is = rest.1.is }, rest.2)

pub mapped_at : {A B : Type 0} (f : A → B) (xs : List A) (i : ℕ) (x : A) → IsAt xs i x → IsAt (map f xs) i (f x)
mapped_at f [] i x at = absurd (omega (arith, at.within))
mapped_at f (y ∷ xs) zero x at = record { within = omega arith; is = ap f at.is }
mapped_at f (y ∷ xs) (suc i) x at =
    let rest = mapped_at f xs i x (record { within = omega (arith, at.within); is = at.is }) in
    record { within = omega (arith, rest.within); is = rest.is }

pub at_one : {A : Type 0} (xs : List A) (i : ℕ) (x y : A) → IsAt xs i x → IsAt xs i y → x ≡ y
at_one [] i x y a b = absurd (omega (arith, a.within))
at_one (z ∷ xs) zero x y a b = a.is ∙ sym b.is
at_one (z ∷ xs) (suc i) x y a b = at_one xs i x y (record { within = omega (arith, a.within); is = a.is }) (record { within = omega (arith, b.within); is = b.is })
