-- Words on lists that the kit doesn't have. `AllByRecursion` of the kit, of each element, and `AllZip`, of each two
-- elements of two lists at one place, are called `Each` and `EachPair` here.
use Rattle.std.specs.Prelude.{◌≡◌, ◌⊎◌, List, [], ◌∷◌, ◌++◌, IsPermutation, ◌≢◌}
use Rattle.std.specs.List.{AllByRecursion as Each}

-- the first list begins the second
abbrev pub IsPrefixOf : {A : Type 0} → List A → List A → Type 0
IsPrefixOf {A} xs ys = (rest : List A) × (xs ++ rest ≡ ys)

-- some element has P
abbrev pub SomeOf : {A : Type 0} → (A → Type 0) → List A → Type 0
SomeOf P [] = ⊥
SomeOf P (x ∷ xs) = P x ⊎ SomeOf P xs

-- the first list has some of the second's elements, each at most as often, in any order
abbrev pub IsPartOf : {A : Type 0} → List A → List A → Type 0
IsPartOf {A} some all = (rest : List A) × IsPermutation (some ++ rest) all

-- no element comes twice
abbrev pub AreDifferent : {A : Type 0} → List A → Type 0
AreDifferent [] = Unit {0}
AreDifferent {A} (x ∷ xs) = Each (λ (y : A). x ≢ y) xs × AreDifferent xs
