-- Beginnings of lists.
use Rattle.std.proofs.Common.{List, ◌++◌, ap, sym, ◌∙◌, append_assoc, ◌≡◌, ◌≤◌, [], ◌∷◌, length, refl, arith}
use Rattle.std.proofs.lemmas.List.{length-append}
use Rattle.list_laws.specs.Lists.{IsPrefixOf}

pub prefix_trans : {A : Type 0} (xs ys zs : List A) → IsPrefixOf xs ys → IsPrefixOf ys zs → IsPrefixOf xs zs
prefix_trans xs ys zs p q = (p.0 ++ q.0, sym (append_assoc xs p.0 q.0) ∙ ap (λ r. r ++ q.0) p.1 ∙ q.1)

-- a prefix that is as long is all
pub prefix_all : {A : Type 0} (xs ys : List A) → IsPrefixOf xs ys → length ys ≤ length xs → xs ≡ ys
prefix_all [] [] p less = refl
prefix_all [] (y ∷ ys) p less = absurd (omega (arith, less))
prefix_all (x ∷ xs) [] p less = let e = p.1 in cc
prefix_all (x ∷ xs) (y ∷ ys) p less =
    let e = p.1 in
    let head : x ≡ y = cc in
    let tail : xs ++ p.0 ≡ ys = cc in
    let same = prefix_all xs ys (p.0, tail) (omega (arith, less)) in
    cc

-- a prefix is no longer
pub prefix_length : {A : Type 0} (xs ys : List A) → IsPrefixOf xs ys → length xs ≤ length ys
prefix_length {A} xs ys h = omega (arith, ap (λ (l : List A). length l) h.1, length-append xs h.0)
