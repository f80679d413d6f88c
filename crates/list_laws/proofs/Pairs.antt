-- What holds of each pair of two lists in step.
use Rattle.std.proofs.Common.{List, [], ◌∷◌, ◌++◌, ◌≡◌, refl, ap}
use Rattle.std.specs.List.{AllZip as EachPair}

-- two lists in step, with one element more in each
pub pairs_push : {A B : Type 0} (R : A → B → Type 0) (xs : List A) (ys : List B) (x : A) (y : B) → EachPair R xs ys → R x y → EachPair R (xs ++ x ∷ []) (ys ++ y ∷ [])
pairs_push R [] [] x y all one = (one, tt)
pairs_push R [] (b ∷ bs) x y all one = absurd all
pairs_push R (a ∷ others) [] x y all one = absurd all
pairs_push R (a ∷ others) (b ∷ bs) x y all one = (all.0, pairs_push R others bs x y all.1 one)

pub pairs_append : {A B : Type 0} (R : A → B → Type 0) (xs more : List A) (ys some : List B) → EachPair R xs ys → EachPair R more some → EachPair R (xs ++ more) (ys ++ some)
pairs_append R [] more [] some e f = f
pairs_append R (x ∷ xs) more (y ∷ ys) some e f = (e.0, pairs_append R xs more ys some e.1 f)
pairs_append R [] more (y ∷ ys) some e f = absurd e
pairs_append R (x ∷ xs) more [] some e f = absurd e

-- the last pair of two lists
pub record LastPair {A B : Type 0} (R : A → B → Type 0) (xs : List A) (x : A) (ys : List B) : Type 0 where
  pub rest : List B
  pub last : B
  pub is : ys ≡ rest ++ last ∷ []
  pub pairs : EachPair R xs rest
  pub pair : R x last

pub last_pair : {A B : Type 0} (R : A → B → Type 0) (xs : List A) (x : A) (ys : List B) → EachPair R (xs ++ x ∷ []) ys → LastPair R xs x ys
last_pair R [] x [] e = absurd e
last_pair R [] x (y ∷ []) e = record { rest = []; last = y; is = refl; pairs = tt; pair = e.0 }
last_pair R [] x (y ∷ z ∷ ys) e = absurd e.1
last_pair R (a ∷ xs) x [] e = absurd e
last_pair R (a ∷ xs) x (y ∷ ys) e = up (last_pair R xs x ys e.1)
  where
    up : LastPair R xs x ys → LastPair R (a ∷ xs) x (y ∷ ys)
    up l = record { rest = y ∷ l.rest; last = l.last; is = ap (λ m. y ∷ m) l.is; pairs = (e.0, l.pairs); pair = l.pair }
