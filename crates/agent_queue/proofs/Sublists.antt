-- Some elements of a list, in its order: more about them.
use Rattle.std.proofs.Common.{List, [], ◌∷◌, ◌++◌, refl, ◌∙◌, inl, inr}
use Rattle.task_duties.proofs.SubLists.{Sub, sub_more}

pub sub_same : {A : Type 0} (xs : List A) → Sub xs xs
sub_same [] = tt
sub_same (x ∷ xs) = inl (refl, sub_same xs)

pub sub_right : {A : Type 0} (xs ys zs : List A) → Sub xs zs → Sub xs (ys ++ zs)
sub_right xs [] zs h = h
sub_right xs (y ∷ ys) zs h = sub_more y xs (ys ++ zs) (sub_right xs ys zs h)

pub sub_joined : {A : Type 0} (us vs xs ys : List A) → Sub us xs → Sub vs ys → Sub (us ++ vs) (xs ++ ys)
sub_joined [] vs xs ys h k = sub_right vs xs ys k
sub_joined (a ∷ us) vs [] ys h k = absurd h
sub_joined (a ∷ us) vs (x ∷ xs) ys (inl h) k = inl (h.0, sub_joined us vs xs ys h.1 k)
sub_joined (a ∷ us) vs (x ∷ xs) ys (inr h) k = inr (sub_joined (a ∷ us) vs xs ys h k)

pub sub_of : {A : Type 0} (xs ys zs : List A) → Sub xs ys → Sub ys zs → Sub xs zs
sub_of [] ys zs h k = tt
sub_of (x ∷ xs) [] zs h k = absurd h
sub_of (x ∷ xs) (y ∷ ys) [] h k = absurd k
sub_of (x ∷ xs) (y ∷ ys) (z ∷ zs) (inl h) (inl k) = inl (h.0 ∙ k.0, sub_of xs ys zs h.1 k.1)
sub_of (x ∷ xs) (y ∷ ys) (z ∷ zs) (inr h) (inl k) = inr (sub_of (x ∷ xs) ys zs h k.1)
sub_of (x ∷ xs) (y ∷ ys) (z ∷ zs) h (inr k) = inr (sub_of (x ∷ xs) (y ∷ ys) zs h k)
