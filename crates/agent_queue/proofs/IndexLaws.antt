-- An index of idents that is filled from its last one to its first, and targets that are noted forward.
use Rattle.std.proofs.Common.{◌≡◌, ℕ, ◌+◌, ◌++◌, ◌<◌, ◌^◌, suc, List, ◌∷◌, [], refl, ap, sym, subst, ◌∙◌, arith, lit<, length, take, drop, append_assoc, Option, Some, None}
use Rattle.std.specs.Prelude.{true, false, Bool, bytes_eq, codes, cond, option_map, option_and_then, if◌then◌else◌}
use Rattle.std.specs.Ordering.{is_eq, nat_cmp}
use Rattle.std.specs.Cmp.Lexicographic.{slice_cmp}
use Rattle.std.specs.BTreeMap.{BTreeMap}
use Rattle.std.specs.BTreeMap as tree
use Rattle.std.specs.Map.{lookup}
use Rattle.std.proofs.lemmas.Bool.Decides.{nat_tests}
use Rattle.std.proofs.lemmas.Map.Text.{is_eq-slice_cmp}
use Rattle.std.proofs.lemmas.List.{append-nil, length-append, take-append-drop}
use Rattle.std.proofs.lemmas.Slice.Eq.{bytes_eq-Decides}
use Rattle.std.proofs.lemmas.Bool.{false_from_ne_true}
use Rattle.script_words.specs.Numbers.{number_of}
use Rattle.service_gate.proofs.Numbers.{number_of_decimal, spelled}
use Rattle.call_broker.specs.Domains.{place_of}
use Rattle.call_broker.proofs.IndexLaws.{bytes_eq_sym}
use Rattle.task_duties.specs.Words.{ident_of}
use Rattle.agent_queue.specs.Index.{number_in, place_in, target_in, HasTargets}
use denote.Ref.{Bor}

-- ---- idents and numbers

-- an ident that names a number is its ident
pub named_is : (ident : List ℕ) (number : ℕ) → number_in ident ≡ Some number → (number < 2 ^ 32) × (ident ≡ ident_of number)
named_is ident number is = by_prefix (bytes_eq (take 5 ident) (codes "call-")) refl is
  where
    by_prefix : (b : Bool) → bytes_eq (take 5 ident) (codes "call-") ≡ b → option_and_then (number_of 4294967295) (if b then Some (drop 5 ident) else None) ≡ Some number → (number < 2 ^ 32) × (ident ≡ ident_of number)
    by_prefix true begins named =
        let s = spelled 4294967295 (drop 5 ident) number (lit< tt) named in
        let front : take 5 ident ≡ codes "call-" = (bytes_eq-Decides (take 5 ident) (codes "call-")).0 begins in
        (omega (arith, s.0), sym (take-append-drop 5 ident) ∙ (ap (λ p. p ++ drop 5 ident) front ∙ ap (λ d. codes "call-" ++ d) s.1))
    by_prefix false begins named = cc

-- the ident of a number names it
pub ident_names : (number : ℕ) → number < 2 ^ 32 → number_in (ident_of number) ≡ Some number
ident_names number small = number_of_decimal 4294967295 number (lit< tt) (omega (arith, small))

same_number : (n k : ℕ) → is_eq (nat_cmp n k) ≡ true → n ≡ k
same_number n k e = grind (arith, nat_tests, e)

number_self : (n : ℕ) → is_eq (nat_cmp n n) ≡ true
number_self n = grind (arith, nat_tests)

-- what an index has for each ident once it has a place for one more number
pub place_noted : (old new : BTreeMap ℕ ℕ) (number place : ℕ) → number < 2 ^ 32 → ((q : ℕ) → tree.get nat_cmp new q ≡ cond (is_eq (nat_cmp number q)) (Some place) (tree.get nat_cmp old q))
    → (ident : List ℕ) → place_in new ident ≡ (if bytes_eq ident (ident_of number) then Some place else place_in old ident)
place_noted old new number place small put ident = by_number (number_in ident) refl
  where
    by_number : (o : Option ℕ) → number_in ident ≡ o → option_and_then (tree.get nat_cmp new) o ≡ (if bytes_eq ident (ident_of number) then Some place else option_and_then (tree.get nat_cmp old) o)
    by_number None is =
        let apart : bytes_eq ident (ident_of number) ≡ false =
        false_from_ne_true (bytes_eq ident (ident_of number)) (λ same. let e : None ≡ Some number = sym is ∙ (ap number_in ((bytes_eq-Decides ident (ident_of number)).0 same) ∙ ident_names number small) in cc) in
        rw apart refl
    by_number (Some k) is = by_same (is_eq (nat_cmp number k)) refl
      where
        named : ident ≡ ident_of k
        named = (named_is ident k is).1

        by_same : (b : Bool) → is_eq (nat_cmp number k) ≡ b → tree.get nat_cmp new k ≡ (if bytes_eq ident (ident_of number) then Some place else tree.get nat_cmp old k)
        by_same true same =
            let here : bytes_eq ident (ident_of number) ≡ true = (bytes_eq-Decides ident (ident_of number)).1 (named ∙ ap ident_of (sym (same_number number k same))) in
            put k ∙ (ap (λ b. cond b (Some place) (tree.get nat_cmp old k)) same ∙ rw here refl)
        by_same false other =
            let apart : bytes_eq ident (ident_of number) ≡ false =
            false_from_ne_true (bytes_eq ident (ident_of number)) (λ same.
            let e : Some k ≡ Some number = sym is ∙ (ap number_in ((bytes_eq-Decides ident (ident_of number)).0 same) ∙ ident_names number small) in
            let e' : k ≡ number = cc in
            let w : false ≡ true = sym other ∙ (ap (λ n. is_eq (nat_cmp number n)) e' ∙ number_self number) in
            cc) in
            put k ∙ (ap (λ b. cond b (Some place) (tree.get nat_cmp old k)) other ∙ rw apart refl)

-- an index with no numbers
pub empty_places : (index : BTreeMap ℕ ℕ) → tree.IsEmpty index → (ident : List ℕ) → place_in index ident ≡ None
empty_places index empty ident = by_number (number_in ident)
  where
    by_number : (o : Option ℕ) → option_and_then (tree.get nat_cmp index) o ≡ None
    by_number None = refl
    by_number (Some k) = ap (λ entries. lookup (tree.is_at (nat_cmp k)) entries) empty

-- ---- filled from its last ident to its first

-- the places that an index has while the first of all its names are left
pub record IsFilled (places : List ℕ → Option ℕ) (left all : List (List ℕ)) : Type 0 where
  pub names : List (List ℕ)
  pub whole : left ++ names ≡ all
  pub first : (name : List ℕ) → places name ≡ option_map (λ j. j + length left) (place_of names name)

shifted : (n m : ℕ) (o : Option ℕ) → n + 1 ≡ m → option_map (λ j. j + m) o ≡ option_map (λ j. j + n) (option_map suc o)
shifted n m None is = refl
shifted n m (Some j) is = ap Some (omega (arith, is))

-- one more name in front
first_place : (names : List (List ℕ)) (place : ℕ) (name front : List ℕ) (last : Option ℕ) → last ≡ option_map (λ j. j + suc place) (place_of names name)
    → (if bytes_eq name front then Some place else last) ≡ option_map (λ j. j + place) (place_of (front ∷ names) name)
first_place names place name front last is = rw (bytes_eq_sym front name) (by_test (bytes_eq name front))
  where
    by_test : (b : Bool) → (if b then Some place else last) ≡ option_map (λ j. j + place) (if b then Some 0 else option_map suc (place_of names name))
    by_test true = ap Some (omega arith)
    by_test false = is ∙ shifted place (suc place) (place_of names name) (omega arith)

pub filled_none : (places : List ℕ → Option ℕ) (all : List (List ℕ)) → ((name : List ℕ) → places name ≡ None) → IsFilled places all all
filled_none places all none = record { names = []; whole = append-nil all; first = none }

pub filled_more : (places more : List ℕ → Option ℕ) (left new all : List (List ℕ)) (front : List ℕ) → left ≡ new ++ front ∷ []
    → ((name : List ℕ) → more name ≡ (if bytes_eq name front then Some (length new) else places name)) → IsFilled places left all → IsFilled more new all
filled_more places more left new all front split is f =
    let long : length left ≡ suc (length new) = ap length split ∙ length-append new (front ∷ []) ∙ omega arith in
    record {
      names = front ∷ f.names;
      whole = sym (append_assoc new (front ∷ []) f.names) ∙ (ap (λ l. l ++ f.names) (sym split) ∙ f.whole);
      first = λ name. is name ∙ first_place f.names (length new) name front (places name) (subst (λ n. places name ≡ option_map (λ j. j + n) (place_of f.names name)) long (f.first name));
    }

-- ---- filled forward

-- a name with others behind
pub place_found : (names rest : List (List ℕ)) (name : List ℕ) (k : ℕ) → place_of names name ≡ Some k → place_of (names ++ rest) name ≡ Some k
place_found [] rest name k is = cc
place_found (n ∷ names) rest name k is = by_test (bytes_eq n name) (place_of names name) refl is (λ j. place_found names rest name j)
  where
    by_test : (b : Bool) (o : Option ℕ) → place_of names name ≡ o → (if b then Some 0 else option_map suc o) ≡ Some k → ((j : ℕ) → place_of names name ≡ Some j → place_of (names ++ rest) name ≡ Some j)
        → (if b then Some 0 else option_map suc (place_of (names ++ rest) name)) ≡ Some k
    by_test true o at e more = e
    by_test false None at e more = cc
    by_test false (Some j) at e more = ap (option_map suc) (more j at) ∙ e

place_other : (names : List (List ℕ)) (name last : List ℕ) → bytes_eq last name ≡ false → place_of (names ++ last ∷ []) name ≡ place_of names name
place_other [] name last apart = rw apart refl
place_other (n ∷ names) name last apart = ap (λ o. if bytes_eq n name then Some 0 else option_map suc o) (place_other names name last apart)

place_last : (names : List (List ℕ)) (name : List ℕ) → place_of names name ≡ None → place_of (names ++ name ∷ []) name ≡ Some (length names)
place_last [] name none = let same = (bytes_eq-Decides name name).1 refl in rw same refl
place_last (n ∷ names) name none = by_test (bytes_eq n name) (place_of names name) refl none (λ at. place_last names name at)
  where
    by_test : (b : Bool) (o : Option ℕ) → place_of names name ≡ o → (if b then Some 0 else option_map suc o) ≡ None → (place_of names name ≡ None → place_of (names ++ name ∷ []) name ≡ Some (length names))
        → (if b then Some 0 else option_map suc (place_of (names ++ name ∷ []) name)) ≡ Some (suc (length names))
    by_test true o at e more = cc
    by_test false None at e more = ap (option_map suc) (more at)
    by_test false (Some j) at e more = cc

-- one more target that has a place already
pub target_known : (names : List (List ℕ)) (targets : BTreeMap (Bor (List ℕ)) ℕ) (last : List ℕ) (k : ℕ) → target_in targets last ≡ Some k → HasTargets names targets
    → HasTargets (names ++ last ∷ []) targets × (place_of (names ++ last ∷ []) last ≡ Some k)
target_known names targets last k there is = (record { first = λ name. is.first name ∙ sym (by_test name (bytes_eq last name) refl) }, place_found names (last ∷ []) last k (sym (is.first last) ∙ there))
  where
    by_test : (name : List ℕ) (b : Bool) → bytes_eq last name ≡ b → place_of (names ++ last ∷ []) name ≡ place_of names name
    by_test name true same =
        let e : last ≡ name = (bytes_eq-Decides last name).0 same in
        let at : place_of names name ≡ Some k = sym (is.first name) ∙ (ap (target_in targets) (sym e) ∙ there) in
        place_found names (last ∷ []) name k at ∙ sym at
    by_test name false apart = place_other names name last apart

-- one more target that has no place yet
pub target_new : (names : List (List ℕ)) (old new : BTreeMap (Bor (List ℕ)) ℕ) (last : List ℕ) → target_in old last ≡ None → ((name : List ℕ) → target_in new name ≡ (if bytes_eq name last then Some (length names) else target_in old name))
    → HasTargets names old → HasTargets (names ++ last ∷ []) new × (place_of (names ++ last ∷ []) last ≡ Some (length names))
target_new names old new last none put is = (record { first = λ name. put name ∙ by_test name (bytes_eq name last) refl }, place_last names last (sym (is.first last) ∙ none))
  where
    by_test : (name : List ℕ) (b : Bool) → bytes_eq name last ≡ b → (if b then Some (length names) else target_in old name) ≡ place_of (names ++ last ∷ []) name
    by_test name true same =
        let e : name ≡ last = (bytes_eq-Decides name last).0 same in
        let none' : place_of names name ≡ None = sym (is.first name) ∙ (ap (target_in old) e ∙ none) in
        sym (place_last names name none') ∙ ap (λ l. place_of (names ++ l ∷ []) name) e
    by_test name false apart = is.first name ∙ sym (place_other names name last (bytes_eq_sym last name ∙ apart))

-- no targets
pub no_targets : (targets : BTreeMap (Bor (List ℕ)) ℕ) → tree.IsEmpty targets → HasTargets [] targets
no_targets targets empty = record { first = λ name. ap (λ entries. lookup (tree.is_at (λ (k : Bor (List ℕ)). slice_cmp nat_cmp name k.now)) entries) empty }

-- what targets have for each name once they have a place for one more
pub target_noted : (old new : BTreeMap (Bor (List ℕ)) ℕ) (key : Bor (List ℕ)) (place : ℕ)
    → ((q : Bor (List ℕ)) → target_in new q.now ≡ cond (is_eq (slice_cmp nat_cmp key.now q.now)) (Some place) (target_in old q.now)) → (name : List ℕ) → target_in new name ≡ (if bytes_eq name key.now then Some place else target_in old name)
target_noted old new key place put name =
    let at : target_in new name ≡ cond (is_eq (slice_cmp nat_cmp key.now name)) (Some place) (target_in old name) = put (record key { now = name }) in
    let same : is_eq (slice_cmp nat_cmp key.now name) ≡ bytes_eq name key.now = is_eq-slice_cmp key.now name ∙ bytes_eq_sym key.now name in
    at ∙ by_test (is_eq (slice_cmp nat_cmp key.now name)) (bytes_eq name key.now) same
  where
    by_test : (b d : Bool) → b ≡ d → cond b (Some place) (target_in old name) ≡ (if d then Some place else target_in old name)
    by_test true true e = refl
    by_test false false e = refl
    by_test true false e = cc
    by_test false true e = cc
