-- What one more name leaves of an index.
use Rattle.std.proofs.Common.{◌≡◌, ℕ, ◌+◌, suc, List, [], ◌∷◌, length, ◌<◌, refl, ap, sym, ◌∙◌, arith, Option, Some, None, Less, Equal, Greater, Ordering}
use Rattle.std.specs.Prelude.{true, false, Bool, map, option_map, drop, bytes_eq, cond, if◌then◌else◌}
use Rattle.std.specs.Global.{Vec}
use Rattle.std.specs.Ordering.{is_eq, nat_cmp, match_ordering}
use Rattle.std.specs.Cmp.Lexicographic.{slice_cmp}
use Rattle.std.specs.Map.{lookup}
use Rattle.std.specs.BTreeMap.{insert_entry, is_at}
use Rattle.std.proofs.lemmas.Map.Text.{is_eq-slice_cmp}
use Rattle.std.proofs.lemmas.Slice.Eq.{bytes_eq-Decides}
use Rattle.std.proofs.Common.{get_or}
use Rattle.std.proofs.Math.Seq.{drop-cons}
use Rattle.std.proofs.lemmas.List.{drop-map}
use Rattle.std.proofs.lemmas.Bool.{false_from_ne_true}
use Rattle.call_broker.specs.declared.index.DomainEntry.{DomainEntry}
use Rattle.call_broker.specs.Domains.{place_of}

-- the order of names as keys
abbrev pub name_cmp : Vec ℕ → Vec ℕ → Ordering
name_cmp x y = slice_cmp nat_cmp x.items y.items

-- the entry's number, if its key is this name
abbrev pub has_name : List ℕ → Vec ℕ → Bool
has_name name key = is_at (λ (k : Vec ℕ). slice_cmp nat_cmp name k.items) key

pub has_name_is : (name : List ℕ) (key : Vec ℕ) → has_name name key ≡ bytes_eq name key.items
has_name_is name key = is_eq-slice_cmp name key.items

pub bytes_eq_sym : (xs ys : List ℕ) → bytes_eq xs ys ≡ bytes_eq ys xs
bytes_eq_sym xs ys = by_test (bytes_eq xs ys) refl
  where
    by_test : (b : Bool) → bytes_eq xs ys ≡ b → bytes_eq xs ys ≡ bytes_eq ys xs
    by_test true same = same ∙ sym ((bytes_eq-Decides ys xs).1 (sym ((bytes_eq-Decides xs ys).0 same)))
    by_test false apart = apart ∙ sym (false_from_ne_true (bytes_eq ys xs) (λ same. let back = (bytes_eq-Decides xs ys).1 (sym ((bytes_eq-Decides ys xs).0 same)) in cc))

-- keys that compare as equal have one name
same_key : (key other : Vec ℕ) → name_cmp key other ≡ Equal → key.items ≡ other.items
same_key key other e = (bytes_eq-Decides key.items other.items).0 (sym (is_eq-slice_cmp key.items other.items) ∙ ap is_eq e)

apart_key : (key other : Vec ℕ) → name_cmp key other ≡ Greater → (key.items ≡ other.items → ⊥)
apart_key key other e same = let yes = (bytes_eq-Decides key.items other.items).1 same in let no : is_eq (slice_cmp nat_cmp key.items other.items) ≡ false = ap is_eq e in let is = is_eq-slice_cmp key.items other.items in cc

-- a name in a map that got one more entry, or another value for an old one
pub lookup_inserted : (name : List ℕ) (key : Vec ℕ) (number : ℕ) (entries : List (Vec ℕ × ℕ))
    → lookup (has_name name) (insert_entry name_cmp entries key number) ≡ (if bytes_eq name key.items then Some number else lookup (has_name name) entries)
lookup_inserted name key number [] = ap (λ b. cond b (Some number) None) (has_name_is name key)
lookup_inserted name key number (e ∷ entries) = by_order (name_cmp key e.0) refl (lookup_inserted name key number entries)
  where
    by_order : (o : Ordering) → name_cmp key e.0 ≡ o → lookup (has_name name) (insert_entry name_cmp entries key number) ≡ (if bytes_eq name key.items then Some number else lookup (has_name name) entries)
        → lookup (has_name name) (match_ordering o ((key, number) ∷ e ∷ entries) ((e.0, number) ∷ entries) (e ∷ insert_entry name_cmp entries key number))
        ≡ (if bytes_eq name key.items then Some number else lookup (has_name name) (e ∷ entries))
    by_order Less is more = ap (λ b. cond b (Some number) (lookup (has_name name) (e ∷ entries))) (has_name_is name key)
    by_order Equal is more = by_name (bytes_eq name key.items) refl
      where
        here : has_name name e.0 ≡ bytes_eq name key.items
        here = has_name_is name e.0 ∙ ap (bytes_eq name) (sym (same_key key e.0 is))

        by_name : (b : Bool) → bytes_eq name key.items ≡ b → lookup (has_name name) ((e.0, number) ∷ entries) ≡ (if bytes_eq name key.items then Some number else lookup (has_name name) (e ∷ entries))
        by_name true named = rw (here, named) refl
        by_name false named = rw (here, named) refl
    by_order Greater is more = by_entry (has_name name e.0) refl
      where
        by_entry : (b : Bool) → has_name name e.0 ≡ b → lookup (has_name name) (e ∷ insert_entry name_cmp entries key number) ≡ (if bytes_eq name key.items then Some number else lookup (has_name name) (e ∷ entries))
        by_entry true found =
            let is_e : name ≡ e.0.items = (bytes_eq-Decides name e.0.items).0 (sym (has_name_is name e.0) ∙ found) in
            let not_key : bytes_eq name key.items ≡ false = false_from_ne_true (bytes_eq name key.items) (λ same. apart_key key e.0 is (sym ((bytes_eq-Decides name key.items).0 same) ∙ is_e)) in
            rw (found, not_key) refl
        by_entry false found = rw found more

shifted : (n m : ℕ) (o : Option ℕ) → n + 1 ≡ m → option_map (λ j. j + m + 1) o ≡ option_map (λ j. j + n + 1) (option_map suc o)
shifted n m None is = refl
shifted n m (Some j) is = ap Some (omega (arith, is))

-- one more name in front: the first of the names from this place on
pub first_more : (names : List (List ℕ)) (place : ℕ) (name : List ℕ) (last : Option ℕ) (front : List ℕ) → drop place names ≡ front ∷ drop (suc place) names
    → last ≡ option_map (λ j. j + (suc place) + 1) (place_of (drop (suc place) names) name)
    → (if bytes_eq name front then Some (place + 1) else last) ≡ option_map (λ j. j + place + 1) (place_of (drop place names) name)
first_more names place name last front split is = rw (split, bytes_eq_sym front name) (by_test (bytes_eq name front))
  where
    by_test : (b : Bool) → (if b then Some (place + 1) else last) ≡ option_map (λ j. j + place + 1) (if b then Some 0 else option_map suc (place_of (drop (suc place) names) name))
    by_test true = ap Some (omega arith)
    by_test false = is ∙ shifted place (suc place) (place_of (drop (suc place) names) name) (omega arith)

-- the name of the domain at a place, and those after it
pub drop_name : (domains : List DomainEntry) (place : ℕ) (d : DomainEntry) → place < length domains
    → drop place (map (λ x. x.name) domains) ≡ (get_or domains place d).name ∷ drop (suc place) (map (λ x. x.name) domains)
drop_name domains place d within =
    drop-map (λ (x : DomainEntry). x.name) place domains
    ∙ ap (λ r. map (λ (x : DomainEntry). x.name) r) (drop-cons domains place d within)
    ∙ ap (λ r. (get_or domains place d).name ∷ r) (sym (drop-map (λ (x : DomainEntry). x.name) (suc place) domains))
