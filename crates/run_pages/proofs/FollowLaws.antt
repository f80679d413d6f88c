-- The pages that are laid for a scenario follow one another as they are dealt.
use Rattle.std.proofs.Common.{◌≡◌, ◌≢◌, ◌⊎◌, inl, inr, ℕ, zero, suc, ◌+◌, ◌≤◌, List, [], ◌∷◌, ◌++◌, length, map, refl, ap, sym, ◌∙◌, subst, arith, append_assoc}
use Rattle.std.proofs.lemmas.List.{append-nil}
use Rattle.call_broker.specs.Domains.{first_port}
use Rattle.std.specs.Prelude.{◌==◌, true, false}
use Rattle.std.specs.List.{flat_map}
use Rattle.std.proofs.lemmas.Bool.Decides.{eqb_tells}
use Rattle.scenario_file.specs.Scenario.{Plan as Scenario}
use Rattle.task_duties.specs.declared.place.PagePlace.{PagePlace}
use Rattle.task_duties.specs.declared.place.PagePlace.TheVariants.{Control, Payload}
use Rattle.task_duties.specs.Places.{numbers}
use Rattle.task_duties.proofs.Places.{length_numbers}
use Rattle.run_laws.specs.Laid.{all_domains, pages_between, ports_between, laid_between, laid}
use Rattle.run_pages.specs.Dealt.{Follows, controls_in}

-- the next control pages, and then what follows them
controls_follow : (count k : ℕ) (rest : List PagePlace) → Follows (count + k) rest → Follows count (map Control (numbers (count + 1) 1 k) ++ rest)
controls_follow count zero rest f = subst (λ n. Follows n rest) (omega arith) f
controls_follow count (suc k) rest f = (refl, controls_follow (count + 1) k rest (subst (λ n. Follows n rest) (omega arith) f))

-- data pages between two domains that were dealt, and then what follows them
payload_follow : (count from to : ℕ) (ports : List ℕ) (rest : List PagePlace) → from ≢ to → 1 ≤ from → from ≤ count → 1 ≤ to → to ≤ count
    → Follows count rest → Follows count (map (Payload from to) ports ++ rest)
payload_follow count from to [] rest apart a b c d f = f
payload_follow count from to (port ∷ ports) rest apart a b c d f = (apart, a, b, c, d, payload_follow count from to ports rest apart a b c d f)

between_follow : (s : Scenario) (count from to : ℕ) (rest : List PagePlace) → 1 ≤ from → from ≤ count → 1 ≤ to → to ≤ count
    → Follows count rest → Follows count (laid_between s from to ++ rest)
between_follow s count from to rest a b c d f = by (eqb_tells from to)
  where
    by : (((from == to) ≡ true) × (from ≡ to)) ⊎ (((from == to) ≡ false) × (from ≢ to)) → Follows count (laid_between s from to ++ rest)
    by (inl e) =
        let none : pages_between s from to ≡ 0 = rw e.0 refl in
        subst (λ n. Follows count (map (Payload from to) (numbers (first_port from to) 2 n) ++ rest)) (sym none) f
    by (inr e) = payload_follow count from to (ports_between s from to) rest e.1 a b c d f

-- what is made of each of some numbers follows
numbers_follow : (made : ℕ → List PagePlace) (count from k : ℕ) (rest : List PagePlace) → 1 ≤ from → from + k ≤ count + 1
    → ((n : ℕ) (more : List PagePlace) → 1 ≤ n → n ≤ count → Follows count more → Follows count (made n ++ more))
    → Follows count rest → Follows count (flat_map made (numbers from 1 k) ++ rest)
numbers_follow made count from zero rest a b each f = f
numbers_follow made count from (suc k) rest a b each f =
    subst (Follows count) (sym (append_assoc (made from) (flat_map made (numbers (from + 1) 1 k)) rest))
    (each from (flat_map made (numbers (from + 1) 1 k) ++ rest) a (omega arith) (numbers_follow made count (from + 1) k rest (omega arith) (omega arith) each f))

pub laid_follows : (s : Scenario) → Follows 0 (laid s)
laid_follows s =
    let follows = subst (Follows count) (append-nil payload) (numbers_follow from_one count 1 count [] (omega arith) (omega arith) each_from tt) in
    controls_follow 0 count payload (subst (λ n. Follows n payload) (omega arith) follows)
  where
    count : ℕ
    count = length s.domains

    from_one : ℕ → List PagePlace
    from_one from = flat_map (laid_between s from) (all_domains s)

    payload : List PagePlace
    payload = flat_map from_one (all_domains s)

    each_from : (from : ℕ) (more : List PagePlace) → 1 ≤ from → from ≤ count → Follows count more → Follows count (from_one from ++ more)
    each_from from more a b f =
        numbers_follow (laid_between s from) count 1 count more (omega arith) (omega arith) (λ to rest c d. between_follow s count from to rest a b c d) f

-- ---- how many are control pages

pub controls_append : (xs ys : List PagePlace) → controls_in (xs ++ ys) ≡ controls_in xs + controls_in ys
controls_append [] ys = omega arith
controls_append (Control domain ∷ xs) ys = omega (arith, controls_append xs ys)
controls_append (Payload from to port ∷ xs) ys = controls_append xs ys

all_controls : (domains : List ℕ) → controls_in (map Control domains) ≡ length domains
all_controls [] = refl
all_controls (domain ∷ domains) = ap suc (all_controls domains)

no_controls : (from to : ℕ) (ports : List ℕ) → controls_in (map (Payload from to) ports) ≡ 0
no_controls from to [] = refl
no_controls from to (port ∷ ports) = no_controls from to ports

none_made : (made : ℕ → List PagePlace) (xs : List ℕ) → ((x : ℕ) → controls_in (made x) ≡ 0) → controls_in (flat_map made xs) ≡ 0
none_made made [] none = refl
none_made made (x ∷ xs) none = controls_append (made x) (flat_map made xs) ∙ omega (arith, none x, none_made made xs none)

pub controls_laid : (s : Scenario) → controls_in (laid s) ≡ length s.domains
controls_laid s =
    controls_append (map Control (all_domains s)) payload
    ∙ omega (
      arith,
      all_controls (all_domains s),
      length_numbers 1 1 (length s.domains),
      none_made (λ from. flat_map (laid_between s from) (all_domains s)) (all_domains s) (λ from. none_made (laid_between s from) (all_domains s) (λ to. no_controls from to (ports_between s from to))),
    )
  where
    payload : List PagePlace
    payload = flat_map (λ from. flat_map (laid_between s from) (all_domains s)) (all_domains s)
