-- Ports-apart, with the table of pages that the broker was given.
use Rattle.std.proofs.Common.{◌≡◌, ℕ, ◌+◌, ◌-◌, ◌*◌, ◌<◌, suc, zero, List, [], ◌∷◌, ◌++◌, length, map, refl, ap, ◌∙◌, arith}
use Rattle.std.specs.Prelude.{true, slice_index_or, is_some}
use Rattle.std.specs.List.{flat_map}
use Rattle.std.proofs.lemmas.List.{length-map}
use Rattle.call_broker.specs.Domains.{pages_of, first_port, port_after, count_of}
use Rattle.call_broker.proofs.PortLaws.{ports_apart_lem}
use Rattle.call_broker.specs.Laws.{ports_from}
use Rattle.scenario_file.specs.Scenario.{Plan as Scenario, domain_of}
use Rattle.task_duties.specs.Places.{numbers}
use Rattle.task_duties.proofs.Places.{length_numbers}
use Rattle.run_laws.specs.Laid.{pages_between, hub_of}
use Rattle.run_laws.specs.Laws.{PortsApart}
use Rattle.run_laws.proofs.Scenarios.Numbers.{domain_is}

index_beyond : (xs ys : List ℕ) (k : ℕ) → slice_index_or (xs ++ ys) (length xs + k) 0 ≡ slice_index_or ys k 0
index_beyond [] ys k = let e : 0 + k ≡ k = omega arith in rw e refl
index_beyond (x ∷ xs) ys k = let e : suc (length xs) + k ≡ suc (length xs + k) = omega arith in rw e (index_beyond xs ys k)

index_within : (xs ys : List ℕ) (k : ℕ) → k < length xs → slice_index_or (xs ++ ys) k 0 ≡ slice_index_or xs k 0
index_within [] ys k less = absurd (omega (arith, less))
index_within (x ∷ xs) ys zero less = refl
index_within (x ∷ xs) ys (suc k) less = index_within xs ys k (omega (arith, less))

pub index_numbers : (g : ℕ → ℕ) (from count k : ℕ) → k < count → slice_index_or (map g (numbers from 1 count)) k 0 ≡ g (from + k)
index_numbers g from zero k less = absurd (omega (arith, less))
index_numbers g from (suc count) zero less = let e : from + 0 ≡ from = omega arith in rw e refl
index_numbers g from (suc count) (suc k) less =
    let e : from + suc k ≡ (from + 1) + k = omega arith in
    rw e (index_numbers g (from + 1) count k (omega (arith, less)))

-- the row of a table by rows of one length
index_rows : (g : ℕ → ℕ → ℕ) (n from count i j : ℕ) → i < count → j < n
    → slice_index_or (flat_map (λ r. map (g r) (numbers 1 1 n)) (numbers from 1 count)) (i * n + j) 0 ≡ g (from + i) (1 + j)
index_rows g n from zero i j less in_row = absurd (omega (arith, less))
index_rows g n from (suc count) zero j less in_row =
    let row : length (map (g from) (numbers 1 1 n)) ≡ n = length-map (numbers 1 1 n) (g from) ∙ length_numbers 1 1 n in
    let e : 0 * n + j ≡ j = omega arith in
    let f : from + 0 ≡ from = omega arith in
    rw (e, f) (index_within (map (g from) (numbers 1 1 n)) _ j (omega (arith, row, in_row)) ∙ index_numbers (g from) 1 n j in_row)
index_rows g n from (suc count) (suc i) j less in_row =
    let row : length (map (g from) (numbers 1 1 n)) ≡ n = length-map (numbers 1 1 n) (g from) ∙ length_numbers 1 1 n in
    let e : suc i * n + j ≡ length (map (g from) (numbers 1 1 n)) + (i * n + j) = omega (arith, row) in
    let f : from + suc i ≡ (from + 1) + i = omega arith in
    rw (e, f) (index_beyond (map (g from) (numbers 1 1 n)) _ (i * n + j) ∙ index_rows g n (from + 1) count i j (omega (arith, less)) in_row)

pub pages_are : (s : Scenario) (f t : ℕ) → is_some (domain_of s f) ≡ true → is_some (domain_of s t) ≡ true → pages_of (hub_of s) f t ≡ pages_between s f t
pages_are s f t f_there t_there =
    let f_is = domain_is s f f_there in
    let t_is = domain_is s t t_there in
    let n : count_of (hub_of s) ≡ length s.domains = length-map s.domains (λ domain. domain.name) in
    let f_back : 1 + (f - 1) ≡ f = omega (arith, f_is.0) in
    let t_back : 1 + (t - 1) ≡ t = omega (arith, t_is.0) in
    let at = index_rows (pages_between s) (length s.domains) 1 (length s.domains) (f - 1) (t - 1) (omega (arith, f_is)) (omega (arith, t_is)) in
    rw n (at ∙ ap (λ a. pages_between s a (1 + (t - 1))) f_back ∙ ap (pages_between s f) t_back)

pub ports_are : (f t calls count : ℕ) → ports_from f t calls count ≡ numbers (port_after f t calls) 2 count
ports_are f t calls zero = refl
ports_are f t calls (suc count) =
    let e : port_after f t (calls + 1) ≡ port_after f t calls + 2 = omega arith in
    ap (λ r. port_after f t calls ∷ r) (ports_are f t (calls + 1) count ∙ ap (λ p. numbers p 2 count) e)

pub ports_apart : PortsApart
ports_apart s run h f t f_there t_there =
    let p = (ports_apart_lem (hub_of s) f t run.journal h.broker.decided).0 in
    let pages = pages_are s f t f_there t_there in
    let fits = p.within in
    let first : port_after f t 0 ≡ first_port f t = omega arith in
    record {
      count = p.count;
      within = rw (← pages) (omega (arith, fits));
      ports = p.ports ∙ ports_are f t 0 p.count ∙ ap (λ x. numbers x 2 p.count) first;
    }
