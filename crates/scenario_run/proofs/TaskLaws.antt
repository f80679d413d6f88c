-- The tasks of a run, one more at a time.
use Rattle.std.proofs.Common.{◌≡◌, ℕ, zero, suc, ◌+◌, ◌≤◌, List, [], ◌∷◌, ◌++◌, length, refl, ap, sym, ◌∙◌, subst, arith, append_assoc, Some, None}
use Rattle.std.specs.Prelude.{slice_get}
use Rattle.std.specs.Global.{Global}
use Rattle.std.specs.declared.vec.IntoIter.{IntoIter}
use Rattle.std.specs.Vec.Iter.{into_iter_items, into_iter_len}
use Rattle.std.proofs.lemmas.List.{append-nil}
use Rattle.list_laws.proofs.Results.{no_items}
use Rattle.end_view.specs.EndView.{EndView}
use Rattle.scenario_file.specs.Scenario.{Plan as Scenario}
use Rattle.task_duties.specs.TaskOwes.{broker_given}
use Rattle.run_laws.specs.Laid.{awaited_by, hub_of}
use Rattle.run_pages.specs.declared.deal.Hand.{Hand}
use Rattle.scenario_run.specs.Tasks.{AreHandsOf, AreTasksOf, IsHandOf, domain_given}
use Rattle.scenario_run.specs.Turns.{RunState, Waits}

-- the tasks of these hands, from this number on
abbrev pub given_from : Scenario → ℕ → List Hand → List RunState
given_from s d [] = []
given_from s d (hand ∷ hands) = Waits (domain_given s d hand) ∷ given_from s (d + 1) hands

given_at : (s : Scenario) (d : ℕ) (hands : List Hand) (k : ℕ) (hand : Hand) → slice_get hands k ≡ Some hand → slice_get (given_from s d hands) k ≡ Some (Waits (domain_given s (k + d) hand))
given_at s d [] k hand is = absurd (let e : None ≡ Some hand = is in cc)
given_at s d (h ∷ hands) zero hand is = (let e : h ≡ hand = (let k : Some h ≡ Some hand = is in cc) in subst (λ n. slice_get (given_from s d (h ∷ hands)) 0 ≡ Some (Waits (domain_given s n hand))) (let m : d ≡ 0 + d = omega arith in m) (ap (λ x. Some (Waits (domain_given s d x))) e))
given_at s d (h ∷ hands) (suc k) hand is = given_at s (d + 1) hands k hand is ∙ ap (λ n. Some (Waits (domain_given s n hand))) (let e : k + (d + 1) ≡ suc k + d = omega arith in e)

given_length : (s : Scenario) (d : ℕ) (hands : List Hand) → length (given_from s d hands) ≡ length hands
given_length s d [] = refl
given_length s d (h ∷ hands) = ap suc (given_length s (d + 1) hands)

pub are_tasks : (s : Scenario) (controls : List EndView) (hands : List Hand) (given : List RunState) → given ≡ Waits (broker_given (hub_of s) (awaited_by s) controls) ∷ given_from s 1 hands → AreTasksOf s controls hands given
are_tasks s controls hands given is = record {
  broker = ap (λ l. slice_get l 0) is;
  domains = λ k hand at. ap (λ l. slice_get l (k + 1)) is ∙ next k hand at;
  count = ap length is ∙ (let n = given_length s 1 hands in omega (arith, n));
}
  where
    next : (k : ℕ) (hand : Hand) → slice_get hands k ≡ Some hand → slice_get (Waits (broker_given (hub_of s) (awaited_by s) controls) ∷ given_from s 1 hands) (k + 1) ≡ Some (Waits (domain_given s (k + 1) hand))
    next k hand at = subst (λ n. slice_get (Waits (broker_given (hub_of s) (awaited_by s) controls) ∷ given_from s 1 hands) n ≡ Some (Waits (domain_given s (k + 1) hand))) (let e : suc k ≡ k + 1 = omega arith in e) (given_at s 1 hands k hand at)

-- ---- while hands are left

-- these tasks were given so far, and a task may be made from each of the hands from this number on
pub record AreLeft (s : Scenario) (controls : List EndView) (hands : List Hand) (given : List RunState) (number : ℕ) (rest : List Hand) : Type 0 where
  pub so_far : given ++ given_from s number rest ≡ Waits (broker_given (hub_of s) (awaited_by s) controls) ∷ given_from s 1 hands
  pub some : 1 ≤ number
  pub count : number + length rest ≡ length s.domains + 1
  pub each : (k : ℕ) (hand : Hand) → slice_get rest k ≡ Some hand → IsHandOf s (k + number) hand

-- only the broker's task was given
pub left_first : (s : Scenario) (controls : List EndView) (hands : List Hand) (given : List RunState) → AreHandsOf s hands
    → given ≡ Waits (broker_given (hub_of s) (awaited_by s) controls) ∷ [] → AreLeft s controls hands given 1 hands
left_first s controls hands given are is = record {
  so_far = ap (λ l. l ++ given_from s 1 hands) is;
  some = omega arith;
  count = omega (arith, are.0);
  each = are.1;
}

-- a task may be made from the next hand
pub left_hand : (s : Scenario) (controls : List EndView) (hands : List Hand) (given : List RunState) (number : ℕ) (left rest : List Hand) (hand : Hand)
    → left ≡ hand ∷ rest → AreLeft s controls hands given number left → (number ≤ length s.domains) × IsHandOf s number hand
left_hand s controls hands given number left rest hand is are = (
  (let n = ap length is in omega (arith, n, are.count)),
  subst (λ n. IsHandOf s n hand) (let e : 0 + number ≡ number = omega arith in e) (are.each 0 hand (ap (λ l. slice_get l 0) is)),
)

-- one task more was given
pub left_on : (s : Scenario) (controls : List EndView) (hands : List Hand) (given now : List RunState) (number : ℕ) (left rest : List Hand) (hand : Hand)
    → left ≡ hand ∷ rest → now ≡ given ++ Waits (domain_given s number hand) ∷ [] → AreLeft s controls hands given number left → AreLeft s controls hands now (number + 1) rest
left_on s controls hands given now number left rest hand is more are = record {
  so_far = ap (λ l. l ++ given_from s (number + 1) rest) more ∙ append_assoc given (Waits (domain_given s number hand) ∷ []) (given_from s (number + 1) rest)
      ∙ ap (λ l. given ++ given_from s number l) (sym is) ∙ are.so_far;
  some = omega arith;
  count = (let n = ap length is in omega (arith, n, are.count));
  each = λ k h at. subst (λ n. IsHandOf s n h) (let e : suc k + number ≡ k + (number + 1) = omega arith in e) (are.each (suc k) h (ap (λ l. slice_get l (suc k)) is ∙ at));
}

no_more : (s : Scenario) (controls : List EndView) (hands : List Hand) (given : List RunState) (number : ℕ) (left : List Hand)
    → length left ≡ 0 → AreLeft s controls hands given number left → given ≡ Waits (broker_given (hub_of s) (awaited_by s) controls) ∷ given_from s 1 hands
no_more s controls hands given number [] none are = sym (append-nil given) ∙ are.so_far
no_more s controls hands given number (hand ∷ left) none are = absurd (omega (arith, none))

-- all tasks were given
pub left_none : (s : Scenario) (controls : List EndView) (hands : List Hand) (given : List RunState) (number : ℕ) (it : IntoIter Hand Global)
    → into_iter_len it ≡ 0 → AreLeft s controls hands given number (into_iter_items it) → AreTasksOf s controls hands given
left_none s controls hands given number it none are = are_tasks s controls hands given (no_more s controls hands given number (into_iter_items it) (no_items it none) are)
