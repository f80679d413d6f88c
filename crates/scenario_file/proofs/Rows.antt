-- Worked scenarios, computed. A service that counts or that has a number doesn't compute here, since decimals don't.
use Rattle.std.proofs.Common.{◌≡◌, ◌∷◌, ℕ, List, [], Some, None, codes, map, pos, refl}
use Rattle.ring_words.specs.declared.order.Orders.{Orders}
use Rattle.service_gate.specs.ServiceResult.{service}
use Rattle.scenario_file.specs.declared.acts.Act.TheVariants.{Hello}
use Rattle.scenario_file.specs.declared.scenario.Domain.{Domain}
use Rattle.scenario_file.specs.declared.scenario.CallPlan.{CallPlan}
use Rattle.scenario_file.specs.declared.line.LineCause.TheVariants.{NoDomain, SameDomain, NoService}
use Rattle.scenario_file.specs.declared.line.LineResult.{LineResult}
use Rattle.scenario_file.specs.declared.line.LineResult.TheVariants.{Done, Refused}
use Rattle.scenario_file.specs.Generator.{after_call, call_from, fill}
use Rattle.script_words.specs.Generator.{next_number}
use Rattle.scenario_file.specs.Lines.{lines, without_hostile}
use Rattle.scenario_file.specs.Scenario.{Plan}

abbrev plain : List ℕ → Domain
plain name = record { name = name; hostile = None; ports = 4; version = 3 }

abbrev evil : Domain
evil = record { name = codes "evil"; hostile = Some (Hello ∷ []); ports = 8; version = 3 }

abbrev plan : ℕ → ℕ → List ℕ → List ℕ → List ℕ → CallPlan
plan number from to service stdin = record { number = number; from = from; to = to; service = service; stdin = stdin }

-- three honest domains after a hostile one, so that the callers' places move, and a call to the hostile one
abbrev office : Orders → Plan
office orders = record {
  control = orders;
  payload = orders;
  start = 0;
  domains = evil ∷ plain (codes "work") ∷ plain (codes "vault") ∷ plain (codes "mail") ∷ [];
  calls =
      plan 1 2 (codes "vault") (codes "echo") (codes "hello")
      ∷ plan 2 3 (codes "mail") (codes "upper") (codes "a")
      ∷ plan 3 4 (codes "work") (codes "upper") (codes "b-z")
      ∷ plan 4 2 (codes "mail") (codes "split") (codes "abcde")
      ∷ plan 5 3 (codes "work") (codes "split") (codes "x")
      ∷ plan 6 2 (codes "vault") (codes "echo") []
      ∷ plan 7 2 (codes "evil") (codes "echo") []
      ∷ [];
}

abbrev results : Plan → List LineResult
results s = map (λ line. line.result) (lines s)

-- the lines tell what the services give; the call to the hostile domain has none
office_results : (orders : Orders) → results (office orders) ≡
    Done (pos 0) (codes "hello") [] ∷ Done (pos 0) (codes "A") [] ∷ Done (pos 0) (codes "B-Z") []
    ∷ Done (pos 0) (codes "ace") (codes "bd") ∷ Done (pos 0) (codes "x") [] ∷ Done (pos 0) [] [] ∷ []
unfolding service
office_results orders = refl

-- without the hostile domain they are the same
office_without : (orders : Orders) → lines (without_hostile (office orders)) ≡ lines (office orders)
unfolding service
office_without orders = refl

-- calls that are refused: no domain, the caller itself, with or without a service of the name, and no service
abbrev refusing : Orders → Plan
refusing orders = record {
  control = orders;
  payload = orders;
  start = 0;
  domains = plain (codes "a") ∷ plain (codes "b") ∷ [];
  calls =
      plan 1 1 (codes "nobody") (codes "echo") [] ∷ plan 2 1 (codes "a") (codes "echo") [] ∷ plan 3 1 (codes "a") (codes "cat") []
      ∷ plan 4 1 (codes "b") (codes "cat") [] ∷ [];
}

refusing_results : (orders : Orders) → results (refusing orders) ≡ Refused NoDomain ∷ Refused SameDomain ∷ Refused SameDomain ∷ Refused NoService ∷ []
unfolding service
refusing_results orders = refl

-- the first eight numbers from the seed 7 on
abbrev pub first_numbers : ℕ → List ℕ
first_numbers x =
    let a = next_number x in
    let b = next_number a in
    let c = next_number b in
    let d = next_number c in
    a ∷ b ∷ c ∷ d ∷ []

worked_numbers : first_numbers 7 ≡ 599 ∷ 44999 ∷ 32612 ∷ 21105 ∷ []
worked_numbers = refl

more_numbers : first_numbers (after_call 7) ≡ 10061 ∷ 33742 ∷ 40318 ∷ 9222 ∷ []
more_numbers = refl

-- the first two calls of the seed 7
first_call : call_from 1 7 ≡ plan 1 4 (codes "d3") (codes "count") (fill 615)
first_call = refl

second_call : call_from 2 (after_call 7) ≡ plan 2 2 (codes "d3") (codes "split") (fill 1026)
second_call = refl
