-- The scenario that the generator of numbers makes.
-- Source: this project's own.
use Rattle.std.specs.Prelude.{ℕ, ◌+◌, ◌%◌, zero, suc, nat_lt, List, [], ◌∷◌, map, slice_get, unwrap_or, None, codes, if◌then◌else◌}
use Rattle.std.specs.List.{range_with_len}
use Rattle.script_words.specs.Generator.{next_number}
use Rattle.scenario_file.specs.declared.scenario.Domain.{Domain}
use Rattle.scenario_file.specs.declared.scenario.CallPlan.{CallPlan}
use Rattle.scenario_file.specs.Scenario.{Written}

-- the three numbers of a store of scribbling: they choose the page, the word and the value
pub record Drawn : Type 0 where
  pub page : ℕ
  pub word : ℕ
  pub value : ℕ

-- the numbers of this many stores
abbrev pub drawn : ℕ → ℕ → List Drawn
drawn x zero = []
drawn x (suc count) =
    record { page = next_number x; word = next_number (next_number x); value = next_number (next_number (next_number x)) }
    ∷ drawn (next_number (next_number (next_number x))) count

-- the first bytes of a fill, of which byte i is i modulo 251
unfoldable pub fill : ℕ → List ℕ
fill count = map (λ i. i % 251) (range_with_len 0 count)

-- ---- the generated scenario

-- the names of the generated domains, and the services, by their places from 0 on
abbrev pub generated_names : List (List ℕ)
generated_names = codes "d1" ∷ codes "d2" ∷ codes "d3" ∷ codes "d4" ∷ []

abbrev pub generated_services : List (List ℕ)
generated_services = codes "echo" ∷ codes "upper" ∷ codes "count" ∷ codes "first+100" ∷ codes "split" ∷ codes "exit+7" ∷ []

-- what stands at a place of a list of texts
abbrev pub text_at : List (List ℕ) → ℕ → List ℕ
text_at texts place = unwrap_or (slice_get texts place) []

-- a generated domain is honest
abbrev pub generated_domain : List ℕ → Domain
generated_domain name = record { name = name; hostile = None; ports = 4; version = 3 }

-- one of the three places beside a caller's, the one of this number in their order, from 0 on
abbrev pub other_place : ℕ → ℕ → ℕ
other_place caller number = if nat_lt number caller then number else number + 1

-- a call of four drawn numbers: they choose the caller, the target, the service and the length of the input
abbrev pub generated_call : ℕ → ℕ → ℕ → ℕ → ℕ → CallPlan
generated_call number caller target service stdin = record {
  number = number;
  from = caller % 4 + 1;
  to = text_at generated_names (other_place (caller % 4) (target % 3));
  service = text_at generated_services (service % 6);
  stdin = fill (stdin % 2049);
}

-- the call that the four numbers after x make
abbrev pub call_from : ℕ → ℕ → CallPlan
call_from number x =
    let caller = next_number x in
    let target = next_number caller in
    let service = next_number target in
    generated_call number caller target service (next_number service)

-- the last of the four numbers after x
abbrev pub after_call : ℕ → ℕ
after_call x = next_number (next_number (next_number (next_number x)))

-- this many calls, the first of this number, from the numbers after x
unfoldable pub generated_calls : ℕ → ℕ → ℕ → List CallPlan
generated_calls number x zero = []
generated_calls number x (suc count) = call_from number x ∷ generated_calls (number + 1) (after_call x) count

-- the scenario of a seed and a number of calls: four domains, over rings of the orders 10 and 11
abbrev pub generated : ℕ → ℕ → Written
generated seed calls = record {
  control_orders = (10, 11);
  payload_orders = (10, 11);
  first_index = 0;
  domain_list = map generated_domain generated_names;
  call_list = generated_calls 1 seed calls;
}
