-- The places of an agent's calls by their numbers, and of their targets by name.
use Rattle.std.specs.Prelude.{◌≡◌, ℕ, List, codes, Option, Some, option_and_then}
use Rattle.std.specs.Ordering.{nat_cmp}
use Rattle.std.specs.Cmp.Lexicographic.{slice_cmp}
use Rattle.std.specs.BTreeMap.{BTreeMap}
use Rattle.std.specs.BTreeMap as tree
use Rattle.service_gate.specs.ServiceResult.{number_after}
use Rattle.call_broker.specs.Domains.{place_of}
use denote.Ref.{Bor}

-- the number of the call that an ident names, if it is the ident of a call
abbrev pub number_in : List ℕ → Option ℕ
number_in ident = number_after (codes "call-") 4294967295 ident

-- the place that an index has for an ident: that of the call with its number
abbrev pub place_in : BTreeMap ℕ ℕ → List ℕ → Option ℕ
place_in index ident = option_and_then (tree.get nat_cmp index) (number_in ident)

-- it has the first place of each ident
pub record IsIndex (idents : List (List ℕ)) (index : BTreeMap ℕ ℕ) : Type 0 where
  pub first : (ident : List ℕ) → place_in index ident ≡ place_of idents ident

-- the place that targets have for a name
abbrev pub target_in : BTreeMap (Bor (List ℕ)) ℕ → List ℕ → Option ℕ
target_in targets name = tree.get_by (λ key. slice_cmp nat_cmp name key.now) targets

-- they have the first place of each name
pub record HasTargets (names : List (List ℕ)) (targets : BTreeMap (Bor (List ℕ)) ℕ) : Type 0 where
  pub first : (name : List ℕ) → target_in targets name ≡ place_of names name

-- this is the first place of a name
abbrev pub IsFirst : List (List ℕ) → List ℕ → ℕ → Type 0
IsFirst names name first = place_of names name ≡ Some first
