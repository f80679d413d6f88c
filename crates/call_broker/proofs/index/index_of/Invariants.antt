use Rattle.std.proofs.Common.{◌≡◌, ◌+◌, ℕ, List, map}
use Rattle.std.specs.Prelude.{option_map, drop}
use Rattle.call_broker.specs.Domains.{place_of}
use Rattle.call_broker.specs.Tables.{number_in}
use Rattle.call_broker.proofs.index.index_of.Given as goal

abbrev pub invariant-loop-place : goal.invariant-loop-place
invariant-loop-place l = (name : List ℕ) → number_in l.index name ≡ option_map (λ k. k + l.place + 1) (place_of (drop l.place (map (λ d. d.name) l.domains)) name)
