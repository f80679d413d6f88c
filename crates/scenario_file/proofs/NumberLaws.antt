-- Calls that are numbered one after another.
use Rattle.std.proofs.Common.{◌≡◌, ◌<◌, ℕ, ◌+◌, List, [], ◌∷◌, ◌++◌, length, arith}
use Rattle.scenario_file.specs.declared.scenario.CallPlan.{CallPlan}
use Rattle.scenario_file.specs.Scenario.{Rises}

-- the calls have the numbers from this one on
abbrev pub IsNumbered : ℕ → List CallPlan → Type 0
IsNumbered number [] = Unit {0}
IsNumbered number (call ∷ calls) = (call.number ≡ number) × IsNumbered (number + 1) calls

pub IsNumbered_push : (number : ℕ) (calls : List CallPlan) (call : CallPlan) → IsNumbered number calls → call.number ≡ number + length calls → IsNumbered number (calls ++ call ∷ [])
IsNumbered_push number [] call h is = (omega (arith, is), tt)
IsNumbered_push number (first ∷ calls) call h is = (h.0, IsNumbered_push (number + 1) calls call h.1 (omega (arith, is)))

-- numbers one after another rise
pub rises_numbered : (below number : ℕ) (calls : List CallPlan) → below < number → IsNumbered number calls → Rises below calls
rises_numbered below number [] less h = tt
rises_numbered below number (call ∷ calls) less h = (omega (arith, h.0, less), rises_numbered call.number (number + 1) calls (omega (arith, h.0)) h.1)
