-- The calls of one ordered pair, which its caller holds as plain numbers, and a broker's decision on one more.
use Rattle.std.specs.Prelude.{◌≡◌, ℕ, ◌+◌, ◌≤◌, ◌∷◌, reverse, take}
use Rattle.call_broker.specs.declared.decision.Cause.TheVariants.{TargetDropped, PairFull, PortsSpent}
use Rattle.call_broker.specs.declared.decision.Decision.{Decision}
use Rattle.call_broker.specs.declared.decision.Decision.TheVariants.{Accepted, Refused}
use Rattle.call_broker.specs.Pair.{PairState}
use Rattle.qrexec_c.specs.declared.pair.Pair.{Pair}

-- the numbers are those of the pair, whose newest live call comes first
pub record StandsFor (p : Pair) (s : PairState) : Type 0 where
  pub few : p.live_count ≤ 16
  pub live : s.live ≡ reverse (take p.live_count p.live)
  pub calls : s.calls ≡ p.calls

-- the pair after a call with this port was accepted
abbrev pub with_call : ℕ → PairState → PairState
with_call port s = record s { live = port ∷ s.live; calls = s.calls + 1 }

-- the answer, and the number told with it, are the decision
abbrev pub TellsDecision : ℕ → ℕ → ℕ → Decision → Type 0
TellsDecision answer told to (Accepted target port) = (answer ≡ 1) × (target ≡ to) × (told ≡ port)
TellsDecision answer told to (Refused TargetDropped) = answer ≡ 2
TellsDecision answer told to (Refused (PairFull live)) = (answer ≡ 3) × (told ≡ live)
TellsDecision answer told to (Refused (PortsSpent next)) = (answer ≡ 4) × (told ≡ next)
TellsDecision answer told to decision = ⊥
