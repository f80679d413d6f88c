use Rattle.std.proofs.Common.{rules}
use Rattle.arrayvec.proofs.ArrayVecLemmas.{filter-from_retain}
use Rattle.call_broker.proofs.calls.Calls.end.Goals as goal

pub returns-clause-live : goal.returns-clause-live
returns-clause-live c = filter-from_retain _ _ _ (λ x b f' y called. search rules) _ _ c.retain.ensures.filtered
