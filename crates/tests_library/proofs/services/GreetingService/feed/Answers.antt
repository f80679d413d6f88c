use Rattle.std.proofs.Common.{refl}
use Rattle.service_gate.proofs.Feeding.{silent_feeds}
use Rattle.tests_library.proofs.services.GreetingService.feed.Goals as goal

pub returns-clause-ok : goal.returns-clause-ok
returns-clause-ok c = silent_feeds _ _ _ _ _ (λ more. refl)
