use Rattle.std.proofs.Common.{refl}
use Rattle.service_gate.specs.ServiceResult.{service}
use Rattle.tests_channel.proofs.servers.clients_are_served.Goals as goal

pub answers-text-requires-after_bounds : goal.answers-text-requires-after_bounds
unfolding service
answers-text-requires-after_bounds g c κs = λ input. refl
