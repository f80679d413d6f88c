use Rattle.std.proofs.Common.{◌≡◌, ◌+◌, ◌-◌, refl, subst, Some}
use Rattle.std.proofs.Math.ListN.{set}
use Rattle.qrexec_frame.specs.declared.message.Message.{Message}
use Rattle.qrexec_frame.specs.declared.message.Message.TheVariants.{Exec}
use Rattle.broker_task.specs.declared.daemon.Daemon.{Daemon}
use Rattle.broker_task.specs.Letters.{IsAt}
use Rattle.broker_task.specs.Lines.{IsSameDaemon}
use Rattle.broker_task.specs.Posting.{EachMoves, HasGone, LetsGo}
use Rattle.broker_task.proofs.HearingSteps.{at_domain}
use Rattle.broker_task.proofs.PostLaws.{moves_none}
use Rattle.broker_task.proofs.SendingSteps.{Alone, moves_alone}
use Rattle.broker_task.proofs.ReleaseSteps.{sending_released, same_one, same_let_go, same_daemon, waiting_released}
use Rattle.broker_task.specs.Moving.{StandsBy}
use Rattle.broker_task.proofs.MovingLaws.{by_alone, by_self}
use Rattle.broker_task.specs.Holding.{lines_of, IsLetGo, HoldsBut}
use Rattle.broker_task.proofs.HoldingLaws.{holds_let_go, holds_as_is}
use Rattle.broker_task.proofs.switchboard.Switchboard.let_go.Goals.{After-release_call}
use Rattle.broker_task.proofs.switchboard.Switchboard.let_go.Goals as goal

-- the daemon of the caller, before and after its Connect was let go
abbrev daemon : After-release_call → Daemon
daemon c = c.index_mut.result.now

abbrev let_go : After-release_call → Daemon
let_go c = record (daemon c) { outbox = c.release_call.new.self }

gone : (c : After-release_call) → HasGone c.args.self.now.broker.hub c.args.domain c.args.self.now.broker.journal c.args.self.now.daemons.items (Exec c.in-Exec.caller c.in-Exec.port c.in-Exec.line)
gone c = subst (λ (m : Message). HasGone c.args.self.now.broker.hub c.args.domain c.args.self.now.broker.journal c.args.self.now.daemons.items m) c.in-Exec.is c.requires.went

here : (c : After-release_call) → IsAt c.args.self.now.daemons.items (c.in-Exec.caller - 1) (daemon c) × (c.in-Exec.caller - 1 + 1 ≡ c.in-Exec.caller)
here c = at_domain c.args.self.now.broker.hub c.args.self.now.daemons.items c.in-Exec.caller (daemon c) (gone c).2 (gone c).0.posting.count c.index_mut.ensures.value

lets_go : (c : After-release_call) → LetsGo c.args.domain (Some c.in-Exec.port) (daemon c) (let_go c)
lets_go c = record { port = refl; domain = refl; awaited = refl; counted = refl; letters = c.release_call.ensures }

moves : (c : After-release_call) → EachMoves (Alone c.in-Exec.caller (LetsGo c.args.domain (Some c.in-Exec.port))) c.args.self.now.daemons.items (set c.args.self.now.daemons.items (c.in-Exec.caller - 1) (let_go c))
moves c = moves_alone c.in-Exec.caller (LetsGo c.args.domain (Some c.in-Exec.port)) c.args.self.now.daemons.items (c.in-Exec.caller - 1) (daemon c) (let_go c) (here c).0 (here c).1 (lets_go c)

pub returns-in-Exec-clause-sending : goal.returns-in-Exec-clause-sending
returns-in-Exec-clause-sending c =
    let w = (goal.at.returns-in-Exec-clause-sending c).After-release_call in
    sending_released c.args.self.now.broker.hub c.args.self.now.broker.journal c.args.domain c.in-Exec.caller c.args.domain c.in-Exec.port c.in-Exec.line _ _ (moves w) (gone w).0 (gone w).1

pub returns-in-Exec-clause-same : goal.returns-in-Exec-clause-same
returns-in-Exec-clause-same c =
    let w = (goal.at.returns-in-Exec-clause-same c).After-release_call in
    same_one _ (c.in-Exec.caller - 1) (daemon w) (let_go w) (here w).0 (same_let_go c.args.domain (Some c.in-Exec.port) (daemon w) (let_go w) (lets_go w))

pub returns-in-Exec-clause-waiting : goal.returns-in-Exec-clause-waiting
returns-in-Exec-clause-waiting c = λ i less. waiting_released c.args.domain (Some c.in-Exec.port) c.in-Exec.caller _ _ i less (moves (goal.at.returns-in-Exec-clause-waiting c).After-release_call)

pub returns-in_default-clause-sending : goal.returns-in_default-clause-sending
returns-in_default-clause-sending c = c.requires.went.0

pub returns-in_default-clause-same : goal.returns-in_default-clause-same
returns-in_default-clause-same c = moves_none (λ d. IsSameDaemon) c.args.self.now.daemons.items (λ d x. same_daemon x)

pub returns-in-Exec-clause-by : goal.returns-in-Exec-clause-by
returns-in-Exec-clause-by c = by_alone c.args.domain c.in-Exec.caller (Some c.in-Exec.port) _ _ (moves (goal.at.returns-in-Exec-clause-by c).After-release_call)

pub returns-in_default-clause-by : goal.returns-in_default-clause-by
returns-in_default-clause-by c = moves_none (λ d. StandsBy) c.args.self.now.daemons.items (λ d x. by_self x)

pub returns-in-Exec-clause-holds : goal.returns-in-Exec-clause-holds
returns-in-Exec-clause-holds c =
    let w = (goal.at.returns-in-Exec-clause-holds c).After-release_call in
    holds_let_go c.args.domain c.in-Exec.caller c.in-Exec.port c.in-Exec.line _ _ (moves w) (subst (λ (m : Message). HoldsBut (IsLetGo c.args.domain m) (lines_of c.args.self.now.daemons.items)) c.in-Exec.is c.requires.holds)

pub returns-in_default-clause-holds : goal.returns-in_default-clause-holds
returns-in_default-clause-holds c = holds_as_is c.args.domain c.args.gone.now c.args.self.now.daemons.items (λ f port text is. c.in_default.not-Exec f port text is) c.requires.holds
