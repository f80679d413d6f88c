use Rattle.std.proofs.Common.{◌≡◌, ◌∙◌, sym, ap, true, false, if◌then◌else◌}
use Rattle.std.specs.List.{list_any}
use Rattle.call_broker.specs.declared.decision.Decision.TheVariants.{Ended, PassedOver}
use Rattle.call_broker.specs.Journal.{events, drops}
use Rattle.call_broker.proofs.AnswerLaws.{sender_gone, other_gone, by_table}
use Rattle.call_broker.proofs.BrokerLaws.{tabled_now}
use Rattle.call_broker.proofs.broker.Broker.ending.Goals as goal

pub returns-then-is_dropped : goal.returns-then-is_dropped
returns-then-is_dropped c = let now = c.args.self.now in sender_gone now.hub (events now.journal) c.args.from c.args.other c.args.port (sym c.if-is_dropped.ensures)

pub returns-then-contains : goal.returns-then-contains
returns-then-contains c =
    let now = c.args.self.now in
    let was = tabled_now c.self.inside now c.self.view_is c.self.invariant in
    let gone : list_any (drops c.args.other) (events now.journal) ≡ true = sym (was.gone c.args.other) ∙ sym c.if-contains.ensures in
    other_gone now.hub (events now.journal) c.self.inside.calls c.self.inside.dropped was c.args.from c.args.other c.args.port (sym c.if-is_dropped.ensures) (sym c.if-not-is_other.ensures) gone

pub returns-then-has_port : goal.returns-then-has_port
returns-then-has_port c =
    let now = c.args.self.now in
    let was = tabled_now c.self.inside now c.self.view_is c.self.invariant in
    let alive : list_any (drops c.args.other) (events now.journal) ≡ false = sym (was.gone c.args.other) ∙ sym c.if-contains.ensures in
    let caller = c.pair_by_port-from.result.0 in
    let server = c.pair_by_port-from.result.1 in
    ap (λ b. if b then Ended caller server c.args.port else PassedOver) c.if-has_port.ensures
    ∙ by_table now.hub (events now.journal) c.self.inside.calls c.self.inside.dropped was c.args.from c.args.other c.args.port caller server
    (sym c.if-is_dropped.ensures) (sym c.if-not-is_other.ensures) c.pair_by_port-from.ensures alive

pub returns-else-has_port : goal.returns-else-has_port
returns-else-has_port c =
    let now = c.args.self.now in
    let was = tabled_now c.self.inside now c.self.view_is c.self.invariant in
    let alive : list_any (drops c.args.other) (events now.journal) ≡ false = sym (was.gone c.args.other) ∙ sym c.if-contains.ensures in
    let caller = c.pair_by_port-from.result.0 in
    let server = c.pair_by_port-from.result.1 in
    ap (λ b. if b then Ended caller server c.args.port else PassedOver) c.if-has_port.ensures
    ∙ by_table now.hub (events now.journal) c.self.inside.calls c.self.inside.dropped was c.args.from c.args.other c.args.port caller server
    (sym c.if-is_dropped.ensures) (sym c.if-not-is_other.ensures) c.pair_by_port-from.ensures alive
