use Rattle.std.proofs.Common.{◌≤◌, ◌<◌, ◌∙◌, ap, sym, subst, length}
use Rattle.call_broker.specs.declared.decision.Cause.TheVariants.{PairFull, PortsSpent}
use Rattle.call_broker.specs.declared.decision.Decision.TheVariants.{Accepted, Refused}
use Rattle.call_broker.specs.Domains.{pages_of, port_after}
use Rattle.call_broker.specs.Journal.{events}
use Rattle.call_broker.specs.Tables.{calls_at, live_of, number_of}
use Rattle.call_broker.proofs.AnswerLaws.{target_gone, pair_full, ports_spent, call_taken}
use Rattle.call_broker.proofs.BrokerLaws.{tabled_now}
use Rattle.call_broker.proofs.broker.Broker.take_call.Goals as goal

pub returns-then-is_dropped : goal.returns-then-is_dropped
returns-then-is_dropped c =
    let now = c.args.self.now in
    c.refused.ensures ∙ target_gone now.hub (events now.journal) c.args.from c.args.to (sym c.if-is_dropped.ensures)

pub returns-then-live-ge-MOST_LIVE : goal.returns-then-live-ge-MOST_LIVE
returns-then-live-ge-MOST_LIVE c =
    let now = c.args.self.now in
    let was = tabled_now c.self.inside now c.self.view_is c.self.invariant in
    let full : 16 ≤ length (live_of (calls_at c.self.inside.calls c.args.from c.args.to)) = subst (λ n. 16 ≤ n) c.live_count-live.ensures c.if-live-ge-MOST_LIVE.true in
    c.refused-then-live-ge-MOST_LIVE.ensures
    ∙ ap (λ n. Refused (PairFull n)) c.live_count-live.ensures
    ∙ pair_full now.hub (events now.journal) c.self.inside.calls c.self.inside.dropped was c.args.from c.args.to c.requires.up (sym c.if-is_dropped.ensures) full

pub returns-then-count-pages_for : goal.returns-then-count-pages_for
returns-then-count-pages_for c =
    let now = c.args.self.now in
    let was = tabled_now c.self.inside now c.self.view_is c.self.invariant in
    let few : length (live_of (calls_at c.self.inside.calls c.args.from c.args.to)) < 16 = subst (λ n. n < 16) c.live_count-live.ensures c.if-live-ge-MOST_LIVE.false in
    let spent : pages_of now.hub c.args.from c.args.to ≤ number_of (calls_at c.self.inside.calls c.args.from c.args.to) =
    subst (λ n. pages_of now.hub c.args.from c.args.to ≤ n) c.call_count-count.ensures (subst (λ n. n ≤ c.call_count-count.result) c.pages_for.ensures.pages c.if-count-pages_for.true) in
    c.refused-then-count-pages_for.ensures
    ∙ ap (λ n. Refused (PortsSpent n)) (c.port_after-port.ensures ∙ ap (port_after c.args.from c.args.to) c.call_count-count.ensures)
    ∙ ports_spent now.hub (events now.journal) c.self.inside.calls c.self.inside.dropped was c.args.from c.args.to c.requires.up (sym c.if-is_dropped.ensures) few spent

pub returns : goal.returns
returns c =
    let now = c.args.self.now in
    let was = tabled_now c.self.inside now c.self.view_is c.self.invariant in
    let few : length (live_of (calls_at c.self.inside.calls c.args.from c.args.to)) < 16 = subst (λ n. n < 16) c.live_count-live.ensures c.if-live-ge-MOST_LIVE.false in
    let left : number_of (calls_at c.self.inside.calls c.args.from c.args.to) < pages_of now.hub c.args.from c.args.to =
    subst (λ n. n < pages_of now.hub c.args.from c.args.to) c.call_count-count.ensures (subst (λ n. c.call_count-count.result < n) c.pages_for.ensures.pages c.if-count-pages_for.false) in
    ap (Accepted c.args.to) (c.port_after-port.ensures ∙ ap (port_after c.args.from c.args.to) c.call_count-count.ensures)
    ∙ call_taken now.hub (events now.journal) c.self.inside.calls c.self.inside.dropped was c.args.from c.args.to c.requires.up (sym c.if-is_dropped.ensures) few left
