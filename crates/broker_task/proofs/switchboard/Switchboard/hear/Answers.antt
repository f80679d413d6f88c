use Rattle.std.proofs.Common.{◌≡◌, ◌∙◌, ◌-◌, ◌+◌, refl, ap, sym, subst, List, Option, true}
use Rattle.std.specs.Prelude.{IfSome}
use Rattle.call_broker.specs.declared.event.Event.{Event}
use Rattle.call_broker.specs.declared.decision.Entry.{Entry}
use Rattle.call_broker.specs.Domains.{Domains, is_domain}
use Rattle.call_broker.specs.Pair.{decision}
use Rattle.call_broker.specs.Journal.{events}
use Rattle.control_port.specs.Port.{HasFewerLeft}
use Rattle.task_duties.specs.Broker.Outbox.{is_from}
use Rattle.broker_task.specs.Replies.{HasShortNames}
use Rattle.broker_task.specs.declared.daemon.Daemon.{Daemon}
use Rattle.broker_task.specs.Letters.{IsAt}
use Rattle.broker_task.specs.Lines.{IsLine, HandsOut, HasRoom}
use Rattle.broker_task.specs.Posting.{EachMoves, SameEnd, IsPosting, IsHearing, MovesPort}
use Rattle.broker_task.proofs.HearingSteps.{at_domain, next_moves, posting_next, own_event, hearing_next, heard_out, left_falls, ends_none, ends_next, ends_decided}
use Rattle.std.proofs.Math.ListN.{set}
use Rattle.broker_task.specs.Moving.{Steps, Decides, StandsBy}
use Rattle.broker_task.proofs.MovingLaws.{steps_self, steps_then, steps_by, decides_self, decides_by, decides_next}
use Rattle.broker_task.specs.Holding.{lines_of, HoldsForExecs}
use Rattle.broker_task.proofs.HoldingLaws.{holds_next}
use Rattle.broker_task.proofs.switchboard.Switchboard.hear.Goals.{After-next, In-Some}
use Rattle.broker_task.proofs.switchboard.Switchboard.hear.Goals as goal

-- the daemons after the call of `next`
abbrev mid : After-next → List Daemon
mid c = set c.loop-event.self.daemons.items (c.args.domain - 1) c.next.new.self

here : (c : After-next) → IsAt c.loop-event.self.daemons.items (c.args.domain - 1) c.index_mut.result.now × (c.args.domain - 1 + 1 ≡ c.args.domain)
here c =
    let number = subst (λ (h : Domains). is_domain h c.args.domain ≡ true) (sym c.loop-event.invariant.hub) c.requires.number in
    at_domain c.loop-event.self.broker.hub c.loop-event.self.daemons.items c.args.domain c.index_mut.result.now number c.loop-event.invariant.posting.count c.index_mut.ensures.value

moves : (c : After-next) → MovesPort (c.args.domain - 1 + 1) c.index_mut.result.now c.next.new.self
moves c = next_moves (c.args.domain - 1 + 1) c.index_mut.result.now c.next.new.self c.next.ensures.port c.next.ensures.end c.next.ensures.line (λ said h. c.next.ensures.said said h)

ends : (c : After-next) → EachMoves SameEnd c.args.self.now.daemons.items (mid c)
ends c = ends_next c.args.self.now.daemons.items c.loop-event.self.daemons.items (c.args.domain - 1) c.index_mut.result.now c.next.new.self c.loop-event.invariant.ends (here c).0 c.next.ensures.port c.next.ensures.end

steps : (c : After-next) → EachMoves (Steps c.args.domain Decides) c.args.self.now.daemons.items (mid c)
steps c =
    decides_next c.args.domain c.args.self.now.daemons.items c.loop-event.self.daemons.items (c.args.domain - 1) c.index_mut.result.now c.next.new.self c.loop-event.invariant.steps (here c).0 (here c).1 c.next.ensures.port c.next.ensures.end

posting : (c : After-next) → IsPosting c.loop-event.self.broker.hub c.loop-event.self.broker.journal (mid c)
posting c = posting_next _ _ c.loop-event.self.daemons.items (c.args.domain - 1) c.index_mut.result.now c.next.new.self (here c).0 (moves c) c.loop-event.invariant.posting

holds : (c : After-next) → HoldsForExecs (lines_of (mid c))
holds c = holds_next c.loop-event.self.daemons.items (c.args.domain - 1) c.index_mut.result.now c.next.new.self (here c).0 (moves c) c.loop-event.invariant.holds

-- the event is one of the domain
own : (c : In-Some) → (is_from c.args.domain c.in-Some.event ≡ true) × HasRoom c.in-Some.event
own c =
    let inv = c.loop-event.invariant in
    let x = c.index_mut.result.now in
    let y = c.next.new.self in
    let number = subst (λ (h : Domains). is_domain h c.args.domain ≡ true) (sym inv.hub) c.requires.number in
    let at = at_domain c.loop-event.self.broker.hub c.loop-event.self.daemons.items c.args.domain x number inv.posting.count c.index_mut.ensures.value in
    own_event c.args.domain c.loop-event.self.broker.journal c.loop-event.self.daemons.items (c.args.domain - 1) x y c.in-Some.event at.0 at.1 inv.hearing (ap (λ (z : Daemon). z.domain) c.next.ensures.port)
    (inv.posting.lines (c.args.domain - 1) x at.0).number (λ es reads. subst (λ o. HandsOut y es o) c.in-Some.is (c.in_ok-event.ensures.hands es reads))

pub next-requires-clause-line : goal.next-requires-clause-line
next-requires-clause-line c =
    let inv = c.loop-event.invariant in
    let number = subst (λ (h : Domains). is_domain h c.args.domain ≡ true) (sym inv.hub) c.requires.number in
    let at = at_domain c.loop-event.self.broker.hub c.loop-event.self.daemons.items c.args.domain c.index_mut.result.now number inv.posting.count c.index_mut.ensures.value in
    let line = inv.posting.lines (c.args.domain - 1) c.index_mut.result.now at.0 in
    subst (λ n. IsLine n c.index_mut.result.now) (sym line.number) line

pub next-requires-clause-fine : goal.next-requires-clause-fine
next-requires-clause-fine c =
    let inv = c.loop-event.invariant in
    let number = subst (λ (h : Domains). is_domain h c.args.domain ≡ true) (sym inv.hub) c.requires.number in
    let at = at_domain c.loop-event.self.broker.hub c.loop-event.self.daemons.items c.args.domain c.index_mut.result.now number inv.posting.count c.index_mut.ensures.value in
    (inv.hearing.own (c.args.domain - 1) c.index_mut.result.now at.0 at.1).fine

pub decide-requires-clause-names : goal.decide-requires-clause-names
decide-requires-clause-names c = subst HasShortNames (sym c.loop-event.invariant.hub) c.requires.names

pub decide-requires-clause-sender : goal.decide-requires-clause-sender
decide-requires-clause-sender c = subst (λ (h : Domains). is_domain h c.args.domain ≡ true) (sym c.loop-event.invariant.hub) c.requires.number

pub decide-requires-clause-own : goal.decide-requires-clause-own
decide-requires-clause-own c = (own (goal.at.decide-requires-clause-own c).In-Some).0

pub decide-requires-clause-room : goal.decide-requires-clause-room
decide-requires-clause-room c = (own (goal.at.decide-requires-clause-room c).In-Some).1

pub returns-clause-heard : goal.returns-clause-heard
returns-clause-heard c =
    let at = here (goal.at.returns-clause-heard c).After-next in
    heard_out c.args.domain c.loop-event.self.broker.journal c.loop-event.self.daemons.items (c.args.domain - 1) c.index_mut.result.now c.next.new.self at.0 at.1
    (λ es reads. subst (λ o. HandsOut c.next.new.self es o) c.in_default.is (c.in_ok-event.ensures.hands es reads)) c.loop-event.invariant.hearing

pub decide-requires-clause-posting : goal.decide-requires-clause-posting
decide-requires-clause-posting c = posting (goal.at.decide-requires-clause-posting c).After-next

pub returns-clause-posting : goal.returns-clause-posting
returns-clause-posting c = posting (goal.at.returns-clause-posting c).After-next

pub loop-event-init : goal.loop-event-init
loop-event-init c = record { hub = refl; posting = c.requires.posting; hearing = c.requires.hearing; holds = c.requires.holds; ends = ends_none c.args.self.now.daemons.items; steps = steps_self c.args.domain Decides c.args.self.now.daemons.items (λ i x at here. decides_self x) }

pub loop-event-smaller : goal.loop-event-smaller
loop-event-smaller c =
    let fewer = subst (λ (o : Option Event). IfSome o (λ e. HasFewerLeft c.index_mut.result.now.port c.next.new.self.port)) c.in-Some.is c.in_ok-event.ensures.fewer in
    left_falls c.loop-event.self.daemons.items c.decide.new.self.daemons.items (c.args.domain - 1) c.index_mut.result.now c.next.new.self (here (goal.at.loop-event-smaller c).After-next).0 fewer c.decide.ensures.ports

pub loop-event-preserved : goal.loop-event-preserved
loop-event-preserved c =
    let w = (goal.at.loop-event-preserved c).After-next in
    let inv = c.loop-event.invariant in
    let b = c.loop-event.self.broker in
    let x = c.index_mut.result.now in
    let y = c.next.new.self in
    let i = c.args.domain - 1 in
    let there = (here w).0 in
    let e : Entry = record { event = c.in-Some.event; decision = decision b.hub (events b.journal) c.in-Some.event } in
    let own = own (goal.at.loop-event-preserved c).In-Some in
    record {
      hub = c.decide.ensures.hub ∙ inv.hub;
      posting = c.in_ok-decide.ensures.posting;
      hearing = subst (λ (j : List Entry). IsHearing c.args.domain j c.decide.new.self.daemons.items) (sym c.in_ok-decide.ensures.entry)
          (hearing_next c.args.domain b.journal e c.loop-event.self.daemons.items c.decide.new.self.daemons.items i x y there (here w).1 own.0
          (λ es reads. subst (λ o. HandsOut y es o) c.in-Some.is (c.in_ok-event.ensures.hands es reads)) c.decide.ensures.ports inv.hearing);
      holds = c.in_ok-decide.ensures.holds;
      ends = ends_decided c.args.self.now.daemons.items _ c.decide.new.self.daemons.items (ends w) c.decide.ensures.ports;
      steps = steps_then c.args.domain Decides StandsBy Decides _ (mid w) c.decide.new.self.daemons.items (λ a b z s by. decides_by a b z s by) (steps w)
          (steps_by c.args.domain (mid w) c.decide.new.self.daemons.items c.in_ok-decide.ensures.by);
    }

pub returns-clause-ends : goal.returns-clause-ends
returns-clause-ends c = ends (goal.at.returns-clause-ends c).After-next

pub returns-in_err-event-clause-ends : goal.returns-in_err-event-clause-ends
returns-in_err-event-clause-ends c = ends (goal.at.returns-in_err-event-clause-ends c).After-next

pub returns-in_err-decide-clause-ends : goal.returns-in_err-decide-clause-ends
returns-in_err-decide-clause-ends c = ends_decided _ _ c.decide.new.self.daemons.items (ends (goal.at.returns-in_err-decide-clause-ends c).After-next) c.decide.ensures.ports

pub returns-clause-steps : goal.returns-clause-steps
returns-clause-steps c = steps (goal.at.returns-clause-steps c).After-next

pub decide-requires-clause-holds : goal.decide-requires-clause-holds
decide-requires-clause-holds c = holds (goal.at.decide-requires-clause-holds c).After-next

pub returns-clause-holds : goal.returns-clause-holds
returns-clause-holds c = holds (goal.at.returns-clause-holds c).After-next
