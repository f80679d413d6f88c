use Rattle.std.proofs.Common.{◌≡◌, ◌+◌, ◌-◌, ◌++◌, List, None, length, take, drop, sym, subst, arith}
use Rattle.std.proofs.Math.ListN.{set}
use Rattle.std.proofs.lemmas.List.{length-set}
use Rattle.call_broker.specs.Brokered.{Brokered}
use Rattle.broker_task.specs.declared.daemon.Daemon.{Daemon}
use Rattle.broker_task.specs.Letters.{IsAt}
use Rattle.broker_task.specs.Posting.{EachMoves, LetsGo, IsPosting, HaveRead}
use Rattle.broker_task.specs.Moving.{IsDropped}
use Rattle.broker_task.proofs.ReplyLaws.{moved_back}
use Rattle.broker_task.proofs.HearingSteps.{at_domain}
use Rattle.broker_task.proofs.SendingSteps.{Alone, moves_alone}
use Rattle.broker_task.proofs.DropSteps.{HangsUp, IsWithout, without}
use Rattle.broker_task.proofs.KeepingSteps.{keeps_none, keeps_daemons}
use Rattle.broker_task.proofs.MovingLaws.{drops, grows_shut}
use Rattle.broker_task.proofs.HoldingLaws.{holds_dropped}
use Rattle.broker_task.proofs.switchboard.Switchboard.drop_domain.Goals as goal

pub returns-in_err-event-clause-kept : goal.returns-in_err-event-clause-kept
returns-in_err-event-clause-kept c = keeps_none c.args.self.now.daemons.items

-- the daemons once the domain hung up, and in the end
abbrev mid : goal.After-self-2-1 → List Daemon
mid c = set c.args.self.now.daemons.items (c.args.domain - 1) c.hang_up.new.self

abbrev after : goal.After-self-2-1 → List Daemon
after c = take c.args.self.now.daemons.len (c.release_target.new.daemons ++ drop (length c.release_target.new.daemons) (mid c))

here : (c : goal.After-self-2-1) → IsAt c.args.self.now.daemons.items (c.args.domain - 1) c.index_mut.result.now × (c.args.domain - 1 + 1 ≡ c.args.domain)
here c = at_domain c.args.self.now.broker.hub c.args.self.now.daemons.items c.args.domain c.index_mut.result.now c.requires.number c.requires.posting.count c.index_mut.ensures.value

hangs_up : (c : goal.After-self-2-1) → EachMoves (Alone c.args.domain HangsUp) c.args.self.now.daemons.items (mid c)
hangs_up c =
    moves_alone c.args.domain HangsUp c.args.self.now.daemons.items (c.args.domain - 1) c.index_mut.result.now c.hang_up.new.self (here c).0 (here c).1
    (record {
      gone = c.hang_up.ensures.gone;
      line = c.hang_up.ensures.line;
      said = λ said h. c.hang_up.ensures.said said h;
      got = c.hang_up.ensures.got;
      version = c.hang_up.ensures.version;
      letters = c.hang_up.ensures.outbox;
      same = c.hang_up.ensures.same.0;
      counted = c.hang_up.ensures.same.1;
    })

lets_go : (c : goal.After-self-2-1) → EachMoves (λ d. LetsGo c.args.domain None) (mid c) (after c)
lets_go c =
    moved_back (λ d. LetsGo c.args.domain None) (mid c) c.release_target.new.daemons c.args.self.now.daemons.len
    (omega (arith, c.args.self.now.daemons.ok.0, length-set c.args.self.now.daemons.items (c.args.domain - 1) c.hang_up.new.self))
    (subst (λ (l : List Daemon). EachMoves (λ d. LetsGo c.args.domain None) l c.release_target.new.daemons) c.as_mut_slice.ensures.value c.release_target.ensures)

done : (c : goal.After-self-2-1) → IsWithout c.args.self.now.broker.hub c.args.self.now.broker.journal c.args.domain c.in_ok-event.field-0 c.args.self.now.daemons.items (after c)
done c = without _ _ c.args.domain c.in_ok-event.field-0 _ (mid c) (after c) (hangs_up c) (lets_go c) c.in_ok-event.ensures.decided c.requires.number c.requires.posting c.requires.heard

pub returns-clause-posting : goal.returns-clause-posting
returns-clause-posting c = subst (λ (b : Brokered). IsPosting b.hub b.journal (after c)) (sym c.in_ok-event.ensures.kept) (done c).posting

pub returns-clause-read : goal.returns-clause-read
returns-clause-read c = subst (λ (b : Brokered). HaveRead b.journal (after c)) (sym c.in_ok-event.ensures.kept) (done c).read

pub returns-clause-same : goal.returns-clause-same
returns-clause-same c = (done c).same

pub returns-clause-kept : goal.returns-clause-kept
returns-clause-kept c = keeps_daemons _ _ (done c).same

pub returns-clause-steps : goal.returns-clause-steps
returns-clause-steps c =
    let x = c.index_mut.result.now in
    let dropped : IsDropped x c.hang_up.new.self = record { grows = grows_shut x c.hang_up.new.self c.hang_up.ensures.gone c.hang_up.ensures.got c.hang_up.ensures.sent; shut = c.hang_up.ensures.gone } in
    drops c.args.domain c.args.self.now.daemons.items (c.args.domain - 1) x c.hang_up.new.self (after c) (here c).0 (here c).1 dropped (lets_go c)

pub returns-clause-holds : goal.returns-clause-holds
returns-clause-holds c = holds_dropped c.args.domain _ (mid c) (after c) (hangs_up c) (lets_go c) c.requires.holds
