use Rattle.std.proofs.Common.{◌≡◌, ◌+◌, ◌-◌, ◌<◌, List, sym, subst, arith}
use Rattle.std.proofs.Math.ListN.{set}
use Rattle.std.proofs.lemmas.List.{length-set}
use Rattle.call_broker.specs.Brokered.{Brokered}
use Rattle.broker_task.specs.declared.daemon.Daemon.{Daemon}
use Rattle.broker_task.specs.Letters.{IsAt}
use Rattle.broker_task.specs.Lines.{SendsOne, KeepsEnd}
use Rattle.broker_task.specs.Posting.{EachMoves, IsSending, waiting_in}
use Rattle.broker_task.proofs.HearingSteps.{at_domain}
use Rattle.broker_task.proofs.SendingSteps.{Sends, moves_alone, gone_one}
use Rattle.broker_task.proofs.ReleaseSteps.{unsent_moves, sending_moves, waiting_sent, same_one, same_moves, idle_posting}
use Rattle.broker_task.proofs.KeepingSteps.{keeps_one, keeps_all, keeps_daemons}
use Rattle.std.proofs.Common.{Option}
use Rattle.std.specs.Prelude.{is_some}
use Rattle.qrexec_frame.specs.declared.message.Message.{Message}
use Rattle.broker_task.specs.Moving.{StandsBy, SendsAsTold, SendsMore, SendsOrNot}
use Rattle.broker_task.proofs.MovingLaws.{steps_one, steps_then, steps_by, sends_by}
use Rattle.broker_task.proofs.HoldingLaws.{holds_next, holds_sent}
use Rattle.broker_task.proofs.switchboard.Switchboard.send_one.Goals.{After-send, In-Some}
use Rattle.broker_task.proofs.switchboard.Switchboard.send_one.Goals as goal

-- the daemons after the call of `send`
abbrev mid : After-send → List Daemon
mid c = set c.args.self.now.daemons.items (c.args.domain - 1) c.send.new.self

here : (c : After-send) → IsAt c.args.self.now.daemons.items (c.args.domain - 1) c.index_mut.result.now × (c.args.domain - 1 + 1 ≡ c.args.domain)
here c = at_domain c.args.self.now.broker.hub c.args.self.now.daemons.items c.args.domain c.index_mut.result.now c.requires.number c.requires.sending.posting.count c.index_mut.ensures.value

kept : (c : After-send) → EachMoves (λ d. KeepsEnd) c.args.self.now.daemons.items (mid c)
kept c = keeps_one c.args.self.now.daemons.items (c.args.domain - 1) c.index_mut.result.now c.send.new.self (here c).0 c.send.ensures.kept

pub returns-in_err-message-clause-kept : goal.returns-in_err-message-clause-kept
returns-in_err-message-clause-kept c = kept (goal.at.returns-in_err-message-clause-kept c).After-send

pub returns-in-None-clause-kept : goal.returns-in-None-clause-kept
returns-in-None-clause-kept c = kept (goal.at.returns-in-None-clause-kept c).After-send

pub returns-in-Some-clause-kept : goal.returns-in-Some-clause-kept
returns-in-Some-clause-kept c = keeps_all _ _ c.let_go.new.self.daemons.items (kept (goal.at.returns-in-Some-clause-kept c).After-send) (keeps_daemons _ c.let_go.new.self.daemons.items c.let_go.ensures.same)

-- the message that was sent
sends : (c : In-Some) → Sends c.in-Some.message c.index_mut.result.now c.send.new.self
sends c =
    let at = at_domain c.args.self.now.broker.hub c.args.self.now.daemons.items c.args.domain c.index_mut.result.now c.requires.number c.requires.sending.posting.count c.index_mut.ensures.value in
    record {
      sends = λ said h. subst (λ o. SendsOne c.index_mut.result.now c.send.new.self said o) c.in-Some.is (c.in_ok-message.ensures.sends said h);
      same = c.in_ok-message.ensures.same.0;
      counted = c.in_ok-message.ensures.same.1;
      line = c.in_ok-message.ensures.line;
      up = c.requires.sending.opened (c.args.domain - 1) c.index_mut.result.now at.0 at.1;
      opened = c.in_ok-message.ensures.«open»;
      read = λ events h. c.in_ok-message.ensures.read events h;
    }

pub let_go-requires-clause-went : goal.let_go-requires-clause-went
let_go-requires-clause-went c =
    let at = here (goal.at.let_go-requires-clause-went c).After-send in
    gone_one c.args.self.now.broker.hub c.args.self.now.broker.journal c.args.domain c.in-Some.message c.args.self.now.daemons.items (c.args.domain - 1) c.index_mut.result.now c.send.new.self at.0 at.1 (sends (goal.at.let_go-requires-clause-went c).In-Some) c.requires.sending

pub returns-in-Some-clause-idle : goal.returns-in-Some-clause-idle
returns-in-Some-clause-idle c = idle_posting c.args.self.now.broker.hub c.args.self.now.broker.journal c.let_go.new.self.daemons.items c.let_go.ensures.sending.posting

pub returns-in-Some-clause-sending : goal.returns-in-Some-clause-sending
returns-in-Some-clause-sending c =
    subst (λ (b : Brokered). IsSending b.hub c.args.domain b.journal c.let_go.new.self.daemons.items) (sym c.let_go.ensures.broker) c.let_go.ensures.sending

pub returns-in-Some-clause-same : goal.returns-in-Some-clause-same
returns-in-Some-clause-same c =
    let at = here (goal.at.returns-in-Some-clause-same c).After-send in
    same_moves _ _ c.let_go.new.self.daemons.items (same_one _ (c.args.domain - 1) c.index_mut.result.now c.send.new.self at.0 c.in_ok-message.ensures.same.0) c.let_go.ensures.same

pub returns-in-Some-clause-fewer : goal.returns-in-Some-clause-fewer
returns-in-Some-clause-fewer c = λ went.
    let ds = c.args.self.now.daemons.items in
    let i = c.args.domain - 1 in
    let y = c.send.new.self in
    let at = here (goal.at.returns-in-Some-clause-fewer c).After-send in
    let less = waiting_sent c.args.self.now.broker.hub c.args.self.now.broker.journal c.args.domain c.in-Some.message ds i c.index_mut.result.now y at.0 (sends (goal.at.returns-in-Some-clause-fewer c).In-Some) c.requires.sending in
    let after = c.let_go.ensures.waiting i (omega (arith, at.0.within, length-set ds i y)) in
    subst (λ n. n < waiting_in ds i) (sym after) less

pub returns-in-None-clause-sending : goal.returns-in-None-clause-sending
returns-in-None-clause-sending c =
    let x = c.index_mut.result.now in
    let y = c.send.new.self in
    let at = here (goal.at.returns-in-None-clause-sending c).After-send in
    let sent = c.in_ok-message.ensures in
    sending_moves c.args.self.now.broker.hub c.args.self.now.broker.journal c.args.domain c.args.self.now.daemons.items (c.args.domain - 1) x y at.0 at.1 (λ said h. subst (λ o. SendsOne x y said o) c.in-None.is (sent.sends said h))
    sent.same.0 sent.same.1 sent.line sent.«open» (λ events h. sent.read events h) c.requires.sending

pub returns-in-None-clause-same : goal.returns-in-None-clause-same
returns-in-None-clause-same c = same_one _ (c.args.domain - 1) c.index_mut.result.now c.send.new.self (here (goal.at.returns-in-None-clause-same c).After-send).0 c.in_ok-message.ensures.same.0

pub returns-in-Some-clause-steps : goal.returns-in-Some-clause-steps
returns-in-Some-clause-steps c =
    let at = here (goal.at.returns-in-Some-clause-steps c).After-send in
    let x = c.index_mut.result.now in
    let y = c.send.new.self in
    let more = subst (λ (o : Option Message). SendsAsTold (is_some o) x y) c.in-Some.is c.in_ok-message.ensures.moves in
    let mid = set c.args.self.now.daemons.items (c.args.domain - 1) y in
    steps_then c.args.domain SendsMore StandsBy SendsMore _ mid _ (λ a b z s by. sends_by a b z s by) (steps_one c.args.domain SendsMore _ (c.args.domain - 1) x y at.0 at.1 more) (steps_by c.args.domain mid _ c.let_go.ensures.by)

pub returns-in-None-clause-steps : goal.returns-in-None-clause-steps
returns-in-None-clause-steps c =
    let at = here (goal.at.returns-in-None-clause-steps c).After-send in
    let x = c.index_mut.result.now in
    let y = c.send.new.self in
    steps_one c.args.domain SendsOrNot _ (c.args.domain - 1) x y at.0 at.1 (subst (λ (o : Option Message). SendsAsTold (is_some o) x y) c.in-None.is c.in_ok-message.ensures.moves)

pub let_go-requires-clause-holds : goal.let_go-requires-clause-holds
let_go-requires-clause-holds c =
    let at = here (goal.at.let_go-requires-clause-holds c).After-send in
    holds_sent c.args.self.now.broker.hub c.args.self.now.broker.journal c.args.domain c.in-Some.message _ _
    (moves_alone c.args.domain (Sends c.in-Some.message) c.args.self.now.daemons.items (c.args.domain - 1) c.index_mut.result.now c.send.new.self at.0 at.1 (sends (goal.at.let_go-requires-clause-holds c).In-Some)) c.requires.sending.posting c.requires.holds

pub returns-in-None-clause-holds : goal.returns-in-None-clause-holds
returns-in-None-clause-holds c =
    let p = c.requires.sending in
    let i = c.args.domain - 1 in
    let x = c.index_mut.result.now in
    let y = c.send.new.self in
    let at = here (goal.at.returns-in-None-clause-holds c).After-send in
    let sent = c.in_ok-message.ensures in
    holds_next c.args.self.now.daemons.items i x y at.0
    (unsent_moves i x y (λ said h. subst (λ o. SendsOne x y said o) c.in-None.is (sent.sends said h)) (p.posting.posted i x at.0).says (p.opened i x at.0 at.1) sent.same.0 sent.same.1 sent.line sent.«open») c.requires.holds
