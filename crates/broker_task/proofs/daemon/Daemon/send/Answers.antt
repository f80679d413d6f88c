use Rattle.std.proofs.Common.{◌≡◌, ◌≢◌, Bool, Ok, ap, refl, subst, rules}
use Rattle.vchan_rule.specs.Seated.{view}
use Rattle.vchan_packet.specs.Packet.{sent_to, FailsToSend}
use Rattle.vchan_packet.proofs.FailingLaws.{fails_to_send}
use Rattle.vchan_packet.specs.declared.SendAnswer.{SendAnswer}
use Rattle.vchan_packet.specs.declared.SendAnswer.TheVariants.{Sent}
use Rattle.control_port.specs.Port.{PortState}
use Rattle.qrexec_frame.specs.declared.message.Message.{Message}
use Rattle.broker_task.specs.declared.daemon.Daemon.{Daemon}
use Rattle.broker_task.specs.Moving.{GreetsAsTold}
use Rattle.qrexec_frame.specs.Messages.{written}
use Rattle.broker_task.proofs.LineLaws.{line_sending, same_sent, same_then, read_sending}
use Rattle.broker_task.proofs.MovingCalls.{greeting_waits_lem, all_held_lem, letter_waits_lem, letter_goes}
use Rattle.broker_task.proofs.daemon.Daemon.send.Goals as goal

pub returns-in_default-2-clause-read : goal.returns-in_default-2-clause-read
returns-in_default-2-clause-read c = λ events h.
    read_sending c.greet.new.self (record c.greet.new.self { port = c.say.new.self }) events c.in_ok-say.field-0 (written c.message.result.now) refl c.say.ensures.same c.in_ok-say.ensures.view
    (λ heard g. c.say.ensures.heard heard g) (c.in_ok-greet.ensures.read events h)

pub returns-in-Sent-clause-read : goal.returns-in-Sent-clause-read
returns-in-Sent-clause-read c = λ events h.
    read_sending c.greet.new.self (record c.greet.new.self { port = c.say.new.self; outbox = c.take.new.self }) events c.in_ok-say.field-0 (written c.message.result.now) refl c.say.ensures.same
    c.in_ok-say.ensures.view (λ heard g. c.say.ensures.heard heard g) (c.in_ok-greet.ensures.read events h)

pub returns-then-not-branch-clause-moves : goal.returns-then-not-branch-clause-moves
returns-then-not-branch-clause-moves c =
    let no = c.if-not-branch.true in
    greeting_waits_lem c.args.self.now c.greet.new.self c.greet.ensures.«open».1 c.greet.ensures.port (subst (λ (b : Bool). GreetsAsTold b c.args.self.now c.greet.new.self) no c.in_ok-greet.ensures.moves)

pub returns-in_default-clause-moves : goal.returns-in_default-clause-moves
returns-in_default-clause-moves c =
    let yes = c.if-not-branch.false in
    all_held_lem c.args.self.now c.greet.new.self c.greet.ensures.«open».1 c.greet.ensures.port (subst (λ (b : Bool). GreetsAsTold b c.args.self.now c.greet.new.self) yes c.in_ok-greet.ensures.moves) (c.in_ok-greet.ensures.greeted (ap Ok yes))
    (search rules)

pub returns-in_default-2-clause-moves : goal.returns-in_default-2-clause-moves
returns-in_default-2-clause-moves c =
    let yes = c.if-not-branch.false in
    let y = c.greet.new.self in
    let z = record y { port = c.say.new.self } in
    let first = c.in-Some.ensures.first in
    let is : c.message.result.now ≡ first.letter.message = c.message.ensures first.letter first.there in
    let apart : c.in_ok-say.field-0 ≢ Sent = search rules in
    let fails = fails_to_send y.port.end z.port.end (written c.message.result.now) c.in_ok-say.field-0 apart c.in_ok-say.ensures.view c.in_ok-say.ensures.trail c.in_ok-say.ensures.cause in
    letter_waits_lem c.args.self.now y z c.in-Some.at first.letter c.say.ensures.«open».1 c.greet.ensures.port (subst (λ (b : Bool). GreetsAsTold b c.args.self.now y) yes c.in_ok-greet.ensures.moves) (c.in_ok-greet.ensures.greeted (ap Ok yes))
    (ap (λ (q : PortState). q.greeted) c.say.ensures.same) refl first.there first.ready first.before c.say.ensures.end (subst (λ (m : Message). FailsToSend (written m) y.port.end z.port.end) is fails)

pub returns-in-Sent-clause-moves : goal.returns-in-Sent-clause-moves
returns-in-Sent-clause-moves c =
    let yes = c.if-not-branch.false in
    let y = c.greet.new.self in
    let is = subst (λ (a : SendAnswer). view c.say.new.self.end ≡ sent_to (view y.port.end) a (written c.message.result.now)) c.in-Sent.is c.in_ok-say.ensures.view in
    letter_goes c.args.self.now y (record y { port = c.say.new.self; outbox = c.take.new.self }) c.message.result.now (subst (λ (b : Bool). GreetsAsTold b c.args.self.now y) yes c.in_ok-greet.ensures.moves) is

pub returns-in_default-2-clause-line : goal.returns-in_default-2-clause-line
returns-in_default-2-clause-line c =
    let y = c.greet.new.self in
    line_sending y.domain y (record c.greet.new.self { port = c.say.new.self }) c.in_ok-say.field-0 (written c.message.result.now) refl c.say.ensures.same c.say.ensures.end.1 c.in_ok-say.ensures.view c.say.ensures.«open» c.in_ok-greet.ensures.line

pub returns-in_default-2-clause-same : goal.returns-in_default-2-clause-same
returns-in_default-2-clause-same c =
    let x = c.args.self.now in
    let y = c.greet.new.self in
    let z = record c.greet.new.self { port = c.say.new.self } in
    (same_then x y z c.in_ok-greet.ensures.same (same_sent y z c.in_ok-say.field-0 (written c.message.result.now) refl refl c.in_ok-say.ensures.view), ap (λ (d : Daemon). d.answered) c.greet.ensures.port)

pub returns-in-Sent-clause-line : goal.returns-in-Sent-clause-line
returns-in-Sent-clause-line c =
    let y = c.greet.new.self in
    line_sending y.domain y (record c.greet.new.self { port = c.say.new.self; outbox = c.take.new.self }) c.in_ok-say.field-0 (written c.message.result.now) refl c.say.ensures.same c.say.ensures.end.1 c.in_ok-say.ensures.view c.say.ensures.«open» c.in_ok-greet.ensures.line

pub returns-in-Sent-clause-same : goal.returns-in-Sent-clause-same
returns-in-Sent-clause-same c =
    let x = c.args.self.now in
    let y = c.greet.new.self in
    let z = record c.greet.new.self { port = c.say.new.self; outbox = c.take.new.self } in
    (same_then x y z c.in_ok-greet.ensures.same (same_sent y z c.in_ok-say.field-0 (written c.message.result.now) refl refl c.in_ok-say.ensures.view), ap (λ (d : Daemon). d.answered) c.greet.ensures.port)
