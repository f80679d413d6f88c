use Rattle.std.proofs.Common.{◌≡◌, ◌∙◌, ℕ, refl, ap, sym, subst, inl, inr, rules, not, None}
use Rattle.std.specs.Prelude.{IsSome, is_some}
use Rattle.vchan_rule.specs.Seated.{view}
use Rattle.vchan_packet.specs.Packet.{sent_to, FailsToSend}
use Rattle.vchan_packet.proofs.FailingLaws.{fails_to_send}
use Rattle.vchan_packet.specs.declared.SendAnswer.{SendAnswer}
use Rattle.qrexec_frame.specs.Messages.{written}
use Rattle.qrexec_frame.specs.declared.message.Message.TheVariants.{Hello}
use Rattle.broker_task.specs.Moving.{has_not_greeted, greeting_waits}
use Rattle.broker_task.proofs.LineLaws.{line_sent, same_sent, read_sent}
use Rattle.broker_task.proofs.MovingCalls.{sent_more}
use Rattle.broker_task.proofs.daemon.Daemon.greet.Goals as goal

pub returns-then-greeted-clause-moves : goal.returns-then-greeted-clause-moves
returns-then-greeted-clause-moves c = inl refl

pub returns-then-is_none-clause-moves : goal.returns-then-is_none-clause-moves
returns-then-is_none-clause-moves c = let none : c.args.self.now.port.version ≡ None = search rules in has_not_greeted none refl

pub returns-in-Sent-clause-moves : goal.returns-in-Sent-clause-moves
returns-in-Sent-clause-moves c =
    let hello = Hello c.args.self.now.port.own in
    let is = subst (λ (a : SendAnswer). view c.greet.new.self.end ≡ sent_to (view c.args.self.now.port.end) a (written hello)) c.in-Sent.is c.in_ok-greet.ensures.view in
    let both = sent_more c.args.self.now.port.end c.greet.new.self.end hello is in inr (record { got = both.0; more = both.1 })

pub returns-in_default-clause-moves : goal.returns-in_default-clause-moves
returns-in_default-clause-moves c =
    let old = c.args.self.now.port.end in
    let new = c.greet.new.self.end in
    let fails = fails_to_send old new (written (Hello c.args.self.now.port.own)) c.in_ok-greet.field-0 c.in_default.not-Sent c.in_ok-greet.ensures.view c.in_ok-greet.ensures.trail c.in_ok-greet.ensures.cause in
    greeting_waits (c.in_ok-greet.ensures.greeted.1 c.in_default.not-Sent) c.greet.ensures.end (subst (λ (o : ℕ). FailsToSend (written (Hello o)) old new) c.requires.line.own fails)

pub returns-in-Sent-clause-line : goal.returns-in-Sent-clause-line
returns-in-Sent-clause-line c =
    let old = c.args.self.now in
    let heard : IsSome old.port.version = ap is_some (sym c.version.ensures) ∙ c.is_none.ensures ∙ ap not c.if-is_none.false in
    let same = c.greet.ensures.same in
    line_sent old.domain old (record old { port = c.greet.new.self }) c.in_ok-greet.field-0 (written (Hello old.port.own)) refl same.0 same.1 c.greet.ensures.end.1 c.in_ok-greet.ensures.view c.greet.ensures.«open» (λ greeted. ap is_some same.2 ∙ heard) c.requires.line

pub returns-in-Sent-clause-same : goal.returns-in-Sent-clause-same
returns-in-Sent-clause-same c = same_sent c.args.self.now (record c.args.self.now { port = c.greet.new.self }) c.in_ok-greet.field-0 (written (Hello c.args.self.now.port.own)) refl refl c.in_ok-greet.ensures.view

pub returns-in-Sent-clause-read : goal.returns-in-Sent-clause-read
returns-in-Sent-clause-read c = λ events h.
    read_sent c.args.self.now (record c.args.self.now { port = c.greet.new.self }) events c.in_ok-greet.field-0 (written (Hello c.args.self.now.port.own)) refl c.greet.ensures.same.3 c.greet.ensures.same.2 c.in_ok-greet.ensures.view
    (λ heard g. c.greet.ensures.heard heard g) h

pub returns-in_default-clause-line : goal.returns-in_default-clause-line
returns-in_default-clause-line c =
    let old = c.args.self.now in
    let heard : IsSome old.port.version = ap is_some (sym c.version.ensures) ∙ c.is_none.ensures ∙ ap not c.if-is_none.false in
    let same = c.greet.ensures.same in
    line_sent old.domain old (record old { port = c.greet.new.self }) c.in_ok-greet.field-0 (written (Hello old.port.own)) refl same.0 same.1 c.greet.ensures.end.1 c.in_ok-greet.ensures.view c.greet.ensures.«open» (λ greeted. ap is_some same.2 ∙ heard) c.requires.line

pub returns-in_default-clause-same : goal.returns-in_default-clause-same
returns-in_default-clause-same c = same_sent c.args.self.now (record c.args.self.now { port = c.greet.new.self }) c.in_ok-greet.field-0 (written (Hello c.args.self.now.port.own)) refl refl c.in_ok-greet.ensures.view

pub returns-in_default-clause-read : goal.returns-in_default-clause-read
returns-in_default-clause-read c = λ events h.
    read_sent c.args.self.now (record c.args.self.now { port = c.greet.new.self }) events c.in_ok-greet.field-0 (written (Hello c.args.self.now.port.own)) refl c.greet.ensures.same.3 c.greet.ensures.same.2 c.in_ok-greet.ensures.view
    (λ heard g. c.greet.ensures.heard heard g) h
