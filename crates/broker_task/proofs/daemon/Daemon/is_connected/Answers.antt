use Rattle.std.proofs.Common.{◌≡◌, ◌∙◌, refl, ap, sym, inl, inr, rules}
use Rattle.std.specs.Prelude.{is_some}
use Rattle.end_view.specs.EndView.{EndView}
use Rattle.control_port.specs.Port.{PortState}
use Rattle.broker_task.specs.Lines.{first_view}
use Rattle.broker_task.proofs.LineLaws.{line_open}
use Rattle.broker_task.proofs.HearingSteps.{reads_heard}
use Rattle.vchan_protocol.specs.declared.call.EndState.TheVariants.{Fresh}
use Rattle.vchan_rule.specs.Seated.{view}
use Rattle.broker_task.proofs.daemon.Daemon.is_connected.Goals as goal

pub returns-then-ne-clause-begins : goal.returns-then-ne-clause-begins
returns-then-ne-clause-begins c = λ is. inl refl

pub returns-in-Ok-clause-begins : goal.returns-in-Ok-clause-begins
returns-in-Ok-clause-begins c = λ is.
    let fresh : (view c.args.self.now.port.end).state ≡ Fresh = search rules in inr (fresh, c.connect.ensures.end, c.in-Ok.ensures.trail)

pub returns-in-Ok-clause-line : goal.returns-in-Ok-clause-line
returns-in-Ok-clause-line c =
    let x = c.args.self.now in
    let only = c.connect.ensures.same in
    let v = c.in-Ok.ensures.view in
    line_open x.domain x (record c.args.self.now { port = c.connect.new.self }) refl (ap (λ (p : PortState). p.talker) only) (ap (λ (p : PortState). p.own) only) c.connect.ensures.end.1 (ap (λ (e : EndView). e.turned) v)
    (ap (λ (e : EndView). e.idle) v ∙ c.requires.line.idle, ap (λ (e : EndView). e.state) v) (λ g. ap (λ (p : PortState). is_some p.version) only ∙ c.requires.line.greets (sym (ap (λ (p : PortState). p.greeted) only) ∙ g)) c.requires.line

pub returns-in-Ok-clause-same : goal.returns-in-Ok-clause-same
returns-in-Ok-clause-same c = (record { domain = refl; awaited = refl; given = ap first_view c.in-Ok.ensures.view }, ap (λ (p : PortState). p.version) c.connect.ensures.same)

pub returns-in-Err-clause-same : goal.returns-in-Err-clause-same
returns-in-Err-clause-same c = (record { domain = refl; awaited = refl; given = ap first_view c.in-Err.ensures.view }, ap (λ (p : PortState). p.version) c.connect.ensures.same)

pub returns-in-Ok-clause-read : goal.returns-in-Ok-clause-read
returns-in-Ok-clause-read c = λ events r. reads_heard c.args.self.now (record c.args.self.now { port = c.connect.new.self }) events refl (ap (λ (p : PortState). p.fault) c.connect.ensures.same) c.connect.ensures.heard r

pub returns-in-Err-clause-read : goal.returns-in-Err-clause-read
returns-in-Err-clause-read c = λ events r. reads_heard c.args.self.now (record c.args.self.now { port = c.connect.new.self }) events refl (ap (λ (p : PortState). p.fault) c.connect.ensures.same) c.connect.ensures.heard r
