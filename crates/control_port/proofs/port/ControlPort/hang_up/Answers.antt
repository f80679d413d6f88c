use Rattle.std.proofs.Common.{◌∙◌, ap, sym}
use Rattle.vchan_protocol.specs.History.Core.{standing_of}
use Rattle.vchan_rule.specs.Seated.{view}
use Rattle.vchan_lifecycle.specs.Lifecycle.{retired_view}
use Rattle.vchan_lifecycle.proofs.LifecycleLaws.{retire_done, retire_view}
use Rattle.control_port.proofs.PortLaws.{said_end, retire_notes}
use Rattle.control_port.proofs.port.ControlPort.hang_up.Goals as goal

pub returns-clause-view : goal.returns-clause-view
returns-clause-view c =
    let done = retire_done (standing_of c.self.inside.end.side) _ _ c.do_call.ensures.over.trace in
    c.do_call.ensures.view ∙ retire_view (view c.self.inside.end) _ c.do_call.new.buf c.do_call.result c.do_call.new.self.side.saw done c.do_call.ensures.saw
    ∙ ap (λ p. retired_view (view p.end)) c.self.view_is

pub returns-clause-said : goal.returns-clause-said
returns-clause-said c = λ said h.
    let done = retire_done (standing_of c.self.inside.end.side) _ _ c.do_call.ensures.over.trace in
    let same = c.do_call.ensures.view ∙ retire_view (view c.self.inside.end) _ c.do_call.new.buf c.do_call.result c.do_call.new.self.side.saw done c.do_call.ensures.saw in
    said_end c.args.self.now _ c.do_call.new.self said (sym c.self.view_is) (ap (λ e. e.sent) same) h

pub returns-clause-noted : goal.returns-clause-noted
returns-clause-noted c =
    retire_notes c.self.inside.end.side c.do_call.new.self.side _ c.do_call.result c.do_call.ensures.over.trace c.do_call.ensures.over.is ∙ ap (λ p. p.end.side.notes) c.self.view_is
