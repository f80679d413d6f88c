use Rattle.std.proofs.Common.{◌≡◌, ◌↔◌, ap, sym, subst}
use Rattle.vchan_lifecycle.specs.Lifecycle.{drain_told}
use Rattle.vchan_lifecycle.specs.declared.DrainAnswer.TheVariants.{More, NotYet, PeerGone}
use Rattle.vchan_protocol.specs.Answering.Causes.{DrainCause}
use Rattle.vchan_protocol.specs.Answering.Loads.{loads_of}
use Rattle.vchan_protocol.specs.History.Core.{standing_of}
use Rattle.control_port.specs.Port.{PortState}
use Rattle.control_port.proofs.PortLaws.{fed, said_end, heard_end}
use Rattle.control_port.proofs.port.ControlPort.drain.Goals as goal
use Rattle.vchan_rule.specs.Called.{most_asked}

pub returns-in_ok-feed-in-More-clause-heard : goal.returns-in_ok-feed-in-More-clause-heard
returns-in_ok-feed-in-More-clause-heard c = λ heard h.
    fed c.args.self.now _ c.feed.new.self c.drain.new.end heard c.in-More.count c.drain.new.buf c.drain.new.end.side.saw (sym c.self.view_is) h c.in-More.ensures.view c.in_ok-feed-in-More.ensures.ok
    (λ got given s. c.in_ok-feed-in-More.ensures.stream got given s)

pub returns-in-NotYet-clause-said : goal.returns-in-NotYet-clause-said
returns-in-NotYet-clause-said c = λ said h. said_end c.args.self.now _ c.drain.new.end said (sym c.self.view_is) (ap (λ e. e.sent) c.in-NotYet.ensures.view) h

pub returns-in-NotYet-clause-heard : goal.returns-in-NotYet-clause-heard
returns-in-NotYet-clause-heard c = λ heard h. heard_end c.args.self.now _ c.drain.new.end heard (sym c.self.view_is) (ap (λ e. e.got) c.in-NotYet.ensures.view) h

pub returns-in-AllRead-clause-said : goal.returns-in-AllRead-clause-said
returns-in-AllRead-clause-said c = λ said h. said_end c.args.self.now _ c.drain.new.end said (sym c.self.view_is) (ap (λ e. e.sent) c.in-AllRead.ensures.view) h

pub returns-in-AllRead-clause-heard : goal.returns-in-AllRead-clause-heard
returns-in-AllRead-clause-heard c = λ heard h. heard_end c.args.self.now _ c.drain.new.end heard (sym c.self.view_is) (ap (λ e. e.got) c.in-AllRead.ensures.view) h

pub returns-in-PeerGone-clause-said : goal.returns-in-PeerGone-clause-said
returns-in-PeerGone-clause-said c = λ said h. said_end c.args.self.now _ c.drain.new.end said (sym c.self.view_is) (ap (λ e. e.sent) c.in-PeerGone.ensures.view) h

pub returns-in-PeerGone-clause-heard : goal.returns-in-PeerGone-clause-heard
returns-in-PeerGone-clause-heard c = λ heard h. heard_end c.args.self.now _ c.drain.new.end heard (sym c.self.view_is) (ap (λ e. e.got) c.in-PeerGone.ensures.view) h

pub returns-in-NotYet-clause-cause : goal.returns-in-NotYet-clause-cause
returns-in-NotYet-clause-cause c = λ other.
    subst (λ (p : PortState). (NotYet c.in-NotYet.prod c.in-NotYet.cons ≡ other) ↔ DrainCause (standing_of p.end.side) (most_asked c.args.buf.now) (loads_of (standing_of p.end.side) c.drain.new.end.side.trail) (drain_told other)) c.self.view_is (c.in-NotYet.ensures.cause other)

pub returns-in-PeerGone-clause-cause : goal.returns-in-PeerGone-clause-cause
returns-in-PeerGone-clause-cause c = λ other.
    subst (λ (p : PortState). (PeerGone c.in-PeerGone.prod c.in-PeerGone.cons ≡ other) ↔ DrainCause (standing_of p.end.side) (most_asked c.args.buf.now) (loads_of (standing_of p.end.side) c.drain.new.end.side.trail) (drain_told other)) c.self.view_is (c.in-PeerGone.ensures.cause other)

pub returns-in_ok-feed-in-More-clause-cause : goal.returns-in_ok-feed-in-More-clause-cause
returns-in_ok-feed-in-More-clause-cause c = λ other.
    subst (λ (p : PortState). (More c.in-More.count ≡ other) ↔ DrainCause (standing_of p.end.side) (most_asked c.args.buf.now) (loads_of (standing_of p.end.side) c.drain.new.end.side.trail) (drain_told other)) c.self.view_is (c.in-More.ensures.cause other)

pub returns-in_ok-feed-in-More-clause-said : goal.returns-in_ok-feed-in-More-clause-said
returns-in_ok-feed-in-More-clause-said c = λ said h.
    let still = said_end c.args.self.now _ c.drain.new.end said (sym c.self.view_is) (ap (λ e. e.sent) c.in-More.ensures.view) h in
    record { each = still.each; whole = still.whole }
