use Rattle.qrexec_c.proofs.SentLaws.{Went, went, went_sent, went_heard, went_keeps}
use Rattle.qrexec_c.proofs.session.qrexec_session_sent.Goals as goal

this : (c : goal.After-take) → Went c.args.session.now c.take.new.session c.args.kind c.args.len
this c = went c.args.kind c.args.len c.other.result c.args.session.now c.take.new.session c.part_of.result c.if-session-eq0.false
    (c.qrexec_session_may_send.ensures.0 c.if-not-qrexec_session_may_send.false).1 c.other.ensures c.part_of.ensures c.take.ensures

pub returns-else-session-eq0-clause-sent : goal.returns-else-session-eq0-clause-sent
returns-else-session-eq0-clause-sent c = λ _. went_sent c.args.session.now c.take.new.session c.args.kind c.args.len (this c)

pub returns-else-session-eq0-clause-heard : goal.returns-else-session-eq0-clause-heard
returns-else-session-eq0-clause-heard c = went_heard c.args.session.now c.take.new.session c.args.kind c.args.len (this c)

pub returns-else-session-eq0-clause-kept : goal.returns-else-session-eq0-clause-kept
returns-else-session-eq0-clause-kept c = let k = went_keeps c.args.session.now c.take.new.session c.args.kind c.args.len (this c) in (k.reader, k.side, k.own, k.version)
