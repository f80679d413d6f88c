use Rattle.std.proofs.Common.{◌≡◌, ◌++◌, ◌∙◌, ap, length, length-append, rules}
use Rattle.tests_ring.proofs.whole.send_whole.Goals as goal

pub returns-in-Sent-clause-counted : goal.returns-in-Sent-clause-counted
returns-in-Sent-clause-counted c =
    let sent : c.send.new.end.side.sent ≡ c.args.end.now.side.sent ++ c.args.bytes.now = search rules in
    ap length sent ∙ length-append c.args.end.now.side.sent c.args.bytes.now
