use Rattle.std.proofs.Common.{◌-◌, arith}
use Rattle.qrexec_c.proofs.PassLaws.{passes_on, passes_whole, reads_part, reads_whole}
use Rattle.qrexec_c.proofs.pass.qrexec_pass.Goals as goal

pub returns-then-passing-ne0-clause-goes_on : goal.returns-then-passing-ne0-clause-goes_on
returns-then-passing-ne0-clause-goes_on c = λ _ channel part piece under size.
    passes_on channel c.args.passing.now part piece (c.args.passing.now.left - c.args.count) under (omega (arith, size, c.if-passing-count.false)) c.if-passing-ne0.true

pub returns-then-passing-ne0-clause-stream_goes_on : goal.returns-then-passing-ne0-clause-stream_goes_on
returns-then-passing-ne0-clause-stream_goes_on c = λ _ channel part piece stream given under size stands.
    reads_part channel c.args.passing.now part piece stream given (c.args.passing.now.left - c.args.count) under (omega (arith, size, c.if-passing-count.false)) c.if-passing-ne0.true stands

pub returns-clause-whole : goal.returns-clause-whole
returns-clause-whole c = λ _ channel part piece under size.
    passes_whole channel c.args.passing.now part piece (c.args.passing.now.left - c.args.count) under (omega (arith, size, c.if-passing-count.false, c.if-passing-ne0.false))

pub returns-clause-stream_whole : goal.returns-clause-stream_whole
returns-clause-stream_whole c = λ _ channel part piece stream given under size stands.
    reads_whole channel c.args.passing.now part piece stream given (c.args.passing.now.left - c.args.count) under (omega (arith, size, c.if-passing-count.false, c.if-passing-ne0.false)) stands
