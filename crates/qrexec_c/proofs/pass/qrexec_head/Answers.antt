use Rattle.std.proofs.Common.{◌≡◌, ◌++◌, ◌∙◌, [], ap}
use Rattle.qrexec_c.specs.Readers.{fault_in, IsFault}
use Rattle.qrexec_c.proofs.Streams.{more_stands, fault_reads}
use Rattle.qrexec_c.proofs.pass.qrexec_head.Goals as goal

pub returns-in-Err-clause-stream_fault : goal.returns-in-Err-clause-stream_fault
returns-in-Err-clause-stream_fault c = λ _ sound channel is stream given stands.
    let same : c.in-Some.channel ≡ channel = cc in
    let found = rw same at c.in-Err.ensures in
    let bad : IsFault channel c.args.header.now c.args.passing.now.reader c.faulted-passing.result
    = record { fault = found.0; bad = found.1 c.args.header.now c.if-header-lt8.false c.u32_at-kind.ensures c.u32_at-len.ensures; new_is = c.faulted-passing.ensures ∙ ap (λ f. fault_in c.args.passing.now.reader.channel f) found.2 } in
    fault_reads channel c.args.header.now c.args.passing.now.reader c.faulted-passing.result sound bad (stream ++ c.args.header.now) given (more_stands channel c.args.passing.now.reader [] c.args.header.now stream given sound stands)
