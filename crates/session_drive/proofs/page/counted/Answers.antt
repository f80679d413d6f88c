use Rattle.std.proofs.Common.{take}
use Rattle.vchan_protocol.specs.Table.Calls.{payload_of}
use Rattle.session_drive.proofs.PageLaws.{both_idle, honest_called, rested_allows, rested_turned}
use Rattle.session_drive.proofs.page.counted.Goals as goal

pub run_call-requires-clause-honest : goal.run_call-requires-clause-honest
run_call-requires-clause-honest g c = rested_turned _ _ _ c.requires.rests.rested.between

pub run_call-requires-clause-allowed : goal.run_call-requires-clause-allowed
run_call-requires-clause-allowed g c = rested_allows _ _ _ _ c.requires.rests.rested c.requires.allowed

pub returns : goal.returns
returns g c = λ core r.
    let e = c.run_call.ensures in
    let stands = e.stands core r.between.stands in
    record {
      between = record {
        stands = stands;
        kept = e.invariant core r.between.stands r.between.kept;
        honest = honest_called core c.args.who c.args.call (take (payload_of c.args.call) c.args.payload.now) r.between.honest;
        idle = both_idle core _ _ _ c.args.who r.between stands e.idle e.other;
      };
      answer_is = e.answer core r.between.stands;
      buffer_is = e.buffer core r.between.stands;
      follows = e.lists core r.between.stands (r.between.kept.lawful r.between.honest);
    }
