-- What a write takes of the bytes that are left is appended too.
use Rattle.std.proofs.Common.{◌∙◌, rules}
use Rattle.std.proofs.lemmas.List.{take_rest}
use Rattle.vchan_io.proofs.Streaming.{Appends_front}
use Rattle.vchan_io.proofs.writing.write_all.Goals as goal

pub loop-written-preserved : goal.loop-written-preserved
loop-written-preserved g c =
    record {
      within = search rules;
      appends = Appends_front _ _ _ c.args.bytes.now c.loop-written.written _ c.loop-written.invariant.appends (rw take_rest at c.in-Ok.ensures.appended);
      unfaulted = c.in-Ok.ensures.unfaulted ∙ c.loop-written.invariant.unfaulted;
    }
