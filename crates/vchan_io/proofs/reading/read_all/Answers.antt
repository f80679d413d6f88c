-- What a read puts after the filled part of the vector is taken too.
use Rattle.std.proofs.Common.{◌≡◌, ◌∙◌, ◌++◌, length, take, drop, arith, rules}
use Rattle.std.proofs.lemmas.Grind.{common_steps}
use Rattle.std.proofs.lemmas.List.{take_at}
use Rattle.vchan_io.proofs.Streaming.{Takes_filled}
use Rattle.vchan_io.proofs.reading.read_all.Goals as goal

pub loop-filled-preserved : goal.loop-filled-preserved
loop-filled-preserved g c =
    let room = c.make_room.new.bytes in
    let after = c.read_at.new.bytes in
    let kept : take c.loop-filled.filled after ≡ take c.loop-filled.filled c.loop-filled.bytes.items = grind (arith, common_steps) in
    let whole : take room.len (after ++ drop (length after) room.items) ≡ after = take_at after _ room.len (search rules) in
    record {
      within = search rules;
      bounded = search rules;
      takes = rw whole (Takes_filled _ _ _ _ after _ _ kept c.loop-filled.invariant.takes (search rules));
      unfaulted = c.in_ok-count.ensures.unfaulted ∙ c.loop-filled.invariant.unfaulted;
    }
