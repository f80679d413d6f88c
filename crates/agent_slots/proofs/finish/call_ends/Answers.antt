use Rattle.std.proofs.Common.{length, arith, refl, ◌∙◌}
use Rattle.std.proofs.lemmas.Option.{slice_get_read}
use Rattle.agent_slots.specs.Finished.{call_at}
use Rattle.agent_slots.proofs.FinishLaws.{one_told, later_calls, other_servings, same_call, has_call}
use Rattle.agent_slots.proofs.finish.call_ends.Goals as goal

pub call_end-requires : goal.call_end-requires
call_end-requires c =
    let calls = c.args.calls.now in
    let here = slice_get_read calls (length calls) c.loop-note.note-index c.note-item.result refl (omega arith) c.note-item.is in
    has_call c.args.reports.now c.loop-note.reports calls c.loop-note.note-index c.note-item.result c.requires here c.loop-note.invariant.later

pub returns-in_err-push-clause-others : goal.returns-in_err-push-clause-others
returns-in_err-push-clause-others c =
    let calls = c.args.calls.now in
    let here = slice_get_read calls (length calls) c.loop-note.note-index c.note-item.result refl (omega arith) c.note-item.is in
    other_servings c.args.reports.now c.loop-note.reports c.call_end.new.reports calls c.loop-note.note-index c.note-item.result c.requires here c.loop-note.invariant.others c.call_end.ensures.others

pub loop-note-preserved : goal.loop-note-preserved
loop-note-preserved c =
    let first = c.args.reports.now in
    let calls = c.args.calls.now in
    let k = c.loop-note.note-index in
    let note = c.note-item.result in
    let known = c.loop-note.invariant in
    let here = slice_get_read calls (length calls) k note refl (omega arith) c.note-item.is in
    record {
      done = one_told (call_at first) calls k note _ _ _ here known.done c.in_ok-push.ensures.items (c.call_end.ensures.end ∙ same_call first c.loop-note.reports calls k note here known.later);
      later = later_calls first c.loop-note.reports c.call_end.new.reports calls k note c.requires here known.later c.call_end.ensures.others;
      others = other_servings first c.loop-note.reports c.call_end.new.reports calls k note c.requires here known.others c.call_end.ensures.others;
    }
