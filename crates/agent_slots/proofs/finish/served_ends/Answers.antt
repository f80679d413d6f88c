use Rattle.std.proofs.Common.{ap, sym, ◌∙◌, ◌∷◌, [], length, map, arith, refl}
use Rattle.std.specs.Prelude.{Some}
use Rattle.std.proofs.lemmas.List.{map-append}
use Rattle.std.proofs.lemmas.Option.{slice_get_read}
use Rattle.agent_slots.specs.Finished.{served_at}
use Rattle.agent_slots.proofs.FinishLaws.{one_told, later_servings, same_serving, has_serving}
use Rattle.agent_slots.proofs.finish.served_ends.Goals as goal

pub served_end-requires : goal.served_end-requires
served_end-requires c =
    let served = c.args.served.now in
    let here = slice_get_read served (length served) c.loop-note.note-index c.note-item.result refl (omega arith) c.note-item.is in
    has_serving c.args.reports.now c.loop-note.reports served c.loop-note.note-index c.note-item.result c.requires here c.loop-note.invariant.later

pub loop-note-preserved : goal.loop-note-preserved
loop-note-preserved c =
    let first = c.args.reports.now in
    let served = c.args.served.now in
    let k = c.loop-note.note-index in
    let note = c.note-item.result in
    let known = c.loop-note.invariant in
    let here = slice_get_read served (length served) k note refl (omega arith) c.note-item.is in
    let more = ap (map Some) c.in_ok-push.ensures.items ∙ map-append Some c.loop-note.done.items (c.served_end.result ∷ []) in
    record {
      done = one_told (served_at first) served k note _ _ _ here known.done more (sym c.served_end.ensures.end ∙ same_serving first c.loop-note.reports served k note here known.later);
      later = later_servings first c.loop-note.reports c.served_end.new.reports served k note c.requires here known.later c.served_end.ensures.others;
    }
