use Rattle.std.proofs.Common.{◌≡◌, ◌<◌, length, refl, arith, subst}
use Rattle.std.specs.Prelude.{slice_get, Some}
use Rattle.std.proofs.lemmas.Option.{slice_get_read}
use Rattle.std.proofs.lemmas.List.{length-map}
use Rattle.list_laws.proofs.Places.{get_map}
use Rattle.task_duties.specs.TaskOwes.{EndAt, places_in}
use Rattle.task_duties.specs.GivenEnds.{given_at, all_given}
use Rattle.agent_slots.proofs.IndexLaws.{IsIndexUpTo, index_more, up_to_all}
use Rattle.agent_slots.proofs.index.index_of.Goals as goal

pub loop-at-preserved : goal.loop-at-preserved
loop-at-preserved c =
    let ends = c.args.ends.now in
    let end = c.index-ends-at.result in
    let less : c.loop-at.at < length ends = omega arith in
    let here : slice_get ends c.loop-at.at ≡ Some end = slice_get_read ends (length ends) c.loop-at.at end refl less c.index-ends-at.is in
    index_more (places_in (all_given ends)) c.loop-at.at end.from end.to end.port c.loop-at.index c.insert.new.self c.requires
    (get_map (λ (e : EndAt). e.place) (all_given ends) c.loop-at.at (given_at end) (get_map given_at ends c.loop-at.at end here))
    c.in_ok-insert.ensures.updates.0 c.loop-at.invariant

pub returns : goal.returns
returns c =
    let ends = c.args.ends.now in
    let all : c.loop-at.at ≡ length (places_in (all_given ends)) = omega (arith, length-map (all_given ends) (λ (e : EndAt). e.place), length-map ends given_at) in
    up_to_all (places_in (all_given ends)) c.loop-at.index (subst (λ n. IsIndexUpTo n (places_in (all_given ends)) c.loop-at.index) all c.loop-at.invariant)
