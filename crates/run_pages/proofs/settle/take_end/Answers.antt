use Rattle.std.proofs.Common.{◌≡◌, ◌<◌, ◌++◌, ◌∷◌, [], ◌∙◌, refl, arith, ap, map, length}
use Rattle.std.proofs.lemmas.Option.{slice_get_read, slice_get_within}
use Rattle.task_duties.specs.GivenEnds.{all_retired, retired_at}
use Rattle.std.proofs.lemmas.List.{map-append, length-map}
use Rattle.run_pages.proofs.SettleLaws.{gives_up}
use Rattle.run_pages.proofs.settle.take_end.Goals as goal

pub returns : goal.returns
returns c =
    let hands = c.args.hands.now in
    let within : c.args.number < length hands = omega (arith, slice_get_within (map (λ h. all_retired h.items) hands) c.args.number _ c.requires.2, length-map hands (λ h. all_retired h.items)) in
    let last : all_retired c.index-hands-number.result.items ≡ all_retired c.pop.new.self.items ++ retired_at c.in-Some.end ∷ [] =
    ap (λ v. all_retired v.items) c.index-hands-number.is ∙ ap (map retired_at) c.in-Some.ensures.items ∙ map-append retired_at c.pop.new.self.items (c.in-Some.end ∷ []) in
    gives_up (λ h. all_retired h.items) hands c.args.number c.index-hands-number.result c.pop.new.self (retired_at c.in-Some.end)
    (slice_get_read hands _ c.args.number c.index-hands-number.result refl within c.index-hands-number.is) last
