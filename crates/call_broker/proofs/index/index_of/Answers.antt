use Rattle.std.proofs.Common.{◌≡◌, ◌∙◌, ◌-◌, ◌+◌, ◌<◌, suc, ap, subst, arith, get_or, length, map, ◌∷◌}
use Rattle.std.specs.Prelude.{drop, option_map}
use Rattle.std.specs.Map.{lookup}
use Rattle.call_broker.specs.Domains.{place_of}
use Rattle.call_broker.specs.Tables.{number_in}
use Rattle.call_broker.proofs.IndexLaws.{has_name, lookup_inserted, first_more, drop_name}
use Rattle.call_broker.proofs.index.index_of.Goals as goal

pub loop-place-preserved : goal.loop-place-preserved
loop-place-preserved c = λ name.
    let place = c.loop-place.place - 1 in
    let names = map (λ d. d.name) c.args.domains.now in
    let domains = c.args.domains.now in
    let within : place < length domains = omega arith in
    let next : c.loop-place.place ≡ suc place = omega arith in
    let key : c.in_ok-name.name.items ≡ (get_or domains place c.index-domains-place.result).name = c.in_ok-name.ensures.items ∙ c.bytes.ensures.bytes in
    let split : drop place names ≡ c.in_ok-name.name.items ∷ drop (suc place) names = rw key (drop_name domains place c.index-domains-place.result within) in
    let before : number_in c.loop-place.index name ≡ option_map (λ k. k + suc place + 1) (place_of (drop (suc place) names) name) =
    subst (λ p. number_in c.loop-place.index name ≡ option_map (λ k. k + p + 1) (place_of (drop p names) name)) next (c.loop-place.invariant name) in
    ap (λ entries. lookup (has_name name) entries) c.in_ok-insert.ensures.entries
    ∙ lookup_inserted name c.in_ok-name.name (place + 1) c.loop-place.index.entries
    ∙ first_more names place name (number_in c.loop-place.index name) c.in_ok-name.name.items split before
