use Rattle.std.proofs.Common.{◌≡◌, ◌+◌, ◌++◌, ◌∙◌, ap, map, rules, sym, ℕ, List}
use Rattle.std.specs.List.{between}
use Rattle.std.proofs.lemmas.List.{map-id}
use Rattle.std.proofs.lemmas.Result.{on_ok_weaker}
use Rattle.std.proofs.lemmas.Iterator.Adapters.{items_from_extend}
use Rattle.std.proofs.lemmas.Iterator.{YieldsList-from_map, YieldsList-from_slice}
use Rattle.ring_words.specs.Image.{ring_shown}
use Rattle.ring_words.proofs.ImageLaws.{ring_shown_at}
use Rattle.ring_words.proofs.image.extend_ring.Goals as goal

pub returns-in-Some : goal.returns-in-Some
returns-in-Some c =
    let part : List ℕ = between c.in-Some.offset (c.in-Some.offset + c.size-size.result) c.args.image.now in
    let h = items_from_extend c.extend.result c.extend.ensures.ran (YieldsList-from_map _ (λ (b : ℕ). b) (YieldsList-from_slice part cc) c.map.ensures.closure (λ x r q k. search rules)) in
    let e = ring_shown_at c.args.image.now c.args.order c.in-Some.offset (cc) in
    let shown : map (λ (b : ℕ). b) part ≡ ring_shown c.args.image.now c.args.order =
    map-id part ∙ ap (λ (n : ℕ). between c.in-Some.offset (c.in-Some.offset + n) c.args.image.now) c.size-size.ensures.size ∙ sym e in
    on_ok_weaker c.extend.result (λ k. k.0 ∙ ap (λ (l : List ℕ). c.args.list.now.items ++ l) shown) h
