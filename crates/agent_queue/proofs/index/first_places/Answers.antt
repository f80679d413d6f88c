use Rattle.std.proofs.Common.{◌≡◌, ◌∙◌, ◌+◌, ◌<◌, ◌++◌, ◌∷◌, [], List, ℕ, Some, ap, sym, subst, map, take, drop, length, length-append, arith}
use Rattle.std.proofs.lemmas.Grind.{take_at_read}
use Rattle.std.proofs.lemmas.List.{length-map, length-take-le, map-append, take-append-drop}
use Rattle.std.specs.List.{AllZip as EachPair}
use Rattle.list_laws.proofs.Pairs.{pairs_push}
use Rattle.scenario_file.specs.declared.scenario.CallPlan.{CallPlan}
use Rattle.call_broker.specs.Domains.{place_of}
use Rattle.agent_queue.specs.Index.{HasTargets, IsFirst}
use Rattle.agent_queue.proofs.IndexLaws.{no_targets, place_found}
use Rattle.agent_queue.proofs.index.first_places.Goals as goal

pub loop-call-init : goal.loop-call-init
loop-call-init c = record { long = ap length c.in_ok-places.ensures.items; noted = no_targets c.new-targets.result c.new-targets.ensures.empty; first = rw c.in_ok-places.ensures.items tt }

pub loop-call-preserved : goal.loop-call-preserved
loop-call-preserved c =
    let calls = c.args.calls.now in
    let i = c.loop-call.call-index in
    let call = c.call-item.result in
    let places = c.loop-call.places.items in
    let first = c.in_ok-first.first in
    let was = c.loop-call.invariant in
    let names : List CallPlan → List (List ℕ) = map (λ (x : CallPlan). x.to) in
    let before = take i calls in
    let behind = drop (i + 1) calls in
    let less : i < length calls = omega arith in
    let split : take (i + 1) calls ≡ before ++ call ∷ [] = (take_at_read calls i call less).1 ∙ ap (λ x. before ++ x ∷ []) (sym c.call-item.is) in
    let so_far : names (take (i + 1) calls) ≡ names before ++ call.to ∷ [] = ap names split ∙ map-append (λ (x : CallPlan). x.to) before (call ∷ []) in
    let whole : (names before ++ call.to ∷ []) ++ names behind ≡ names calls =
    ap (λ l. l ++ names behind) (sym so_far) ∙ (sym (map-append (λ (x : CallPlan). x.to) (take (i + 1) calls) behind) ∙ ap names (take-append-drop (i + 1) calls)) in
    let place : length (names before) ≡ c.len.result = omega (arith, length-map before (λ (x : CallPlan). x.to), length-take-le i calls (omega (arith, less)), was.long, c.len.ensures, c.loop-call.places.ok.0) in
    let put : HasTargets (names before ++ call.to ∷ []) c.first_place.new.targets × (place_of (names before ++ call.to ∷ []) call.to ≡ Some first) =
    subst (λ n. HasTargets (names before ++ n ∷ []) c.first_place.new.targets × (place_of (names before ++ n ∷ []) n ≡ Some first)) c.bytes.ensures.bytes (c.in_ok-first.ensures (names before) place was.noted) in
    let is_first : IsFirst (names calls) call.to first = subst (λ l. place_of l call.to ≡ Some first) whole (place_found (names before ++ call.to ∷ []) (names behind) call.to first put.1) in
    let pairs : EachPair (IsFirst (names calls)) (names before ++ call.to ∷ []) (places ++ first ∷ []) = pairs_push (IsFirst (names calls)) (names before) places call.to first was.first is_first in
    record {
      long = omega (arith, ap length c.in_ok-push.ensures.items, length-append places (first ∷ []), was.long);
      noted = subst (λ l. HasTargets l c.first_place.new.targets) (sym so_far) put.0;
      first = subst (λ l. EachPair (IsFirst (names calls)) l c.push.new.self.items) (sym so_far) (subst (λ l. EachPair (IsFirst (names calls)) (names before ++ call.to ∷ []) l) (sym c.in_ok-push.ensures.items) pairs);
    }
