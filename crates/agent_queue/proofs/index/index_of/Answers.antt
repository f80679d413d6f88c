use Rattle.std.proofs.Common.{◌≡◌, ◌∙◌, ◌+◌, ◌-◌, ◌<◌, ◌^◌, ◌++◌, ◌∷◌, [], map, take, drop, length, get_or, ap, sym, subst, arith, suc, Some}
use Rattle.std.specs.Prelude.{if◌then◌else◌, bytes_eq}
use Rattle.std.proofs.lemmas.Grind.{take_at_read}
use Rattle.std.proofs.lemmas.List.{drop_all, length-map, length-take-le, map-append, take_all}
use Rattle.std.proofs.Math.Seq.{drop-cons}
use Rattle.std.specs.List.{AllByRecursion as Each}
use Rattle.task_duties.specs.Words.{ident_of}
use Rattle.agent_queue.specs.Index.{place_in}
use Rattle.agent_queue.proofs.IndexLaws.{IsFilled, empty_places, filled_more, filled_none}
use Rattle.agent_queue.proofs.index.index_of.Goals as goal

pub loop-noted-init : goal.loop-noted-init
loop-noted-init c =
    let calls = c.args.calls.now in
    record {
      filled = subst (λ left. IsFilled (place_in c.new-index.result) (map (λ x. ident_of x.number) left) (map (λ x. ident_of x.number) calls)) (sym (take_all (length calls - 0) calls (omega arith)))
          (filled_none (place_in c.new-index.result) (map (λ x. ident_of x.number) calls) (empty_places c.new-index.result c.new-index.ensures.empty));
      small = subst (Each (λ x. x.number < 2 ^ 32)) (sym (drop_all (length calls - 0) calls (omega arith))) tt;
    }

pub loop-noted-preserved : goal.loop-noted-preserved
loop-noted-preserved c =
    let calls = c.args.calls.now in
    let call = c.index-calls-place.result in
    let next = length calls - (c.loop-noted.noted + 1) in
    let within : next < length calls = omega arith in
    let at : length calls - 1 - c.loop-noted.noted ≡ next = omega arith in
    let before : length calls - c.loop-noted.noted ≡ next + 1 = omega arith in
    let here : get_or calls next call ≡ call = ap (λ n. get_or calls n call) (sym at) ∙ sym c.index-calls-place.is in
    let split : take (next + 1) calls ≡ take next calls ++ call ∷ [] = (take_at_read calls next call within).1 ∙ ap (λ x. take next calls ++ x ∷ []) here in
    let cut : drop next calls ≡ call ∷ drop (suc next) calls = drop-cons calls next call within ∙ ap (λ x. x ∷ drop (suc next) calls) here in
    let was = c.loop-noted.invariant in
    let long : length (map (λ x. ident_of x.number) (take next calls)) ≡ next = length-map (take next calls) (λ x. ident_of x.number) ∙ length-take-le next calls (omega (arith, within)) in
    let filled : IsFilled (place_in c.loop-noted.index) (map (λ x. ident_of x.number) (take (next + 1) calls)) (map (λ x. ident_of x.number) calls) =
    subst (λ n. IsFilled (place_in c.loop-noted.index) (map (λ x. ident_of x.number) (take n calls)) (map (λ x. ident_of x.number) calls)) before was.filled in
    let small : Each (λ x. x.number < 2 ^ 32) (drop (suc next) calls) = let same : length calls - c.loop-noted.noted ≡ suc next = omega arith in subst (λ n. Each (λ x. x.number < 2 ^ 32) (drop n calls)) same was.small in
    let number : (get_or calls (length calls - 1 - c.loop-noted.noted) call).number ≡ call.number = ap (λ n. (get_or calls n call).number) at ∙ ap (λ x. x.number) here in
    record {
      filled = filled_more (place_in c.loop-noted.index) (place_in c.note.new.index) (map (λ x. ident_of x.number) (take (next + 1) calls)) (map (λ x. ident_of x.number) (take next calls)) (map (λ x. ident_of x.number) calls) (ident_of call.number)
          (ap (map (λ x. ident_of x.number)) split ∙ map-append (λ x. ident_of x.number) (take next calls) (call ∷ []))
          (λ ident. c.in_ok-note.ensures.notes ident
          ∙ (ap (λ n. if bytes_eq ident (ident_of n) then Some (length calls - 1 - c.loop-noted.noted) else place_in c.loop-noted.index ident) number
          ∙ ap (λ n. if bytes_eq ident (ident_of call.number) then Some n else place_in c.loop-noted.index ident) (at ∙ sym long)))
          filled;
      small = subst (Each (λ x. x.number < 2 ^ 32)) (sym cut) (subst (λ n. n < 2 ^ 32) number c.in_ok-note.ensures.number, small);
    }
