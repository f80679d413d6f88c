-- What a drain leaves of its end's view, and what it got into the rest of a buffer.
use Rattle.std.proofs.Common.{◌≡◌, ℕ, Bool, List, refl, ◌≤◌, length, take, arith, ◌+◌, ◌++◌, sym, subst, ap, ◌∙◌}
use Rattle.std.proofs.lemmas.List.{length-append, length-take-le, take-append-le, take-take}
use Rattle.std.proofs.Math.Seq.{take-append-add}
use Rattle.end_view.specs.EndView.{EndView}
use Rattle.vchan_lifecycle.specs.Lifecycle.{drained_to}
use Rattle.vchan_lifecycle.specs.declared.DrainAnswer.{DrainAnswer}
use Rattle.vchan_lifecycle.specs.declared.DrainAnswer.TheVariants.{More, NotYet, AllRead, PeerGone}
use Rattle.vchan_lifecycle.specs.Ended.{drained_count}

pub drained_sent : (e : EndView) (drained : DrainAnswer) (after : List ℕ) (saw : Bool) → (drained_to e drained after saw).sent ≡ e.sent
drained_sent e (More count) after saw = refl
drained_sent e (NotYet prod cons) after saw = refl
drained_sent e AllRead after saw = refl
drained_sent e (PeerGone prod cons) after saw = refl

pub drained_got : (e : EndView) (drained : DrainAnswer) (after : List ℕ) (saw : Bool) → length e.got ≤ length (drained_to e drained after saw).got
drained_got e (More count) after saw = omega (arith, length-append e.got (take count after))
drained_got e (NotYet prod cons) after saw = omega arith
drained_got e AllRead after saw = omega arith
drained_got e (PeerGone prod cons) after saw = omega arith

-- a piece that was got into the rest of a buffer comes after those before it
pub got_some : (got part post buf : List ℕ) (count more : ℕ) → count ≤ length buf → more ≤ length part → got ≡ take count buf ++ take more part → got ≡ take (count + more) (take count buf ++ (part ++ post))
got_some got part post buf count more within few is =
    is ∙ ap (λ (xs : List ℕ). take count buf ++ xs) (sym (take-append-le more part post few))
    ∙ sym (subst (λ (n : ℕ). take (n + more) (take count buf ++ (part ++ post)) ≡ take count buf ++ take more (part ++ post)) (length-take-le count buf within) (take-append-add (take count buf) (part ++ post) more))

pub got_none : (got rest buf : List ℕ) (count : ℕ) → count ≤ length buf → got ≡ take count buf → got ≡ take (count + 0) (take count buf ++ rest)
got_none got rest buf count within is =
    let same : count + 0 ≡ count = omega arith in
    is ∙ sym (ap (λ (n : ℕ). take n (take count buf ++ rest)) same ∙ take-append-le count (take count buf) rest (let cut = length-take-le count buf within in omega (arith, cut)) ∙ take-take count count buf (omega arith))

pub got_behind : (was e : EndView) (answer : DrainAnswer) (part post buf : List ℕ) (count : ℕ) (saw : Bool) → count ≤ length buf → ((more : ℕ) → answer ≡ More more → more ≤ length part) → was.got ≡ take count buf →
    e ≡ drained_to was answer part saw → e.got ≡ take (count + drained_count answer) (take count buf ++ (part ++ post))
got_behind was e (More more) part post buf count saw within few before is = got_some e.got part post buf count more within (few more refl) (ap (λ (v : EndView). v.got) is ∙ ap (λ (xs : List ℕ). xs ++ take more part) before)
got_behind was e (NotYet prod cons) part post buf count saw within few before is = got_none e.got (part ++ post) buf count within (ap (λ (v : EndView). v.got) is ∙ before)
got_behind was e AllRead part post buf count saw within few before is = got_none e.got (part ++ post) buf count within (ap (λ (v : EndView). v.got) is ∙ before)
got_behind was e (PeerGone prod cons) part post buf count saw within few before is = got_none e.got (part ++ post) buf count within (ap (λ (v : EndView). v.got) is ∙ before)
