use Rattle.std.proofs.Common.{◌≡◌, ◌∙◌, ℕ, ◌+◌, Bool, true, false, List, [], ◌∷◌, ◌++◌, length, take, refl, ap, sym, arith, Some}
use Rattle.std.specs.Prelude.{◌==◌, filter, slice_get}
use Rattle.std.proofs.lemmas.Bool.Decides.{nat_tests}
use Rattle.std.proofs.lemmas.List.{append-nil}
use Rattle.std.proofs.lemmas.List.Elements.{filter-append}
use Rattle.std.proofs.lemmas.Option.{slice_get_read}
use Rattle.list_laws.proofs.Places.{take_next}
use Rattle.scenario_file.specs.Scenario.{Plan as Scenario}
use Rattle.scenario_file.specs.declared.scenario.CallPlan.{CallPlan}
use Rattle.scenario_run.proofs.copies.calls_from.Goals as goal
use Rattle.scenario_run.proofs.copies.calls_from.Goals.{then-call-from+in_ok-copy_of_call+in_ok-push, else-call-from}

one_kept : (p : CallPlan → Bool) (item : CallPlan) → p item ≡ true → filter p (item ∷ []) ≡ item ∷ []
one_kept p item is = rw is refl

one_left : (p : CallPlan → Bool) (item : CallPlan) → p item ≡ false → filter p (item ∷ []) ≡ []
one_left p item is = rw is refl

one_more : (p : CallPlan → Bool) (items : List CallPlan) (k : ℕ) (item : CallPlan) → slice_get items k ≡ Some item → filter p (take (k + 1) items) ≡ filter p (take k items) ++ filter p (item ∷ [])
one_more p items k item at = ap (filter p) (take_next items k item at) ∙ filter-append p (take k items) (item ∷ [])

-- a call of the domain, and one of another
kept : (from : ℕ) (items : List CallPlan) (k : ℕ) (item : CallPlan) → slice_get items k ≡ Some item → (own new : List CallPlan) → own ≡ filter (λ call. call.from == from) (take k items) → (item.from == from) ≡ true
    → new ≡ own ++ item ∷ [] → new ≡ filter (λ call. call.from == from) (take (k + 1) items)
kept from items k item at own new was is grown =
    let p : CallPlan → Bool = λ call. call.from == from in
    grown ∙ (ap (λ l. l ++ item ∷ []) was ∙ (ap (λ l. filter p (take k items) ++ l) (sym (one_kept p item is)) ∙ sym (one_more p items k item at)))

left : (from : ℕ) (items : List CallPlan) (k : ℕ) (item : CallPlan) → slice_get items k ≡ Some item → (own new : List CallPlan) → own ≡ filter (λ call. call.from == from) (take k items) → (item.from == from) ≡ false
    → new ≡ own → new ≡ filter (λ call. call.from == from) (take (k + 1) items)
left from items k item at own new was is same =
    let p : CallPlan → Bool = λ call. call.from == from in
    same ∙ (was ∙ (sym (append-nil (filter p (take k items))) ∙ (ap (λ l. filter p (take k items) ++ l) (sym (one_left p item is)) ∙ sym (one_more p items k item at))))

pub loop-call-preserved : goal.loop-call-preserved
loop-call-preserved c =
    let k = c.loop-call.call-index in
    let item = c.call-item.result in
    let read : slice_get c.deref-call-items.result.now k ≡ Some item = slice_get_read c.deref-call-items.result.now (length c.deref-call-items.result.now) k item refl c.loop-call-test.true c.call-item.is in
    let calls : c.deref-call-items.result.now ≡ c.args.scenario.now.calls = c.deref-call-items.ensures.value ∙ ap (λ (s : Scenario). s.calls) c.scenario.view_is in
    let at : slice_get c.args.scenario.now.calls k ≡ Some item = sym (ap (λ (l : List CallPlan). slice_get l k) calls) ∙ read in
    elim c.if-call-from.branch [
      | then-call-from+in_ok-copy_of_call+in_ok-push w ↦
          kept c.args.from c.args.scenario.now.calls k item at c.loop-call.own.items _ c.loop-call.invariant (let t : (item.from == c.args.from) ≡ true = grind (arith, nat_tests) in t) (let g : c.if-call-from.own.items ≡ c.loop-call.own.items ++ item ∷ [] = cc (w.own-is, w.in_ok-push.ensures.items, w.in_ok-copy_of_call.ensures) in g)
      | else-call-from w ↦
          left c.args.from c.args.scenario.now.calls k item at c.loop-call.own.items _ c.loop-call.invariant (let t : (item.from == c.args.from) ≡ false = grind (arith, nat_tests) in t) (let g : c.if-call-from.own.items ≡ c.loop-call.own.items = cc in g)
    ]
