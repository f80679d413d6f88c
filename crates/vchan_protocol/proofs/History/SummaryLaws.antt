-- What a trail has done so far, one event at a time, and how the end stands then.
use Rattle.std.proofs.Common.{◌≡◌, ℕ, suc, zero, ◌+◌, ◌%◌, ◌^◌, Bool, true, false, cond, List, [], ◌∷◌, ◌++◌, length, refl, subst, sym, ap, ◌∙◌, arith, append_assoc, append-nil}
use Rattle.std.proofs.lemmas.Bool.{false≢true}
use Rattle.ring_words.specs.declared.page.Role.{Role}
use Rattle.ring_words.specs.declared.page.Role.TheVariants.{Server, Client}
use Rattle.ring_words.specs.declared.page.WordName.{WordName}
use Rattle.ring_words.specs.declared.page.WordName.TheVariants.{LeftCons, LeftProd, RightCons, RightProd, CliLive, SrvLive}
use Rattle.vchan_protocol.specs.declared.op.Op.{Op}
use Rattle.vchan_protocol.specs.declared.op.Op.TheVariants.{Load, LoadByte, Store, StoreByte, Or, And, Swap, Nothing}
use Rattle.vchan_protocol.specs.declared.op.PastEvent.{PastEvent}
use Rattle.vchan_protocol.specs.declared.call.EndState.{EndState}
use Rattle.vchan_protocol.specs.declared.call.EndState.TheVariants.{Shut}
use Rattle.vchan_protocol.specs.Table.Plan.{Plan, does, answers, past, Leads, GoesOn}
use Rattle.vchan_protocol.specs.Table.Ends.{Standing, standing_after, low32, state_after, prod_after, cons_after, live_stored, prod_stored, cons_stored}
use Rattle.vchan_protocol.specs.History.Core.{standing_along, stored_by, loaded_by, count_stored, bytes_loaded}
use Rattle.vchan_protocol.specs.History.TrailSummary.{TrailSummary, summary, summary_after, summary_along, summary_loaded, summary_stored, empty_summary}
use Rattle.vchan_protocol.proofs.Table.Sound.{Sound, OwesSound, OwesStored, StaysAs, StaysStored, goes_on_Leads}

-- ---- one event more

pub summary_push : (role : Role) (n : TrailSummary) (events : List PastEvent) (op : Op) (taken : ℕ) →
    summary_along role n (events ++ past op taken ∷ []) ≡ summary_after role (summary_along role n events) op taken
summary_push role n [] op taken = refl
summary_push role n (event ∷ events) op taken = summary_push role (summary_after role n event.op event.taken) events op taken

-- ---- how many bytes, and which

stored_loaded_word : (word : WordName) (role : Role) (n : TrailSummary) (index : ℕ) → (summary_loaded word role index n).stored ≡ n.stored
stored_loaded_word LeftCons Client n index = refl
stored_loaded_word RightCons Server n index = refl
stored_loaded_word LeftProd Server n index = refl
stored_loaded_word RightProd Client n index = refl
stored_loaded_word _ _ n index = refl

stored_stored_word : (word : WordName) (role : Role) (n : TrailSummary) (value : ℕ) → (summary_stored word role value n).stored ≡ n.stored
stored_stored_word LeftProd Client n value = refl
stored_stored_word RightProd Server n value = refl
stored_stored_word LeftCons Server n value = refl
stored_stored_word RightCons Client n value = refl
stored_stored_word CliLive Client n zero = refl
stored_stored_word SrvLive Server n zero = refl
stored_stored_word CliLive Client n (suc value) = refl
stored_stored_word SrvLive Server n (suc value) = refl
stored_stored_word _ _ n value = refl

loaded_loaded_word : (word : WordName) (role : Role) (n : TrailSummary) (index : ℕ) → (summary_loaded word role index n).loaded ≡ n.loaded
loaded_loaded_word LeftCons Client n index = refl
loaded_loaded_word RightCons Server n index = refl
loaded_loaded_word LeftProd Server n index = refl
loaded_loaded_word RightProd Client n index = refl
loaded_loaded_word _ _ n index = refl

loaded_stored_word : (word : WordName) (role : Role) (n : TrailSummary) (value : ℕ) → (summary_stored word role value n).loaded ≡ n.loaded
loaded_stored_word LeftProd Client n value = refl
loaded_stored_word RightProd Server n value = refl
loaded_stored_word LeftCons Server n value = refl
loaded_stored_word RightCons Client n value = refl
loaded_stored_word CliLive Client n zero = refl
loaded_stored_word SrvLive Server n zero = refl
loaded_stored_word CliLive Client n (suc value) = refl
loaded_stored_word SrvLive Server n (suc value) = refl
loaded_stored_word _ _ n value = refl

stored_after : (role : Role) (n : TrailSummary) (op : Op) (taken : ℕ) → (summary_after role n op taken).stored ≡ n.stored + stored_by op
stored_after role n (Load word) taken = stored_loaded_word word role n (low32 taken) ∙ omega arith
stored_after role n (Store word value) taken = stored_stored_word word role n value ∙ omega arith
stored_after role n (LoadByte word at) taken = omega arith
stored_after role n (StoreByte word at) taken = refl
stored_after role n (Or word bits) taken = omega arith
stored_after role n (And word bits) taken = omega arith
stored_after role n (Swap word value) taken = omega arith
stored_after role n Nothing taken = omega arith

loaded_after : (role : Role) (n : TrailSummary) (op : Op) (taken : ℕ) → (summary_after role n op taken).loaded ≡ n.loaded ++ loaded_by op taken
loaded_after role n (Load word) taken = loaded_loaded_word word role n (low32 taken) ∙ sym (append-nil n.loaded)
loaded_after role n (Store word value) taken = loaded_stored_word word role n value ∙ sym (append-nil n.loaded)
loaded_after role n (LoadByte word at) taken = refl
loaded_after role n (StoreByte word at) taken = sym (append-nil n.loaded)
loaded_after role n (Or word bits) taken = sym (append-nil n.loaded)
loaded_after role n (And word bits) taken = sym (append-nil n.loaded)
loaded_after role n (Swap word value) taken = sym (append-nil n.loaded)
loaded_after role n Nothing taken = sym (append-nil n.loaded)

stored_along : (role : Role) (n : TrailSummary) (events : List PastEvent) → (summary_along role n events).stored ≡ n.stored + count_stored events
stored_along role n [] = omega arith
stored_along role n (event ∷ events) =
    stored_along role (summary_after role n event.op event.taken) events ∙ ap (λ (k : ℕ). k + count_stored events) (stored_after role n event.op event.taken) ∙ omega arith

loaded_along : (role : Role) (n : TrailSummary) (events : List PastEvent) → (summary_along role n events).loaded ≡ n.loaded ++ bytes_loaded events
loaded_along role n [] = sym (append-nil n.loaded)
loaded_along role n (event ∷ events) =
    loaded_along role (summary_after role n event.op event.taken) events ∙ ap (λ (xs : List ℕ). xs ++ bytes_loaded events) (loaded_after role n event.op event.taken)
    ∙ append_assoc n.loaded (loaded_by event.op event.taken) (bytes_loaded events)

-- the two folds count alike
pub stored_is : (role : Role) (trail : List PastEvent) → (summary role trail).stored ≡ count_stored trail
stored_is role trail = stored_along role empty_summary trail ∙ omega arith

pub loaded_is : (role : Role) (trail : List PastEvent) → (summary role trail).loaded ≡ bytes_loaded trail
loaded_is role trail = loaded_along role empty_summary trail

-- ---- how the end stands

-- it stands as it began, except for what it closed, showed and released
pub record StandsSoFar (e : Standing) (n : TrailSummary) (now : Standing) : Type 0 where
  pub state : now.state ≡ cond n.closed Shut e.state
  pub prod : now.prod ≡ cond n.shown ((e.prod + n.stored) % 2 ^ 32) e.prod
  pub cons : now.cons ≡ cond n.released ((e.cons + length n.loaded) % 2 ^ 32) e.cons

abbrev stand : Standing → EndState → ℕ → ℕ → Standing
stand e state prod cons = record { role = e.role; orders = e.orders; state = state; prod = prod; cons = cons }

-- while nothing was shown, it doesn't matter what would be
either : (b : Bool) (x y z now : ℕ) → b ≡ false → now ≡ cond b x z → now ≡ cond b y z
either true x y z now hidden is = absurd (false≢true (sym hidden))
either false x y z now hidden is = is

stands_loaded : (word : WordName) (role : Role) (e : Standing) (n : TrailSummary) (index : ℕ) (now : Standing) → StandsSoFar e n now → StandsSoFar e (summary_loaded word role index n) now
stands_loaded LeftCons Client e n index now h = record { state = h.state; prod = h.prod; cons = h.cons }
stands_loaded RightCons Server e n index now h = record { state = h.state; prod = h.prod; cons = h.cons }
stands_loaded LeftProd Server e n index now h = record { state = h.state; prod = h.prod; cons = h.cons }
stands_loaded RightProd Client e n index now h = record { state = h.state; prod = h.prod; cons = h.cons }
stands_loaded _ _ e n index now h = h

stands_stored : (word : WordName) (role : Role) (value : ℕ) (e : Standing) (n : TrailSummary) (state : EndState) (prod cons : ℕ) → OwesStored word role e n value → StaysStored word role value →
    StandsSoFar e n (stand e state prod cons) → StandsSoFar e (summary_stored word role value n) (stand e (live_stored word role value state) (prod_stored word role value prod) (cons_stored word role value cons))
stands_stored LeftProd Client value e n state prod cons owes stays h = record { state = h.state; prod = omega (arith, owes.is); cons = h.cons }
stands_stored RightProd Server value e n state prod cons owes stays h = record { state = h.state; prod = omega (arith, owes.is); cons = h.cons }
stands_stored LeftCons Server value e n state prod cons owes stays h = record { state = h.state; prod = h.prod; cons = omega (arith, owes.is) }
stands_stored RightCons Client value e n state prod cons owes stays h = record { state = h.state; prod = h.prod; cons = omega (arith, owes.is) }
stands_stored CliLive Client zero e n state prod cons owes stays h = record { state = refl; prod = h.prod; cons = h.cons }
stands_stored CliLive Client (suc value) e n state prod cons owes stays h = absurd stays
stands_stored SrvLive Server zero e n state prod cons owes stays h = record { state = refl; prod = h.prod; cons = h.cons }
stands_stored SrvLive Server (suc value) e n state prod cons owes stays h = absurd stays
stands_stored _ _ value e n state prod cons owes stays h = h

stands_after : (op : Op) (taken : ℕ) (e : Standing) (n : TrailSummary) (state : EndState) (prod cons : ℕ) → OwesSound e n op → StaysAs e.role op →
    StandsSoFar e n (stand e state prod cons) → StandsSoFar e (summary_after e.role n op taken) (stand e (state_after op e.role state) (prod_after op e.role prod) (cons_after op e.role cons))
stands_after (Load word) taken e n state prod cons owes stays h = stands_loaded word e.role e n (low32 taken) (stand e state prod cons) h
stands_after (Store word value) taken e n state prod cons owes stays h = stands_stored word e.role value e n state prod cons owes stays h
stands_after (LoadByte word at) taken e n state prod cons owes stays h = record { state = h.state; prod = h.prod; cons = either n.released _ _ e.cons cons owes.not_released h.cons }
stands_after (StoreByte word at) taken e n state prod cons owes stays h = record { state = h.state; prod = either n.shown _ _ e.prod prod owes.not_shown h.prod; cons = h.cons }
stands_after (Or word bits) taken e n state prod cons owes stays h = h
stands_after (And word bits) taken e n state prod cons owes stays h = h
stands_after (Swap word value) taken e n state prod cons owes stays h = h
stands_after Nothing taken e n state prod cons owes stays h = h

stands_along : (e : Standing) (n : TrailSummary) (state : EndState) (prod cons : ℕ) (plan : Plan) (events : List PastEvent) (rest : Plan) → Sound e n plan → Leads plan events rest → GoesOn rest →
    StandsSoFar e n (stand e state prod cons) → StandsSoFar e (summary_along e.role n events) (standing_along (stand e state prod cons) events)
unfolding Sound standing_after
stands_along e n state prod cons plan [] rest s led more h = h
stands_along e n state prod cons (answers answer) (event ∷ events) rest s led more h = absurd led
stands_along e n state prod cons (does op next) (event ∷ events) rest s led more h =
    let on = s.1 event.taken (goes_on_Leads (next event.taken) events rest led.1 more) in
    stands_along e (summary_after e.role n event.op event.taken) (state_after event.op e.role state) (prod_after event.op e.role prod) (cons_after event.op e.role cons) (next event.taken) events rest
    (subst (λ (o : Op). Sound e (summary_after e.role n o event.taken) (next event.taken)) (sym led.0) on.1) led.1 more
    (stands_after event.op event.taken e n state prod cons (subst (λ (o : Op). OwesSound e n o) (sym led.0) s.0) (subst (λ (o : Op). StaysAs e.role o) (sym led.0) on.0) h)

-- how an end stands after a trail of a call that goes on
pub stands_by_summary : (e : Standing) (plan : Plan) (events : List PastEvent) (rest : Plan) → Sound e empty_summary plan → Leads plan events rest → GoesOn rest →
    StandsSoFar e (summary e.role events) (standing_along e events)
stands_by_summary e plan events rest s led more =
    stands_along e empty_summary e.state e.prod e.cons plan events rest s led more (record { state = refl; prod = refl; cons = refl })
