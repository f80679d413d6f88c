-- Each step of the table keeps the rule, since it is an event of the protocol.
use Rattle.std.proofs.Common.{◌≡◌, ℕ, true, false, length, zero, suc, List, [], ◌∷◌, ◌++◌, set, sym, refl, ap, ◌∙◌, subst, ⊎_elim, slice_index}
use mathlib.Core.Option.{some, none, some-ne-none}
use lib.ListN.{get_elem?}
use lib.Seq.{set-get_or}
use Rattle.atomic_table.proofs.Lists.{set_again}
use Rattle.atomic_table.specs.Table.{State, Me, Allows, Splits, Joins, Final, Seen, keeps, opening, step}
use Rattle.ring_words.specs.declared.order.Orders.{Orders}
use Rattle.ring_words.specs.declared.page.Role.{Role}
use Rattle.ring_words.specs.declared.page.Role.TheVariants.{Server, Client}
use Rattle.vchan_protocol.specs.declared.op.Op.{Op}
use Rattle.vchan_protocol.specs.declared.call.Call.{Call}
use Rattle.vchan_protocol.specs.declared.side.Side.{Side}
use Rattle.vchan_protocol.specs.Table.Plan.{GoesOn}
use Rattle.vchan_protocol.specs.Table.Apply.{words_after, value_taken, word_of, leaves, takes}
use Rattle.vchan_protocol.specs.History.Core.{op_next, plan_left, begins, opened, side_after}
use Rattle.vchan_protocol.specs.History.Page.{start_words}
use Rattle.vchan_protocol.specs.declared.call.EndState.TheVariants.{Fresh}
use Rattle.ring_words.specs.Rings.{number_of}
use Rattle.vchan_protocol.specs.Honest.Reached.{MayBegin}
use Rattle.vchan_protocol.specs.Hostile.Turned.{turns, strays}
use Rattle.vchan_protocol.proofs.Always.InvariantSteps.{each_has_invariant, page_settles}
use Rattle.vchan_protocol.specs.Always.Invariant.{MayCome}
use Rattle.vchan_rule.specs.declared.rule.View.{View}
use Rattle.vchan_rule.specs.declared.rule.View.TheVariants.{Whole, One, Both, Spent}
use Rattle.vchan_rule.specs.declared.rule.Opening.{Opening}
use Rattle.vchan_rule.specs.Rule.{core, setup_at, said_of, Shown, whole, parted, done, Ruled, operand, IsStepOf, makes, last_look, gives_up, wanders, new_server, new_client, server_half, client_half, joined}
use Rattle.vchan_rule.specs.Done.{Settles}
use Rattle.vchan_protocol.specs.OneEnd.OneEnd.{between, Enters}
use Rattle.vchan_rule.proofs.Comes.{came_role, came_orders, enters_comes, event_comes, turn_comes, stray_comes}

-- ---- the views

abbrev views_of : Role → Side → Side → List View
views_of Server mine theirs = One mine ∷ One theirs ∷ []
views_of Client mine theirs = One theirs ∷ One mine ∷ []

abbrev seat_of : Role → ℕ
seat_of Server = 0
seat_of Client = 1

one_is : (a b : Side) → some (One a) ≡ some (One b) → a ≡ b
one_is a b e = cc

-- the seat's end is the server or the client
record Sits (key : Opening) (words : List ℕ) (views : List View) (id : ℕ) (v : Side) : Type 0 where
  who : Role
  theirs : Side
  views_are : views ≡ views_of who v theirs
  id_is : id ≡ seat_of who
  came : MayCome (between (setup_at key) words who v theirs)

sits_parted : (key : Opening) (words : List ℕ) (id : ℕ) (v server client : Side) → MayCome (core key words server client) → get_elem? (One server ∷ One client ∷ []) id ≡ some (One v) → Sits key words (One server ∷ One client ∷ []) id v
sits_parted key words zero v server client k at =
    let e = one_is server v at in
    record { who = Server; theirs = client; views_are = ap (λ (z : Side). One z ∷ One client ∷ []) e; id_is = refl; came = subst (λ (z : Side). MayCome (core key words z client)) e k }
sits_parted key words (suc zero) v server client k at =
    let e = one_is client v at in
    record { who = Client; theirs = server; views_are = ap (λ (z : Side). One server ∷ One z ∷ []) e; id_is = refl; came = subst (λ (z : Side). MayCome (core key words server z)) e k }
sits_parted key words (suc (suc n)) v server client k at = absurd (some-ne-none (One v) (sym at))

no_one_whole : (key : Opening) (id : ℕ) (v : Side) → get_elem? (Whole key.orders key.start ∷ []) id ≡ some (One v) → ⊥
no_one_whole key zero v at = cc
no_one_whole key (suc n) v at = some-ne-none (One v) (sym at)

no_one_done : (id : ℕ) (v server client : Side) → get_elem? (Both server client ∷ Spent ∷ []) id ≡ some (One v) → ⊥
no_one_done zero v server client at = cc
no_one_done (suc zero) v server client at = cc
no_one_done (suc (suc n)) v server client at = some-ne-none (One v) (sym at)

sits : (key : Opening) (words : List ℕ) (views : List View) (id : ℕ) (v : Side) → Shown key words views → get_elem? views id ≡ some (One v) → Sits key words views id v
sits key words views id v (whole key2 words2 views2 is k) at = absurd (no_one_whole key id v (subst (λ (z : List View). get_elem? z id ≡ some (One v)) is at))
sits key words views id v (parted key2 words2 views2 server client is k) at =
    subst (λ (z : List View). Sits key words z id v) (sym is) (sits_parted key words id v server client k (subst (λ (z : List View). get_elem? z id ≡ some (One v)) is at))
sits key words views id v (done key2 words2 views2 server client is k) at = absurd (no_one_done id v server client (subst (λ (z : List View). get_elem? z id ≡ some (One v)) is at))

-- the end of this seat has changed
shows : (key : Opening) (words : List ℕ) (who : Role) (v w theirs : Side) → MayCome (between (setup_at key) words who w theirs) → Shown key words (set (views_of who v theirs) (seat_of who) (One w))
shows key words Server v w theirs k = parted key words _ w theirs refl k
shows key words Client v w theirs k = parted key words _ theirs w refl k

shows_at : (key : Opening) (words words' : List ℕ) (views : List View) (id : ℕ) (v w : Side) → (at : Sits key words views id v) → MayCome (between (setup_at key) words' at.who w at.theirs) → Shown key words' (set views id (One w))
shows_at key words words' views id v w at k =
    subst (λ (z : List View × ℕ). Shown key words' (set z.0 z.1 (One w))) (λ i. (sym at.views_are i, sym at.id_is i)) (shows key words' at.who v w at.theirs k)

-- ---- which word a step is on

-- a step also tells what holds whenever the rule does
also : (key : Opening) (slots id i : ℕ) (me : Me (Unit {0}) View) (f : ℕ → ℕ) (X : Type 0) (then : ℕ → Me (Unit {0}) View → Type 0) →
    ((st : State (Unit {0}) View) → Ruled key st → get_elem? st.views id ≡ some me.0 → X) → Allows (Ruled key) slots id me i f then → Allows (Ruled key) slots id me i f (λ n m'. X × then n m')
also key slots id i me f X then holds may st l deep at small = let t = may st l deep at small in (t.0, t.1, t.2, t.3, (holds st l at, t.4))

-- the orders of an end at the table are those that the table was told
page_orders : (key : Opening) (id : ℕ) (v : Side) (st : State (Unit {0}) View) → Ruled key st → get_elem? st.views id ≡ some (One v) → v.orders ≡ key.orders
page_orders key id v st l at =
    let here = sits key st.words st.views id v l.shown at in
    came_orders (setup_at key) st.words here.who v here.theirs here.came

-- an end that enters a call is of the same page
same_orders : (v s : Side) → Enters v s → s.orders ≡ v.orders
same_orders v s e = ⊎_elim
    (λ (t : s ≡ v). ap (λ (z : Side). z.orders) t)
    (λ (t : (call : Call) × (payload : List ℕ) × (s ≡ begins v call payload) × MayBegin v.role v call payload). ap (λ (z : Side). z.orders) t.2)
    e

-- a step on the word that this op is on by the orders of the table is on the word that it is on by those of the end
is_step_of : (key : Opening) (slots id i first : ℕ) (me : Me (Unit {0}) View) (v : Side) (orders : Orders) (payload : List ℕ) (op : Op) → me ≡ (One v, []) → orders ≡ v.orders → i ≡ word_of key.orders op → first ≡ operand payload op →
    (st : State (Unit {0}) View) → Ruled key st → get_elem? st.views id ≡ some me.0 → IsStepOf orders payload op (step slots i first 0 none)
is_step_of key slots id i first me v orders payload op is same here given st l at =
    let page = page_orders key id v st l (at ∙ ap (λ (z : Me (Unit {0}) View). some z.0) is) in
    record { word = here ∙ ap (λ (o : Orders). word_of o op) (sym (same ∙ page)); first = given }

-- ---- the next event of an honest end

-- an end that enters a call was honest before
was_honest : (v s : Side) → Enters v s → s.turned ≡ false → v.turned ≡ false
was_honest v s e fair = ⊎_elim
    (λ (t : s ≡ v). ap (λ (z : Side). z.turned) (sym t) ∙ fair)
    (λ (t : (call : Call) × (payload : List ℕ) × (s ≡ begins v call payload) × MayBegin v.role v call payload). ap (λ (z : Side). z.turned) (sym t.2) ∙ fair)
    e

allows : (key : Opening) (slots id : ℕ) (v s : Side) → Enters v s → s.turned ≡ false → GoesOn (plan_left s) →
    Allows (Ruled key) slots id (One v, []) (word_of key.orders (op_next s)) (leaves s.payload (op_next s)) (λ n m'. m' ≡ (One (side_after s (takes (op_next s) n)), []))
allows key slots id v s e fair more st l deep at small =
    let i = word_of key.orders (op_next s) in
    let w : Side = side_after s (takes (op_next s) (slice_index st.words i)) in
    let here = sits key st.words st.views id v l.shown at in
    let now = event_comes (setup_at key) st.words here.who s here.theirs (enters_comes (setup_at key) st.words here.who v here.theirs here.came s (was_honest v s e fair) e) fair more in
    (One w, keeps, tt, record { shown = shows_at key st.words (words_after key.orders st.words s.payload (op_next s)) st.views id v w here now }, refl)

-- The same for a seat, a word and an op that are known by equations. `f` is what the step leaves in the word, and `g` what it is told of the number that it found.
allows_at : (key : Opening) (slots id : ℕ) (me : Me (Unit {0}) View) (s : Side) (op : Op) (i : ℕ) (f g : ℕ → ℕ) → ((v : Side) × (me ≡ (One v, [])) × Enters v s) → s.turned ≡ false → GoesOn (plan_left s) →
    op ≡ op_next s → i ≡ word_of key.orders op → ((n : ℕ) → f n ≡ leaves s.payload op n) → ((n : ℕ) → takes op (g n) ≡ takes op n) →
    Allows (Ruled key) slots id me i f (λ n m'. m' ≡ (One (side_after s (takes (op_next s) (g n))), []))
allows_at key slots id me s op i f g at fair more is here leaves_it takes_it =
    let one : Allows (Ruled key) slots id me (word_of key.orders (op_next s)) (leaves s.payload (op_next s)) (λ n m'. m' ≡ (One (side_after s (takes (op_next s) n)), [])) =
    subst (λ (z : Me (Unit {0}) View). Allows (Ruled key) slots id z (word_of key.orders (op_next s)) (leaves s.payload (op_next s)) (λ n m'. m' ≡ (One (side_after s (takes (op_next s) n)), []))) (sym at.1) (allows key slots id at.0 s at.2 fair more) in
    let two : Allows (Ruled key) slots id me (word_of key.orders op) (leaves s.payload op) (λ n m'. m' ≡ (One (side_after s (takes op n)), [])) =
    subst (λ (o : Op). Allows (Ruled key) slots id me (word_of key.orders o) (leaves s.payload o) (λ n m'. m' ≡ (One (side_after s (takes o n)), []))) (sym is) one in
    let three : Allows (Ruled key) slots id me i f (λ n m'. m' ≡ (One (side_after s (takes op (g n))), [])) =
    subst (λ (z : ℕ × ((ℕ → ℕ) × (ℕ → ℕ))). Allows (Ruled key) slots id me z.0 z.1.0 (λ n m'. m' ≡ (One (side_after s (z.1.1 n)), []))) (λ k. (sym here k, (λ n. sym (leaves_it n) k, λ n. sym (takes_it n) k))) two in
    subst (λ (o : Op). Allows (Ruled key) slots id me i f (λ n m'. m' ≡ (One (side_after s (takes o (g n))), []))) is three

-- the step is on the word of the event, with its operand
pub makes_at : (key : Opening) (slots id : ℕ) (me : Me (Unit {0}) View) (s : Side) (op : Op) (i first : ℕ) (f g : ℕ → ℕ) → ((v : Side) × (me ≡ (One v, [])) × Enters v s) → s.turned ≡ false → GoesOn (plan_left s) →
    op ≡ op_next s → i ≡ word_of key.orders op → first ≡ operand s.payload op → ((n : ℕ) → f n ≡ leaves s.payload op n) → ((n : ℕ) → takes op (g n) ≡ takes op n) →
    Allows (Ruled key) slots id me i f (λ n. makes s (step slots i first 0 none) me (g n))
makes_at key slots id me s op i first f g at fair more is here given leaves_it takes_it =
    also key slots id i me f (IsStepOf s.orders s.payload (op_next s) (step slots i first 0 none)) (λ n m'. m' ≡ (One (side_after s (takes (op_next s) (g n))), []))
    (subst (λ (o : Op). (st : State (Unit {0}) View) → Ruled key st → get_elem? st.views id ≡ some me.0 → IsStepOf s.orders s.payload o (step slots i first 0 none)) is
    (is_step_of key slots id i first me at.0 s.orders s.payload op at.1 (same_orders at.0 s at.2) here given))
    (allows_at key slots id me s op i f g at fair more is here leaves_it takes_it)

-- ---- two seats of one

no_whole_parted : (id : ℕ) (o : Orders) (n : ℕ) (a b : Side) → get_elem? (One a ∷ One b ∷ []) id ≡ some (Whole o n) → ⊥
no_whole_parted zero o n a b at = cc
no_whole_parted (suc zero) o n a b at = cc
no_whole_parted (suc (suc k)) o n a b at = some-ne-none (Whole o n) (sym at)

no_whole_done : (id : ℕ) (o : Orders) (n : ℕ) (a b : Side) → get_elem? (Both a b ∷ Spent ∷ []) id ≡ some (Whole o n) → ⊥
no_whole_done zero o n a b at = cc
no_whole_done (suc zero) o n a b at = cc
no_whole_done (suc (suc k)) o n a b at = some-ne-none (Whole o n) (sym at)

parts : (key : Opening) (words : List ℕ) (id : ℕ) (o : Orders) (n : ℕ) → get_elem? (Whole key.orders key.start ∷ []) id ≡ some (Whole o n) → MayCome (core key words (new_server key.orders key.start) (new_client key.orders key.start)) →
    Shown key words (set (Whole key.orders key.start ∷ []) id (server_half (Whole o n)) ++ client_half (Whole o n) ∷ [])
parts key words zero o n at k =
    let os : key.orders ≡ o = cc in
    let ns : key.start ≡ n = cc in
    parted key words _ (new_server key.orders key.start) (new_client key.orders key.start) (λ i. One (new_server (sym os i) (sym ns i)) ∷ One (new_client (sym os i) (sym ns i)) ∷ []) k
parts key words (suc i) o n at k = absurd (some-ne-none (Whole o n) (sym at))

halves : (key : Opening) (words : List ℕ) (views : List View) (id : ℕ) (o : Orders) (n : ℕ) → Shown key words views → get_elem? views id ≡ some (Whole o n) →
    Shown key words (set views id (server_half (Whole o n)) ++ client_half (Whole o n) ∷ [])
halves key words views id o n (whole key2 words2 views2 is k) at =
    subst (λ (z : List View). Shown key words (set z id (server_half (Whole o n)) ++ client_half (Whole o n) ∷ [])) (sym is) (parts key words id o n (subst (λ (z : List View). get_elem? z id ≡ some (Whole o n)) is at) k)
halves key words views id o n (parted key2 words2 views2 a b is k) at = absurd (no_whole_parted id o n a b (subst (λ (z : List View). get_elem? z id ≡ some (Whole o n)) is at))
halves key words views id o n (done key2 words2 views2 a b is k) at = absurd (no_whole_done id o n a b (subst (λ (z : List View). get_elem? z id ≡ some (Whole o n)) is at))

-- the first seat, which stands for both ends, is cut in two
pub splits_at : (key : Opening) (id : ℕ) (v : View) (o : Orders) (n : ℕ) → v ≡ Whole o n → Splits (Ruled key) id v (server_half v) (client_half v)
splits_at key id v o n is =
    subst (λ (z : View). Splits (Ruled key) id z (server_half z) (client_half z)) (sym is) (λ st l at. record { shown = halves key st.words st.views id o n l.shown at })

-- ---- the opening

pub opens_at : (orders : Orders) (start a b : ℕ) (words : List ℕ) → a ≡ number_of orders.left → b ≡ number_of orders.right → words ≡ start_words orders start (a, b) Fresh → MayCome (opened orders start (a, b) Fresh) →
    Ruled (record { orders = orders; start = start }) (opening words [] (Whole orders start))
opens_at orders start a b words one two is k =
    let said : MayCome (opened orders start (said_of orders) Fresh) = subst (λ (z : ℕ × ℕ). MayCome (opened orders start z Fresh)) (λ i. (one i, two i)) k in
    let same : words ≡ start_words orders start (said_of orders) Fresh = is ∙ ap (λ (z : ℕ × ℕ). start_words orders start z Fresh) (λ i. (one i, two i)) in
    record { shown = whole (record { orders = orders; start = start }) _ _ refl (subst (λ (z : List ℕ). MayCome (core (record { orders = orders; start = start }) z (new_server orders start) (new_client orders start))) (sym same) said) }

-- ---- an end that is turned

-- the step at which an end is turned, a load of the word i
turns_on : (key : Opening) (slots id i : ℕ) (me : Me (Unit {0}) View) (v : Side) → me ≡ (One v, []) → v.turned ≡ false →
    Allows (Ruled key) slots id me i (λ n. n) (λ n m'. (consumed : ℕ) × (m' ≡ (One (turns v consumed), [])))
turns_on key slots id i me v is fair =
    subst (λ (z : Me (Unit {0}) View). Allows (Ruled key) slots id z i (λ n. n) (λ n m'. (consumed : ℕ) × (m' ≡ (One (turns v consumed), [])))) (sym is)
    (λ st l deep at small.
    let here = sits key st.words st.views id v l.shown at in
    let consumed = length here.theirs.got in
    let same : set st.words i (slice_index st.words i) ≡ st.words = set-get_or st.words i 0 in
    let now = subst (λ (z : List ℕ). MayCome (between (setup_at key) z here.who (turns v consumed) here.theirs)) (sym same) (turn_comes (setup_at key) st.words here.who v here.theirs here.came fair) in
    (One (turns v consumed), keeps, tt, record { shown = shows_at key st.words (set st.words i (slice_index st.words i)) st.views id v (turns v consumed) here now }, (consumed, refl)))

pub turns_at : (key : Opening) (slots id i : ℕ) (me : Me (Unit {0}) View) (v : Side) (op : Op) → me ≡ (One v, []) → v.turned ≡ false → op ≡ last_look v → i ≡ word_of key.orders op →
    Allows (Ruled key) slots id me i (λ n. n) (gives_up v (step slots i 0 0 none) me)
turns_at key slots id i me v op is fair same here =
    also key slots id i me (λ n. n) (IsStepOf v.orders v.payload (last_look v) (step slots i 0 0 none)) (λ n m'. (consumed : ℕ) × (m' ≡ (One (turns v consumed), [])))
    (is_step_of key slots id i 0 me v v.orders v.payload (last_look v) is refl (here ∙ ap (λ (o : Op). word_of key.orders o) same) refl)
    (turns_on key slots id i me v is fair)

strays_on : (key : Opening) (slots id : ℕ) (v : Side) (op : Op) → v.turned ≡ true →
    Allows (Ruled key) slots id (One v, []) (word_of key.orders op) (leaves [] op) (λ n m'. m' ≡ (One (strays v op (takes op n)), []))
strays_on key slots id v op foul st l deep at small =
    let w : Side = strays v op (value_taken key.orders st.words op) in
    let here = sits key st.words st.views id v l.shown at in
    (One w, keeps, tt, record { shown = shows_at key st.words (words_after key.orders st.words [] op) st.views id v w here (stray_comes (setup_at key) st.words here.who v here.theirs here.came op foul) }, refl)

strays_by : (key : Opening) (slots id : ℕ) (me : Me (Unit {0}) View) (v : Side) (op made_op : Op) (i : ℕ) (f g : ℕ → ℕ) → me ≡ (One v, []) → v.turned ≡ true → op ≡ made_op → i ≡ word_of key.orders op →
    ((n : ℕ) → f n ≡ leaves [] op n) → ((n : ℕ) → takes op (g n) ≡ takes op n) → Allows (Ruled key) slots id me i f (λ n m'. m' ≡ (One (strays v made_op (takes made_op (g n))), []))
strays_by key slots id me v op made_op i f g is foul same here leaves_it takes_it =
    let one : Allows (Ruled key) slots id me (word_of key.orders op) (leaves [] op) (λ n m'. m' ≡ (One (strays v op (takes op n)), [])) =
    subst (λ (z : Me (Unit {0}) View). Allows (Ruled key) slots id z (word_of key.orders op) (leaves [] op) (λ n m'. m' ≡ (One (strays v op (takes op n)), []))) (sym is) (strays_on key slots id v op foul) in
    let two : Allows (Ruled key) slots id me i f (λ n m'. m' ≡ (One (strays v op (takes op (g n))), [])) =
    subst (λ (z : ℕ × ((ℕ → ℕ) × (ℕ → ℕ))). Allows (Ruled key) slots id me z.0 z.1.0 (λ n m'. m' ≡ (One (strays v op (z.1.1 n)), []))) (λ k. (sym here k, (λ n. sym (leaves_it n) k, λ n. sym (takes_it n) k))) one in
    subst (λ (o : Op). Allows (Ruled key) slots id me i f (λ n m'. m' ≡ (One (strays v o (takes o (g n))), []))) same two

pub strays_at : (key : Opening) (slots id : ℕ) (me : Me (Unit {0}) View) (v : Side) (op made_op : Op) (i first : ℕ) (f g : ℕ → ℕ) → me ≡ (One v, []) → v.turned ≡ true → op ≡ made_op → i ≡ word_of key.orders op → first ≡ operand [] op →
    ((n : ℕ) → f n ≡ leaves [] op n) → ((n : ℕ) → takes op (g n) ≡ takes op n) → Allows (Ruled key) slots id me i f (λ n. wanders v made_op (step slots i first 0 none) me (g n))
strays_at key slots id me v op made_op i first f g is foul same here given leaves_it takes_it =
    also key slots id i me f (IsStepOf v.orders [] made_op (step slots i first 0 none)) (λ n m'. m' ≡ (One (strays v made_op (takes made_op (g n))), []))
    (subst (λ (o : Op). (st : State (Unit {0}) View) → Ruled key st → get_elem? st.views id ≡ some me.0 → IsStepOf v.orders [] o (step slots i first 0 none)) same
    (is_step_of key slots id i first me v v.orders [] op is refl here given))
    (strays_by key slots id me v op made_op i f g is foul same here leaves_it takes_it)

-- ---- the end of a page

merged : (key : Opening) (words : List ℕ) (other : ℕ) (a b c : Side) → MayCome (core key words a c) → ¬ (other ≡ 0) → get_elem? (Both a b ∷ One c ∷ []) other ≡ some (One b) →
    Shown key words (set (Both a b ∷ One c ∷ []) other Spent)
merged key words zero a b c k apart there = absurd (apart refl)
merged key words (suc zero) a b c k apart there = done key words _ a b refl (subst (λ (z : Side). MayCome (core key words a z)) (one_is c b there) k)
merged key words (suc (suc n)) a b c k apart there = absurd (some-ne-none (One b) (sym there))

merges : (key : Opening) (words : List ℕ) (views : List View) (id other : ℕ) (a b : Side) → Shown key words views → get_elem? views id ≡ some (One a) → ¬ (other ≡ id) → get_elem? (set views id (Both a b)) other ≡ some (One b) →
    a.role ≡ Server → Shown key words (set (set views id (Both a b)) other Spent)
merges key words views id other a b l at apart there first =
    let here = sits key words views id a l at in
    let who : here.who ≡ Server = sym (came_role (setup_at key) words here.who a here.theirs here.came) ∙ first in
    let vs : views ≡ One a ∷ One here.theirs ∷ [] = here.views_are ∙ ap (λ (r : Role). views_of r a here.theirs) who in
    let ids : id ≡ 0 = here.id_is ∙ ap seat_of who in
    let k : MayCome (core key words a here.theirs) = subst (λ (r : Role). MayCome (between (setup_at key) words r a here.theirs)) who here.came in
    subst (λ (z : List View × ℕ). Shown key words (set (set z.0 z.1 (Both a b)) other Spent)) (λ i. (sym vs i, sym ids i))
    (merged key words other a b here.theirs k (λ e. apart (e ∙ sym ids)) (subst (λ (z : List View × ℕ). get_elem? (set z.0 z.1 (Both a b)) other ≡ some (One b)) (λ i. (vs i, ids i)) there))

-- the client's seat is taken into the server's
pub joins_at : (key : Opening) (id other : ℕ) (v w : View) (a b : Side) → v ≡ One a → w ≡ One b → a.role ≡ Server → Joins (Ruled key) id v other w (joined v w) Spent
joins_at key id other v w a b is is' first =
    subst (λ (z : View × View). Joins (Ruled key) id z.0 other z.1 (joined z.0 z.1) Spent) (λ k. (sym is k, sym is' k))
    (λ st l at apart there. record { shown = merges key st.words st.views id other a b l.shown at apart there first })

both_is : (a b x y : Side) → some (Both a x) ≡ some (Both b y) → (a ≡ b) × (x ≡ y)
both_is a b x y e = (cc, cc)

no_both_whole : (o : Orders) (n id : ℕ) (a b : Side) → get_elem? (Whole o n ∷ []) id ≡ some (Both a b) → ⊥
no_both_whole o n zero a b at = cc
no_both_whole o n (suc k) a b at = some-ne-none (Both a b) (sym at)

no_both_parted : (id : ℕ) (x y a b : Side) → get_elem? (One x ∷ One y ∷ []) id ≡ some (Both a b) → ⊥
no_both_parted zero x y a b at = cc
no_both_parted (suc zero) x y a b at = cc
no_both_parted (suc (suc k)) x y a b at = some-ne-none (Both a b) (sym at)

done_came : (key : Opening) (words : List ℕ) (id : ℕ) (x y a b : Side) → get_elem? (Both x y ∷ Spent ∷ []) id ≡ some (Both a b) → MayCome (core key words x y) → MayCome (core key words a b)
done_came key words zero x y a b at k = let e = both_is x a y b at in subst (λ (z : Side × Side). MayCome (core key words z.0 z.1)) (λ i. (e.0 i, e.1 i)) k
done_came key words (suc zero) x y a b at k = absurd (cc)
done_came key words (suc (suc n)) x y a b at k = absurd (some-ne-none (Both a b) (sym at))

last_came : (key : Opening) (words : List ℕ) (views : List View) (id : ℕ) (a b : Side) → Shown key words views → get_elem? views id ≡ some (Both a b) → MayCome (core key words a b)
last_came key words views id a b (whole key2 words2 views2 is k) at = absurd (no_both_whole _ _ id a b (subst (λ (z : List View). get_elem? z id ≡ some (Both a b)) is at))
last_came key words views id a b (parted key2 words2 views2 x y is k) at = absurd (no_both_parted id x y a b (subst (λ (z : List View). get_elem? z id ≡ some (Both a b)) is at))
last_came key words views id a b (done key2 words2 views2 x y is k) at = done_came key words id x y a b (subst (λ (z : List View). get_elem? z id ≡ some (Both a b)) is at) k

-- what the last state of the table promises
pub settles : (key : Opening) (id : ℕ) (a b : Side) (v : View) (words : List ℕ) (slots : List (Unit {0})) → Final (Seen (Ruled key) id v) words slots → v ≡ Both a b → Settles key v
settles key id a b v words slots f is =
    subst (Settles key) (sym is) (page_settles (core key f.0.words a b) (each_has_invariant (core key f.0.words a b) (last_came key f.0.words f.0.views id a b f.1.0.shown (f.1.1 ∙ ap some is))))

-- a step that leaves a view as it was leaves all views so
pub view_stays : (key : Opening) (id : ℕ) (v : View) (st : State (Unit {0}) View) → Ruled key st → get_elem? st.views id ≡ some v → Shown key st.words (set st.views id v)
view_stays key id v st l at = subst (λ (z : List View). Shown key st.words z) (sym (set_again st.views id v at)) l.shown

-- a load by the seat that knows both ends shows what holds of them
pub settled_at : (key told : Opening) (slots id : ℕ) (me : Me (Unit {0}) View) (a b : Side) → me ≡ (Both a b, []) → told ≡ key →
    Allows (Ruled key) slots id me 0 (λ n. n) (λ n m'. (m' ≡ me) × Settles told me.0)
settled_at key told slots id me a b is same =
    subst (λ (z : Me (Unit {0}) View × Opening). Allows (Ruled key) slots id z.0 0 (λ n. n) (λ n m'. (m' ≡ z.0) × Settles z.1 z.0.0)) (λ i. (sym is i, sym same i))
    (λ st l deep at small.
    let stays = subst (λ (z : List ℕ). Shown key z (set st.views id (Both a b))) (sym (set-get_or st.words 0 0)) (view_stays key id (Both a b) st l at) in
    (Both a b, keeps, tt, record { shown = stays }, (refl, page_settles (core key st.words a b) (each_has_invariant (core key st.words a b) (last_came key st.words st.views id a b l.shown at)))))
