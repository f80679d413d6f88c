-- What an end still owes in its call, and how its trail and its lists grow.
use Rattle.std.proofs.Common.{◌≡◌, ℕ, ◌+◌, ◌-◌, ◌≤◌, Bool, true, false, ◌||◌, Option, Some, None, List, [], ◌∷◌, ◌++◌, length, refl, subst, sym, ap, ◌∙◌, arith, append-nil}
use Rattle.std.proofs.lemmas.Bool.{false≢true, or_parts}
use Rattle.std.proofs.lemmas.Bool.Decides.{nat_tests}
use Rattle.std.proofs.Math.Bool.{or-false}
use Rattle.list_laws.specs.Lists.{IsPrefixOf}
use Rattle.list_laws.proofs.Prefixes.{prefix_all, prefix_length}
use Rattle.ring_words.specs.Rings.{size, diff, ready}
use Rattle.ring_words.specs.declared.order.Order.{Order}
use Rattle.ring_words.specs.declared.order.Orders.{Orders}
use Rattle.ring_words.specs.declared.page.Role.{Role}
use Rattle.ring_words.specs.declared.page.Role.TheVariants.{Server, Client}
use Rattle.ring_words.specs.declared.page.WordName.{WordName}
use Rattle.ring_words.specs.declared.page.WordName.TheVariants.{LeftCons, LeftProd, RightCons, RightProd}
use Rattle.ring_words.proofs.RingLaws.{diff_counts, size_within}
use Rattle.vchan_protocol.specs.declared.op.Op.{Op}
use Rattle.vchan_protocol.specs.declared.op.Op.TheVariants.{Store}
use Rattle.vchan_protocol.specs.declared.op.PastEvent.{PastEvent}
use Rattle.vchan_protocol.specs.declared.call.Answer.{Answer}
use Rattle.vchan_protocol.specs.declared.call.Answer.TheVariants.{Done}
use Rattle.vchan_protocol.specs.declared.call.EndState.{EndState}
use Rattle.vchan_protocol.specs.declared.call.EndState.TheVariants.{Shut}
use Rattle.vchan_protocol.specs.declared.side.Side.{Side}
use Rattle.vchan_protocol.specs.declared.side.Begun.{Begun}
use Rattle.vchan_protocol.specs.Table.Plan.{Plan, answers, does, GoesOn, Leads, next_op, after, rest_after}
use Rattle.vchan_protocol.specs.Table.Ends.{Standing, state_after, cons_after}
use Rattle.vchan_protocol.specs.Table.Calls.{plan_of}
use Rattle.vchan_protocol.specs.History.Core.{event, begins, plan_left, begun_standing, sent_after, sent_stored, got_after, got_stored, bytes_loaded}
use Rattle.vchan_protocol.specs.Honest.RingLaw.{index_at, CallLawful, IsLawfulIn, IsLawfulCall}
use Rattle.vchan_protocol.specs.Honest.LifeLaw.{OrdersGive, OrderGives, LooksGive, LookGives, shows_end, has_seen}
use Rattle.vchan_protocol.proofs.Honest.LifeTrails.{Lives, OwesLife, OwesStore, OwesAnswer, or_assoc, lives_call, Lives_Leads}
use Rattle.vchan_protocol.proofs.History.EventLaws.{diff_same}

-- ---- the call that an end is in

pub record InLawfulCall (s : Side) : Type 0 where
  pub begun : Begun
  pub is : s.call ≡ Some begun
  pub lawful : IsLawfulCall s begun
  pub led : Leads (plan_of (begun_standing s begun) begun.call) s.trail (plan_left s)

pub in_lawful_call : (s : Side) → CallLawful s → GoesOn (plan_left s) → InLawfulCall s
in_lawful_call s lawful more = go s.call refl lawful more
  where
    go : (call : Option Begun) → s.call ≡ call → IsLawfulIn s call → GoesOn (elim call [ None ↦ answers Done | Some b ↦ rest_after (plan_of (begun_standing s b) b.call) s.trail ]) → InLawfulCall s
    go None e inside more = absurd more
    go (Some b) e inside more = record {
      begun = b;
      is = e;
      lawful = inside;
      led = subst (λ (call : Option Begun). Leads (plan_of (begun_standing s b) b.call) s.trail (elim call [ None ↦ answers Done | Some b ↦ rest_after (plan_of (begun_standing s b) b.call) s.trail ])) (sym e) inside.led;
    }

-- what the end still owes in its call
pub lives_now : (said : ℕ × ℕ) (final : ℕ) (s : Side) → InLawfulCall s → LooksGive final s.role false s.trail → OrdersGive said s.trail → Lives said final s.role s.orders s.state s.cons (has_seen s.role s.trail) (plan_left s)
lives_now said final s c looks says =
    subst (λ (x : Standing). Lives said final s.role s.orders x.state x.cons (has_seen s.role s.trail) (plan_left s)) c.lawful.stands
    (Lives_Leads said final (begun_standing s c.begun) false (plan_of (begun_standing s c.begun) c.begun.call) s.trail (plan_left s)
    (lives_call said final (begun_standing s c.begun) c.begun.call c.lawful.allowed) c.led looks says)

pub owes_now : (said : ℕ × ℕ) (final : ℕ) (role : Role) (orders : Orders) (state : EndState) (cons : ℕ) (seen : Bool) (plan : Plan) → Lives said final role orders state cons seen plan → GoesOn plan → OwesLife (next_op plan) role state
unfolding Lives
owes_now said final role orders state cons seen (answers answer) w more = absurd more
owes_now said final role orders state cons seen (does op next) w more = w.0

pub lives_then : (said : ℕ × ℕ) (final : ℕ) (role : Role) (orders : Orders) (state : EndState) (cons : ℕ) (seen : Bool) (plan : Plan) (value : ℕ) → Lives said final role orders state cons seen plan → GoesOn plan →
    (seen ≡ true → LookGives final (next_op plan) role value) → OrderGives said (next_op plan) value →
    Lives said final role orders (state_after (next_op plan) role state) (cons_after (next_op plan) role cons) (seen || shows_end (next_op plan) role value) (after plan value)
unfolding Lives
lives_then said final role orders state cons seen (answers answer) value w more looks says = absurd more
lives_then said final role orders state cons seen (does op next) value w more looks says = w.1 value looks says

pub owes_answer : (said : ℕ × ℕ) (final : ℕ) (role : Role) (orders : Orders) (state : EndState) (cons : ℕ) (seen : Bool) (answer : Answer) → Lives said final role orders state cons seen (answers answer) → OwesAnswer said final role orders cons seen answer
unfolding Lives
owes_answer said final role orders state cons seen answer w = w

-- ---- a trail that grows

pub has_seen_push : (role : Role) (events : List PastEvent) (event : PastEvent) → has_seen role (events ++ event ∷ []) ≡ (has_seen role events || shows_end event.op role event.taken)
has_seen_push role [] event = or-false (shows_end event.op role event.taken)
has_seen_push role (first ∷ events) event = ap (λ (b : Bool). shows_end first.op role first.taken || b) (has_seen_push role events event) ∙ sym (or_assoc (shows_end first.op role first.taken) (has_seen role events) (shows_end event.op role event.taken))

pub LooksGive_push : (index : ℕ) (role : Role) (seen : Bool) (events : List PastEvent) (event : PastEvent) → LooksGive index role seen events → ((seen || has_seen role events) ≡ true → LookGives index event.op role event.taken) → LooksGive index role seen (events ++ event ∷ [])
LooksGive_push index role seen [] event looks last = (λ was. last (or-false seen ∙ was), tt)
LooksGive_push index role seen (first ∷ events) event looks last =
    (looks.0, LooksGive_push index role (seen || shows_end first.op role first.taken) events event looks.1 (λ was. last (sym (or_assoc seen (shows_end first.op role first.taken) (has_seen role events)) ∙ was)))

pub OrdersGive_push : (said : ℕ × ℕ) (events : List PastEvent) (event : PastEvent) → OrdersGive said events → OrderGives said event.op event.taken → OrdersGive said (events ++ event ∷ [])
OrdersGive_push said [] event looks last = (last, tt)
OrdersGive_push said (first ∷ events) event looks last = (looks.0, OrdersGive_push said events event looks.1 last)

pub unseen_looks : (index : ℕ) (role : Role) (events : List PastEvent) → has_seen role events ≡ false → LooksGive index role false events
unseen_looks index role [] none = tt
unseen_looks index role (event ∷ events) none =
    let both = or_parts (shows_end event.op role event.taken) (has_seen role events) none in
    (λ was. absurd (false≢true was), subst (λ (b : Bool). LooksGive index role b events) (sym both.0) (unseen_looks index role events both.1))

-- ---- the lists of an end

-- a shut end shows no more bytes
pub sent_stays : (op : Op) (s : Side) → OwesLife op s.role s.state → s.state ≡ Shut → sent_after op s ≡ s.sent
sent_stays (Store word value) s owes shut = go word s.role owes
  where
    go : (word : WordName) (role : Role) → OwesStore word role s.state value → sent_stored word role s.trail s.payload s.sent ≡ s.sent
    go LeftProd Client owes = absurd (owes shut)
    go RightProd Server owes = absurd (owes shut)
    go _ role owes = refl
sent_stays _ s owes shut = refl

-- what was got stays, and more comes after it
pub got_grows : (op : Op) (s : Side) → IsPrefixOf s.got (got_after op s)
got_grows (Store word value) s = go word s.role
  where
    go : (word : WordName) (role : Role) → IsPrefixOf s.got (got_stored word role s.trail s.got)
    go LeftCons Server = (bytes_loaded s.trail, refl)
    go RightCons Client = (bytes_loaded s.trail, refl)
    go _ role = ([], append-nil s.got)
got_grows _ s = ([], append-nil s.got)

-- a reader that got all that was sent gets no more
pub all_stays : (got then_got sent : List ℕ) → IsPrefixOf got then_got → IsPrefixOf then_got sent → got ≡ sent → then_got ≡ sent
all_stays got then_got sent grown begins all =
    prefix_all then_got sent begins (omega (arith, prefix_length got then_got grown, ap (λ (xs : List ℕ). length xs) all))

ready_is : (prod cons : ℕ) (order : Order) → diff prod cons ≤ size order → ready prod cons order ≡ diff prod cons
unfolding ready
ready_is prod cons order fits = grind (arith, nat_tests)

module _ (start : ℕ) (order : Order) (got sent : List ℕ) (begins : IsPrefixOf got sent) (fits : length sent ≤ length got + size order) where
  ahead : diff (index_at start (length sent)) (index_at start (length got)) ≡ length sent - length got
  ahead = diff_counts start (length sent) (length got) (prefix_length got sent begins) (omega (arith, fits, (size_within order).1))

  -- if the two indices are equal, all that was sent is got
  pub caught_up : index_at start (length sent) ≡ index_at start (length got) → got ≡ sent
  caught_up same =
      let apart : length sent - length got ≡ 0 = sym ahead ∙ ap (λ (n : ℕ). diff n (index_at start (length got))) same ∙ diff_same (index_at start (length got)) in
      prefix_all got sent begins (omega (arith, apart))

  -- if nothing is ready, the two indices are equal
  pub none_ready : ready (index_at start (length sent)) (index_at start (length got)) order ≡ 0 → index_at start (length sent) ≡ index_at start (length got)
  none_ready none =
      let small : diff (index_at start (length sent)) (index_at start (length got)) ≤ size order = omega (arith, ahead, fits) in
      let apart : length sent - length got ≡ 0 = sym ahead ∙ sym (ready_is _ _ order small) ∙ none in
      ap (λ (n : ℕ). index_at start n) (omega (arith, apart, prefix_length got sent begins))
