-- Each event of an honest end, with its answer, keeps the laws on lives.
use Rattle.std.proofs.Common.{◌≡◌, ℕ, ◌+◌, ◌^◌, ◌<◌, ◌≤◌, ◌⊎◌, inl, inr, Bool, true, false, not, ◌||◌, ◌&&◌, Option, Some, None, IsSome, List, [], ◌∷◌, ◌++◌, length, refl, subst, sym, ap, ◌∙◌, arith}
use Rattle.std.proofs.lemmas.Bool.{false≢true, eq-eqb, eqb-true, or_right, or_left, or_cases, or_from}
use Rattle.std.proofs.Math.Bool.{or-false}
use Rattle.list_laws.specs.Lists.{IsPrefixOf}
use Rattle.ring_words.specs.Rings.{size, ready}
use Rattle.ring_words.specs.Page.{order_of}
use Rattle.ring_words.specs.declared.order.Order.{Order}
use Rattle.ring_words.specs.declared.order.Orders.{Orders}
use Rattle.ring_words.specs.declared.page.Role.{Role}
use Rattle.ring_words.specs.declared.page.Role.TheVariants.{Server, Client}
use Rattle.ring_words.specs.declared.page.Ring.TheVariants.{Left, Right}
use Rattle.ring_words.specs.declared.page.WordName.{WordName}
use Rattle.ring_words.specs.declared.page.WordName.TheVariants.{LeftProd, RightProd}
use Rattle.vchan_protocol.specs.declared.op.Op.{Op}
use Rattle.vchan_protocol.specs.declared.op.Op.TheVariants.{Load}
use Rattle.vchan_protocol.specs.declared.call.Answer.{Answer}
use Rattle.vchan_protocol.specs.declared.call.Answer.TheVariants.{AllRead, BadOrders, PeerGone as IsGone}
use Rattle.vchan_protocol.specs.declared.call.EndState.{EndState}
use Rattle.vchan_protocol.specs.declared.call.EndState.TheVariants.{Shut}
use Rattle.vchan_protocol.specs.declared.side.Side.{Side}
use Rattle.vchan_protocol.specs.declared.side.EndedBy.{EndedBy}
use Rattle.vchan_protocol.specs.Table.Plan.{Plan, answers, does, GoesOn, after, past}
use Rattle.vchan_protocol.specs.Table.Ends.{state_after, cons_after, prod_word, read_ring}
use Rattle.vchan_protocol.specs.Table.Apply.{words_after, value_taken}
use Rattle.vchan_protocol.specs.History.Core.{Core, side_of, event, begins, plan_left, plan_next, op_next, taken_next, made, settled, side_after, answered, saw_after, sent_after, got_after, is_shut, sees_end, ending, drains, misleads, first_ended}
use Rattle.vchan_protocol.specs.Honest.RingLaw.{index_at, word_at, RingLawful, CallLawful}
use Rattle.vchan_protocol.specs.Honest.LifeLaw.{LifeLawful, TellsGone, SaysOrders, LooksGive, LookGives, LoadGives, shows_end, has_seen}
use Rattle.vchan_protocol.specs.Honest.Lawful.{Lawful}
use Rattle.vchan_protocol.proofs.Honest.LifeTrails.{Lives, OwesLife, OwesAnswer}
use Rattle.vchan_protocol.proofs.Honest.LifeWords.{spared_stays, left_order_spared, right_order_spared, peer_live_spared, peer_gone_spared, shut_stays, fresh_before, live_tells, gone_tells, shown_shut, order_given}
use Rattle.vchan_protocol.proofs.Honest.LifeSides.{Between, as_server, as_client, by_server, by_client}
use Rattle.vchan_protocol.proofs.Honest.LifeOwed.{InLawfulCall, in_lawful_call, lives_now, owes_now, lives_then, owes_answer, has_seen_push, LooksGive_push, OrdersGive_push, unseen_looks, sent_stays, got_grows, all_stays, caught_up, none_ready}

-- ---- an event

-- a look takes the producer index of its ring
look_given : (orders : Orders) (words : List ℕ) (final : ℕ) (op : Op) (role : Role) → word_at orders words (prod_word (read_ring role)) ≡ final → final < 2 ^ 32 → LookGives final op role (value_taken orders words op)
look_given orders words final (Load word) role is low = go word role is
  where
    go : (word : WordName) (role : Role) → word_at orders words (prod_word (read_ring role)) ≡ final → LoadGives final word role (word_at orders words word)
    go LeftProd Server is = omega (arith, is, low)
    go RightProd Client is = omega (arith, is, low)
    go _ role is = tt
look_given orders words final _ role is low = tt

-- an end comes to see only what its peer's words show
saw_shut : (op : Op) (value : ℕ) (s : Side) (shut : Type 0) → (s.saw ≡ true → shut) → (shows_end op s.role value ≡ true → shut) → saw_after op value s ≡ true → shut
saw_shut (Load word) value s shut before shows is = go (or_cases s.saw (not (is_shut s.state) && sees_end word s.role value) is)
  where
    second : (a b : Bool) → (a && b) ≡ true → b ≡ true
    second true b both = both
    second false b both = absurd (false≢true both)

    go : (s.saw ≡ true) ⊎ ((not (is_shut s.state) && sees_end word s.role value) ≡ true) → shut
    go (inl was) = before was
    go (inr now) = shows (second (not (is_shut s.state)) (sees_end word s.role value) now)
saw_shut _ value s shut before shows is = before is

-- a shut end comes to see nothing new
saw_stays : (op : Op) (value : ℕ) (s : Side) → s.state ≡ Shut → saw_after op value s ≡ true → s.saw ≡ true
saw_stays (Load word) value s shut is =
    sym (or-false s.saw) ∙ sym (ap (λ (state : EndState). s.saw || (not (is_shut state) && sees_end word s.role value)) shut) ∙ is
saw_stays _ value s shut is = is

module _ (start : ℕ) (said : ℕ × ℕ) (orders : Orders) (words : List ℕ) (mine theirs : Side) (c : InLawfulCall mine) (more : GoesOn (plan_left mine)) (long : 14 ≤ length words) (b : Between mine.role start said orders words mine theirs)
    (look : word_at orders words (prod_word (read_ring mine.role)) ≡ index_at start (length theirs.sent)) where
  lives : Lives said (index_at start (length theirs.sent)) mine.role mine.orders mine.state mine.cons (has_seen mine.role mine.trail) (plan_left mine)
  lives = lives_now said (index_at start (length theirs.sent)) mine c b.my_sight.later b.my_orders

  pub owes_next : OwesLife (op_next mine) mine.role mine.state
  owes_next = owes_now said (index_at start (length theirs.sent)) mine.role mine.orders mine.state mine.cons (has_seen mine.role mine.trail) (plan_left mine) lives more

  shows : shows_end (op_next mine) mine.role (value_taken orders words (op_next mine)) ≡ true → theirs.state ≡ Shut
  shows = shown_shut orders words (op_next mine) mine.role theirs.retired theirs.state b.their_live b.their_gone

  seen_after : has_seen mine.role (mine.trail ++ past (op_next mine) (value_taken orders words (op_next mine)) ∷ []) ≡ (has_seen mine.role mine.trail || shows_end (op_next mine) mine.role (value_taken orders words (op_next mine)))
  seen_after = has_seen_push mine.role mine.trail (past (op_next mine) (value_taken orders words (op_next mine)))

  lives_after : Lives said (index_at start (length theirs.sent)) mine.role mine.orders (state_after (op_next mine) mine.role mine.state) (cons_after (op_next mine) mine.role mine.cons)
      (has_seen mine.role (mine.trail ++ past (op_next mine) (value_taken orders words (op_next mine)) ∷ [])) (after (plan_left mine) (value_taken orders words (op_next mine)))
  lives_after =
      subst (λ (seen : Bool). Lives said (index_at start (length theirs.sent)) mine.role mine.orders (state_after (op_next mine) mine.role mine.state) (cons_after (op_next mine) mine.role mine.cons) seen (after (plan_left mine) (value_taken orders words (op_next mine))))
      (sym seen_after)
      (lives_then said (index_at start (length theirs.sent)) mine.role mine.orders mine.state mine.cons (has_seen mine.role mine.trail) (plan_left mine) (value_taken orders words (op_next mine)) lives more
      (λ was. look_given orders words (index_at start (length theirs.sent)) (op_next mine) mine.role look (omega arith)) (order_given orders words said (op_next mine) b.left_order b.right_order))

  -- before an answer
  made_between : IsPrefixOf (got_after (op_next mine) mine) theirs.sent → Between mine.role start said orders (words_after orders words mine.payload (op_next mine)) (made mine (op_next mine) (value_taken orders words (op_next mine))) theirs
  made_between begins = record {
    my_live = live_tells orders words mine.payload long (op_next mine) mine.role mine.state owes_next b.my_live;
    my_gone = gone_tells orders words mine.payload long (op_next mine) mine.role mine.retired mine.state owes_next b.my_gone;
    their_live = spared_stays orders words mine.payload (op_next mine) mine.role mine.state _ (peer_live_spared orders mine.role) owes_next ∙ b.their_live;
    their_gone = subst (λ (n : ℕ). TellsGone n theirs.retired theirs.state) (sym (spared_stays orders words mine.payload (op_next mine) mine.role mine.state _ (peer_gone_spared orders mine.role) owes_next)) b.their_gone;
    left_order = spared_stays orders words mine.payload (op_next mine) mine.role mine.state _ (left_order_spared orders mine.role) owes_next ∙ b.left_order;
    right_order = spared_stays orders words mine.payload (op_next mine) mine.role mine.state _ (right_order_spared orders mine.role) owes_next ∙ b.right_order;
    my_sight = record {
      saw = saw_shut (op_next mine) (value_taken orders words (op_next mine)) mine (theirs.state ≡ Shut) b.my_sight.saw shows;
      seen = λ is. seen_shut (or_cases (has_seen mine.role mine.trail) (shows_end (op_next mine) mine.role (value_taken orders words (op_next mine))) (sym seen_after ∙ is));
      later = LooksGive_push (index_at start (length theirs.sent)) mine.role false mine.trail _ b.my_sight.later
          (λ was. look_given orders words (index_at start (length theirs.sent)) (op_next mine) mine.role look (omega arith));
    };
    their_sight = record {
      saw = λ is. shut_stays (op_next mine) mine.role mine.state owes_next (b.their_sight.saw is);
      seen = λ is. shut_stays (op_next mine) mine.role mine.state owes_next (b.their_sight.seen is);
      later = looks_on (has_seen theirs.role theirs.trail) refl;
    };
    not_both = λ saw their. b.not_both (saw_stays (op_next mine) (value_taken orders words (op_next mine)) mine (b.their_sight.saw their) saw) their;
    reads = record {
      shut = b.reads.shut;
      all = λ drained. all_stays mine.got (got_after (op_next mine) mine) theirs.sent (got_grows (op_next mine) mine) begins (b.reads.all drained);
      ended = b.reads.ended;
    };
    writes = record {
      shut = λ drained. shut_stays (op_next mine) mine.role mine.state owes_next (b.writes.shut drained);
      all = λ drained. b.writes.all drained ∙ sym (sent_stays (op_next mine) mine owes_next (b.writes.shut drained));
      ended = b.writes.ended;
    };
    my_orders = OrdersGive_push said mine.trail _ b.my_orders (order_given orders words said (op_next mine) b.left_order b.right_order);
    their_orders = b.their_orders;
    my_misled = b.my_misled;
    their_misled = b.their_misled;
  }
    where
      seen_shut : (has_seen mine.role mine.trail ≡ true) ⊎ (shows_end (op_next mine) mine.role (value_taken orders words (op_next mine)) ≡ true) → theirs.state ≡ Shut
      seen_shut (inl was) = b.my_sight.seen was
      seen_shut (inr now) = shows now

      looks_on : (seen : Bool) → has_seen theirs.role theirs.trail ≡ seen → LooksGive (index_at start (length (sent_after (op_next mine) mine))) theirs.role false theirs.trail
      looks_on true is = subst (λ (sent : List ℕ). LooksGive (index_at start (length sent)) theirs.role false theirs.trail) (sym (sent_stays (op_next mine) mine owes_next (b.their_sight.seen is))) b.their_sight.later
      looks_on false is = unseen_looks _ theirs.role theirs.trail is

-- ---- an answer

-- an answer that tells that all was read comes only after the peer's end was seen, and if the own count is the last index
drains_owes : (said : ℕ × ℕ) (final : ℕ) (role : Role) (orders : Orders) (cons : ℕ) (seen : Bool) (answer : Answer) → OwesAnswer said final role orders cons seen answer → drains answer ≡ true → (seen ≡ true) × (final ≡ cons)
drains_owes said final role orders cons seen AllRead owes is = owes
drains_owes said final role orders cons seen (IsGone p q) owes is = (owes.0, sym owes.1 ∙ eqb-true p q is ∙ owes.2)
drains_owes said final role orders cons seen _ owes is = absurd (false≢true is)

-- an answer that ends a stream tells that all was read
ends_drains : (said : ℕ × ℕ) (final : ℕ) (role : Role) (orders : Orders) (cons : ℕ) (seen : Bool) (answer : Answer) → OwesAnswer said final role orders cons seen answer → (ready final cons (order_of orders (read_ring role)) ≡ 0 → final ≡ cons) → IsSome (ending answer) → drains answer ≡ true
ends_drains said final role orders cons seen AllRead owes none is = refl
ends_drains said final role orders cons seen (IsGone p q) owes none is = eq-eqb p q (owes.1 ∙ none owes.3 ∙ sym owes.2)
ends_drains said final role orders cons seen _ owes none is = absurd (false≢true is)

misleads_never : (said : ℕ × ℕ) (final : ℕ) (role : Role) (orders : Orders) (cons : ℕ) (seen : Bool) (answer : Answer) → OwesAnswer said final role orders cons seen answer → SaysOrders said orders → misleads answer ≡ false
misleads_never said final role orders cons seen (BadOrders l r) owes says = absurd (owes says)
misleads_never said final role orders cons seen _ owes says = refl

ended_cases : (before later : Option EndedBy) → IsSome (first_ended before later) → IsSome before ⊎ IsSome later
ended_cases None later is = inr is
ended_cases (Some by) later is = inl refl

module _ (role : Role) (start : ℕ) (said : ℕ × ℕ) (orders : Orders) (words : List ℕ) (mine theirs : Side) (role_is : mine.role ≡ role) (b : Between role start said orders words mine theirs)
    (counts : mine.cons ≡ index_at start (length mine.got)) (begins : IsPrefixOf mine.got theirs.sent) (fits : length theirs.sent ≤ length mine.got + size (order_of orders (read_ring role))) where
  answered_between : (answer : Answer) → OwesAnswer said (index_at start (length theirs.sent)) role orders mine.cons (has_seen mine.role mine.trail) answer → Between role start said orders words (answered mine answer) theirs
  answered_between answer owes = record {
    my_live = b.my_live;
    my_gone = b.my_gone;
    their_live = b.their_live;
    their_gone = b.their_gone;
    left_order = b.left_order;
    right_order = b.right_order;
    my_sight = record { saw = b.my_sight.saw; seen = b.my_sight.seen; later = b.my_sight.later };
    their_sight = record { saw = b.their_sight.saw; seen = b.their_sight.seen; later = b.their_sight.later };
    not_both = b.not_both;
    reads = record {
      shut = λ is. shut (or_cases mine.drained (drains answer) is);
      all = λ is. all (or_cases mine.drained (drains answer) is);
      ended = λ is. ended (ended_cases mine.ended (ending answer) is);
    };
    writes = record { shut = b.writes.shut; all = b.writes.all; ended = b.writes.ended };
    my_orders = b.my_orders;
    their_orders = b.their_orders;
    my_misled = λ says. or_from mine.misled (misleads answer) (b.my_misled says) (misleads_never said (index_at start (length theirs.sent)) role orders mine.cons (has_seen mine.role mine.trail) answer owes says);
    their_misled = b.their_misled;
  }
    where
      shut : (mine.drained ≡ true) ⊎ (drains answer ≡ true) → theirs.state ≡ Shut
      shut (inl was) = b.reads.shut was
      shut (inr now) = b.my_sight.seen (drains_owes said (index_at start (length theirs.sent)) role orders mine.cons (has_seen mine.role mine.trail) answer owes now).0

      all : (mine.drained ≡ true) ⊎ (drains answer ≡ true) → mine.got ≡ theirs.sent
      all (inl was) = b.reads.all was
      all (inr now) =
          caught_up start (order_of orders (read_ring role)) mine.got theirs.sent begins fits ((drains_owes said (index_at start (length theirs.sent)) role orders mine.cons (has_seen mine.role mine.trail) answer owes now).1 ∙ counts)

      ended : IsSome mine.ended ⊎ IsSome (ending answer) → (mine.drained || drains answer) ≡ true
      ended (inl was) = or_left mine.drained (drains answer) (b.reads.ended was)
      ended (inr now) =
          or_right mine.drained (drains answer) (ends_drains said (index_at start (length theirs.sent)) role orders mine.cons (has_seen mine.role mine.trail) answer owes
          (λ none. none_ready start (order_of orders (read_ring role)) mine.got theirs.sent begins fits (subst (λ (n : ℕ). ready (index_at start (length theirs.sent)) n (order_of orders (read_ring role)) ≡ 0) counts none) ∙ sym counts) now)

  settled_between : (state : EndState) (plan : Plan) → Lives said (index_at start (length theirs.sent)) role orders state mine.cons (has_seen mine.role mine.trail) plan → Between role start said orders words (settled mine plan) theirs
  settled_between state (answers answer) w = answered_between answer (owes_answer said (index_at start (length theirs.sent)) role orders state mine.cons (has_seen mine.role mine.trail) answer w)
  settled_between state (does op next) w = b

-- ---- an event, with its answer

settled_for : (P : ℕ → List ℕ → Type 0) (s : Side) (plan : Plan) → P (settled s plan).cons (settled s plan).got → P s.cons s.got
settled_for P s (answers answer) h = h
settled_for P s (does op next) h = h

-- what an end's event needs of the ring that it reads, after it
ReadsOn : ℕ → Order → List ℕ → ℕ → List ℕ → Type 0
ReadsOn start order sent cons got = (cons ≡ index_at start (length got)) × IsPrefixOf got sent × (length sent ≤ length got + size order)

side_then : Orders → List ℕ → Side → Side
side_then orders words s = side_after s (value_taken orders words (op_next s))

acts_between : (role : Role) (start : ℕ) (said : ℕ × ℕ) (orders : Orders) (words : List ℕ) (mine theirs : Side) → CallLawful mine → GoesOn (plan_left mine) → 14 ≤ length words → mine.role ≡ role → mine.orders ≡ orders →
    Between role start said orders words mine theirs → word_at orders words (prod_word (read_ring role)) ≡ index_at start (length theirs.sent) →
    ReadsOn start (order_of orders (read_ring role)) theirs.sent (side_then orders words mine).cons (side_then orders words mine).got →
    Between role start said orders (words_after orders words mine.payload (op_next mine)) (side_then orders words mine) theirs
unfolding side_then ReadsOn
acts_between role start said orders words mine theirs lawful more long role_is orders_are b look reads =
    let op = op_next mine in
    let value = value_taken orders words op in
    let plan = after (plan_left mine) value in
    let then_made = made mine op value in
    let final = index_at start (length theirs.sent) in
    let c = in_lawful_call mine lawful more in
    let b' : Between mine.role start said orders words mine theirs = subst (λ (r : Role). Between r start said orders words mine theirs) (sym role_is) b in
    let look' : word_at orders words (prod_word (read_ring mine.role)) ≡ final = subst (λ (r : Role). word_at orders words (prod_word (read_ring r)) ≡ final) (sym role_is) look in
    let on = settled_for (λ cons got. (cons ≡ index_at start (length got)) × IsPrefixOf got theirs.sent × (length theirs.sent ≤ length got + size (order_of orders (read_ring role)))) then_made plan reads in
    let one : Between role start said orders (words_after orders words mine.payload op) then_made theirs =
    subst (λ (r : Role). Between r start said orders (words_after orders words mine.payload op) then_made theirs) role_is (made_between start said orders words mine theirs c more long b' look' on.1) in
    let w : Lives said final mine.role mine.orders then_made.state then_made.cons (has_seen then_made.role then_made.trail) plan = lives_after start said orders words mine theirs c more long b' look' in
    let v : Lives said final role orders then_made.state then_made.cons (has_seen then_made.role then_made.trail) plan =
    subst (λ (r : Role). Lives said final r orders then_made.state then_made.cons (has_seen then_made.role then_made.trail) plan) role_is
    (subst (λ (o : Orders). Lives said final mine.role o then_made.state then_made.cons (has_seen then_made.role then_made.trail) plan) orders_are w) in
    settled_between role start said orders (words_after orders words mine.payload op) then_made theirs role_is one on.0 on.1 on.2 then_made.state plan v

settled_state : (s : Side) (plan : Plan) → (settled s plan).state ≡ s.state
settled_state s (answers answer) = refl
settled_state s (does op next) = refl

pub long_words : (core : Core) → Lawful core → 14 ≤ length core.words
long_words core h = omega (arith, h.sized)

-- each event of an honest end keeps the laws on lives
pub life_event : (core : Core) (who : Role) → Lawful core → LifeLawful core → GoesOn (plan_left (side_of core who)) → RingLawful (event core who) Left → RingLawful (event core who) Right → LifeLawful (event core who)
unfolding event side_then ReadsOn
life_event core Server h lives more left right =
    by_server (event core Server)
    (acts_between Server core.start core.said core.orders core.words core.server core.client h.server_call more (long_words core h) h.server_end.role_is h.server_end.orders_are (as_server core lives) h.left.lawful.prod
    (left.lawful.own_cons, left.lawful.prefix, left.lawful.fits))
    (λ fresh. lives.server_opened (fresh_before (op_next core.server) core.server.role core.server.state (sym (settled_state (made core.server (op_next core.server) (taken_next core Server)) (plan_next core Server)) ∙ fresh)))
life_event core Client h lives more left right =
    by_client (event core Client)
    (acts_between Client core.start core.said core.orders core.words core.client core.server h.client_call more (long_words core h) h.client_end.role_is h.client_end.orders_are (as_client core lives) h.right.lawful.prod
    (right.lawful.own_cons, right.lawful.prefix, right.lawful.fits))
    lives.server_opened
