-- What each row of the table of calls has loaded and moved when it answers.
use Rattle.std.proofs.Common.{◌≡◌, ◌≢◌, ℕ, suc, zero, ◌+◌, ◌%◌, ◌^◌, ◌==◌, Bool, true, false, not, ◌||◌, ◌&&◌, cond, Some, List, [], ◌∷◌, ◌++◌, length, refl, subst, sym, ap, ◌∙◌, arith, zero-add, append-nil, append_assoc, length-append}
use Rattle.std.proofs.lemmas.Bool.{eqb-true, eqb-false}
use Rattle.std.proofs.Math.Bool.{or-false, and-false}
use Rattle.ring_words.specs.declared.page.Role.{Role}
use Rattle.ring_words.specs.declared.page.Role.TheVariants.{Server, Client}
use Rattle.ring_words.specs.declared.page.WordName.{WordName}
use Rattle.ring_words.specs.declared.page.WordName.TheVariants.{LeftOrder, RightOrder}
use Rattle.vchan_protocol.specs.declared.op.Op.{Op}
use Rattle.vchan_protocol.specs.declared.op.Op.TheVariants.{Load, LoadByte, Store, StoreByte, Or, And, Swap, Nothing}
use Rattle.vchan_protocol.specs.declared.op.PastEvent.{PastEvent}
use Rattle.vchan_protocol.specs.declared.call.Answer.{Answer}
use Rattle.vchan_protocol.specs.declared.call.Bit.{Bit}
use Rattle.vchan_protocol.specs.declared.call.Bit.TheVariants.{Written, Consumed}
use Rattle.vchan_protocol.specs.Table.Plan.{Plan, does, answers, Leads}
use Rattle.vchan_protocol.specs.Table.Ends.{Standing, standing_after, written_ring, read_ring, prod_word, cons_word, ask_word, notify_word, peer_live, own_live, own_pending, own_gone, peer_gone, peer_pending, low8, low16, low32}
use Rattle.vchan_protocol.specs.Table.Calls.{put_bytes, take_bytes, put, take, notify, signal, ask, look_read, look_write}
use Rattle.vchan_protocol.specs.History.Core.{count_stored, bytes_loaded, stored_by, loaded_by, is_shut}
use Rattle.vchan_protocol.specs.Answering.Loads.{Loads, looked, word_loaded, loads_after, loads_along}
use Rattle.vchan_protocol.specs.Answering.AnswerLaw.{ring_write, ring_writes, written_to}
use Rattle.vchan_protocol.specs.OneEnd.EndingLaw.{notices, has_noticed}
use Rattle.vchan_protocol.proofs.Honest.LifeTrails.{or_assoc, live_shows, gone_shows}

-- ---- what the events of a call did so far

-- what they loaded, how many bytes they stored and loaded, what else they wrote to a ring, and whether they showed the peer's end
pub record Deeds : Type 0 where
  pub loads : Loads
  pub stored : ℕ
  pub loaded : ℕ
  pub others : List Op
  pub noticed : Bool

-- after one more event of an end in this standing
abbrev pub deeds_after : Standing → Deeds → Op → ℕ → Deeds
deeds_after now n (Load word) taken = record n { loads = word_loaded word now.role now.prod now.cons taken n.loads; noticed = n.noticed || notices now (Load word) taken }
deeds_after now n (LoadByte word at) taken = record n { loaded = n.loaded + 1 }
deeds_after now n (StoreByte word at) taken = record n { stored = n.stored + 1 }
deeds_after now n (Store word value) taken = record n { others = n.others ++ written_to word (Store word value) }
deeds_after now n (Or word bits) taken = record n { others = n.others ++ written_to word (Or word bits) }
deeds_after now n (And word bits) taken = record n { others = n.others ++ written_to word (And word bits) }
deeds_after now n (Swap word value) taken = record n { loads = record n.loads { pending = Some taken }; others = n.others ++ written_to word (Swap word value) }
deeds_after now n Nothing taken = n

abbrev pub deeds_along : Standing → Deeds → List PastEvent → Deeds
deeds_along now n [] = n
deeds_along now n (event ∷ events) = deeds_along (standing_after now event.op) (deeds_after now n event.op event.taken) events

-- whatever the values are, the plan's answer fits what was done
unfoldable pub Comes : (Deeds → Answer → Type 0) → Standing → Deeds → Plan → Type 0
Comes Fit now n (answers answer) = Fit n answer
Comes Fit now n (does op next) = (value : ℕ) → Comes Fit (standing_after now op) (deeds_after now n op value) (next value)

-- along a whole trail
pub Comes_Leads : (Fit : Deeds → Answer → Type 0) (now : Standing) (n : Deeds) (plan : Plan) (events : List PastEvent) (answer : Answer) → Comes Fit now n plan → Leads plan events (answers answer) →
    Fit (deeds_along now n events) answer
unfolding Comes
Comes_Leads Fit now n (answers given) [] answer c led = subst (λ (a : Answer). Fit n a) (same given answer led) c
  where
    same : (given answer : Answer) → answers given ≡ answers answer → given ≡ answer
    same given answer led = cc
Comes_Leads Fit now n (does op next) [] answer c led = absurd (apart op next answer led)
  where
    apart : (op : Op) (next : ℕ → Plan) (answer : Answer) → does op next ≡ answers answer → ⊥
    apart op next answer led = cc
Comes_Leads Fit now n (answers given) (event ∷ events) answer c led = absurd led
Comes_Leads Fit now n (does op next) (event ∷ events) answer c led =
    Comes_Leads Fit (standing_after now event.op) (deeds_after now n event.op event.taken) (next event.taken) events answer
    (subst (λ (o : Op). Comes Fit (standing_after now o) (deeds_after now n o event.taken) (next event.taken)) (sym led.0) (c event.taken)) led.1

-- ---- the same by the folds of the laws

loads_after_lem : (now : Standing) (n : Deeds) (op : Op) (taken : ℕ) → (deeds_after now n op taken).loads ≡ loads_after now op taken n.loads
loads_after_lem now n (Load word) taken = refl
loads_after_lem now n (LoadByte word at) taken = refl
loads_after_lem now n (StoreByte word at) taken = refl
loads_after_lem now n (Store word value) taken = refl
loads_after_lem now n (Or word bits) taken = refl
loads_after_lem now n (And word bits) taken = refl
loads_after_lem now n (Swap word value) taken = refl
loads_after_lem now n Nothing taken = refl

pub loads_deeds : (now : Standing) (n : Deeds) (events : List PastEvent) → (deeds_along now n events).loads ≡ loads_along now n.loads events
loads_deeds now n [] = refl
loads_deeds now n (event ∷ events) =
    loads_deeds (standing_after now event.op) (deeds_after now n event.op event.taken) events
    ∙ ap (λ (l : Loads). loads_along (standing_after now event.op) l events) (loads_after_lem now n event.op event.taken)

stored_after : (now : Standing) (n : Deeds) (op : Op) (taken : ℕ) → (deeds_after now n op taken).stored ≡ n.stored + stored_by op
stored_after now n (Load word) taken = omega arith
stored_after now n (LoadByte word at) taken = omega arith
stored_after now n (StoreByte word at) taken = refl
stored_after now n (Store word value) taken = omega arith
stored_after now n (Or word bits) taken = omega arith
stored_after now n (And word bits) taken = omega arith
stored_after now n (Swap word value) taken = omega arith
stored_after now n Nothing taken = omega arith

pub stored_deeds : (now : Standing) (n : Deeds) (events : List PastEvent) → (deeds_along now n events).stored ≡ n.stored + count_stored events
stored_deeds now n [] = omega arith
stored_deeds now n (event ∷ events) =
    let on = stored_deeds (standing_after now event.op) (deeds_after now n event.op event.taken) events in
    let one = stored_after now n event.op event.taken in
    omega (arith, on, one)

loaded_after : (now : Standing) (n : Deeds) (op : Op) (taken : ℕ) → (deeds_after now n op taken).loaded ≡ n.loaded + length (loaded_by op taken)
loaded_after now n (Load word) taken = omega arith
loaded_after now n (LoadByte word at) taken = refl
loaded_after now n (StoreByte word at) taken = omega arith
loaded_after now n (Store word value) taken = omega arith
loaded_after now n (Or word bits) taken = omega arith
loaded_after now n (And word bits) taken = omega arith
loaded_after now n (Swap word value) taken = omega arith
loaded_after now n Nothing taken = omega arith

pub loaded_deeds : (now : Standing) (n : Deeds) (events : List PastEvent) → (deeds_along now n events).loaded ≡ n.loaded + length (bytes_loaded events)
loaded_deeds now n [] = omega arith
loaded_deeds now n (event ∷ events) =
    let on = loaded_deeds (standing_after now event.op) (deeds_after now n event.op event.taken) events in
    let one = loaded_after now n event.op event.taken in
    let both = length-append (loaded_by event.op event.taken) (bytes_loaded events) in
    omega (arith, on, one, both)

others_after : (now : Standing) (n : Deeds) (op : Op) (taken : ℕ) → (deeds_after now n op taken).others ≡ n.others ++ ring_write op
others_after now n (Load word) taken = sym (append-nil n.others)
others_after now n (LoadByte word at) taken = sym (append-nil n.others)
others_after now n (StoreByte word at) taken = sym (append-nil n.others)
others_after now n (Store word value) taken = refl
others_after now n (Or word bits) taken = refl
others_after now n (And word bits) taken = refl
others_after now n (Swap word value) taken = refl
others_after now n Nothing taken = sym (append-nil n.others)

pub others_deeds : (now : Standing) (n : Deeds) (events : List PastEvent) → (deeds_along now n events).others ≡ n.others ++ ring_writes events
others_deeds now n [] = sym (append-nil n.others)
others_deeds now n (event ∷ events) =
    others_deeds (standing_after now event.op) (deeds_after now n event.op event.taken) events
    ∙ ap (λ (ops : List Op). ops ++ ring_writes events) (others_after now n event.op event.taken) ∙ append_assoc n.others (ring_write event.op) (ring_writes events)

-- an event that shows nothing adds nothing
pub unnoticed : (a b : Bool) → a ≡ (a || (b && false))
unnoticed a b = sym (ap (λ (c : Bool). a || c) (and-false b) ∙ or-false a)

noticed_after : (now : Standing) (n : Deeds) (op : Op) (taken : ℕ) → (deeds_after now n op taken).noticed ≡ (n.noticed || notices now op taken)
noticed_after now n (Load word) taken = refl
noticed_after now n (LoadByte word at) taken = unnoticed n.noticed (not (is_shut now.state))
noticed_after now n (StoreByte word at) taken = unnoticed n.noticed (not (is_shut now.state))
noticed_after now n (Store word value) taken = unnoticed n.noticed (not (is_shut now.state))
noticed_after now n (Or word bits) taken = unnoticed n.noticed (not (is_shut now.state))
noticed_after now n (And word bits) taken = unnoticed n.noticed (not (is_shut now.state))
noticed_after now n (Swap word value) taken = unnoticed n.noticed (not (is_shut now.state))
noticed_after now n Nothing taken = unnoticed n.noticed (not (is_shut now.state))

pub noticed_deeds : (now : Standing) (n : Deeds) (events : List PastEvent) → (deeds_along now n events).noticed ≡ (n.noticed || has_noticed now events)
noticed_deeds now n [] = sym (or-false n.noticed)
noticed_deeds now n (event ∷ events) =
    noticed_deeds (standing_after now event.op) (deeds_after now n event.op event.taken) events
    ∙ ap (λ (b : Bool). b || has_noticed (standing_after now event.op) events) (noticed_after now n event.op event.taken)
    ∙ or_assoc n.noticed (notices now event.op event.taken) (has_noticed (standing_after now event.op) events)

-- ---- words by role

look_read_loaded : (role : Role) (prod cons taken : ℕ) (l : Loads) → word_loaded (prod_word (read_ring role)) role prod cons taken l ≡ looked (record { prod = low32 taken; cons = cons }) l
look_read_loaded Server prod cons taken l = refl
look_read_loaded Client prod cons taken l = refl

look_write_loaded : (role : Role) (prod cons taken : ℕ) (l : Loads) → word_loaded (cons_word (written_ring role)) role prod cons taken l ≡ looked (record { prod = prod; cons = low32 taken }) l
look_write_loaded Server prod cons taken l = refl
look_write_loaded Client prod cons taken l = refl

live_loaded : (role : Role) (prod cons taken : ℕ) (l : Loads) → word_loaded (peer_live role) role prod cons taken l ≡ record l { live = Some (low8 taken) }
live_loaded Server prod cons taken l = refl
live_loaded Client prod cons taken l = refl

gone_loaded : (role : Role) (prod cons taken : ℕ) (l : Loads) → word_loaded (peer_gone role) role prod cons taken l ≡ record l { gone = Some taken }
gone_loaded Server prod cons taken l = refl
gone_loaded Client prod cons taken l = refl

ask_written : (role : Role) (op : Op) → written_to (ask_word role) op ≡ []
ask_written Server op = refl
ask_written Client op = refl

notify_written : (role : Role) (op : Op) → written_to (notify_word role) op ≡ []
notify_written Server op = refl
notify_written Client op = refl

pending_written : (role : Role) (op : Op) → written_to (peer_pending role) op ≡ []
pending_written Server op = refl
pending_written Client op = refl

own_pending_written : (role : Role) (op : Op) → written_to (own_pending role) op ≡ []
own_pending_written Server op = refl
own_pending_written Client op = refl

pub own_live_written : (role : Role) (op : Op) → written_to (own_live role) op ≡ []
own_live_written Server op = refl
own_live_written Client op = refl

pub own_gone_written : (role : Role) (op : Op) → written_to (own_gone role) op ≡ []
own_gone_written Server op = refl
own_gone_written Client op = refl

prod_written : (role : Role) (op : Op) → written_to (prod_word (written_ring role)) op ≡ op ∷ []
prod_written Server op = refl
prod_written Client op = refl

cons_written : (role : Role) (op : Op) → written_to (cons_word (read_ring role)) op ≡ op ∷ []
cons_written Server op = refl
cons_written Client op = refl

-- ---- the pieces

module _ (Fit : Deeds → Answer → Type 0) (e : Standing) where
  pub comes_answers : (now : Standing) (n : Deeds) (answer : Answer) → Fit n answer → Comes Fit now n (answers answer)
  unfolding Comes
  comes_answers now n answer fit = fit

  pub comes_if : (now : Standing) (n : Deeds) (b : Bool) (p q : Plan) → (b ≡ true → Comes Fit now n p) → (b ≡ false → Comes Fit now n q) → Comes Fit now n (cond b p q)
  comes_if now n true p q first second = first refl
  comes_if now n false p q first second = second refl

  -- the end stands as it began, until it stores
  comes_load : (n : Deeds) (word : WordName) (next : ℕ → Plan) →
      ((taken : ℕ) → Comes Fit e (record n { loads = word_loaded word e.role e.prod e.cons taken n.loads; noticed = n.noticed || notices e (Load word) taken }) (next taken)) → Comes Fit e n (does (Load word) next)
  unfolding Comes standing_after
  comes_load n word next c = c

  pub comes_look_read : (n : Deeds) (next : ℕ → Plan) →
      ((index : ℕ) (seen : Bool) → Comes Fit e (record n { loads = looked (record { prod = index; cons = e.cons }) n.loads; noticed = n.noticed || seen }) (next index)) → Comes Fit e n (look_read e next)
  comes_look_read n next c = comes_load n _ _ (λ taken.
      subst (λ (l : Loads). Comes Fit e (record n { loads = l; noticed = n.noticed || notices e (Load (prod_word (read_ring e.role))) taken }) (next (low32 taken)))
      (sym (look_read_loaded e.role e.prod e.cons taken n.loads)) (c (low32 taken) _))

  pub comes_look_write : (n : Deeds) (next : ℕ → Plan) →
      ((index : ℕ) (seen : Bool) → Comes Fit e (record n { loads = looked (record { prod = e.prod; cons = index }) n.loads; noticed = n.noticed || seen }) (next index)) → Comes Fit e n (look_write e next)
  comes_look_write n next c = comes_load n _ _ (λ taken.
      subst (λ (l : Loads). Comes Fit e (record n { loads = l; noticed = n.noticed || notices e (Load (cons_word (written_ring e.role))) taken }) (next (low32 taken)))
      (sym (look_write_loaded e.role e.prod e.cons taken n.loads)) (c (low32 taken) _))

  -- the peer's live byte is loaded, with two ways on
  pub comes_live : (n : Deeds) (first second : Plan) →
      ((seen : Bool) → (is_shut e.state ≡ false → seen ≡ true) → Comes Fit e (record n { loads = record n.loads { live = Some 0 }; noticed = n.noticed || seen }) first) →
      ((live : ℕ) (seen : Bool) → live ≢ 0 → Comes Fit e (record n { loads = record n.loads { live = Some live }; noticed = n.noticed || seen }) second) →
      Comes Fit e n (does (Load (peer_live e.role)) (λ live. cond (low8 live == 0) first second))
  comes_live n first second shut alive = comes_load n _ _ (λ taken.
      subst (λ (l : Loads). Comes Fit e (record n { loads = l; noticed = n.noticed || notices e (Load (peer_live e.role)) taken }) (cond (low8 taken == 0) first second))
      (sym (live_loaded e.role e.prod e.cons taken n.loads)) (go taken (low8 taken == 0) refl))
    where
      go : (taken : ℕ) (zero : Bool) → (low8 taken == 0) ≡ zero → Comes Fit e (record n { loads = record n.loads { live = Some (low8 taken) }; noticed = n.noticed || notices e (Load (peer_live e.role)) taken }) (cond zero first second)
      go taken true is =
          subst (λ (live : ℕ). Comes Fit e (record n { loads = record n.loads { live = Some live }; noticed = n.noticed || notices e (Load (peer_live e.role)) taken }) first) (sym (eqb-true (low8 taken) 0 is))
          (shut _ (λ unshut. ap (λ (b : Bool). not (is_shut e.state) && b) (live_shows e.role taken ∙ is) ∙ ap (λ (b : Bool). not b && true) unshut))
      go taken false is = alive (low8 taken) _ (eqb-false (low8 taken) 0 is)

  -- its gone word is loaded, with two ways on
  pub comes_gone : (n : Deeds) (first second : Plan) →
      ((seen : Bool) → Comes Fit e (record n { loads = record n.loads { gone = Some 0 }; noticed = n.noticed || seen }) first) →
      ((gone : ℕ) (seen : Bool) → gone ≢ 0 → (is_shut e.state ≡ false → seen ≡ true) → Comes Fit e (record n { loads = record n.loads { gone = Some gone }; noticed = n.noticed || seen }) second) →
      Comes Fit e n (does (Load (peer_gone e.role)) (λ gone. cond (gone == 0) first second))
  comes_gone n first second here gone = comes_load n _ _ (λ taken.
      subst (λ (l : Loads). Comes Fit e (record n { loads = l; noticed = n.noticed || notices e (Load (peer_gone e.role)) taken }) (cond (taken == 0) first second))
      (sym (gone_loaded e.role e.prod e.cons taken n.loads)) (go taken (taken == 0) refl))
    where
      go : (taken : ℕ) (zero : Bool) → (taken == 0) ≡ zero → Comes Fit e (record n { loads = record n.loads { gone = Some taken }; noticed = n.noticed || notices e (Load (peer_gone e.role)) taken }) (cond zero first second)
      go taken true is =
          subst (λ (word : ℕ). Comes Fit e (record n { loads = record n.loads { gone = Some word }; noticed = n.noticed || notices e (Load (peer_gone e.role)) taken }) first) (sym (eqb-true taken 0 is)) (here _)
      go taken false is =
          gone taken _ (eqb-false taken 0 is)
          (λ unshut. ap (λ (b : Bool). not (is_shut e.state) && b) (gone_shows e.role taken ∙ ap not is) ∙ ap (λ (b : Bool). not b && true) unshut)

  pub comes_gone_told : (n : Deeds) (next : ℕ → Plan) → ((taken : ℕ) (seen : Bool) → (not (taken == 0) ≡ true → is_shut e.state ≡ false → seen ≡ true) → Comes Fit e (record n { loads = record n.loads { gone = Some taken }; noticed = n.noticed || seen }) (next taken)) →
      Comes Fit e n (does (Load (peer_gone e.role)) next)
  comes_gone_told n next c = comes_load n _ _ (λ taken.
      subst (λ (l : Loads). Comes Fit e (record n { loads = l; noticed = n.noticed || notices e (Load (peer_gone e.role)) taken }) (next taken))
      (sym (gone_loaded e.role e.prod e.cons taken n.loads))
      (c taken _ (λ is unshut. ap (λ (b : Bool). not (is_shut e.state) && b) (gone_shows e.role taken ∙ is) ∙ ap (λ (b : Bool). not b && true) unshut)))

  -- an order word is loaded
  pub comes_left_order : (n : Deeds) (next : ℕ → Plan) → ((taken : ℕ) (seen : Bool) → Comes Fit e (record n { loads = record n.loads { left_order = Some (low16 taken) }; noticed = n.noticed || seen }) (next taken)) →
      Comes Fit e n (does (Load LeftOrder) next)
  comes_left_order n next c = comes_load n _ _ (λ taken. c taken _)

  pub comes_right_order : (n : Deeds) (next : ℕ → Plan) → ((taken : ℕ) (seen : Bool) → Comes Fit e (record n { loads = record n.loads { right_order = Some (low16 taken) }; noticed = n.noticed || seen }) (next taken)) →
      Comes Fit e n (does (Load RightOrder) next)
  comes_right_order n next c = comes_load n _ _ (λ taken. c taken _)

  -- an event on a word that is no word of a ring
  unwritten : (now : Standing) (n : Deeds) (next : Plan) (ops : List Op) → ops ≡ [] → Comes Fit now n next → Comes Fit now (record n { others = n.others ++ ops }) next
  unwritten now n next ops none c =
      subst (λ (others : List Op). Comes Fit now (record n { others = others }) next) (sym (ap (λ (xs : List Op). n.others ++ xs) none ∙ append-nil n.others)) c

  pub comes_ask : (n : Deeds) (bit : Bit) (next : Plan) → Comes Fit e n next → Comes Fit e n (ask e bit next)
  unfolding Comes standing_after
  comes_ask n bit next c = λ taken. unwritten e n next _ (ask_written e.role _) c

  pub comes_store : (now : Standing) (n : Deeds) (word : WordName) (value : ℕ) (next : ℕ → Plan) → written_to word (Store word value) ≡ [] → ((then_now : Standing) (taken : ℕ) → Comes Fit then_now n (next taken)) →
      Comes Fit now n (does (Store word value) next)
  unfolding Comes
  comes_store now n word value next none c = λ taken. unwritten _ n (next taken) _ none (c _ taken)

  pub comes_signal : (now : Standing) (n : Deeds) (next : Plan) → ((then_now : Standing) → Comes Fit then_now n next) → Comes Fit now n (signal e next)
  comes_signal now n next c = comes_store now n _ _ _ (pending_written e.role _) (λ then_now taken. c then_now)

  pub comes_swap : (n : Deeds) (next : ℕ → Plan) → ((taken : ℕ) → Comes Fit e (record n { loads = record n.loads { pending = Some taken } }) (next taken)) → Comes Fit e n (does (Swap (own_pending e.role) 0) next)
  unfolding Comes standing_after
  comes_swap n next c = λ taken. unwritten e (record n { loads = record n.loads { pending = Some taken } }) (next taken) _ (own_pending_written e.role _) (c taken)

  comes_and : (now : Standing) (n : Deeds) (word : WordName) (bits : ℕ) (next : ℕ → Plan) → written_to word (And word bits) ≡ [] → ((then_now : Standing) (old : ℕ) → Comes Fit then_now n (next old)) → Comes Fit now n (does (And word bits) next)
  unfolding Comes
  comes_and now n word bits next none c = λ old. unwritten _ n (next old) _ none (c _ old)

  comes_notify : (now : Standing) (n : Deeds) (bit : Bit) (answer : Answer) → Fit n answer → Comes Fit now n (notify e bit (answers answer))
  comes_notify now n bit answer fit =
      comes_and now n _ _ _ (notify_written e.role _) (λ then_now old. comes_if then_now n _ _ _ (λ unasked. comes_answers then_now n answer fit)
      (λ asked. comes_signal then_now n (answers answer) (λ last. comes_answers last n answer fit)))

  comes_put_bytes : (k i : ℕ) (n : Deeds) (next : Plan) → n.stored ≡ i → ((stored : ℕ) → stored ≡ i + k → Comes Fit e (record n { stored = stored }) next) → Comes Fit e n (put_bytes e i k next)
  unfolding Comes standing_after
  comes_put_bytes zero i n next is c = c n.stored (omega (arith, is))
  comes_put_bytes (suc k) i n next is c =
      λ taken. comes_put_bytes k (i + 1) (record n { stored = n.stored + 1 }) next (ap (λ (j : ℕ). j + 1) is) (λ stored all. c stored (omega (arith, all)))

  comes_take_bytes : (k i : ℕ) (n : Deeds) (next : Plan) → n.loaded ≡ i → ((loaded : ℕ) → loaded ≡ i + k → Comes Fit e (record n { loaded = loaded }) next) → Comes Fit e n (take_bytes e i k next)
  unfolding Comes standing_after
  comes_take_bytes zero i n next is c = c n.loaded (omega (arith, is))
  comes_take_bytes (suc k) i n next is c =
      λ taken. comes_take_bytes k (i + 1) (record n { loaded = n.loaded + 1 }) next (ap (λ (j : ℕ). j + 1) is) (λ loaded all. c loaded (omega (arith, all)))

  -- an own index is stored
  comes_index : (now : Standing) (n : Deeds) (word : WordName) (value : ℕ) (bit : Bit) (answer : Answer) → written_to word (Store word value) ≡ Store word value ∷ [] →
      Fit (record n { others = n.others ++ Store word value ∷ [] }) answer → Comes Fit now n (does (Store word value) (λ _. notify e bit (answers answer)))
  unfolding Comes
  comes_index now n word value bit answer is fit =
      λ taken. subst (λ (ops : List Op). Comes Fit (standing_after now (Store word value)) (record n { others = n.others ++ ops }) (notify e bit (answers answer))) (sym is)
      (comes_notify _ (record n { others = n.others ++ Store word value ∷ [] }) bit answer fit)

  pub comes_put : (k : ℕ) (n : Deeds) (answer : Answer) → n.stored ≡ 0 → n.others ≡ [] →
      Fit (record n { stored = k; others = Store (prod_word (written_ring e.role)) ((e.prod + k) % 2 ^ 32) ∷ [] }) answer → Comes Fit e n (put e k (answers answer))
  comes_put k n answer none unwritten fit =
      comes_put_bytes k 0 n _ none (λ stored is. comes_index e (record n { stored = stored }) _ _ Written answer (prod_written e.role _)
      (subst (λ (xs : List Op). Fit (record n { stored = stored; others = xs ++ Store (prod_word (written_ring e.role)) ((e.prod + k) % 2 ^ 32) ∷ [] }) answer) (sym unwritten)
      (subst (λ (j : ℕ). Fit (record n { stored = j; others = Store (prod_word (written_ring e.role)) ((e.prod + k) % 2 ^ 32) ∷ [] }) answer) (sym (is ∙ zero-add k)) fit)))

  pub comes_take : (k : ℕ) (n : Deeds) (answer : Answer) → n.loaded ≡ 0 → n.others ≡ [] →
      Fit (record n { loaded = k; others = Store (cons_word (read_ring e.role)) ((e.cons + k) % 2 ^ 32) ∷ [] }) answer → Comes Fit e n (take e k (answers answer))
  comes_take k n answer none unwritten fit =
      comes_take_bytes k 0 n _ none (λ loaded is. comes_index e (record n { loaded = loaded }) _ _ Consumed answer (cons_written e.role _)
      (subst (λ (xs : List Op). Fit (record n { loaded = loaded; others = xs ++ Store (cons_word (read_ring e.role)) ((e.cons + k) % 2 ^ 32) ∷ [] }) answer) (sym unwritten)
      (subst (λ (j : ℕ). Fit (record n { loaded = j; others = Store (cons_word (read_ring e.role)) ((e.cons + k) % 2 ^ 32) ∷ [] }) answer) (sym (is ∙ zero-add k)) fit)))
