-- What an event of an honest end leaves in the live bytes, the gone words and the order words.
use Rattle.std.proofs.Common.{◌≡◌, ◌≢◌, ℕ, suc, zero, ◌<◌, ◌≤◌, ◌==◌, ◌||◌, Bool, true, false, not, cond, List, length, slice_index, slice_set, get_or-set_same, get_or-set_other, refl, subst, ap, ◌∙◌, arith}
use Rattle.std.proofs.lemmas.List.{set-get_or}
use Rattle.std.proofs.lemmas.Bool.{false≢true}
use Rattle.ring_words.specs.Page.{index_of}
use Rattle.ring_words.specs.declared.order.Orders.{Orders}
use Rattle.ring_words.specs.declared.page.Ring.TheVariants.{Left, Right}
use Rattle.ring_words.specs.declared.page.Role.{Role}
use Rattle.ring_words.specs.declared.page.Role.TheVariants.{Server, Client}
use Rattle.ring_words.specs.declared.page.WordName.{WordName}
use Rattle.ring_words.specs.declared.page.WordName.TheVariants.{LeftCons, LeftProd, RightCons, RightProd, LeftOrder, RightOrder, CliLive, SrvLive, CliNotify, SrvNotify, SrvPending, CliPending, SrvGone, CliGone, RingByte}
use Rattle.vchan_protocol.specs.declared.op.Op.{Op}
use Rattle.vchan_protocol.specs.declared.op.Op.TheVariants.{Load, LoadByte, Store, StoreByte, Or, And, Swap, Nothing}
use Rattle.vchan_protocol.specs.declared.call.EndState.{EndState}
use Rattle.vchan_protocol.specs.declared.call.EndState.TheVariants.{Fresh, Open, Shut}
use Rattle.vchan_protocol.specs.Table.Ends.{state_after, live_stored, own_live, own_gone, peer_live, peer_gone, low8}
use Rattle.vchan_protocol.specs.Table.Apply.{words_after, value_taken}
use Rattle.vchan_protocol.specs.History.Page.{live_word}
use Rattle.vchan_protocol.specs.History.Core.{sees_end, sets_gone, sets_gone_word}
use Rattle.vchan_protocol.specs.Honest.LifeLaw.{TellsGone, OrderGives, SaidGives, shows_end}
use Rattle.vchan_protocol.proofs.Honest.LifeTrails.{OwesLife, OwesStore, IsFlag, IsRingByte}
use Rattle.vchan_protocol.specs.History.Peer.{peer}

-- ---- which words an event is on

-- a word that an event of an end in this role leaves alone, by its number: none of the indices, flags, ring bytes, nor its own live byte and gone word
pub record IsSpared (orders : Orders) (role : Role) (n : ℕ) : Type 0 where
  pub above : 4 ≤ n
  pub below : n < 14
  pub flag : 8 ≤ n → n ≤ 11 → ⊥
  pub live : n ≢ index_of orders (own_live role)
  pub gone : n ≢ index_of orders (own_gone role)

flag_number : (orders : Orders) (word : WordName) → IsFlag word → (8 ≤ index_of orders word) × (index_of orders word ≤ 11)
flag_number orders CliNotify flag = (omega arith, omega arith)
flag_number orders SrvNotify flag = (omega arith, omega arith)
flag_number orders SrvPending flag = (omega arith, omega arith)
flag_number orders CliPending flag = (omega arith, omega arith)
flag_number orders _ flag = absurd flag

byte_number : (orders : Orders) (word : WordName) → IsRingByte word → 14 ≤ index_of orders word
byte_number orders (RingByte Left at) byte = omega arith
byte_number orders (RingByte Right at) byte = omega arith
byte_number orders _ byte = absurd byte

store_apart : (orders : Orders) (word : WordName) (role : Role) (state : EndState) (value n : ℕ) → IsSpared orders role n → OwesStore word role state value → n ≢ index_of orders word
store_apart orders LeftProd Client state value n spared owes is = omega (arith, is, spared.above)
store_apart orders RightProd Server state value n spared owes is = omega (arith, is, spared.above)
store_apart orders LeftCons Server state value n spared owes is = omega (arith, is, spared.above)
store_apart orders RightCons Client state value n spared owes is = omega (arith, is, spared.above)
store_apart orders CliLive Client state value n spared owes is = spared.live is
store_apart orders SrvLive Server state value n spared owes is = spared.live is
store_apart orders CliGone Client state value n spared owes is = spared.gone is
store_apart orders SrvGone Server state value n spared owes is = spared.gone is
store_apart orders CliPending Server state value n spared owes is = spared.flag (omega (arith, is)) (omega (arith, is))
store_apart orders SrvPending Client state value n spared owes is = spared.flag (omega (arith, is)) (omega (arith, is))
store_apart orders _ role state value n spared owes is = absurd owes

flag_apart : (orders : Orders) (word : WordName) (role : Role) (n : ℕ) → IsSpared orders role n → IsFlag word → n ≢ index_of orders word
flag_apart orders word role n spared flag is =
    let range = flag_number orders word flag in
    spared.flag (omega (arith, is, range.0)) (omega (arith, is, range.1))

-- a word that is spared stays as it is
pub spared_stays : (orders : Orders) (words payload : List ℕ) (op : Op) (role : Role) (state : EndState) (n : ℕ) → IsSpared orders role n → OwesLife op role state →
    slice_index (words_after orders words payload op) n ≡ slice_index words n
spared_stays orders words payload (Load word) role state n spared owes = ap (λ (w : List ℕ). slice_index w n) (set-get_or words (index_of orders word) 0)
spared_stays orders words payload (LoadByte word at) role state n spared owes = ap (λ (w : List ℕ). slice_index w n) (set-get_or words (index_of orders word) 0)
spared_stays orders words payload (Store word value) role state n spared owes = get_or-set_other words _ n _ 0 (store_apart orders word role state value n spared owes)
spared_stays orders words payload (StoreByte word at) role state n spared owes = get_or-set_other words _ n _ 0 (λ is. omega (arith, is, spared.below, byte_number orders word owes))
spared_stays orders words payload (Or word bits) role state n spared owes = get_or-set_other words _ n _ 0 (flag_apart orders word role n spared owes)
spared_stays orders words payload (And word bits) role state n spared owes = get_or-set_other words _ n _ 0 (flag_apart orders word role n spared owes)
spared_stays orders words payload (Swap word value) role state n spared owes = get_or-set_other words _ n _ 0 (flag_apart orders word role n spared owes)
spared_stays orders words payload Nothing role state n spared owes = absurd owes

pub left_order_spared : (orders : Orders) (role : Role) → IsSpared orders role (index_of orders LeftOrder)
left_order_spared orders Server = record { above = omega arith; below = omega arith; flag = λ a b. omega (arith, a); live = λ is. omega (arith, is); gone = λ is. omega (arith, is) }
left_order_spared orders Client = record { above = omega arith; below = omega arith; flag = λ a b. omega (arith, a); live = λ is. omega (arith, is); gone = λ is. omega (arith, is) }

pub right_order_spared : (orders : Orders) (role : Role) → IsSpared orders role (index_of orders RightOrder)
right_order_spared orders Server = record { above = omega arith; below = omega arith; flag = λ a b. omega (arith, a); live = λ is. omega (arith, is); gone = λ is. omega (arith, is) }
right_order_spared orders Client = record { above = omega arith; below = omega arith; flag = λ a b. omega (arith, a); live = λ is. omega (arith, is); gone = λ is. omega (arith, is) }

pub peer_live_spared : (orders : Orders) (role : Role) → IsSpared orders role (index_of orders (peer_live role))
peer_live_spared orders Server = record { above = omega arith; below = omega arith; flag = λ a b. omega (arith, a); live = λ is. omega (arith, is); gone = λ is. omega (arith, is) }
peer_live_spared orders Client = record { above = omega arith; below = omega arith; flag = λ a b. omega (arith, a); live = λ is. omega (arith, is); gone = λ is. omega (arith, is) }

pub peer_gone_spared : (orders : Orders) (role : Role) → IsSpared orders role (index_of orders (peer_gone role))
peer_gone_spared orders Server = record { above = omega arith; below = omega arith; flag = λ a b. omega (arith, b); live = λ is. omega (arith, is); gone = λ is. omega (arith, is) }
peer_gone_spared orders Client = record { above = omega arith; below = omega arith; flag = λ a b. omega (arith, b); live = λ is. omega (arith, is); gone = λ is. omega (arith, is) }

-- ---- the own live byte and gone word

-- a shut end stays shut
pub shut_stays : (op : Op) (role : Role) (state : EndState) → OwesLife op role state → state ≡ Shut → state_after op role state ≡ Shut
shut_stays (Store word value) role state owes shut = go word role value owes
  where
    go : (word : WordName) (role : Role) (value : ℕ) → OwesStore word role state value → live_stored word role value state ≡ Shut
    go CliLive Client zero owes = refl
    go CliLive Client (suc value) owes = absurd (owes.1 shut)
    go SrvLive Server value owes = refl
    go _ role value owes = shut
shut_stays _ role state owes shut = shut

-- an end that isn't fresh becomes so by no event
pub fresh_before : (op : Op) (role : Role) (state : EndState) → state_after op role state ≡ Fresh → state ≡ Fresh
fresh_before (Store word value) role state is = go word role value is
  where
    shut_fresh : Shut ≢ Fresh
    shut_fresh same = cc

    open_fresh : Open ≢ Fresh
    open_fresh same = cc

    go : (word : WordName) (role : Role) (value : ℕ) → live_stored word role value state ≡ Fresh → state ≡ Fresh
    go CliLive Client zero is = absurd (shut_fresh is)
    go CliLive Client (suc value) is = absurd (open_fresh is)
    go SrvLive Server value is = absurd (shut_fresh is)
    go _ role value is = is
fresh_before _ role state is = is

-- only a shut end sets its gone word
gone_of_shut : (op : Op) (role : Role) (state : EndState) → OwesLife op role state → sets_gone op role ≡ true → state ≡ Shut
gone_of_shut (Store word value) role state owes sets = go word role owes sets
  where
    go : (word : WordName) (role : Role) → OwesStore word role state value → sets_gone_word word role ≡ true → state ≡ Shut
    go CliGone Client owes sets = owes.1
    go SrvGone Server owes sets = owes.1
    go _ role owes sets = absurd (false≢true sets)
gone_of_shut _ role state owes sets = absurd (false≢true sets)

-- an end never sets the gone word of its peer
pub peer_unset : (op : Op) (role : Role) (state : EndState) → OwesLife op role state → sets_gone op (peer role) ≡ false
peer_unset (Store word value) role state owes = go word role owes
  where
    go : (word : WordName) (role : Role) → OwesStore word role state value → sets_gone_word word (peer role) ≡ false
    go SrvGone Client owes = absurd owes
    go CliGone Server owes = absurd owes
    go SrvGone Server owes = refl
    go CliGone Client owes = refl
    go _ role owes = refl
peer_unset _ role state owes = refl

module _ (orders : Orders) (words payload : List ℕ) (long : 14 ≤ length words) where
  stays : (n v m : ℕ) → n ≢ m → slice_index (slice_set words m v) n ≡ slice_index words n
  stays n v m apart = get_or-set_other words m n v 0 apart

  stored_is : (n v : ℕ) → n < 14 → slice_index (slice_set words n v) n ≡ v
  stored_is n v low = get_or-set_same words n v 0 (omega (arith, low, long))

  live_stored_tells : (word : WordName) (role : Role) (value : ℕ) (state : EndState) → OwesStore word role state value → slice_index words (index_of orders (own_live role)) ≡ live_word state →
      slice_index (slice_set words (index_of orders word) value) (index_of orders (own_live role)) ≡ live_word (live_stored word role value state)
  live_stored_tells CliLive Client zero state owes tells = stored_is 6 0 (omega arith)
  live_stored_tells CliLive Client (suc value) state owes tells = stored_is 6 (suc value) (omega arith) ∙ omega (arith, owes.0)
  live_stored_tells SrvLive Server value state owes tells = stored_is 7 value (omega arith) ∙ owes
  live_stored_tells LeftProd Client value state owes tells = stays 6 value 1 (λ is. omega (arith, is)) ∙ tells
  live_stored_tells RightProd Server value state owes tells = stays 7 value 3 (λ is. omega (arith, is)) ∙ tells
  live_stored_tells LeftCons Server value state owes tells = stays 7 value 0 (λ is. omega (arith, is)) ∙ tells
  live_stored_tells RightCons Client value state owes tells = stays 6 value 2 (λ is. omega (arith, is)) ∙ tells
  live_stored_tells CliGone Client value state owes tells = stays 6 value 13 (λ is. omega (arith, is)) ∙ tells
  live_stored_tells SrvGone Server value state owes tells = stays 7 value 12 (λ is. omega (arith, is)) ∙ tells
  live_stored_tells CliPending Server value state owes tells = stays 7 value 11 (λ is. omega (arith, is)) ∙ tells
  live_stored_tells SrvPending Client value state owes tells = stays 6 value 10 (λ is. omega (arith, is)) ∙ tells
  live_stored_tells _ role value state owes tells = absurd owes

  live_low : (role : Role) → (index_of orders (own_live role) < 8)
  live_low Server = omega arith
  live_low Client = omega arith

  -- the live byte tells the state after an event too
  pub live_tells : (op : Op) (role : Role) (state : EndState) → OwesLife op role state → slice_index words (index_of orders (own_live role)) ≡ live_word state →
      slice_index (words_after orders words payload op) (index_of orders (own_live role)) ≡ live_word (state_after op role state)
  live_tells (Load word) role state owes tells = ap (λ (w : List ℕ). slice_index w (index_of orders (own_live role))) (set-get_or words (index_of orders word) 0) ∙ tells
  live_tells (LoadByte word at) role state owes tells = ap (λ (w : List ℕ). slice_index w (index_of orders (own_live role))) (set-get_or words (index_of orders word) 0) ∙ tells
  live_tells (Store word value) role state owes tells = live_stored_tells word role value state owes tells
  live_tells (StoreByte word at) role state owes tells = stays _ _ _ (λ is. omega (arith, is, live_low role, byte_number orders word owes)) ∙ tells
  live_tells (Or word bits) role state owes tells = stays _ _ _ (λ is. omega (arith, is, live_low role, (flag_number orders word owes).0)) ∙ tells
  live_tells (And word bits) role state owes tells = stays _ _ _ (λ is. omega (arith, is, live_low role, (flag_number orders word owes).0)) ∙ tells
  live_tells (Swap word value) role state owes tells = stays _ _ _ (λ is. omega (arith, is, live_low role, (flag_number orders word owes).0)) ∙ tells
  live_tells Nothing role state owes tells = absurd owes

  gone_range : (role : Role) → (11 < index_of orders (own_gone role)) × (index_of orders (own_gone role) < 14)
  gone_range Server = (omega arith, omega arith)
  gone_range Client = (omega arith, omega arith)

  -- a gone word is 1 from the store to it on, and stays as it is in every other event of its end
  gone_stored : (word : WordName) (role : Role) (value : ℕ) (state : EndState) → OwesStore word role state value →
      slice_index (slice_set words (index_of orders word) value) (index_of orders (own_gone role)) ≡ cond (sets_gone_word word role) 1 (slice_index words (index_of orders (own_gone role)))
  gone_stored CliGone Client value state owes = stored_is 13 value (omega arith) ∙ owes.0
  gone_stored SrvGone Server value state owes = stored_is 12 value (omega arith) ∙ owes.0
  gone_stored CliLive Client value state owes = stays 13 value 6 (λ is. omega (arith, is))
  gone_stored SrvLive Server value state owes = stays 12 value 7 (λ is. omega (arith, is))
  gone_stored LeftProd Client value state owes = stays 13 value 1 (λ is. omega (arith, is))
  gone_stored RightProd Server value state owes = stays 12 value 3 (λ is. omega (arith, is))
  gone_stored LeftCons Server value state owes = stays 12 value 0 (λ is. omega (arith, is))
  gone_stored RightCons Client value state owes = stays 13 value 2 (λ is. omega (arith, is))
  gone_stored CliPending Server value state owes = stays 12 value 11 (λ is. omega (arith, is))
  gone_stored SrvPending Client value state owes = stays 13 value 10 (λ is. omega (arith, is))
  gone_stored _ role value state owes = absurd owes

  pub gone_is : (op : Op) (role : Role) (state : EndState) → OwesLife op role state →
      slice_index (words_after orders words payload op) (index_of orders (own_gone role)) ≡ cond (sets_gone op role) 1 (slice_index words (index_of orders (own_gone role)))
  gone_is (Load word) role state owes = ap (λ (w : List ℕ). slice_index w (index_of orders (own_gone role))) (set-get_or words (index_of orders word) 0)
  gone_is (LoadByte word at) role state owes = ap (λ (w : List ℕ). slice_index w (index_of orders (own_gone role))) (set-get_or words (index_of orders word) 0)
  gone_is (Store word value) role state owes = gone_stored word role value state owes
  gone_is (StoreByte word at) role state owes = stays _ _ _ (λ is. omega (arith, is, (gone_range role).1, byte_number orders word owes))
  gone_is (Or word bits) role state owes = stays _ _ _ (λ is. omega (arith, is, (gone_range role).0, (flag_number orders word owes).1))
  gone_is (And word bits) role state owes = stays _ _ _ (λ is. omega (arith, is, (gone_range role).0, (flag_number orders word owes).1))
  gone_is (Swap word value) role state owes = stays _ _ _ (λ is. omega (arith, is, (gone_range role).0, (flag_number orders word owes).1))
  gone_is Nothing role state owes = absurd owes

  -- so it tells of a retired end after an event too
  pub gone_tells : (op : Op) (role : Role) (retired : Bool) (state : EndState) → OwesLife op role state → TellsGone (slice_index words (index_of orders (own_gone role))) retired state →
      TellsGone (slice_index (words_after orders words payload op) (index_of orders (own_gone role))) (sets_gone op role || retired) (state_after op role state)
  gone_tells op role retired state owes tells = record {
    word = gone_is op role state owes ∙ ap (λ (n : ℕ). cond (sets_gone op role) 1 n) tells.word ∙ either (sets_gone op role) retired;
    shut = λ is. shut_stays op role state owes (shut (sets_gone op role) refl is);
  }
    where
      either : (a b : Bool) → ◌≡◌ {A = ℕ} (cond a 1 (cond b 1 0)) (cond (a || b) 1 0)
      either true b = refl
      either false b = refl

      shut : (sets : Bool) → sets_gone op role ≡ sets → (sets || retired) ≡ true → state ≡ Shut
      shut true sets is = gone_of_shut op role state owes sets
      shut false sets is = tells.shut is

-- ---- what a load takes

-- a live byte of 0 is that of a shut end
shut_live : (state : EndState) → (low8 (live_word state) == 0) ≡ true → state ≡ Shut
shut_live Fresh is = absurd (false≢true is)
shut_live Open is = absurd (false≢true is)
shut_live Shut is = refl

-- a gone word that isn't 0 is that of a shut end
shut_gone : (gone : ℕ) (retired : Bool) (state : EndState) → TellsGone gone retired state → not (gone == 0) ≡ true → state ≡ Shut
shut_gone gone true state tells is = tells.shut refl
shut_gone gone false state tells is = absurd (false≢true (subst (λ (n : ℕ). not (n == 0) ≡ true) tells.word is))

-- an end that sees its peer's end has a shut peer
pub shown_shut : (orders : Orders) (words : List ℕ) (op : Op) (role : Role) (retired : Bool) (state : EndState) → slice_index words (index_of orders (peer_live role)) ≡ live_word state → TellsGone (slice_index words (index_of orders (peer_gone role))) retired state →
    shows_end op role (value_taken orders words op) ≡ true → state ≡ Shut
shown_shut orders words (Load word) role retired state live gone shows = go word role live gone shows
  where
    go : (word : WordName) (role : Role) → slice_index words (index_of orders (peer_live role)) ≡ live_word state → TellsGone (slice_index words (index_of orders (peer_gone role))) retired state →
        sees_end word role (slice_index words (index_of orders word)) ≡ true → state ≡ Shut
    go CliLive Server live gone shows = shut_live state (subst (λ (n : ℕ). (low8 n == 0) ≡ true) live shows)
    go SrvLive Client live gone shows = shut_live state (subst (λ (n : ℕ). (low8 n == 0) ≡ true) live shows)
    go CliGone Server live gone shows = shut_gone _ retired state gone shows
    go SrvGone Client live gone shows = shut_gone _ retired state gone shows
    go _ role live gone shows = absurd (false≢true shows)
shown_shut orders words _ role retired state live gone shows = absurd (false≢true shows)

-- an order word that is loaded is that of the start
pub order_given : (orders : Orders) (words : List ℕ) (said : ℕ × ℕ) (op : Op) → slice_index words (index_of orders LeftOrder) ≡ said.0 → slice_index words (index_of orders RightOrder) ≡ said.1 → OrderGives said op (value_taken orders words op)
order_given orders words said (Load word) left right = go word
  where
    go : (word : WordName) → SaidGives said word (slice_index words (index_of orders word))
    go LeftOrder = left
    go RightOrder = right
    go _ = tt
order_given orders words said _ left right = tt
