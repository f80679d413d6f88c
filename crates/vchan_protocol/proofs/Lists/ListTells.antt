-- What the words of a page and the counts of its two honest ends tell of the lists, kept by each event.
use Rattle.std.proofs.Common.{◌≡◌, ◌≢◌, ℕ, ◌+◌, ◌-◌, ◌^◌, ◌<◌, ◌≤◌, ◌==◌, ◌⊎◌, inl, inr, Bool, true, false, if◌then◌else◌, List, ◌++◌, length, get_or, set, slice_index, refl, sym, ap, ◌∙◌, arith, append_assoc}
use Rattle.std.proofs.lemmas.Bool.{cases_lt, eqb-false}
use Rattle.std.proofs.lemmas.List.{get_or-set_same, get_or-set_other, length-set, length-append, get_or_append_left, get_or-append_right}
use Rattle.std.proofs.lemmas.List.Elements.{All-append}
use Rattle.list_laws.specs.Lists.{IsPrefixOf}
use Rattle.ring_words.specs.Rings.{size, place}
use Rattle.ring_words.specs.Page.{index_of, order_of, word_count}
use Rattle.ring_words.specs.declared.order.Order.{Order}
use Rattle.ring_words.specs.declared.order.Orders.{Orders}
use Rattle.ring_words.specs.declared.page.Role.{Role}
use Rattle.ring_words.specs.declared.page.Role.TheVariants.{Server, Client}
use Rattle.ring_words.specs.declared.page.WordName.{WordName}
use Rattle.ring_words.specs.declared.page.WordName.TheVariants.{LeftOrder, RightOrder, RingByte}
use Rattle.ring_words.proofs.RingLaws.{place_within}
use Rattle.vchan_protocol.specs.declared.call.EndState.{EndState}
use Rattle.vchan_protocol.specs.declared.call.EndState.TheVariants.{Shut}
use Rattle.vchan_protocol.specs.declared.side.Side.{Side}
use Rattle.vchan_protocol.specs.Table.Ends.{written_ring, read_ring, prod_word, cons_word, own_live, own_gone, peer_live, peer_gone}
use Rattle.vchan_protocol.specs.History.Page.{live_word}
use Rattle.vchan_protocol.specs.Honest.RingLaw.{AreBytes}
use Rattle.vchan_protocol.specs.Lists.ListCall.{ListEnd, ChannelLists, end_of, index}
use Rattle.vchan_protocol.specs.History.Peer.{peer}

-- ---- what is told

-- the part of an end that the lists and the words tell
pub record Told : Type 0 where
  pub role : Role
  pub orders : Orders
  pub state : EndState
  pub prod : ℕ
  pub cons : ℕ
  pub sent : List ℕ
  pub got : List ℕ
  pub retired : Bool

abbrev pub told : Side → Told
told s = record { role = s.role; orders = s.orders; state = s.state; prod = s.prod; cons = s.cons; sent = s.sent; got = s.got; retired = s.retired }

abbrev pub at : Orders → List ℕ → WordName → ℕ
at orders words name = slice_index words (index_of orders name)

-- an end is as the lists tell
pub record EndIs (role : Role) (orders : Orders) (it : ListEnd) (s : Told) : Type 0 where
  pub role_is : s.role ≡ role
  pub orders_are : s.orders ≡ orders
  pub state_is : s.state ≡ it.state
  pub sent_is : s.sent ≡ it.sent
  pub got_is : s.got ≡ it.got
  pub retired_is : s.retired ≡ it.retired

-- a ring's indices, its two counts and its bytes are as the lists tell
pub record RingTells (order : Order) (start : ℕ) (sent got : List ℕ) (prod cons own_prod own_cons : ℕ) (bytes : ℕ → ℕ) : Type 0 where
  pub prod_is : prod ≡ index start sent
  pub cons_is : cons ≡ index start got
  pub own_prod_is : own_prod ≡ index start sent
  pub own_cons_is : own_cons ≡ index start got
  pub prefix : IsPrefixOf got sent
  pub fits : length sent ≤ length got + size order
  pub bytes_sent : AreBytes sent
  pub waits : (i : ℕ) → length got ≤ i → i < length sent → bytes (place (start + i) order) ≡ slice_index sent i

-- a live byte and a gone word are as the lists tell
pub record EndTells (live gone : ℕ) (it : ListEnd) : Type 0 where
  pub live_is : live ≡ live_word it.state
  pub gone_is : gone ≡ (if it.retired then 1 else 0)
  pub retired_shut : it.retired ≡ true → it.state ≡ Shut

-- the page as an end finds it: its own lists are these, and its peer's are those of the channel
pub record Tells (who : Role) (channel : ChannelLists) (it : ListEnd) (words : List ℕ) (mine theirs : Told) : Type 0 where
  pub sized : length words ≡ word_count channel.orders
  pub mine_is : EndIs who channel.orders it mine
  pub theirs_is : EndIs (peer who) channel.orders (end_of channel (peer who)) theirs
  pub written : RingTells (order_of channel.orders (written_ring who)) channel.start it.sent (end_of channel (peer who)).got
      (at channel.orders words (prod_word (written_ring who))) (at channel.orders words (cons_word (written_ring who))) mine.prod theirs.cons (λ place. at channel.orders words (RingByte (written_ring who) place))
  pub reading : RingTells (order_of channel.orders (read_ring who)) channel.start (end_of channel (peer who)).sent it.got
      (at channel.orders words (prod_word (read_ring who))) (at channel.orders words (cons_word (read_ring who))) theirs.prod mine.cons (λ place. at channel.orders words (RingByte (read_ring who) place))
  pub mine_words : EndTells (at channel.orders words (own_live who)) (at channel.orders words (own_gone who)) it
  pub theirs_words : EndTells (at channel.orders words (peer_live who)) (at channel.orders words (peer_gone who)) (end_of channel (peer who))
  pub left_order : at channel.orders words LeftOrder ≡ channel.said.0
  pub right_order : at channel.orders words RightOrder ≡ channel.said.1
  pub said_fits : (channel.said.0 < 2 ^ 16) × (channel.said.1 < 2 ^ 16)

-- ---- one ring, and one end, whose words are the same

pub ring_same : (order : Order) (start : ℕ) (sent got : List ℕ) (prod cons prod' cons' own_prod own_cons : ℕ) (bytes bytes' : ℕ → ℕ) → prod' ≡ prod → cons' ≡ cons →
    ((place : ℕ) → place < size order → bytes' place ≡ bytes place) → RingTells order start sent got prod cons own_prod own_cons bytes → RingTells order start sent got prod' cons' own_prod own_cons bytes'
ring_same order start sent got prod cons prod' cons' own_prod own_cons bytes bytes' p c b t = record {
  prod_is = p ∙ t.prod_is;
  cons_is = c ∙ t.cons_is;
  own_prod_is = t.own_prod_is;
  own_cons_is = t.own_cons_is;
  prefix = t.prefix;
  fits = t.fits;
  bytes_sent = t.bytes_sent;
  waits = λ i low high. b (place (start + i) order) (place_within (start + i) order) ∙ t.waits i low high;
}

pub end_same : (live gone live' gone' : ℕ) (it : ListEnd) → live' ≡ live → gone' ≡ gone → EndTells live gone it → EndTells live' gone' it
end_same live gone live' gone' it l g t = record { live_is = l ∙ t.live_is; gone_is = g ∙ t.gone_is; retired_shut = t.retired_shut }

-- ---- a ring whose lists grow

-- more was sent: it stands in the places after
pub ring_sent : (order : Order) (start : ℕ) (sent got more : List ℕ) (prod cons prod' own_prod own_prod' own_cons : ℕ) (bytes bytes' : ℕ → ℕ) → RingTells order start sent got prod cons own_prod own_cons bytes →
    prod' ≡ index start (sent ++ more) → own_prod' ≡ index start (sent ++ more) → length sent + length more ≤ length got + size order → AreBytes more →
    ((i : ℕ) → i < length more → bytes (place (start + length sent + i) order) ≡ slice_index more i) → ((place : ℕ) → place < size order → bytes' place ≡ bytes place) →
    (cons' : ℕ) → cons' ≡ cons → RingTells order start (sent ++ more) got prod' cons' own_prod' own_cons bytes'
ring_sent order start sent got more prod cons prod' own_prod own_prod' own_cons bytes bytes' t p o fits new stands b cons' c = record {
  prod_is = p;
  cons_is = c ∙ t.cons_is;
  own_prod_is = o;
  own_cons_is = t.own_cons_is;
  prefix = (t.prefix.0 ++ more, sym (append_assoc got t.prefix.0 more) ∙ ap (λ (xs : List ℕ). xs ++ more) t.prefix.1);
  fits = omega (arith, fits, length-append sent more);
  bytes_sent = All-append (λ (byte : ℕ). byte < 256) sent more t.bytes_sent new;
  waits = λ i low high. b (place (start + i) order) (place_within (start + i) order) ∙ go i low high (cases_lt i (length sent));
}
  where
    go : (i : ℕ) → length got ≤ i → i < length (sent ++ more) → (i < length sent) ⊎ (length sent ≤ i) → bytes (place (start + i) order) ≡ slice_index (sent ++ more) i
    go i low high (inl old) = t.waits i low old ∙ sym (get_or_append_left sent more 0 i old)
    go i low high (inr behind) =
        ap (λ (n : ℕ). bytes (place n order)) (omega (arith, behind)) ∙ stands (i - length sent) (omega (arith, high, length-append sent more, behind))
        ∙ sym (get_or-append_right sent more (length sent) i 0 refl behind)

-- more was got
pub ring_got : (order : Order) (start : ℕ) (sent got more rest : List ℕ) (prod cons cons' own_prod own_cons own_cons' : ℕ) (bytes bytes' : ℕ → ℕ) → RingTells order start sent got prod cons own_prod own_cons bytes →
    cons' ≡ index start (got ++ more) → own_cons' ≡ index start (got ++ more) → got ++ (more ++ rest) ≡ sent → ((place : ℕ) → place < size order → bytes' place ≡ bytes place) →
    (prod' : ℕ) → prod' ≡ prod → RingTells order start sent (got ++ more) prod' cons' own_prod own_cons' bytes'
ring_got order start sent got more rest prod cons cons' own_prod own_cons own_cons' bytes bytes' t c o split b prod' p = record {
  prod_is = p ∙ t.prod_is;
  cons_is = c;
  own_prod_is = t.own_prod_is;
  own_cons_is = o;
  prefix = (rest, append_assoc got more rest ∙ split);
  fits = omega (arith, t.fits, length-append got more);
  bytes_sent = t.bytes_sent;
  waits = λ i low high. b (place (start + i) order) (place_within (start + i) order) ∙ t.waits i (omega (arith, low, length-append got more)) high;
}

-- ---- events

kept : (words : List ℕ) (n v m : ℕ) → (m == n) ≡ false → get_or (set words n v) m 0 ≡ get_or words m 0
kept words n v m apart = get_or-set_other words n m v 0 (eqb-false m n apart)

-- a word of the header is apart from the rings
byte_kept : (words : List ℕ) (n v from k : ℕ) → n < 14 → 14 ≤ from → get_or (set words n v) (from + k) 0 ≡ get_or words (from + k) 0
byte_kept words n v from k low high = get_or-set_other words n (from + k) v 0 (λ e. absurd (omega (arith, e, low, high)))

header_kept : (words : List ℕ) (n v m : ℕ) → m < 14 → 14 ≤ n → get_or (set words n v) m 0 ≡ get_or words m 0
header_kept words n v m low high = get_or-set_other words n m v 0 (λ e. absurd (omega (arith, e, low, high)))

-- a word between the live bytes and the gone words changes: no list is told by it
pub tells_flags : (who : Role) (channel : ChannelLists) (it : ListEnd) (words : List ℕ) (mine theirs : Told) (n v : ℕ) → 8 ≤ n → n < 12 →
    Tells who channel it words mine theirs → Tells who channel it (set words n v) mine theirs
tells_flags who channel it words mine theirs n v low high t = go who t
  where
    below : (m : ℕ) → m < 8 → get_or (set words n v) m 0 ≡ get_or words m 0
    below m h = get_or-set_other words n m v 0 (λ e. absurd (omega (arith, e, h, low)))

    above : (m : ℕ) → 12 ≤ m → get_or (set words n v) m 0 ≡ get_or words m 0
    above m h = get_or-set_other words n m v 0 (λ e. absurd (omega (arith, e, h, high)))

    go : (who : Role) → Tells who channel it words mine theirs → Tells who channel it (set words n v) mine theirs
    go Server t = record {
      sized = length-set words n v ∙ t.sized;
      mine_is = t.mine_is;
      theirs_is = t.theirs_is;
      written = ring_same _ _ _ _ _ _ _ _ _ _ _ _ (below 3 (omega arith)) (below 2 (omega arith)) (λ k h. above (14 + size channel.orders.left + k) (omega arith)) t.written;
      reading = ring_same _ _ _ _ _ _ _ _ _ _ _ _ (below 1 (omega arith)) (below 0 (omega arith)) (λ k h. above (14 + k) (omega arith)) t.reading;
      mine_words = end_same _ _ _ _ _ (below 7 (omega arith)) (above 12 (omega arith)) t.mine_words;
      theirs_words = end_same _ _ _ _ _ (below 6 (omega arith)) (above 13 (omega arith)) t.theirs_words;
      left_order = below 4 (omega arith) ∙ t.left_order;
      right_order = below 5 (omega arith) ∙ t.right_order;
      said_fits = t.said_fits;
    }
    go Client t = record {
      sized = length-set words n v ∙ t.sized;
      mine_is = t.mine_is;
      theirs_is = t.theirs_is;
      written = ring_same _ _ _ _ _ _ _ _ _ _ _ _ (below 1 (omega arith)) (below 0 (omega arith)) (λ k h. above (14 + k) (omega arith)) t.written;
      reading = ring_same _ _ _ _ _ _ _ _ _ _ _ _ (below 3 (omega arith)) (below 2 (omega arith)) (λ k h. above (14 + size channel.orders.left + k) (omega arith)) t.reading;
      mine_words = end_same _ _ _ _ _ (below 6 (omega arith)) (above 13 (omega arith)) t.mine_words;
      theirs_words = end_same _ _ _ _ _ (below 7 (omega arith)) (above 12 (omega arith)) t.theirs_words;
      left_order = below 4 (omega arith) ∙ t.left_order;
      right_order = below 5 (omega arith) ∙ t.right_order;
      said_fits = t.said_fits;
    }

-- a byte of a ring changes in which none waits
pub ring_stored : (order : Order) (start : ℕ) (sent got : List ℕ) (prod cons prod' cons' own_prod own_cons : ℕ) (bytes bytes' : ℕ → ℕ) (k : ℕ) → prod' ≡ prod → cons' ≡ cons →
    ((place : ℕ) → place ≢ k → bytes' place ≡ bytes place) → ((i : ℕ) → length got ≤ i → i < length sent → place (start + i) order ≢ k) →
    RingTells order start sent got prod cons own_prod own_cons bytes → RingTells order start sent got prod' cons' own_prod own_cons bytes'
ring_stored order start sent got prod cons prod' cons' own_prod own_cons bytes bytes' k p c b apart t = record {
  prod_is = p ∙ t.prod_is;
  cons_is = c ∙ t.cons_is;
  own_prod_is = t.own_prod_is;
  own_cons_is = t.own_cons_is;
  prefix = t.prefix;
  fits = t.fits;
  bytes_sent = t.bytes_sent;
  waits = λ i low high. b (place (start + i) order) (apart i low high) ∙ t.waits i low high;
}

-- an end stores a byte into its ring, at a place at which none waits
pub tells_byte : (who : Role) (channel : ChannelLists) (it : ListEnd) (words : List ℕ) (mine theirs : Told) (k v : ℕ) → k < size (order_of channel.orders (written_ring who)) →
    ((i : ℕ) → length (end_of channel (peer who)).got ≤ i → i < length it.sent → place (channel.start + i) (order_of channel.orders (written_ring who)) ≢ k) →
    Tells who channel it words mine theirs → Tells who channel it (set words (index_of channel.orders (RingByte (written_ring who) k)) v) mine theirs
tells_byte Server channel it words mine theirs k v low apart t =
    let n : ℕ = 14 + size channel.orders.left + k in
    let o : (m : ℕ) → m ≢ n → get_or (set words n v) m 0 ≡ get_or words m 0 = λ m e. get_or-set_other words n m v 0 e in
    let h : (m : ℕ) → m < 14 → get_or (set words n v) m 0 ≡ get_or words m 0 = λ m l. header_kept words n v m l (omega arith) in
    record {
      sized = length-set words n v ∙ t.sized;
      mine_is = t.mine_is;
      theirs_is = t.theirs_is;
      written = ring_stored _ _ _ _ _ _ _ _ _ _ _ _ k (h 3 (omega arith)) (h 2 (omega arith)) (λ j e. o (14 + size channel.orders.left + j) (λ q. e (omega (arith, q)))) apart t.written;
      reading = ring_same _ _ _ _ _ _ _ _ _ _ _ _ (h 1 (omega arith)) (h 0 (omega arith)) (λ j l. o (14 + j) (λ q. absurd (omega (arith, q, l)))) t.reading;
      mine_words = end_same _ _ _ _ _ (h 7 (omega arith)) (h 12 (omega arith)) t.mine_words;
      theirs_words = end_same _ _ _ _ _ (h 6 (omega arith)) (h 13 (omega arith)) t.theirs_words;
      left_order = h 4 (omega arith) ∙ t.left_order;
      right_order = h 5 (omega arith) ∙ t.right_order;
      said_fits = t.said_fits;
    }
tells_byte Client channel it words mine theirs k v low apart t =
    let n : ℕ = 14 + k in
    let o : (m : ℕ) → m ≢ n → get_or (set words n v) m 0 ≡ get_or words m 0 = λ m e. get_or-set_other words n m v 0 e in
    let h : (m : ℕ) → m < 14 → get_or (set words n v) m 0 ≡ get_or words m 0 = λ m l. header_kept words n v m l (omega arith) in
    record {
      sized = length-set words n v ∙ t.sized;
      mine_is = t.mine_is;
      theirs_is = t.theirs_is;
      written = ring_stored _ _ _ _ _ _ _ _ _ _ _ _ k (h 1 (omega arith)) (h 0 (omega arith)) (λ j e. o (14 + j) (λ q. e (omega (arith, q)))) apart t.written;
      reading = ring_same _ _ _ _ _ _ _ _ _ _ _ _ (h 3 (omega arith)) (h 2 (omega arith)) (λ j l. o (14 + size channel.orders.left + j) (λ q. absurd (omega (arith, q, low)))) t.reading;
      mine_words = end_same _ _ _ _ _ (h 6 (omega arith)) (h 13 (omega arith)) t.mine_words;
      theirs_words = end_same _ _ _ _ _ (h 7 (omega arith)) (h 12 (omega arith)) t.theirs_words;
      left_order = h 4 (omega arith) ∙ t.left_order;
      right_order = h 5 (omega arith) ∙ t.right_order;
      said_fits = t.said_fits;
    }

-- an end's lists grow
more_sent : (role : Role) (orders : Orders) (it : ListEnd) (s : Told) (more : List ℕ) (prod : ℕ) → EndIs role orders it s → EndIs role orders (record it { sent = it.sent ++ more }) (record s { prod = prod; sent = s.sent ++ more })
more_sent role orders it s more prod h = record { role_is = h.role_is; orders_are = h.orders_are; state_is = h.state_is; sent_is = ap (λ (xs : List ℕ). xs ++ more) h.sent_is; got_is = h.got_is; retired_is = h.retired_is }

more_got : (role : Role) (orders : Orders) (it : ListEnd) (s : Told) (more : List ℕ) (cons : ℕ) → EndIs role orders it s → EndIs role orders (record it { got = it.got ++ more }) (record s { cons = cons; got = s.got ++ more })
more_got role orders it s more cons h = record { role_is = h.role_is; orders_are = h.orders_are; state_is = h.state_is; sent_is = h.sent_is; got_is = ap (λ (xs : List ℕ). xs ++ more) h.got_is; retired_is = h.retired_is }

other_lists : (live gone : ℕ) (it : ListEnd) (sent got : List ℕ) → EndTells live gone it → EndTells live gone (record it { sent = sent; got = got })
other_lists live gone it sent got h = record { live_is = h.live_is; gone_is = h.gone_is; retired_shut = h.retired_shut }

-- an end shows the bytes that stand after those that it sent
pub tells_sent : (who : Role) (channel : ChannelLists) (it : ListEnd) (words : List ℕ) (mine theirs : Told) (more : List ℕ) (v prod : ℕ) → v ≡ index channel.start (it.sent ++ more) → prod ≡ index channel.start (it.sent ++ more) →
    length it.sent + length more ≤ length (end_of channel (peer who)).got + size (order_of channel.orders (written_ring who)) → AreBytes more →
    ((i : ℕ) → i < length more → at channel.orders words (RingByte (written_ring who) (place (channel.start + length it.sent + i) (order_of channel.orders (written_ring who)))) ≡ slice_index more i) →
    Tells who channel it words mine theirs →
    Tells who channel (record it { sent = it.sent ++ more }) (set words (index_of channel.orders (prod_word (written_ring who))) v) (record mine { prod = prod; sent = mine.sent ++ more }) theirs
tells_sent Server channel it words mine theirs more v prod is own fits new stands t =
    let long : 3 < length words = omega (arith, t.sized) in
    let o : (m : ℕ) → (m == 3) ≡ false → get_or (set words 3 v) m 0 ≡ get_or words m 0 = kept words 3 v in
    record {
      sized = length-set words 3 v ∙ t.sized;
      mine_is = more_sent Server channel.orders it mine more prod t.mine_is;
      theirs_is = t.theirs_is;
      written = ring_sent _ _ it.sent _ more _ _ _ _ _ _ _ _ t.written (get_or-set_same words 3 v 0 long ∙ is) own fits new stands (λ k l. byte_kept words 3 v (14 + size channel.orders.left) k (omega arith) (omega arith)) _ (o 2 refl);
      reading = ring_same _ _ _ _ _ _ _ _ _ _ _ _ (o 1 refl) (o 0 refl) (λ k l. byte_kept words 3 v 14 k (omega arith) (omega arith)) t.reading;
      mine_words = end_same _ _ _ _ _ (o 7 refl) (o 12 refl) (other_lists _ _ it (it.sent ++ more) it.got t.mine_words);
      theirs_words = end_same _ _ _ _ _ (o 6 refl) (o 13 refl) t.theirs_words;
      left_order = o 4 refl ∙ t.left_order;
      right_order = o 5 refl ∙ t.right_order;
      said_fits = t.said_fits;
    }
tells_sent Client channel it words mine theirs more v prod is own fits new stands t =
    let long : 1 < length words = omega (arith, t.sized) in
    let o : (m : ℕ) → (m == 1) ≡ false → get_or (set words 1 v) m 0 ≡ get_or words m 0 = kept words 1 v in
    record {
      sized = length-set words 1 v ∙ t.sized;
      mine_is = more_sent Client channel.orders it mine more prod t.mine_is;
      theirs_is = t.theirs_is;
      written = ring_sent _ _ it.sent _ more _ _ _ _ _ _ _ _ t.written (get_or-set_same words 1 v 0 long ∙ is) own fits new stands (λ k l. byte_kept words 1 v 14 k (omega arith) (omega arith)) _ (o 0 refl);
      reading = ring_same _ _ _ _ _ _ _ _ _ _ _ _ (o 3 refl) (o 2 refl) (λ k l. byte_kept words 1 v (14 + size channel.orders.left) k (omega arith) (omega arith)) t.reading;
      mine_words = end_same _ _ _ _ _ (o 6 refl) (o 13 refl) (other_lists _ _ it (it.sent ++ more) it.got t.mine_words);
      theirs_words = end_same _ _ _ _ _ (o 7 refl) (o 12 refl) t.theirs_words;
      left_order = o 4 refl ∙ t.left_order;
      right_order = o 5 refl ∙ t.right_order;
      said_fits = t.said_fits;
    }

-- an end releases the places of the first bytes that wait
pub tells_got : (who : Role) (channel : ChannelLists) (it : ListEnd) (words : List ℕ) (mine theirs : Told) (more rest : List ℕ) (v cons : ℕ) → v ≡ index channel.start (it.got ++ more) → cons ≡ index channel.start (it.got ++ more) →
    it.got ++ (more ++ rest) ≡ (end_of channel (peer who)).sent → Tells who channel it words mine theirs →
    Tells who channel (record it { got = it.got ++ more }) (set words (index_of channel.orders (cons_word (read_ring who))) v) (record mine { cons = cons; got = mine.got ++ more }) theirs
tells_got Server channel it words mine theirs more rest v cons is own split t =
    let long : 0 < length words = omega (arith, t.sized) in
    let o : (m : ℕ) → (m == 0) ≡ false → get_or (set words 0 v) m 0 ≡ get_or words m 0 = kept words 0 v in
    record {
      sized = length-set words 0 v ∙ t.sized;
      mine_is = more_got Server channel.orders it mine more cons t.mine_is;
      theirs_is = t.theirs_is;
      written = ring_same _ _ _ _ _ _ _ _ _ _ _ _ (o 3 refl) (o 2 refl) (λ k l. byte_kept words 0 v (14 + size channel.orders.left) k (omega arith) (omega arith)) t.written;
      reading = ring_got _ _ _ it.got more rest _ _ _ _ _ _ _ _ t.reading (get_or-set_same words 0 v 0 long ∙ is) own split (λ k l. byte_kept words 0 v 14 k (omega arith) (omega arith)) _ (o 1 refl);
      mine_words = end_same _ _ _ _ _ (o 7 refl) (o 12 refl) (other_lists _ _ it it.sent (it.got ++ more) t.mine_words);
      theirs_words = end_same _ _ _ _ _ (o 6 refl) (o 13 refl) t.theirs_words;
      left_order = o 4 refl ∙ t.left_order;
      right_order = o 5 refl ∙ t.right_order;
      said_fits = t.said_fits;
    }
tells_got Client channel it words mine theirs more rest v cons is own split t =
    let long : 2 < length words = omega (arith, t.sized) in
    let o : (m : ℕ) → (m == 2) ≡ false → get_or (set words 2 v) m 0 ≡ get_or words m 0 = kept words 2 v in
    record {
      sized = length-set words 2 v ∙ t.sized;
      mine_is = more_got Client channel.orders it mine more cons t.mine_is;
      theirs_is = t.theirs_is;
      written = ring_same _ _ _ _ _ _ _ _ _ _ _ _ (o 1 refl) (o 0 refl) (λ k l. byte_kept words 2 v 14 k (omega arith) (omega arith)) t.written;
      reading = ring_got _ _ _ it.got more rest _ _ _ _ _ _ _ _ t.reading (get_or-set_same words 2 v 0 long ∙ is) own split (λ k l. byte_kept words 2 v (14 + size channel.orders.left) k (omega arith) (omega arith)) _ (o 3 refl);
      mine_words = end_same _ _ _ _ _ (o 6 refl) (o 13 refl) (other_lists _ _ it it.sent (it.got ++ more) t.mine_words);
      theirs_words = end_same _ _ _ _ _ (o 7 refl) (o 12 refl) t.theirs_words;
      left_order = o 4 refl ∙ t.left_order;
      right_order = o 5 refl ∙ t.right_order;
      said_fits = t.said_fits;
    }

-- an end comes to a state, by its live byte
came : (role : Role) (orders : Orders) (it : ListEnd) (s : Told) (state : EndState) → EndIs role orders it s → EndIs role orders (record it { state = state }) (record s { state = state })
came role orders it s state h = record { role_is = h.role_is; orders_are = h.orders_are; state_is = refl; sent_is = h.sent_is; got_is = h.got_is; retired_is = h.retired_is }

pub tells_state : (who : Role) (channel : ChannelLists) (it : ListEnd) (words : List ℕ) (mine theirs : Told) (state : EndState) → (it.retired ≡ true → state ≡ Shut) → Tells who channel it words mine theirs →
    Tells who channel (record it { state = state }) (set words (index_of channel.orders (own_live who)) (live_word state)) (record mine { state = state }) theirs
tells_state Server channel it words mine theirs state shut t =
    let v : ℕ = live_word state in
    let long : 7 < length words = omega (arith, t.sized) in
    let o : (m : ℕ) → (m == 7) ≡ false → get_or (set words 7 v) m 0 ≡ get_or words m 0 = kept words 7 v in
    record {
      sized = length-set words 7 v ∙ t.sized;
      mine_is = came Server channel.orders it mine state t.mine_is;
      theirs_is = t.theirs_is;
      written = ring_same _ _ _ _ _ _ _ _ _ _ _ _ (o 3 refl) (o 2 refl) (λ k l. byte_kept words 7 v (14 + size channel.orders.left) k (omega arith) (omega arith)) t.written;
      reading = ring_same _ _ _ _ _ _ _ _ _ _ _ _ (o 1 refl) (o 0 refl) (λ k l. byte_kept words 7 v 14 k (omega arith) (omega arith)) t.reading;
      mine_words = record { live_is = get_or-set_same words 7 v 0 long; gone_is = o 12 refl ∙ t.mine_words.gone_is; retired_shut = shut };
      theirs_words = end_same _ _ _ _ _ (o 6 refl) (o 13 refl) t.theirs_words;
      left_order = o 4 refl ∙ t.left_order;
      right_order = o 5 refl ∙ t.right_order;
      said_fits = t.said_fits;
    }
tells_state Client channel it words mine theirs state shut t =
    let v : ℕ = live_word state in
    let long : 6 < length words = omega (arith, t.sized) in
    let o : (m : ℕ) → (m == 6) ≡ false → get_or (set words 6 v) m 0 ≡ get_or words m 0 = kept words 6 v in
    record {
      sized = length-set words 6 v ∙ t.sized;
      mine_is = came Client channel.orders it mine state t.mine_is;
      theirs_is = t.theirs_is;
      written = ring_same _ _ _ _ _ _ _ _ _ _ _ _ (o 1 refl) (o 0 refl) (λ k l. byte_kept words 6 v 14 k (omega arith) (omega arith)) t.written;
      reading = ring_same _ _ _ _ _ _ _ _ _ _ _ _ (o 3 refl) (o 2 refl) (λ k l. byte_kept words 6 v (14 + size channel.orders.left) k (omega arith) (omega arith)) t.reading;
      mine_words = record { live_is = get_or-set_same words 6 v 0 long; gone_is = o 13 refl ∙ t.mine_words.gone_is; retired_shut = shut };
      theirs_words = end_same _ _ _ _ _ (o 7 refl) (o 12 refl) t.theirs_words;
      left_order = o 4 refl ∙ t.left_order;
      right_order = o 5 refl ∙ t.right_order;
      said_fits = t.said_fits;
    }

-- an end that is shut retires, by its gone word
gone_too : (role : Role) (orders : Orders) (it : ListEnd) (s : Told) → EndIs role orders it s → EndIs role orders (record it { retired = true }) (record s { retired = true })
gone_too role orders it s h = record { role_is = h.role_is; orders_are = h.orders_are; state_is = h.state_is; sent_is = h.sent_is; got_is = h.got_is; retired_is = refl }

pub tells_gone : (who : Role) (channel : ChannelLists) (it : ListEnd) (words : List ℕ) (mine theirs : Told) → it.state ≡ Shut → Tells who channel it words mine theirs →
    Tells who channel (record it { retired = true }) (set words (index_of channel.orders (own_gone who)) 1) (record mine { retired = true }) theirs
tells_gone Server channel it words mine theirs shut t =
    let long : 12 < length words = omega (arith, t.sized) in
    let o : (m : ℕ) → (m == 12) ≡ false → get_or (set words 12 1) m 0 ≡ get_or words m 0 = kept words 12 1 in
    record {
      sized = length-set words 12 1 ∙ t.sized;
      mine_is = gone_too Server channel.orders it mine t.mine_is;
      theirs_is = t.theirs_is;
      written = ring_same _ _ _ _ _ _ _ _ _ _ _ _ (o 3 refl) (o 2 refl) (λ k l. byte_kept words 12 1 (14 + size channel.orders.left) k (omega arith) (omega arith)) t.written;
      reading = ring_same _ _ _ _ _ _ _ _ _ _ _ _ (o 1 refl) (o 0 refl) (λ k l. byte_kept words 12 1 14 k (omega arith) (omega arith)) t.reading;
      mine_words = record { live_is = o 7 refl ∙ t.mine_words.live_is; gone_is = get_or-set_same words 12 1 0 long; retired_shut = λ _. shut };
      theirs_words = end_same _ _ _ _ _ (o 6 refl) (o 13 refl) t.theirs_words;
      left_order = o 4 refl ∙ t.left_order;
      right_order = o 5 refl ∙ t.right_order;
      said_fits = t.said_fits;
    }
tells_gone Client channel it words mine theirs shut t =
    let long : 13 < length words = omega (arith, t.sized) in
    let o : (m : ℕ) → (m == 13) ≡ false → get_or (set words 13 1) m 0 ≡ get_or words m 0 = kept words 13 1 in
    record {
      sized = length-set words 13 1 ∙ t.sized;
      mine_is = gone_too Client channel.orders it mine t.mine_is;
      theirs_is = t.theirs_is;
      written = ring_same _ _ _ _ _ _ _ _ _ _ _ _ (o 1 refl) (o 0 refl) (λ k l. byte_kept words 13 1 14 k (omega arith) (omega arith)) t.written;
      reading = ring_same _ _ _ _ _ _ _ _ _ _ _ _ (o 3 refl) (o 2 refl) (λ k l. byte_kept words 13 1 (14 + size channel.orders.left) k (omega arith) (omega arith)) t.reading;
      mine_words = record { live_is = o 6 refl ∙ t.mine_words.live_is; gone_is = get_or-set_same words 13 1 0 long; retired_shut = λ _. shut };
      theirs_words = end_same _ _ _ _ _ (o 7 refl) (o 12 refl) t.theirs_words;
      left_order = o 4 refl ∙ t.left_order;
      right_order = o 5 refl ∙ t.right_order;
      said_fits = t.said_fits;
    }
