-- The next event of an end keeps each ring of its page lawful.
use Rattle.std.proofs.Common.{◌≡◌, ◌≢◌, ℕ, suc, zero, ◌+◌, ◌-◌, ◌%◌, ◌^◌, ◌<◌, ◌≤◌, Bool, true, false, cond, Some, List, [], ◌∷◌, ◌++◌, length, take, slice_index, slice_set, refl, subst, sym, ap, ◌∙◌, arith, length-append}
use Rattle.std.proofs.lemmas.List.{get_or-set_other, get_or-set_same, set-get_or}
use Rattle.ring_words.specs.Rings.{size, place, room, ready}
use Rattle.ring_words.specs.Page.{index_of, order_of, Has, word_count}
use Rattle.ring_words.specs.declared.order.Order.{Order}
use Rattle.ring_words.specs.declared.order.Orders.{Orders}
use Rattle.ring_words.specs.declared.page.Role.{Role}
use Rattle.ring_words.specs.declared.page.Role.TheVariants.{Server, Client}
use Rattle.ring_words.specs.declared.page.Ring.{Ring}
use Rattle.ring_words.specs.declared.page.Ring.TheVariants.{Left, Right}
use Rattle.ring_words.specs.declared.page.WordName.{WordName}
use Rattle.ring_words.specs.declared.page.WordName.TheVariants.{LeftCons, LeftProd, RightCons, RightProd, RingByte, CliLive, SrvLive, CliNotify, SrvNotify, SrvPending, CliPending}
use Rattle.ring_words.proofs.PageLaws.{word_same}
use Rattle.ring_words.proofs.RingLaws.{place_within}
use Rattle.vchan_protocol.specs.declared.op.Op.{Op}
use Rattle.vchan_protocol.specs.declared.op.Op.TheVariants.{Load, LoadByte, Store, StoreByte, Or, And, Swap, Nothing}
use Rattle.vchan_protocol.specs.declared.op.PastEvent.{PastEvent}
use Rattle.vchan_protocol.specs.declared.side.Side.{Side}
use Rattle.vchan_protocol.specs.declared.side.Begun.{Begun}
use Rattle.vchan_protocol.specs.Table.Plan.{rest_after}
use Rattle.vchan_protocol.specs.Table.Ends.{Standing, written_ring, read_ring, prod_word, cons_word, low32, prod_after, cons_after, prod_stored, cons_stored}
use Rattle.vchan_protocol.specs.Table.Calls.{plan_of}
use Rattle.vchan_protocol.specs.Table.Apply.{words_after, value_taken}
use Rattle.vchan_protocol.specs.History.Core.{begun_standing, made, count_stored, bytes_loaded, sent_stored, sent_after, got_stored, got_after}
use Rattle.vchan_protocol.specs.History.TrailSummary.{TrailSummary, summary, summary_after, summary_loaded, summary_stored, empty_summary, unshown, unreleased}
use Rattle.vchan_protocol.specs.Honest.RingLaw.{Channel, IsLawful, IsLawfulCall, AreBytes, word_at, channel_between, index_at}
use Rattle.vchan_protocol.proofs.Table.Sound.{OwesSound, OwesStored, IsFlag, StoresProd, StoresCons}
use Rattle.vchan_protocol.proofs.History.SummaryLaws.{summary_push, stored_is, loaded_is}
use Rattle.vchan_protocol.proofs.Honest.ChannelLaws.{lawful_same, lawful_look_write, lawful_store_byte, lawful_store_prod, lawful_look_read, lawful_load_byte, lawful_store_cons}
use Rattle.vchan_protocol.proofs.Table.Counted.{counts_within}
use Rattle.vchan_protocol.proofs.History.EventLaws.{OwesNext, stored_most_payload}
use Rattle.vchan_protocol.proofs.Honest.EndSteps.{not_yet}

-- ---- the words of a ring

-- the channel with these words of a page
abbrev on_words : Channel → Orders → List ℕ → Ring → Channel
on_words r orders words ring = record r {
  bytes = λ at. word_at orders words (RingByte ring at);
  prod = word_at orders words (prod_word ring);
  cons = word_at orders words (cons_word ring);
}

-- a word that isn't written keeps its value
pub kept : (orders : Orders) (words : List ℕ) (written name : WordName) (value : ℕ) → Has orders written → Has orders name → name ≢ written →
    word_at orders (slice_set words (index_of orders written) value) name ≡ word_at orders words name
kept orders words written name value h k apart = get_or-set_other words (index_of orders written) (index_of orders name) value 0 (λ e. apart (word_same orders name written k h e))

-- each word of a page has a number below the number of its words
pub has_number : (orders : Orders) (name : WordName) → Has orders name → index_of orders name < word_count orders
has_number orders LeftCons h = omega arith
has_number orders LeftProd h = omega arith
has_number orders RightCons h = omega arith
has_number orders RightProd h = omega arith
has_number orders (RingByte Left at) h = omega (arith, h)
has_number orders (RingByte Right at) h = omega (arith, h)
has_number orders _ h = omega arith

-- a word that is written has the value
pub written_there : (orders : Orders) (words : List ℕ) (name : WordName) (value : ℕ) → length words ≡ word_count orders → Has orders name →
    word_at orders (slice_set words (index_of orders name) value) name ≡ value
written_there orders words name value sized has =
    get_or-set_same words (index_of orders name) value 0 (subst (λ (n : ℕ). index_of orders name < n) (sym sized) (has_number orders name has))

-- the word is none of this ring
abbrev pub Elsewhere : Ring → WordName → Type 0
Elsewhere Left LeftCons = ⊥
Elsewhere Left LeftProd = ⊥
Elsewhere Left (RingByte Left at) = ⊥
Elsewhere Right RightCons = ⊥
Elsewhere Right RightProd = ⊥
Elsewhere Right (RingByte Right at) = ⊥
Elsewhere _ _ = Unit {0}

own_prod : (ring : Ring) → Elsewhere ring (prod_word ring) → ⊥
own_prod Left h = h
own_prod Right h = h

own_cons : (ring : Ring) → Elsewhere ring (cons_word ring) → ⊥
own_cons Left h = h
own_cons Right h = h

own_byte : (ring : Ring) (at : ℕ) → Elsewhere ring (RingByte ring at) → ⊥
own_byte Left at h = h
own_byte Right at h = h

has_prod : (orders : Orders) (ring : Ring) → Has orders (prod_word ring)
has_prod orders Left = tt
has_prod orders Right = tt

has_cons : (orders : Orders) (ring : Ring) → Has orders (cons_word ring)
has_cons orders Left = tt
has_cons orders Right = tt

-- a word that is none of this ring is written: the ring stays lawful
lawful_elsewhere : (r : Channel) (orders : Orders) (words : List ℕ) (ring : Ring) (written : WordName) (value : ℕ) → r.order ≡ order_of orders ring → Has orders written → Elsewhere ring written →
    IsLawful (on_words r orders words ring) → IsLawful (on_words r orders (slice_set words (index_of orders written) value) ring)
lawful_elsewhere r orders words ring written value order has other w =
    lawful_same (on_words r orders words ring) (λ at. word_at orders (slice_set words (index_of orders written) value) (RingByte ring at)) _ _ w
    (λ i below. kept orders words written (RingByte ring i) value has (subst (λ (o : Order). i < size o) order below) (λ e. own_byte ring i (subst (λ (n : WordName). Elsewhere ring n) (sym e) other)))
    (kept orders words written (prod_word ring) value has (has_prod orders ring) (λ e. own_prod ring (subst (λ (n : WordName). Elsewhere ring n) (sym e) other)))
    (kept orders words written (cons_word ring) value has (has_cons orders ring) (λ e. own_cons ring (subst (λ (n : WordName). Elsewhere ring n) (sym e) other)))

flag_elsewhere : (ring : Ring) (word : WordName) → IsFlag word → Elsewhere ring word
flag_elsewhere Left CliNotify flag = tt
flag_elsewhere Left SrvNotify flag = tt
flag_elsewhere Left CliPending flag = tt
flag_elsewhere Left SrvPending flag = tt
flag_elsewhere Right CliNotify flag = tt
flag_elsewhere Right SrvNotify flag = tt
flag_elsewhere Right CliPending flag = tt
flag_elsewhere Right SrvPending flag = tt
flag_elsewhere _ _ flag = absurd flag

-- an index below 2 ^ 32 is loaded whole
low32_index : (start count word : ℕ) → word ≡ index_at start count → low32 word ≡ word
low32_index start count word is = omega (arith, is)

-- words that were only loaded are as they were
loaded_same : (orders : Orders) (words : List ℕ) (name : WordName) → slice_set words (index_of orders name) (slice_index words (index_of orders name)) ≡ words
loaded_same orders words name = set-get_or words (index_of orders name) 0

-- ---- the writer's events

-- the writer's part of a channel, by what its call has done so far
abbrev writing : Channel → ℕ → List ℕ → List ℕ → TrailSummary → Channel
writing r prod sent payload n = record r { own_prod = prod; sent = sent; payload = payload; cons_seen = n.cons_seen; stored = unshown n }

wrote_loaded : (word : WordName) (role : Role) (r : Channel) (prod : ℕ) (sent payload : List ℕ) (n : TrailSummary) (index : ℕ) → (word ≡ cons_word (written_ring role) → index ≡ r.cons) →
    IsLawful (writing r prod sent payload n) → IsLawful (writing r prod sent payload (summary_loaded word role index n))
wrote_loaded LeftCons Client r prod sent payload n index is w =
    subst (λ (i : ℕ). IsLawful (record (writing r prod sent payload n) { cons_seen = Some i })) (sym (is refl)) (lawful_look_write (writing r prod sent payload n) w)
wrote_loaded RightCons Server r prod sent payload n index is w =
    subst (λ (i : ℕ). IsLawful (record (writing r prod sent payload n) { cons_seen = Some i })) (sym (is refl)) (lawful_look_write (writing r prod sent payload n) w)
wrote_loaded LeftProd Server r prod sent payload n index is w = w
wrote_loaded RightProd Client r prod sent payload n index is w = w
wrote_loaded _ _ r prod sent payload n index is w = w

-- while it hasn't stored its index, all that it stored is unshown
hidden_path : (n : TrailSummary) → n.shown ≡ false → n ≡ record n { shown = false }
hidden_path n hidden = ap (λ (b : Bool). record n { shown = b }) hidden

prod_byte : (ring other : Ring) (at : ℕ) → prod_word ring ≢ RingByte other at
prod_byte Left other at e = cc
prod_byte Right other at e = cc

cons_byte : (ring other : Ring) (at : ℕ) → cons_word ring ≢ RingByte other at
cons_byte Left other at e = cc
cons_byte Right other at e = cc

byte_place : (ring : Ring) (i j : ℕ) → RingByte ring i ≡ RingByte ring j → i ≡ j
byte_place ring i j e = cc

-- it stores a byte
wrote_byte : (ring : Ring) (r : Channel) (orders : Orders) (words : List ℕ) (prod : ℕ) (sent payload : List ℕ) (n : TrailSummary) (index at : ℕ) → r.order ≡ order_of orders ring → length words ≡ word_count orders →
    n.cons_seen ≡ Some index → n.shown ≡ false → at ≡ n.stored → at < room prod index r.order →
    IsLawful (writing (on_words r orders words ring) prod sent payload n) →
    IsLawful (writing (on_words r orders (slice_set words (index_of orders (RingByte ring (place (prod + at) r.order))) (slice_index payload at)) ring) prod sent payload (record n { stored = n.stored + 1 }))
wrote_byte ring r orders words prod sent payload n index at order sized seen hidden at_is fits w =
    let name : WordName = RingByte ring (place (prod + n.stored) r.order) in
    let byte : ℕ = slice_index payload n.stored in
    let here : n.stored < room prod index r.order = subst (λ (k : ℕ). k < room prod index r.order) at_is fits in
    let has : Has orders (RingByte ring (place (prod + n.stored) r.order)) = subst (λ (o : Order). place (prod + n.stored) r.order < size o) order (place_within (prod + n.stored) r.order) in
    let was : IsLawful (writing (on_words r orders words ring) prod sent payload (record n { shown = false })) =
    subst (λ (m : TrailSummary). IsLawful (writing (on_words r orders words ring) prod sent payload m)) (hidden_path n hidden) w in
    let stepped =
    lawful_store_byte (writing (on_words r orders words ring) prod sent payload (record n { shown = false })) index
    (λ i. word_at orders (slice_set words (index_of orders (RingByte ring (place (prod + n.stored) r.order))) (slice_index payload n.stored)) (RingByte ring i)) was seen here
    (written_there orders words (RingByte ring (place (prod + n.stored) r.order)) (slice_index payload n.stored) sized has)
    (λ i below apart. kept orders words (RingByte ring (place (prod + n.stored) r.order)) (RingByte ring i) (slice_index payload n.stored) has (subst (λ (o : Order). i < size o) order below)
    (λ e. apart (byte_place ring i (place (prod + n.stored) r.order) e))) in
    let then_lawful : IsLawful (writing (on_words r orders (slice_set words (index_of orders (RingByte ring (place (prod + n.stored) r.order))) (slice_index payload n.stored)) ring) prod sent payload (record n { shown = false; stored = n.stored + 1 })) =
    lawful_same _ (λ i. word_at orders (slice_set words (index_of orders (RingByte ring (place (prod + n.stored) r.order))) (slice_index payload n.stored)) (RingByte ring i)) _ _ stepped (λ i below. refl)
    (kept orders words (RingByte ring (place (prod + n.stored) r.order)) (prod_word ring) (slice_index payload n.stored) has (has_prod orders ring) (prod_byte ring ring _))
    (kept orders words (RingByte ring (place (prod + n.stored) r.order)) (cons_word ring) (slice_index payload n.stored) has (has_cons orders ring) (cons_byte ring ring _)) in
    subst (λ (k : ℕ). IsLawful (writing (on_words r orders (slice_set words (index_of orders (RingByte ring (place (prod + k) r.order))) (slice_index payload k)) ring) prod sent payload (record n { stored = n.stored + 1 }))) (sym at_is)
    (subst (λ (b : Bool). IsLawful (writing (on_words r orders (slice_set words (index_of orders (RingByte ring (place (prod + n.stored) r.order))) (slice_index payload n.stored)) ring) prod sent payload (record n { shown = b; stored = n.stored + 1 }))) (sym hidden) then_lawful)

-- it stores its index
wrote_index : (ring : Ring) (r : Channel) (orders : Orders) (words : List ℕ) (prod : ℕ) (sent payload : List ℕ) (n : TrailSummary) (index value count : ℕ) → r.order ≡ order_of orders ring → length words ≡ word_count orders →
    n.cons_seen ≡ Some index → n.shown ≡ false → n.stored ≤ room prod index r.order → value ≡ (prod + n.stored) % 2 ^ 32 → n.stored ≡ count → count ≤ length payload → AreBytes payload →
    IsLawful (writing (on_words r orders words ring) prod sent payload n) →
    IsLawful (writing (on_words r orders (slice_set words (index_of orders (prod_word ring)) value) ring) (low32 value) (sent ++ take count payload) payload (record n { shown = true }))
wrote_index ring r orders words prod sent payload n index value count order sized seen hidden fits is count_is has bytes w =
    let was : IsLawful (writing (on_words r orders words ring) prod sent payload (record n { shown = false })) =
    subst (λ (m : TrailSummary). IsLawful (writing (on_words r orders words ring) prod sent payload m)) (hidden_path n hidden) w in
    let stepped = lawful_store_prod (writing (on_words r orders words ring) prod sent payload (record n { shown = false })) index was seen fits (omega (arith, count_is, has)) bytes in
    let low : low32 value ≡ (prod + n.stored) % 2 ^ 32 = omega (arith, is) in
    let then_lawful : IsLawful (writing (on_words r orders (slice_set words (index_of orders (prod_word ring)) value) ring) ((prod + n.stored) % 2 ^ 32) (sent ++ take n.stored payload) payload (record n { shown = true })) =
    lawful_same _ (λ i. word_at orders (slice_set words (index_of orders (prod_word ring)) value) (RingByte ring i)) _ _ stepped
    (λ i below. kept orders words (prod_word ring) (RingByte ring i) value (has_prod orders ring) (subst (λ (o : Order). i < size o) order below) (λ e. prod_byte ring ring i (sym e)))
    (written_there orders words (prod_word ring) value sized (has_prod orders ring) ∙ is)
    (kept orders words (prod_word ring) (cons_word ring) value (has_prod orders ring) (has_cons orders ring) (cons_prod ring)) in
    subst (λ (k : ℕ). IsLawful (writing (on_words r orders (slice_set words (index_of orders (prod_word ring)) value) ring) (low32 value) (sent ++ take k payload) payload (record n { shown = true }))) count_is
    (subst (λ (p : ℕ). IsLawful (writing (on_words r orders (slice_set words (index_of orders (prod_word ring)) value) ring) p (sent ++ take n.stored payload) payload (record n { shown = true }))) (sym low) then_lawful)
  where
    cons_prod : (ring : Ring) → cons_word ring ≢ prod_word ring
    cons_prod Left e = cc
    cons_prod Right e = cc

-- what its index owes, with its own count
prod_room : (e : Standing) (order : Order) (prod was : ℕ) (n : TrailSummary) (value : ℕ) (owes : StoresProd e n value) → order_of e.orders (written_ring e.role) ≡ order → prod ≡ cond n.shown was e.prod →
    (n.stored ≤ room prod owes.index order) × (value ≡ (prod + n.stored) % 2 ^ 32)
prod_room e order prod was n value owes order_is prod_is =
    let same : prod ≡ e.prod = not_yet n.shown was e.prod prod owes.not_shown prod_is in (
      subst (λ (p : ℕ). n.stored ≤ room p owes.index order) (sym same) (subst (λ (o : Order). n.stored ≤ room e.prod owes.index o) order_is owes.had_room),
      owes.is ∙ ap (λ (p : ℕ). (p + n.stored) % 2 ^ 32) (sym same),
    )

wrote_stored : (word : WordName) (role : Role) (value : ℕ) (r : Channel) (orders : Orders) (words : List ℕ) (e : Standing) (prod was : ℕ) (sent payload : List ℕ) (trail : List PastEvent) (n : TrailSummary) →
    r.order ≡ order_of orders (written_ring role) → length words ≡ word_count orders → Has orders word → order_of e.orders (written_ring e.role) ≡ r.order → prod ≡ cond n.shown was e.prod → n.stored ≡ count_stored trail →
    count_stored trail ≤ length payload → AreBytes payload → OwesStored word role e n value →
    IsLawful (writing (on_words r orders words (written_ring role)) prod sent payload n) →
    IsLawful (writing (on_words r orders (slice_set words (index_of orders word) value) (written_ring role)) (prod_stored word role value prod) (sent_stored word role trail payload sent) payload (summary_stored word role value n))
wrote_stored LeftProd Client value r orders words e prod was sent payload trail n order sized has order_is prod_is count_is enough bytes owes w =
    let fits = prod_room e r.order prod was n value owes order_is prod_is in
    wrote_index Left r orders words prod sent payload n owes.index value (count_stored trail) order sized owes.seen owes.not_shown fits.0 fits.1 count_is enough bytes w
wrote_stored RightProd Server value r orders words e prod was sent payload trail n order sized has order_is prod_is count_is enough bytes owes w =
    let fits = prod_room e r.order prod was n value owes order_is prod_is in
    wrote_index Right r orders words prod sent payload n owes.index value (count_stored trail) order sized owes.seen owes.not_shown fits.0 fits.1 count_is enough bytes w
wrote_stored LeftProd Server value r orders words e prod was sent payload trail n order sized has order_is prod_is count_is enough bytes owes w = absurd owes
wrote_stored RightProd Client value r orders words e prod was sent payload trail n order sized has order_is prod_is count_is enough bytes owes w = absurd owes
wrote_stored LeftCons Client value r orders words e prod was sent payload trail n order sized has order_is prod_is count_is enough bytes owes w = absurd owes
wrote_stored RightCons Server value r orders words e prod was sent payload trail n order sized has order_is prod_is count_is enough bytes owes w = absurd owes
wrote_stored LeftCons Server value r orders words e prod was sent payload trail n order sized has order_is prod_is count_is enough bytes owes w =
    lawful_elsewhere (writing r prod sent payload n) orders words Right LeftCons value order tt tt w
wrote_stored RightCons Client value r orders words e prod was sent payload trail n order sized has order_is prod_is count_is enough bytes owes w =
    lawful_elsewhere (writing r prod sent payload n) orders words Left RightCons value order tt tt w
wrote_stored (RingByte ring at) role value r orders words e prod was sent payload trail n order sized has order_is prod_is count_is enough bytes owes w = absurd owes
wrote_stored CliLive Client zero r orders words e prod was sent payload trail n order sized has order_is prod_is count_is enough bytes owes w =
    lawful_elsewhere (writing r prod sent payload n) orders words Left CliLive 0 order tt tt w
wrote_stored CliLive Client (suc value) r orders words e prod was sent payload trail n order sized has order_is prod_is count_is enough bytes owes w =
    lawful_elsewhere (writing r prod sent payload n) orders words Left CliLive (suc value) order tt tt w
wrote_stored SrvLive Server zero r orders words e prod was sent payload trail n order sized has order_is prod_is count_is enough bytes owes w =
    lawful_elsewhere (writing r prod sent payload n) orders words Right SrvLive 0 order tt tt w
wrote_stored SrvLive Server (suc value) r orders words e prod was sent payload trail n order sized has order_is prod_is count_is enough bytes owes w =
    lawful_elsewhere (writing r prod sent payload n) orders words Right SrvLive (suc value) order tt tt w
wrote_stored word Server value r orders words e prod was sent payload trail n order sized has order_is prod_is count_is enough bytes owes w =
    lawful_elsewhere (writing r prod sent payload n) orders words Right word value order has tt w
wrote_stored word Client value r orders words e prod was sent payload trail n order sized has order_is prod_is count_is enough bytes owes w =
    lawful_elsewhere (writing r prod sent payload n) orders words Left word value order has tt w

-- ---- the reader's events

-- the reader's part of a channel, by what its call has done so far
abbrev reading : Channel → ℕ → List ℕ → TrailSummary → Channel
reading r cons got n = record r { own_cons = cons; got = got; prods_seen = n.prods_seen; loaded = unreleased n; got_before = length got - cond n.released (length n.loaded) 0 }

read_loaded : (word : WordName) (role : Role) (r : Channel) (cons : ℕ) (got : List ℕ) (n : TrailSummary) (index : ℕ) → (word ≡ prod_word (read_ring role) → index ≡ r.prod) →
    IsLawful (reading r cons got n) → IsLawful (reading r cons got (summary_loaded word role index n))
read_loaded LeftProd Server r cons got n index is w =
    subst (λ (i : ℕ). IsLawful (record (reading r cons got n) { prods_seen = i ∷ n.prods_seen })) (sym (is refl)) (lawful_look_read (reading r cons got n) (omega arith) w)
read_loaded RightProd Client r cons got n index is w =
    subst (λ (i : ℕ). IsLawful (record (reading r cons got n) { prods_seen = i ∷ n.prods_seen })) (sym (is refl)) (lawful_look_read (reading r cons got n) (omega arith) w)
read_loaded LeftCons Client r cons got n index is w = w
read_loaded RightCons Server r cons got n index is w = w
read_loaded _ _ r cons got n index is w = w

-- while it hasn't stored its index, it holds all that it loaded
held_path : (n : TrailSummary) → n.released ≡ false → n ≡ record n { released = false }
held_path n held = ap (λ (b : Bool). record n { released = b }) held

-- it loads a byte
read_byte : (r : Channel) (cons : ℕ) (got : List ℕ) (n : TrailSummary) (index byte : ℕ) (older : List ℕ) → n.prods_seen ≡ index ∷ older → n.released ≡ false → length n.loaded < ready index cons r.order →
    byte ≡ r.bytes (place (cons + length n.loaded) r.order) % 2 ^ 8 →
    IsLawful (reading r cons got n) → IsLawful (reading r cons got (record n { loaded = n.loaded ++ byte ∷ [] }))
read_byte r cons got n index byte older seen held fits is w =
    let was : IsLawful (reading r cons got (record n { released = false })) = subst (λ (m : TrailSummary). IsLawful (reading r cons got m)) (held_path n held) w in
    let none : length got - 0 ≡ length got = omega arith in
    subst (λ (b : Bool). IsLawful (reading r cons got (record n { released = b; loaded = n.loaded ++ byte ∷ [] }))) (sym held)
    (lawful_load_byte (reading r cons got (record n { released = false })) index byte older was none seen fits is)

-- it stores its index
read_index : (ring : Ring) (r : Channel) (orders : Orders) (words : List ℕ) (cons : ℕ) (got : List ℕ) (n : TrailSummary) (value : ℕ) (bytes : List ℕ) → r.order ≡ order_of orders ring → length words ≡ word_count orders →
    n.released ≡ false → value ≡ (cons + length n.loaded) % 2 ^ 32 → n.loaded ≡ bytes →
    IsLawful (reading (on_words r orders words ring) cons got n) →
    IsLawful (reading (on_words r orders (slice_set words (index_of orders (cons_word ring)) value) ring) (low32 value) (got ++ bytes) (record n { released = true }))
read_index ring r orders words cons got n value bytes order sized held is bytes_are w =
    let was : IsLawful (reading (on_words r orders words ring) cons got (record n { released = false })) =
    subst (λ (m : TrailSummary). IsLawful (reading (on_words r orders words ring) cons got m)) (held_path n held) w in
    let stepped = lawful_store_cons (reading (on_words r orders words ring) cons got (record n { released = false })) was in
    let low : low32 value ≡ (cons + length n.loaded) % 2 ^ 32 = omega (arith, is) in
    let before : length got - 0 ≡ length (got ++ n.loaded) - length n.loaded = omega (arith, length-append got n.loaded) in
    let then_lawful : IsLawful (record (reading (on_words r orders (slice_set words (index_of orders (cons_word ring)) value) ring) ((cons + length n.loaded) % 2 ^ 32) (got ++ n.loaded) (record n { released = true })) { got_before = length got - 0 }) =
    lawful_same _ (λ i. word_at orders (slice_set words (index_of orders (cons_word ring)) value) (RingByte ring i)) _ _ stepped
    (λ i below. kept orders words (cons_word ring) (RingByte ring i) value (has_cons orders ring) (subst (λ (o : Order). i < size o) order below) (λ e. cons_byte ring ring i (sym e)))
    (kept orders words (cons_word ring) (prod_word ring) value (has_cons orders ring) (has_prod orders ring) (prod_cons ring))
    (written_there orders words (cons_word ring) value sized (has_cons orders ring) ∙ is) in
    subst (λ (xs : List ℕ). IsLawful (reading (on_words r orders (slice_set words (index_of orders (cons_word ring)) value) ring) (low32 value) (got ++ xs) (record n { released = true }))) bytes_are
    (subst (λ (p : ℕ). IsLawful (reading (on_words r orders (slice_set words (index_of orders (cons_word ring)) value) ring) p (got ++ n.loaded) (record n { released = true }))) (sym low)
    (subst (λ (k : ℕ). IsLawful (record (reading (on_words r orders (slice_set words (index_of orders (cons_word ring)) value) ring) ((cons + length n.loaded) % 2 ^ 32) (got ++ n.loaded) (record n { released = true })) { got_before = k })) before then_lawful))
  where
    prod_cons : (ring : Ring) → prod_word ring ≢ cons_word ring
    prod_cons Left e = cc
    prod_cons Right e = cc

-- what its index owes, with its own count
cons_count : (e : Standing) (cons was : ℕ) (n : TrailSummary) (value : ℕ) (owes : StoresCons e n value) → cons ≡ cond n.released was e.cons → value ≡ (cons + length n.loaded) % 2 ^ 32
cons_count e cons was n value owes cons_is =
    owes.is ∙ ap (λ (p : ℕ). (p + length n.loaded) % 2 ^ 32) (sym (not_yet n.released was e.cons cons owes.not_released cons_is))

read_stored : (word : WordName) (role : Role) (value : ℕ) (r : Channel) (orders : Orders) (words : List ℕ) (e : Standing) (cons was : ℕ) (got : List ℕ) (trail : List PastEvent) (n : TrailSummary) →
    r.order ≡ order_of orders (read_ring role) → length words ≡ word_count orders → Has orders word → cons ≡ cond n.released was e.cons → n.loaded ≡ bytes_loaded trail → OwesStored word role e n value →
    IsLawful (reading (on_words r orders words (read_ring role)) cons got n) →
    IsLawful (reading (on_words r orders (slice_set words (index_of orders word) value) (read_ring role)) (cons_stored word role value cons) (got_stored word role trail got) (summary_stored word role value n))
read_stored LeftCons Server value r orders words e cons was got trail n order sized has cons_is bytes_are owes w =
    read_index Left r orders words cons got n value (bytes_loaded trail) order sized owes.not_released (cons_count e cons was n value owes cons_is) bytes_are w
read_stored RightCons Client value r orders words e cons was got trail n order sized has cons_is bytes_are owes w =
    read_index Right r orders words cons got n value (bytes_loaded trail) order sized owes.not_released (cons_count e cons was n value owes cons_is) bytes_are w
read_stored LeftProd Server value r orders words e cons was got trail n order sized has cons_is bytes_are owes w = absurd owes
read_stored RightProd Client value r orders words e cons was got trail n order sized has cons_is bytes_are owes w = absurd owes
read_stored LeftCons Client value r orders words e cons was got trail n order sized has cons_is bytes_are owes w = absurd owes
read_stored RightCons Server value r orders words e cons was got trail n order sized has cons_is bytes_are owes w = absurd owes
read_stored LeftProd Client value r orders words e cons was got trail n order sized has cons_is bytes_are owes w =
    lawful_elsewhere (reading r cons got n) orders words Right LeftProd value order tt tt w
read_stored RightProd Server value r orders words e cons was got trail n order sized has cons_is bytes_are owes w =
    lawful_elsewhere (reading r cons got n) orders words Left RightProd value order tt tt w
read_stored (RingByte ring at) role value r orders words e cons was got trail n order sized has cons_is bytes_are owes w = absurd owes
read_stored CliLive Client zero r orders words e cons was got trail n order sized has cons_is bytes_are owes w =
    lawful_elsewhere (reading r cons got n) orders words Right CliLive 0 order tt tt w
read_stored CliLive Client (suc value) r orders words e cons was got trail n order sized has cons_is bytes_are owes w =
    lawful_elsewhere (reading r cons got n) orders words Right CliLive (suc value) order tt tt w
read_stored SrvLive Server zero r orders words e cons was got trail n order sized has cons_is bytes_are owes w =
    lawful_elsewhere (reading r cons got n) orders words Left SrvLive 0 order tt tt w
read_stored SrvLive Server (suc value) r orders words e cons was got trail n order sized has cons_is bytes_are owes w =
    lawful_elsewhere (reading r cons got n) orders words Left SrvLive (suc value) order tt tt w
read_stored word Server value r orders words e cons was got trail n order sized has cons_is bytes_are owes w =
    lawful_elsewhere (reading r cons got n) orders words Left word value order has tt w
read_stored word Client value r orders words e cons was got trail n order sized has cons_is bytes_are owes w =
    lawful_elsewhere (reading r cons got n) orders words Right word value order has tt w

-- ---- an event of an end

-- a byte of the ring that an end writes is none of the ring that it reads
other_byte : (role : Role) (at : ℕ) → Elsewhere (read_ring role) (RingByte (written_ring role) at)
other_byte Server at = tt
other_byte Client at = tt

module _ (start : ℕ) (words : List ℕ) (s other : Side) (b : Begun) (c : IsLawfulCall s b) (sized : length words ≡ word_count s.orders) where
  few : count_stored s.trail ≤ length s.payload
  few =
      omega (arith, (counts_within (begun_standing s b) b.call s.trail (rest_after (plan_of (begun_standing s b) b.call) s.trail) c.led).0, stored_most_payload (begun_standing s b) b.call, c.pays)

  -- the ring that it writes
  wrote : (op : Op) → OwesSound (begun_standing s b) (summary s.role s.trail) op → OwesNext s b op → IsLawful (channel_between start s.orders words (written_ring s.role) s other) →
      IsLawful (writing (channel_between start s.orders (words_after s.orders words s.payload op) (written_ring s.role) s other) (prod_after op s.role s.prod) (sent_after op s) s.payload
      (summary_after s.role (summary s.role s.trail) op (value_taken s.orders words op)))
  wrote (Load word) owes counts w =
      subst (λ (new : List ℕ). IsLawful (writing (channel_between start s.orders new (written_ring s.role) s other) s.prod s.sent s.payload (summary_loaded word s.role (low32 (word_at s.orders words word)) (summary s.role s.trail))))
      (sym (loaded_same s.orders words word))
      (wrote_loaded word s.role (channel_between start s.orders words (written_ring s.role) s other) s.prod s.sent s.payload (summary s.role s.trail) (low32 (word_at s.orders words word))
      (λ e. ap (λ (name : WordName). low32 (word_at s.orders words name)) e ∙ low32_index start (length other.got) _ w.cons) w)
  wrote (LoadByte word at) owes counts w =
      subst (λ (new : List ℕ). IsLawful (channel_between start s.orders new (written_ring s.role) s other)) (sym (loaded_same s.orders words word)) w
  wrote (Store word value) owes counts w =
      wrote_stored word s.role value (channel_between start s.orders words (written_ring s.role) s other) s.orders words (begun_standing s b) s.prod _ s.sent s.payload s.trail (summary s.role s.trail)
      refl sized counts.1 refl c.prod (stored_is s.role s.trail) few c.bytes owes w
  wrote (StoreByte word at) owes counts w =
      let same : s.prod ≡ b.prod = not_yet (summary s.role s.trail).shown _ b.prod s.prod owes.not_shown c.prod in
      let there : word ≡ RingByte (written_ring s.role) (place (s.prod + at) (order_of s.orders (written_ring s.role))) =
      owes.word_is ∙ ap (λ (p : ℕ). RingByte (written_ring s.role) (place (p + at) (order_of s.orders (written_ring s.role)))) (sym same) in
      subst (λ (name : WordName). IsLawful (writing (channel_between start s.orders (slice_set words (index_of s.orders name) (slice_index s.payload at)) (written_ring s.role) s other) s.prod s.sent s.payload
      (record (summary s.role s.trail) { stored = (summary s.role s.trail).stored + 1 }))) (sym there)
      (wrote_byte (written_ring s.role) (channel_between start s.orders words (written_ring s.role) s other) s.orders words s.prod s.sent s.payload (summary s.role s.trail) owes.index at refl sized owes.seen owes.not_shown owes.at_is
      (subst (λ (p : ℕ). at < room p owes.index (order_of s.orders (written_ring s.role))) (sym same) owes.has_room) w)
  wrote (Or word bits) owes counts w =
      lawful_elsewhere (channel_between start s.orders words (written_ring s.role) s other) s.orders words (written_ring s.role) word _ refl counts (flag_elsewhere (written_ring s.role) word owes) w
  wrote (And word bits) owes counts w =
      lawful_elsewhere (channel_between start s.orders words (written_ring s.role) s other) s.orders words (written_ring s.role) word _ refl counts (flag_elsewhere (written_ring s.role) word owes) w
  wrote (Swap word value) owes counts w =
      lawful_elsewhere (channel_between start s.orders words (written_ring s.role) s other) s.orders words (written_ring s.role) word _ refl counts (flag_elsewhere (written_ring s.role) word owes) w
  wrote Nothing owes counts w = absurd owes

  -- the ring that it reads
  read : (op : Op) → OwesSound (begun_standing s b) (summary s.role s.trail) op → OwesNext s b op → IsLawful (channel_between start s.orders words (read_ring s.role) other s) →
      IsLawful (reading (channel_between start s.orders (words_after s.orders words s.payload op) (read_ring s.role) other s) (cons_after op s.role s.cons) (got_after op s)
      (summary_after s.role (summary s.role s.trail) op (value_taken s.orders words op)))
  read (Load word) owes counts w =
      subst (λ (new : List ℕ). IsLawful (reading (channel_between start s.orders new (read_ring s.role) other s) s.cons s.got (summary_loaded word s.role (low32 (word_at s.orders words word)) (summary s.role s.trail))))
      (sym (loaded_same s.orders words word))
      (read_loaded word s.role (channel_between start s.orders words (read_ring s.role) other s) s.cons s.got (summary s.role s.trail) (low32 (word_at s.orders words word))
      (λ e. ap (λ (name : WordName). low32 (word_at s.orders words name)) e ∙ low32_index start (length other.sent) _ w.prod) w)
  read (LoadByte word at) owes counts w =
      let same : s.cons ≡ b.cons = not_yet (summary s.role s.trail).released _ b.cons s.cons owes.not_released c.cons in
      let there : word ≡ RingByte (read_ring s.role) (place (s.cons + length (summary s.role s.trail).loaded) (order_of s.orders (read_ring s.role))) =
      owes.word_is ∙ ap (λ (p : ℕ). RingByte (read_ring s.role) (place (p + at) (order_of s.orders (read_ring s.role)))) (sym same)
      ∙ ap (λ (k : ℕ). RingByte (read_ring s.role) (place (s.cons + k) (order_of s.orders (read_ring s.role)))) owes.at_is in
      let waits : length (summary s.role s.trail).loaded < ready owes.index s.cons (order_of s.orders (read_ring s.role)) =
      subst (λ (k : ℕ). k < ready owes.index s.cons (order_of s.orders (read_ring s.role))) owes.at_is (subst (λ (p : ℕ). at < ready owes.index p (order_of s.orders (read_ring s.role))) (sym same) owes.waits) in
      subst (λ (new : List ℕ). IsLawful (reading (channel_between start s.orders new (read_ring s.role) other s) s.cons s.got
      (record (summary s.role s.trail) { loaded = (summary s.role s.trail).loaded ++ word_at s.orders words word % 2 ^ 8 ∷ [] }))) (sym (loaded_same s.orders words word))
      (read_byte (channel_between start s.orders words (read_ring s.role) other s) s.cons s.got (summary s.role s.trail) owes.index (word_at s.orders words word % 2 ^ 8) owes.older owes.seen owes.not_released waits
      (ap (λ (name : WordName). word_at s.orders words name % 2 ^ 8) there) w)
  read (Store word value) owes counts w =
      read_stored word s.role value (channel_between start s.orders words (read_ring s.role) other s) s.orders words (begun_standing s b) s.cons _ s.got s.trail (summary s.role s.trail)
      refl sized counts.1 c.cons (loaded_is s.role s.trail) owes w
  read (StoreByte word at) owes counts w =
      let there : word ≡ RingByte (written_ring s.role) (place (b.prod + at) (order_of s.orders (written_ring s.role))) = owes.word_is in
      lawful_elsewhere (channel_between start s.orders words (read_ring s.role) other s) s.orders words (read_ring s.role) word _ refl counts.2 (subst (λ (name : WordName). Elsewhere (read_ring s.role) name) (sym there) (other_byte s.role _)) w
  read (Or word bits) owes counts w =
      lawful_elsewhere (channel_between start s.orders words (read_ring s.role) other s) s.orders words (read_ring s.role) word _ refl counts (flag_elsewhere (read_ring s.role) word owes) w
  read (And word bits) owes counts w =
      lawful_elsewhere (channel_between start s.orders words (read_ring s.role) other s) s.orders words (read_ring s.role) word _ refl counts (flag_elsewhere (read_ring s.role) word owes) w
  read (Swap word value) owes counts w =
      lawful_elsewhere (channel_between start s.orders words (read_ring s.role) other s) s.orders words (read_ring s.role) word _ refl counts (flag_elsewhere (read_ring s.role) word owes) w
  read Nothing owes counts w = absurd owes

  pub wrote_made : (op : Op) → OwesSound (begun_standing s b) (summary s.role s.trail) op → OwesNext s b op → IsLawful (channel_between start s.orders words (written_ring s.role) s other) →
      IsLawful (channel_between start s.orders (words_after s.orders words s.payload op) (written_ring s.role) (made s op (value_taken s.orders words op)) other)
  wrote_made op owes counts w =
      subst (λ (n : TrailSummary). IsLawful (writing (channel_between start s.orders (words_after s.orders words s.payload op) (written_ring s.role) s other) (prod_after op s.role s.prod) (sent_after op s) s.payload n))
      (sym (summary_push s.role empty_summary s.trail op (value_taken s.orders words op))) (wrote op owes counts w)

  pub read_made : (op : Op) → OwesSound (begun_standing s b) (summary s.role s.trail) op → OwesNext s b op → IsLawful (channel_between start s.orders words (read_ring s.role) other s) →
      IsLawful (channel_between start s.orders (words_after s.orders words s.payload op) (read_ring s.role) other (made s op (value_taken s.orders words op)))
  read_made op owes counts w =
      subst (λ (n : TrailSummary). IsLawful (reading (channel_between start s.orders (words_after s.orders words s.payload op) (read_ring s.role) other s) (cons_after op s.role s.cons) (got_after op s) n))
      (sym (summary_push s.role empty_summary s.trail op (value_taken s.orders words op))) (read op owes counts w)
