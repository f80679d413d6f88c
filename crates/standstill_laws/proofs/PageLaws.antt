-- A page at a standstill has nothing in its rings.
use Rattle.std.proofs.Common.{◌≡◌, ℕ, ◌+◌, ◌-◌, ◌<◌, ◌≤◌, List, [], ◌∷◌, length, Option, Some, None, refl, subst, sym, ap, ◌∙◌, arith}
use Rattle.std.specs.Prelude.{IsSomeAnd}
use Rattle.std.proofs.lemmas.Bool.Decides.{nat_tests}
use Rattle.list_laws.proofs.Prefixes.{prefix_length, prefix_all}
use Rattle.ring_words.specs.declared.order.Order.{Order}
use Rattle.ring_words.specs.declared.order.Orders.{Orders}
use Rattle.ring_words.specs.declared.page.Role.{Role}
use Rattle.ring_words.specs.declared.page.Role.TheVariants.{Server, Client}
use Rattle.ring_words.specs.declared.page.Ring.{Ring}
use Rattle.ring_words.specs.declared.page.Ring.TheVariants.{Left, Right}
use Rattle.ring_words.specs.Page.{order_of}
use Rattle.ring_words.specs.Rings.{size, ready, room}
use Rattle.ring_words.proofs.RingLaws.{diff_counts, size_within}
use Rattle.vchan_protocol.specs.declared.call.Answer.TheVariants.{Full, NoRoom, NotYet, Space}
use Rattle.vchan_protocol.specs.declared.call.EndState.{EndState}
use Rattle.vchan_protocol.specs.declared.call.EndState.TheVariants.{Fresh, Open, Shut}
use Rattle.vchan_protocol.specs.Table.Ends.{Standing, read_ring, written_ring, read_order, write_order, peer_live, low8}
use Rattle.vchan_protocol.specs.Answering.Loads.{Loads, Pair, first_of, last_pair}
use Rattle.vchan_protocol.specs.Answering.Causes.{DrainCause, WriteCause, SendCause, FoundNone, waiting_at, room_at, drain_got, drain_all_read, drain_not_yet, drain_peer_gone, write_closed, wrote_none, write_full, wrote_some, send_closed, send_no_room, sent_all}
use Rattle.vchan_protocol.specs.History.Core.{Core, opened, side_of, writer_of, reader_of, standing_of}
use Rattle.vchan_protocol.specs.History.Page.{live_word}
use Rattle.vchan_protocol.specs.Honest.Lawful.{Lawful}
use Rattle.vchan_protocol.specs.Honest.RingLaw.{IsLawful, channel_of, index_at, word_at}
use Rattle.vchan_protocol.proofs.Honest.LawfulSteps.{lawful_opened}
use Rattle.vchan_protocol.specs.History.Peer.{peer}
use Rattle.standstill_laws.specs.Page.{FoundNothing, RoomLacks, IsFull, HasNoRoom, HasLess, FoundNoRoom, FoundPeerShut, PageStandsStill, StillPagesAreThere}

-- ---- the numbers of a ring

ready_is : (start got sent : ℕ) (order : Order) → got ≤ sent → sent ≤ got + size order → ready (index_at start sent) (index_at start got) order ≡ sent - got
unfolding ready
ready_is start got sent order past fits =
    let s = size_within order in
    let d = diff_counts start sent got past (omega (arith, s.0, s.1)) in
    grind (arith, nat_tests)

room_is : (start got sent : ℕ) (order : Order) → got ≤ sent → sent ≤ got + size order → room (index_at start sent) (index_at start got) order ≡ size order - (sent - got)
unfolding room
room_is start got sent order past fits =
    let s = size_within order in
    let d = diff_counts start sent got past (omega (arith, s.0, s.1)) in
    grind (arith, nat_tests)

-- ---- what a call found

last_none : (e : Standing) (pairs : List Pair) (last : Pair) → first_of pairs ≡ Some last → FoundNone e pairs → waiting_at e last ≡ 0
last_none e [] last is none = cc
last_none e (pair ∷ older) last is none = let same : pair ≡ last = cc in subst (λ (p : Pair). waiting_at e p ≡ 0) same none.0

-- no byte waits by the indices with which a drain answered that there is none
nothing_waits : (e : Standing) (most : ℕ) (loads : Loads) (prod cons : ℕ) → DrainCause e most loads (NotYet prod cons) → ready prod cons (read_order e) ≡ 0
nothing_waits e most loads prod cons (drain_got last older pairs none not_all some is) = cc
nothing_waits e most loads prod cons (drain_all_read all is) = cc
nothing_waits e most loads prod cons (drain_not_yet last last_is none not_all here is) =
    let p : last.prod ≡ prod = cc in
    let c : last.cons ≡ cons = cc in
    let zero_is = last_none e loads.pairs last last_is none in
    ap (λ (n : ℕ). ready n cons (read_order e)) (sym p) ∙ ap (λ (n : ℕ). ready last.prod n (read_order e)) (sym c) ∙ zero_is
nothing_waits e most loads prod cons (drain_peer_gone last last_is none not_all gone is) = cc

-- there is less room than the ring has bytes
room_lacks : (e : Standing) (loads : Loads) (prod cons : ℕ) → RoomLacks e loads prod cons → room prod cons (write_order e) < size (write_order e)
room_lacks e loads prod cons (IsFull n cause) = by cause
  where
    by : WriteCause e n loads (Full prod cons) → room prod cons (write_order e) < size (write_order e)
    by (write_closed shut is) = cc
    by (wrote_none there zero_is is) = cc
    by (write_full last last_is there some none is) =
        let p : last.prod ≡ prod = cc in
        let c : last.cons ≡ cons = cc in
        let here : room prod cons (write_order e) ≡ 0 = ap (λ (n : ℕ). room n cons (write_order e)) (sym p) ∙ ap (λ (n : ℕ). room last.prod n (write_order e)) (sym c) ∙ none in
        let s = size_within (write_order e) in
        omega (arith, here, s.0)
    by (wrote_some last last_is there some room is) = cc
room_lacks e loads prod cons (HasNoRoom n fits cause) = by cause
  where
    by : SendCause e n loads (NoRoom prod cons) → room prod cons (write_order e) < size (write_order e)
    by (send_closed shut is) = cc
    by (send_no_room last last_is there less is) =
        let p : last.prod ≡ prod = cc in
        let c : last.cons ≡ cons = cc in
        let here : room prod cons (write_order e) < n = subst (λ (k : ℕ). room k cons (write_order e) < n) p (subst (λ (k : ℕ). room last.prod k (write_order e) < n) c less) in
        omega (arith, here, fits)
    by (sent_all last last_is there enough is) = cc
room_lacks e loads prod cons (HasLess n left fits less last_is cause) = by (last_pair loads) last_is cause
  where
    by : (o : Option Pair) → o ≡ Some (record { prod = prod; cons = cons }) → IsSomeAnd o (λ last. Space left ≡ Space (room_at e last)) → room prod cons (write_order e) < size (write_order e)
    by None last_is tells = cc
    by (Some last) last_is tells =
        let p : last.prod ≡ prod = cc in
        let c : last.cons ≡ cons = cc in
        let found : room_at e last ≡ left = cc in
        let here : room prod cons (write_order e) ≡ left = ap (λ (k : ℕ). room k cons (write_order e)) (sym p) ∙ ap (λ (k : ℕ). room last.prod k (write_order e)) (sym c) ∙ found in
        omega (arith, here, fits, less)

-- ---- a ring

ring_lawful : (core : Core) → Lawful core → (ring : Ring) → IsLawful (channel_of core ring)
ring_lawful core l Left = l.left.lawful
ring_lawful core l Right = l.right.lawful

order_is : (core : Core) (who : Role) (e : Standing) → (e.role ≡ who) × (e.orders ≡ core.orders) → read_order e ≡ order_of core.orders (read_ring who)
order_is core who e is = ap (λ (o : Orders). order_of o (read_ring e.role)) is.1 ∙ ap (λ (r : Role). order_of core.orders (read_ring r)) is.0

write_order_is : (core : Core) (who : Role) (e : Standing) → (e.role ≡ who) × (e.orders ≡ core.orders) → write_order e ≡ order_of core.orders (written_ring who)
write_order_is core who e is = ap (λ (o : Orders). order_of o (written_ring e.role)) is.1 ∙ ap (λ (r : Role). order_of core.orders (written_ring r)) is.0

-- all that was sent was got, where the reader's drain found nothing
all_got : (core : Core) (who : Role) → Lawful core → FoundNothing core who → (reader_of core (read_ring who)).got ≡ (writer_of core (read_ring who)).sent
all_got core who l f =
    let r = ring_lawful core l (read_ring who) in
    let got : List ℕ = (reader_of core (read_ring who)).got in
    let sent : List ℕ = (writer_of core (read_ring who)).sent in
    let none : ready f.prod f.cons (read_order f.begun) ≡ 0 = nothing_waits f.begun f.most f.loads f.prod f.cons f.cause in
    let here : ready (index_at core.start (length sent)) (index_at core.start (length got)) (order_of core.orders (read_ring who)) ≡ 0 =
    ap (λ (n : ℕ). ready n (index_at core.start (length got)) (order_of core.orders (read_ring who))) (sym (f.still.0 ∙ r.prod))
    ∙ ap (λ (n : ℕ). ready f.prod n (order_of core.orders (read_ring who))) (sym (f.still.1 ∙ r.cons))
    ∙ ap (λ (o : Order). ready f.prod f.cons o) (sym (order_is core who f.begun f.stood)) ∙ none in
    let past = prefix_length got sent r.prefix in
    let is = ready_is core.start (length got) (length sent) (order_of core.orders (read_ring who)) past r.fits in
    prefix_all got sent r.prefix (omega (arith, here, is))

-- then its writer lacks no room
no_lack : (core : Core) (who : Role) → Lawful core → (reader_of core (written_ring who)).got ≡ (writer_of core (written_ring who)).sent → ¬ FoundNoRoom core who
no_lack core who l all f =
    let r = ring_lawful core l (written_ring who) in
    let got : List ℕ = (reader_of core (written_ring who)).got in
    let sent : List ℕ = (writer_of core (written_ring who)).sent in
    let lacks = room_lacks f.begun f.loads f.prod f.cons f.lacks in
    let order = write_order_is core who f.begun f.stood in
    let here : room (index_at core.start (length sent)) (index_at core.start (length got)) (order_of core.orders (written_ring who)) < size (order_of core.orders (written_ring who)) =
    subst (λ (n : ℕ). room n (index_at core.start (length got)) (order_of core.orders (written_ring who)) < size (order_of core.orders (written_ring who))) (f.still.0 ∙ r.prod)
    (subst (λ (n : ℕ). room f.prod n (order_of core.orders (written_ring who)) < size (order_of core.orders (written_ring who))) (f.still.1 ∙ r.cons)
    (subst (λ (o : Order). room f.prod f.cons o < size o) order lacks)) in
    let same : length got ≡ length sent = ap (λ (l : List ℕ). length l) all in
    let is = room_is core.start (length got) (length sent) (order_of core.orders (written_ring who)) (omega (arith, same)) (omega (arith, same)) in
    omega (arith, here, is, same)

-- ---- lives

live_told : (core : Core) → Lawful core → (who : Role) → word_at core.orders core.words (peer_live who) ≡ live_word (side_of core (peer who)).state
live_told core l Server = l.lives.client_words.live
live_told core l Client = l.lives.server_words.live

zero_is_shut : (state : EndState) → low8 (live_word state) ≡ 0 → state ≡ Shut
zero_is_shut Fresh is = cc
zero_is_shut _ is = cc

found_shut : (core : Core) → Lawful core → (who : Role) → FoundPeerShut core who → (side_of core (peer who)).state ≡ Shut
found_shut core l who f =
    let same : Some (low8 (word_at core.orders core.words (peer_live who))) ≡ Some 0 = sym f.still ∙ f.shut in
    let low : low8 (word_at core.orders core.words (peer_live who)) ≡ 0 = cc in
    zero_is_shut (side_of core (peer who)).state (ap low8 (sym (live_told core l who)) ∙ low)

-- ---- the law

pub stands_still : PageStandsStill
stands_still core l server client = record {
  server_got = all_got core Server l server;
  client_got = all_got core Client l client;
  has_room = λ who. by_role who;
  is_shut = λ who f. found_shut core l who f;
}
  where
    by_role : (who : Role) → ¬ FoundNoRoom core who
    by_role Server = no_lack core Server l (all_got core Client l client)
    by_role Client = no_lack core Client l (all_got core Server l server)

-- ---- a page that was just opened

-- what a drain of it loaded: the peer's index, that the peer is open, and that it is here
abbrev first_loads : Loads
first_loads = record { pairs = record { prod = 0; cons = 0 } ∷ []; next_pair = Some (record { prod = 0; cons = 0 }); live = Some 1; gone = Some 0; left_order = None; right_order = None; pending = None }

first_drain : (e : Standing) → DrainCause e 1 first_loads (NotYet 0 0)
first_drain e = drain_not_yet (record { prod = 0; cons = 0 }) refl (ready_is 0 0 0 (read_order e) (omega arith) (omega arith), tt) (λ all. let shut = all.0 in cc) refl refl

abbrev opened_core : Orders → Core
opened_core orders = opened orders 0 (0, 0) Open

pub still_pages_are_there_lem : (orders : Orders) → StillPagesAreThere orders
still_pages_are_there_lem orders = (
  opened_core orders,
  record {
    lawful = lawful_opened orders 0 (0, 0) Open (omega arith) (omega arith) (omega arith) (λ is. cc);
    server_opened = λ is. cc;
    client_opened = λ is. cc;
    server_found = record { begun = standing_of (opened_core orders).server; stood = (refl, refl); most = 1; loads = first_loads; prod = 0; cons = 0; cause = first_drain (standing_of (opened_core orders).server); still = (refl, refl) };
    client_found = record { begun = standing_of (opened_core orders).client; stood = (refl, refl); most = 1; loads = first_loads; prod = 0; cons = 0; cause = first_drain (standing_of (opened_core orders).client); still = (refl, refl) };
  },
  refl,
)
