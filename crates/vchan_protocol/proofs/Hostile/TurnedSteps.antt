-- What holds of a page after an end was turned: it holds after the turning, and each event of either end keeps it.
use Rattle.std.proofs.Common.{◌≡◌, ℕ, ◌+◌, ◌%◌, ◌^◌, ◌≤◌, Bool, true, false, cond, None, List, [], ◌++◌, length, take, slice_index, refl, subst, sym, ap, ◌∙◌, arith, append-nil, length-append}
use Rattle.std.proofs.lemmas.Bool.{false≢true}
use Rattle.std.proofs.lemmas.List.{length-set, length-take, take_all, take-append-le}
use Rattle.list_laws.specs.Lists.{IsPrefixOf}
use Rattle.ring_words.specs.Rings.{size, place}
use Rattle.ring_words.specs.Page.{order_of}
use Rattle.ring_words.specs.declared.order.Orders.{Orders}
use Rattle.ring_words.specs.declared.page.Role.{Role}
use Rattle.ring_words.specs.declared.page.Role.TheVariants.{Server, Client}
use Rattle.ring_words.specs.declared.page.WordName.{WordName}
use Rattle.ring_words.specs.declared.page.WordName.TheVariants.{LeftCons, LeftProd, RightCons, RightProd, RingByte}
use Rattle.vchan_protocol.specs.declared.op.Op.{Op}
use Rattle.vchan_protocol.specs.declared.op.Op.TheVariants.{Load, LoadByte, Store, StoreByte, Or, And, Swap, Nothing}
use Rattle.vchan_protocol.specs.declared.call.Call.{Call}
use Rattle.vchan_protocol.specs.declared.side.Side.{Side}
use Rattle.vchan_protocol.specs.declared.side.Begun.{Begun}
use Rattle.vchan_protocol.specs.Table.Plan.{Plan, answers, does, GoesOn, next_op, after}
use Rattle.vchan_protocol.specs.Table.Ends.{prod_after, cons_after, prod_stored, cons_stored, written_ring, read_ring}
use Rattle.vchan_protocol.specs.Table.Calls.{payload_of, IsAllowed}
use Rattle.vchan_protocol.specs.Table.Apply.{words_after, word_of, leaves, value_taken}
use Rattle.vchan_protocol.specs.History.Core.{Core, side_of, with_side, event, begun, begins, plan_left, op_next, taken_next, plan_next, begun_standing, standing_of, made, settled, side_after, sent_after, sent_stored, got_after, got_stored, bytes_loaded, count_stored}
use Rattle.vchan_protocol.specs.Hostile.Turned.{turns, turned_side, strays, strayed}
use Rattle.vchan_protocol.specs.Honest.RingLaw.{index_at, CallLawful, AreBytes}
use Rattle.vchan_protocol.specs.Honest.Lawful.{Lawful, Honest, IsEnd}
use Rattle.vchan_protocol.specs.History.TrailSummary.{summary}
use Rattle.vchan_protocol.specs.Hostile.TurnedLaw.{TurnedLawful, KeepsCounts, ConsumedLawful, ListsStand, ListsGrow, LiesAtCount, turned_core}
use Rattle.vchan_protocol.proofs.Table.Counted.{OwesIndex, counts_within}
use Rattle.vchan_protocol.proofs.History.EventLaws.{OwesNext, stored_most_payload}
use Rattle.vchan_protocol.proofs.Table.Sound.{OwesSound}
use Rattle.vchan_protocol.proofs.Honest.EndSteps.{InLawful, in_lawful, owes_now, counts_now, call_begins, call_goes_on, not_yet}
use Rattle.vchan_protocol.proofs.Honest.LifeOwed.{got_grows}
use Rattle.vchan_protocol.proofs.OneEnd.IndexLaws.{stores_own}
use Rattle.vchan_protocol.specs.History.Peer.{peer}

-- ---- the own counts of an end

-- an index moves on by what comes after a list
index_on : (start count value : ℕ) (list more : List ℕ) → count ≡ index_at start (length list) → value ≡ (count + length more) % 2 ^ 32 → value % 2 ^ 32 ≡ index_at start (length (list ++ more))
index_on start count value list more is stored = omega (arith, is, stored, length-append list more)

prod_on : (start : ℕ) (s : Side) (word : WordName) (role : Role) (value l : ℕ) → s.prod ≡ index_at start (length s.sent) → count_stored s.trail ≤ length s.payload → OwesIndex word role (standing_of s) (count_stored s.trail) l value →
    prod_stored word role value s.prod ≡ index_at start (length (sent_stored word role s.trail s.payload s.sent))
prod_on start s LeftProd Client value l is few owes = index_on start s.prod value s.sent (take (count_stored s.trail) s.payload) is (owes ∙ ap (λ (n : ℕ). (s.prod + n) % 2 ^ 32) (omega (arith, few, length-take (count_stored s.trail) s.payload)))
prod_on start s RightProd Server value l is few owes = index_on start s.prod value s.sent (take (count_stored s.trail) s.payload) is (owes ∙ ap (λ (n : ℕ). (s.prod + n) % 2 ^ 32) (omega (arith, few, length-take (count_stored s.trail) s.payload)))
prod_on start s _ role value l is few owes = is

cons_on : (start : ℕ) (s : Side) (word : WordName) (role : Role) (value k : ℕ) → s.cons ≡ index_at start (length s.got) → OwesIndex word role (standing_of s) k (length (bytes_loaded s.trail)) value →
    cons_stored word role value s.cons ≡ index_at start (length (got_stored word role s.trail s.got))
cons_on start s LeftCons Server value k is owes = index_on start s.cons value s.got (bytes_loaded s.trail) is owes
cons_on start s RightCons Client value k is owes = index_on start s.cons value s.got (bytes_loaded s.trail) is owes
cons_on start s _ role value k is owes = is

made_prod : (start : ℕ) (s : Side) (b : Begun) (op : Op) → s.prod ≡ index_at start (length s.sent) → count_stored s.trail ≤ length s.payload → OwesNext s b op → prod_after op s.role s.prod ≡ index_at start (length (sent_after op s))
made_prod start s b (Store word value) is few owes = prod_on start s word s.role value (length (bytes_loaded s.trail)) is few owes.0
made_prod start s b _ is few owes = is

made_cons : (start : ℕ) (s : Side) (b : Begun) (op : Op) → s.cons ≡ index_at start (length s.got) → OwesNext s b op → cons_after op s.role s.cons ≡ index_at start (length (got_after op s))
made_cons start s b (Store word value) is owes = cons_on start s word s.role value (count_stored s.trail) is owes.0
made_cons start s b _ is owes = is

few_stored : (s : Side) (i : InLawful s) → count_stored s.trail ≤ length s.payload
few_stored s i =
    let e = begun_standing s i.begun in
    omega (arith, (counts_within e i.begun.call s.trail (plan_left s) i.led).0, i.lawful.pays, stored_most_payload e i.begun.call)

settled_counts : (start : ℕ) (s : Side) (plan : Plan) → s.prod ≡ index_at start (length s.sent) → s.cons ≡ index_at start (length s.got) → CallLawful (settled s plan) → KeepsCounts start (settled s plan)
settled_counts start s (answers answer) prod cons call = record { prod = prod; cons = cons; call = call }
settled_counts start s (does op next) prod cons call = record { prod = prod; cons = cons; call = call }

-- an honest end keeps its counts, whatever value it takes
pub counts_go_on : (start : ℕ) (s : Side) (taken : ℕ) → KeepsCounts start s → GoesOn (plan_left s) → KeepsCounts start (side_after s taken)
counts_go_on start s taken h more =
    let i = in_lawful s h.call more in
    settled_counts start (made s (next_op (plan_left s)) taken) (after (plan_left s) taken)
    (made_prod start s i.begun (next_op (plan_left s)) h.prod (few_stored s i) (counts_now s i more))
    (made_cons start s i.begun (next_op (plan_left s)) h.cons (counts_now s i more))
    (call_goes_on s taken h.call more)

-- ---- what an event leaves of an end

pub record Stays (before after_event : Side) : Type 0 where
  pub role : after_event.role ≡ before.role
  pub orders : after_event.orders ≡ before.orders
  pub turned : after_event.turned ≡ before.turned
  pub consumed : after_event.consumed ≡ before.consumed
  pub sent : IsPrefixOf before.sent after_event.sent
  pub got : IsPrefixOf before.got after_event.got

sent_grows : (op : Op) (s : Side) → IsPrefixOf s.sent (sent_after op s)
sent_grows (Store word value) s = go word s.role
  where
    go : (word : WordName) (role : Role) → IsPrefixOf s.sent (sent_stored word role s.trail s.payload s.sent)
    go LeftProd Client = (take (count_stored s.trail) s.payload, refl)
    go RightProd Server = (take (count_stored s.trail) s.payload, refl)
    go _ role = ([], append-nil s.sent)
sent_grows _ s = ([], append-nil s.sent)

pub stays_next : (s : Side) (op : Op) (taken : ℕ) (plan : Plan) → Stays s (settled (made s op taken) plan)
stays_next s op taken (answers answer) = record { role = refl; orders = refl; turned = refl; consumed = refl; sent = sent_grows op s; got = got_grows op s }
stays_next s op taken (does next_does next) = record { role = refl; orders = refl; turned = refl; consumed = refl; sent = sent_grows op s; got = got_grows op s }

is_end : (role : Role) (orders : Orders) (before now : Side) → Stays before now → IsEnd role orders before → IsEnd role orders now
is_end role orders before now stays h = record { role_is = stays.role ∙ h.role_is; orders_are = stays.orders ∙ h.orders_are }

-- a reader that gets more keeps what the writer had sent
prefix_take : (xs ys : List ℕ) (n : ℕ) → n ≤ length xs → IsPrefixOf xs ys → take n ys ≡ take n xs
prefix_take xs ys n within begins = ap (λ (zs : List ℕ). take n zs) (sym begins.1) ∙ take-append-le n xs begins.0 within

reader_gets : (size : ℕ) (writer before now : Side) → IsPrefixOf before.got now.got → ConsumedLawful size writer before → ConsumedLawful size writer now
reader_gets size writer before now grown h = record {
  within = omega (arith, h.within, length-append before.got grown.0, ap (λ (xs : List ℕ). length xs) grown.1);
  fits = h.fits;
  begins = (h.begins.0, ap (λ (xs : List ℕ). xs ++ h.begins.0) (prefix_take before.got now.got writer.consumed h.within grown) ∙ h.begins.1);
}

apart : (b : Bool) → b ≡ true → b ≡ false → ⊥
apart b yes_is no_is = false≢true (sym no_is ∙ yes_is)

sized_after : (orders : Orders) (words payload : List ℕ) (op : Op) (count : ℕ) → length words ≡ count → length (words_after orders words payload op) ≡ count
sized_after orders words payload op count is = length-set words (word_of orders op) (leaves payload op (slice_index words (word_of orders op))) ∙ is

-- ---- an event of an honest end

pub turned_event : (core : Core) (who : Role) → TurnedLawful core → (side_of core who).turned ≡ false → GoesOn (plan_left (side_of core who)) → TurnedLawful (event core who)
unfolding event
turned_event core Server h honest more =
    let stays = stays_next core.server (op_next core.server) (taken_next core Server) (plan_next core Server) in
    record {
      sized = sized_after core.orders core.words core.server.payload (op_next core.server) _ h.sized;
      server_end = is_end Server core.orders core.server _ stays h.server_end;
      client_end = h.client_end;
      server = λ is. counts_go_on core.start core.server (taken_next core Server) (h.server honest) more;
      client = h.client;
      left = λ given is. reader_gets (size core.orders.left) core.client core.server _ stays.got (h.left given honest);
      right = λ given is. absurd (apart core.server.turned (sym stays.turned ∙ given) honest);
    }
turned_event core Client h honest more =
    let stays = stays_next core.client (op_next core.client) (taken_next core Client) (plan_next core Client) in
    record {
      sized = sized_after core.orders core.words core.client.payload (op_next core.client) _ h.sized;
      server_end = h.server_end;
      client_end = is_end Client core.orders core.client _ stays h.client_end;
      server = h.server;
      client = λ is. counts_go_on core.start core.client (taken_next core Client) (h.client honest) more;
      left = λ given is. absurd (apart core.client.turned (sym stays.turned ∙ given) honest);
      right = λ given is. reader_gets (size core.orders.right) core.server core.client _ stays.got (h.right given honest);
    }

pub event_grows : (core : Core) (who : Role) → (side_of (event core who) (peer who) ≡ side_of core (peer who)) × ListsGrow (side_of core who) (side_of (event core who) who)
unfolding event
event_grows core Server =
    let stays = stays_next core.server (op_next core.server) (taken_next core Server) (plan_next core Server) in
    (refl, record { turned = stays.turned; sent = stays.sent; got = stays.got })
event_grows core Client =
    let stays = stays_next core.client (op_next core.client) (taken_next core Client) (plan_next core Client) in
    (refl, record { turned = stays.turned; sent = stays.sent; got = stays.got })

-- ---- a begin

pub turned_begin : (core : Core) (who : Role) (call : Call) (payload : List ℕ) → TurnedLawful core → (side_of core who).turned ≡ false → (side_of core who).call ≡ None → IsAllowed who (side_of core who).state call → length payload ≡ payload_of call → AreBytes payload → TurnedLawful (begun core who call payload)
turned_begin core Server call payload h honest idle allowed pays bytes = record {
  sized = h.sized;
  server_end = record { role_is = h.server_end.role_is; orders_are = h.server_end.orders_are };
  client_end = h.client_end;
  server = λ is. record {
    prod = (h.server honest).prod;
    cons = (h.server honest).cons;
    call = call_begins core.server call payload (subst (λ (r : Role). IsAllowed r core.server.state call) (sym h.server_end.role_is) allowed) pays bytes;
  };
  client = h.client;
  left = λ given is. reader_gets (size core.orders.left) core.client core.server _ ([], append-nil core.server.got) (h.left given honest);
  right = λ given is. absurd (apart core.server.turned given honest);
}
turned_begin core Client call payload h honest idle allowed pays bytes = record {
  sized = h.sized;
  server_end = h.server_end;
  client_end = record { role_is = h.client_end.role_is; orders_are = h.client_end.orders_are };
  server = h.server;
  client = λ is. record {
    prod = (h.client honest).prod;
    cons = (h.client honest).cons;
    call = call_begins core.client call payload (subst (λ (r : Role). IsAllowed r core.client.state call) (sym h.client_end.role_is) allowed) pays bytes;
  };
  left = λ given is. absurd (apart core.client.turned given honest);
  right = λ given is. reader_gets (size core.orders.right) core.server core.client _ ([], append-nil core.client.got) (h.right given honest);
}

-- ---- an end is turned

pub turned_turned_side : (s : Side) (consumed : ℕ) → (turned_side s consumed).turned ≡ true
turned_turned_side s consumed = go s.turned refl
  where
    go : (b : Bool) → s.turned ≡ b → (cond b s (turns s consumed)).turned ≡ true
    go true is = is
    go false is = refl

pub turned_side_honest : (s : Side) (consumed : ℕ) → s.turned ≡ false → turned_side s consumed ≡ turns s consumed
turned_side_honest s consumed honest = ap (λ (b : Bool). cond b s (turns s consumed)) honest

pub turned_side_given : (s : Side) (consumed : ℕ) → s.turned ≡ true → turned_side s consumed ≡ s
turned_side_given s consumed given = ap (λ (b : Bool). cond b s (turns s consumed)) given

-- the ring of a writer that is turned now
now_given : (size : ℕ) (writer reader : Side) → IsPrefixOf reader.got writer.sent → length writer.sent ≤ length reader.got + size → ConsumedLawful size (turns writer (length reader.got)) reader
now_given size writer reader begins fits = record {
  within = omega arith;
  fits = fits;
  begins = (begins.0, ap (λ (xs : List ℕ). xs ++ begins.0) (take_all (length reader.got) reader.got (omega arith)) ∙ begins.1);
}

pub first_turn : (core : Core) (who : Role) → Lawful core → Honest core → TurnedLawful (turned_core core who)
first_turn core Server h honest = subst (λ (s : Side). TurnedLawful (with_side core Server s)) (sym (turned_side_honest core.server (length core.client.got) honest.0)) (record {
  sized = h.sized;
  server_end = record { role_is = h.server_end.role_is; orders_are = h.server_end.orders_are };
  client_end = h.client_end;
  server = λ is. absurd (false≢true (sym is));
  client = λ is. record { prod = h.left.lawful.own_prod; cons = h.right.lawful.own_cons; call = h.client_call };
  left = λ given is. absurd (apart core.client.turned given honest.1);
  right = λ given is. now_given (size core.orders.right) core.server core.client h.right.lawful.prefix h.right.lawful.fits;
})
first_turn core Client h honest = subst (λ (s : Side). TurnedLawful (with_side core Client s)) (sym (turned_side_honest core.client (length core.server.got) honest.1)) (record {
  sized = h.sized;
  server_end = h.server_end;
  client_end = record { role_is = h.client_end.role_is; orders_are = h.client_end.orders_are };
  server = λ is. record { prod = h.right.lawful.own_prod; cons = h.left.lawful.own_cons; call = h.server_call };
  client = λ is. absurd (false≢true (sym is));
  left = λ given is. now_given (size core.orders.left) core.client core.server h.left.lawful.prefix h.left.lawful.fits;
  right = λ given is. absurd (apart core.server.turned given honest.0);
})

pub second_turn : (core : Core) (who : Role) → TurnedLawful core → (side_of core (peer who)).turned ≡ true → TurnedLawful (turned_core core who)
second_turn core Server h other = go core.server.turned refl
  where
    go : (b : Bool) → core.server.turned ≡ b → TurnedLawful (with_side core Server (turned_side core.server (length core.client.got)))
    go true given = subst (λ (s : Side). TurnedLawful (with_side core Server s)) (sym (turned_side_given core.server (length core.client.got) given)) h
    go false honest = subst (λ (s : Side). TurnedLawful (with_side core Server s)) (sym (turned_side_honest core.server (length core.client.got) honest)) (record {
      sized = h.sized;
      server_end = record { role_is = h.server_end.role_is; orders_are = h.server_end.orders_are };
      client_end = h.client_end;
      server = λ is. absurd (false≢true (sym is));
      client = h.client;
      left = λ given is. absurd (false≢true (sym is));
      right = λ given is. absurd (apart core.client.turned other is);
    })
second_turn core Client h other = go core.client.turned refl
  where
    go : (b : Bool) → core.client.turned ≡ b → TurnedLawful (with_side core Client (turned_side core.client (length core.server.got)))
    go true given = subst (λ (s : Side). TurnedLawful (with_side core Client s)) (sym (turned_side_given core.client (length core.server.got) given)) h
    go false honest = subst (λ (s : Side). TurnedLawful (with_side core Client s)) (sym (turned_side_honest core.client (length core.server.got) honest)) (record {
      sized = h.sized;
      server_end = h.server_end;
      client_end = record { role_is = h.client_end.role_is; orders_are = h.client_end.orders_are };
      server = h.server;
      client = λ is. absurd (false≢true (sym is));
      left = λ given is. absurd (apart core.server.turned other is);
      right = λ given is. absurd (false≢true (sym is));
    })

-- ---- an event of a hostile user

pub stray : (core : Core) (who : Role) (op : Op) → TurnedLawful (turned_core core who) → TurnedLawful (strayed core who op)
stray core Server op h =
    let s = turned_side core.server (length core.client.got) in
    record {
      sized = sized_after core.orders core.words [] op _ h.sized;
      server_end = record { role_is = h.server_end.role_is; orders_are = h.server_end.orders_are };
      client_end = h.client_end;
      server = λ is. absurd (apart s.turned (turned_turned_side core.server (length core.client.got)) is);
      client = h.client;
      left = λ given is. absurd (apart s.turned (turned_turned_side core.server (length core.client.got)) is);
      right = λ given is. let r = h.right (turned_turned_side core.server (length core.client.got)) is in record { within = r.within; fits = r.fits; begins = r.begins };
    }
stray core Client op h =
    let s = turned_side core.client (length core.server.got) in
    record {
      sized = sized_after core.orders core.words [] op _ h.sized;
      server_end = h.server_end;
      client_end = record { role_is = h.client_end.role_is; orders_are = h.client_end.orders_are };
      server = h.server;
      client = λ is. absurd (apart s.turned (turned_turned_side core.client (length core.server.got)) is);
      left = λ given is. let r = h.left (turned_turned_side core.client (length core.server.got)) is in record { within = r.within; fits = r.fits; begins = r.begins };
      right = λ given is. absurd (apart s.turned (turned_turned_side core.client (length core.server.got)) is);
    }

pub turned_core_again : (core : Core) (who : Role) → (side_of core who).turned ≡ true → turned_core core who ≡ core
turned_core_again core Server given = ap (λ (s : Side). record core { server = s }) (turned_side_given core.server (length core.client.got) given)
turned_core_again core Client given = ap (λ (s : Side). record core { client = s }) (turned_side_given core.client (length core.server.got) given)

pub stray_again : (core : Core) (who : Role) (op : Op) → TurnedLawful core → (side_of core who).turned ≡ true → TurnedLawful (strayed core who op)
stray_again core who op h given = stray core who op (subst TurnedLawful (sym (turned_core_again core who given)) h)

stands_given : (s : Side) (consumed : ℕ) → s.turned ≡ true → ListsStand s (turned_side s consumed)
stands_given s consumed given = subst (λ (t : Side). ListsStand s t) (sym (turned_side_given s consumed given)) (record { turned = refl; sent = refl; got = refl; consumed = refl })

stands_strayed : (s : Side) (consumed taken : ℕ) (op : Op) → s.turned ≡ true → ListsStand s (strays (turned_side s consumed) op taken)
stands_strayed s consumed taken op given = let h = stands_given s consumed given in record { turned = h.turned; sent = h.sent; got = h.got; consumed = h.consumed }

pub stray_keeps : (core : Core) (who : Role) (op : Op) →
    (side_of (strayed core who op) (peer who) ≡ side_of core (peer who)) × ((side_of (strayed core who op) who).turned ≡ true) × ((side_of core who).turned ≡ true → ListsStand (side_of core who) (side_of (strayed core who op) who))
stray_keeps core Server op = (refl, turned_turned_side core.server (length core.client.got), stands_strayed core.server (length core.client.got) (value_taken core.orders core.words op) op)
stray_keeps core Client op = (refl, turned_turned_side core.client (length core.server.got), stands_strayed core.client (length core.server.got) (value_taken core.orders core.words op) op)

-- ---- the places of an honest end's bytes

pub lies_at_count : (s : Side) → CallLawful s → GoesOn (plan_left s) → LiesAtCount s (op_next s)
lies_at_count s lawful more = go (op_next s) (owes_now s i more) (counts_now s i more)
  where
    i : InLawful s
    i = in_lawful s lawful more

    go : (op : Op) → OwesSound (begun_standing s i.begun) (summary s.role s.trail) op → OwesNext s i.begun op → LiesAtCount s op
    go (StoreByte word at) owes counts =
        (counts.0, owes.word_is ∙ ap (λ (n : ℕ). RingByte (written_ring s.role) (place (n + at) (order_of s.orders (written_ring s.role)))) (sym (not_yet (summary s.role s.trail).shown _ i.begun.prod s.prod owes.not_shown i.lawful.prod)))
    go (LoadByte word at) owes counts =
        (counts.0, owes.word_is ∙ ap (λ (n : ℕ). RingByte (read_ring s.role) (place (n + at) (order_of s.orders (read_ring s.role)))) (sym (not_yet (summary s.role s.trail).released _ i.begun.cons s.cons owes.not_released i.lawful.cons)))
    go (Store word value) owes counts = stores_own s i word value owes
    go (Load word) owes counts = tt
    go (Or word bits) owes counts = tt
    go (And word bits) owes counts = tt
    go (Swap word value) owes counts = tt
    go Nothing owes counts = tt
