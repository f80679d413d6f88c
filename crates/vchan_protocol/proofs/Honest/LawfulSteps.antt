-- A page is lawful when it is opened, and stays so as honest ends begin calls and make their events.
use Rattle.std.proofs.Common.{◌≡◌, ◌≢◌, ℕ, ◌-◌, ◌^◌, ◌<◌, List, [], length, refl, subst, sym, ap, ◌∙◌, arith}
use Rattle.std.proofs.lemmas.List.{length-set, length-replicate}
use Rattle.std.proofs.lemmas.List.Elements.{All-nil}
use Rattle.ring_words.specs.Page.{order_of, word_count}
use Rattle.ring_words.specs.declared.order.Orders.{Orders}
use Rattle.ring_words.specs.declared.page.Role.{Role}
use Rattle.ring_words.specs.declared.page.Role.TheVariants.{Server, Client}
use Rattle.ring_words.specs.declared.page.Ring.{Ring}
use Rattle.ring_words.specs.declared.page.Ring.TheVariants.{Left, Right}
use Rattle.vchan_protocol.specs.declared.call.Call.{Call}
use Rattle.vchan_protocol.specs.declared.call.EndState.{EndState}
use Rattle.vchan_protocol.specs.declared.call.EndState.TheVariants.{Shut}
use Rattle.vchan_protocol.specs.declared.side.Side.{Side}
use Rattle.vchan_protocol.specs.Table.Plan.{Plan, does, answers, GoesOn}
use Rattle.vchan_protocol.specs.Table.Ends.{written_ring, read_ring}
use Rattle.vchan_protocol.specs.Table.Calls.{payload_of, IsAllowed}
use Rattle.vchan_protocol.specs.Table.Apply.{words_after, value_taken}
use Rattle.vchan_protocol.specs.History.Core.{Core, opened, side_of, begins, begun, event, plan_left, op_next, taken_next, plan_next, made, settled}
use Rattle.vchan_protocol.specs.Honest.RingLaw.{IsLawful, ShowsBytes, RingLawful, CallLawful, AreBytes, channel_between, channel_of}
use Rattle.vchan_protocol.specs.Honest.LifeLaw.{LifeLawful}
use Rattle.vchan_protocol.specs.Honest.Lawful.{Lawful, IsEnd}
use Rattle.vchan_protocol.specs.Honest.Reached.{MayBegin}
use Rattle.vchan_protocol.proofs.Honest.ChannelLaws.{lawful_begin_write, lawful_begin_read}
use Rattle.vchan_protocol.proofs.Honest.EndSteps.{in_lawful, owes_now, counts_now, call_begins, call_goes_on, puts_within, takes_within}
use Rattle.vchan_protocol.proofs.Honest.RingSteps.{wrote_made, read_made}
use Rattle.vchan_protocol.proofs.Honest.LifeSides.{life_opened, life_begun}
use Rattle.vchan_protocol.proofs.Honest.LifeSteps.{life_event}

-- ---- the parts of a lawful page

-- all but its lives
record Rings (core : Core) : Type 0 where
  sized : length core.words ≡ word_count core.orders
  said_fits : (core.said.0 < 2 ^ 16) × (core.said.1 < 2 ^ 16)
  server_end : IsEnd Server core.orders core.server
  client_end : IsEnd Client core.orders core.client
  left : RingLawful core Left
  right : RingLawful core Right
  server_call : CallLawful core.server
  client_call : CallLawful core.client

order_written : (role : Role) (orders : Orders) (s : Side) → IsEnd role orders s → order_of orders (written_ring role) ≡ order_of s.orders (written_ring s.role)
order_written role orders s is = ap (λ (r : Role). order_of orders (written_ring r)) (sym is.role_is) ∙ ap (λ (o : Orders). order_of o (written_ring s.role)) (sym is.orders_are)

order_read : (role : Role) (orders : Orders) (s : Side) → IsEnd role orders s → order_of orders (read_ring role) ≡ order_of s.orders (read_ring s.role)
order_read role orders s is = ap (λ (r : Role). order_of orders (read_ring r)) (sym is.role_is) ∙ ap (λ (o : Orders). order_of o (read_ring s.role)) (sym is.orders_are)

-- two lawful rings between ends in lawful calls
rings_of : (core : Core) → length core.words ≡ word_count core.orders → (core.said.0 < 2 ^ 16) × (core.said.1 < 2 ^ 16) → IsEnd Server core.orders core.server → IsEnd Client core.orders core.client → CallLawful core.server → CallLawful core.client →
    IsLawful (channel_of core Left) → IsLawful (channel_of core Right) → Rings core
rings_of core sized said server client server_call client_call left right = record {
  sized = sized;
  said_fits = said;
  server_end = server;
  client_end = client;
  left = record {
    lawful = left;
    puts = puts_within core.client (channel_of core Left) client_call left refl refl (order_written Client core.orders core.client client);
    takes = takes_within core.server (channel_of core Left) server_call left refl refl (order_read Server core.orders core.server server) refl refl;
  };
  right = record {
    lawful = right;
    puts = puts_within core.server (channel_of core Right) server_call right refl refl (order_written Server core.orders core.server server);
    takes = takes_within core.client (channel_of core Right) client_call right refl refl (order_read Client core.orders core.client client) refl refl;
  };
  server_call = server_call;
  client_call = client_call;
}

with_lives : (core : Core) → Rings core → LifeLawful core → Lawful core
with_lives core r lives = record {
  sized = r.sized;
  said_fits = r.said_fits;
  server_end = r.server_end;
  client_end = r.client_end;
  left = r.left;
  right = r.right;
  server_call = r.server_call;
  client_call = r.client_call;
  lives = lives;
}

-- ---- an answer changes nothing of the rings

settled_end : (role : Role) (orders : Orders) (s : Side) (plan : Plan) → IsEnd role orders s → IsEnd role orders (settled s plan)
settled_end role orders s (answers answer) is = record { role_is = is.role_is; orders_are = is.orders_are }
settled_end role orders s (does op next) is = is

settled_writer : (start : ℕ) (orders : Orders) (words : List ℕ) (ring : Ring) (s other : Side) (plan : Plan) →
    IsLawful (channel_between start orders words ring s other) → IsLawful (channel_between start orders words ring (settled s plan) other)
settled_writer start orders words ring s other (answers answer) w = w
settled_writer start orders words ring s other (does op next) w = w

settled_reader : (start : ℕ) (orders : Orders) (words : List ℕ) (ring : Ring) (s other : Side) (plan : Plan) →
    IsLawful (channel_between start orders words ring other s) → IsLawful (channel_between start orders words ring other (settled s plan))
settled_reader start orders words ring s other (answers answer) w = w
settled_reader start orders words ring s other (does op next) w = w

-- ---- an event

module _ (start : ℕ) (orders : Orders) (words : List ℕ) (role : Role) (s other : Side) (is : IsEnd role orders s) (c : CallLawful s) (more : GoesOn (plan_left s)) (sized : length words ≡ word_count orders) where
  -- the end as its page knows it
  same : (P : Orders → Role → Type 0) → P s.orders s.role → P orders role
  same P h = subst (λ (r : Role). P orders r) is.role_is (subst (λ (o : Orders). P o s.role) is.orders_are h)

  next_writes : IsLawful (channel_between start orders words (written_ring role) s other) →
      IsLawful (channel_between start orders (words_after orders words s.payload (op_next s)) (written_ring role) (made s (op_next s) (value_taken orders words (op_next s))) other)
  next_writes =
      same (λ o r. IsLawful (channel_between start o words (written_ring r) s other) →
      IsLawful (channel_between start o (words_after o words s.payload (op_next s)) (written_ring r) (made s (op_next s) (value_taken o words (op_next s))) other))
      (let i = in_lawful s c more in
      wrote_made start words s other i.begun i.lawful (sized ∙ ap word_count (sym is.orders_are)) (op_next s) (owes_now s i more) (counts_now s i more))

  next_reads : IsLawful (channel_between start orders words (read_ring role) other s) →
      IsLawful (channel_between start orders (words_after orders words s.payload (op_next s)) (read_ring role) other (made s (op_next s) (value_taken orders words (op_next s))))
  next_reads =
      same (λ o r. IsLawful (channel_between start o words (read_ring r) other s) →
      IsLawful (channel_between start o (words_after o words s.payload (op_next s)) (read_ring r) other (made s (op_next s) (value_taken o words (op_next s)))))
      (let i = in_lawful s c more in
      read_made start words s other i.begun i.lawful (sized ∙ ap word_count (sym is.orders_are)) (op_next s) (owes_now s i more) (counts_now s i more))

rings_event : (core : Core) (who : Role) → Lawful core → GoesOn (plan_left (side_of core who)) → Rings (event core who)
unfolding event
rings_event core Server h more =
    rings_of _ (length-set core.words _ _ ∙ h.sized) h.said_fits
    (settled_end Server core.orders _ (plan_next core Server) (record { role_is = h.server_end.role_is; orders_are = h.server_end.orders_are })) h.client_end
    (call_goes_on core.server (taken_next core Server) h.server_call more) h.client_call
    (settled_reader core.start core.orders _ Left _ core.client (plan_next core Server) (next_reads core.start core.orders core.words Server core.server core.client h.server_end h.server_call more h.sized h.left.lawful))
    (settled_writer core.start core.orders _ Right _ core.client (plan_next core Server) (next_writes core.start core.orders core.words Server core.server core.client h.server_end h.server_call more h.sized h.right.lawful))
rings_event core Client h more =
    rings_of _ (length-set core.words _ _ ∙ h.sized) h.said_fits
    h.server_end (settled_end Client core.orders _ (plan_next core Client) (record { role_is = h.client_end.role_is; orders_are = h.client_end.orders_are }))
    h.server_call (call_goes_on core.client (taken_next core Client) h.client_call more)
    (settled_writer core.start core.orders _ Left _ core.server (plan_next core Client) (next_writes core.start core.orders core.words Client core.client core.server h.client_end h.client_call more h.sized h.left.lawful))
    (settled_reader core.start core.orders _ Right _ core.server (plan_next core Client) (next_reads core.start core.orders core.words Client core.client core.server h.client_end h.client_call more h.sized h.right.lawful))

pub lawful_event : (core : Core) (who : Role) → Lawful core → GoesOn (plan_left (side_of core who)) → Lawful (event core who)
lawful_event core who h more =
    let r = rings_event core who h more in
    with_lives (event core who) r (life_event core who h h.lives more r.left r.right)

-- ---- a begin

begins_writer : (start : ℕ) (orders : Orders) (words : List ℕ) (ring : Ring) (s other : Side) (call : Call) (payload : List ℕ) →
    IsLawful (channel_between start orders words ring s other) → IsLawful (channel_between start orders words ring (begins s call payload) other)
begins_writer start orders words ring s other call payload w = lawful_begin_write (channel_between start orders words ring s other) payload w

begins_reader : (start : ℕ) (orders : Orders) (words : List ℕ) (ring : Ring) (s other : Side) (call : Call) (payload : List ℕ) →
    IsLawful (channel_between start orders words ring other s) → IsLawful (channel_between start orders words ring other (begins s call payload))
begins_reader start orders words ring s other call payload w = lawful_begin_read (channel_between start orders words ring other s) _ w

begins_call : (role : Role) (orders : Orders) (s : Side) (call : Call) (payload : List ℕ) → IsEnd role orders s → IsAllowed role s.state call → length payload ≡ payload_of call → AreBytes payload →
    CallLawful (begins s call payload)
begins_call role orders s call payload is allowed pays bytes = call_begins s call payload (subst (λ (r : Role). IsAllowed r s.state call) (sym is.role_is) allowed) pays bytes

rings_begun : (core : Core) (who : Role) (call : Call) (payload : List ℕ) → Lawful core → IsAllowed who (side_of core who).state call → length payload ≡ payload_of call → AreBytes payload →
    Rings (begun core who call payload)
rings_begun core Server call payload h allowed pays bytes =
    rings_of _ h.sized h.said_fits (record { role_is = h.server_end.role_is; orders_are = h.server_end.orders_are }) h.client_end
    (begins_call Server core.orders core.server call payload h.server_end allowed pays bytes) h.client_call
    (begins_reader core.start core.orders core.words Left core.server core.client call payload h.left.lawful)
    (begins_writer core.start core.orders core.words Right core.server core.client call payload h.right.lawful)
rings_begun core Client call payload h allowed pays bytes =
    rings_of _ h.sized h.said_fits h.server_end (record { role_is = h.client_end.role_is; orders_are = h.client_end.orders_are })
    h.server_call (begins_call Client core.orders core.client call payload h.client_end allowed pays bytes)
    (begins_writer core.start core.orders core.words Left core.client core.server call payload h.left.lawful)
    (begins_reader core.start core.orders core.words Right core.client core.server call payload h.right.lawful)

pub lawful_begun : (core : Core) (who : Role) (call : Call) (payload : List ℕ) → Lawful core → MayBegin who (side_of core who) call payload → Lawful (begun core who call payload)
lawful_begun core who call payload h may =
    with_lives (begun core who call payload) (rings_begun core who call payload h may.allowed may.pays may.bytes) (life_begun core who call payload h.lives)

-- ---- the opening

ring_opened : (orders : Orders) (start : ℕ) (said : ℕ × ℕ) (state : EndState) (ring : Ring) → start < 2 ^ 32 → IsLawful (channel_of (opened orders start said state) ring)
ring_opened orders start said state Left low = record {
  prod = omega (arith, low);
  cons = omega (arith, low);
  own_prod = omega (arith, low);
  own_cons = omega (arith, low);
  prefix = ([], refl);
  fits = omega arith;
  bytes_sent = All-nil (λ (byte : ℕ). byte < 256);
  waiting = λ i unread below. absurd (omega (arith, below));
  writer_looked = tt;
  writer_stored = λ i below. absurd (omega (arith, below));
  reader_looked = All-nil (ShowsBytes start 0 0 0);
  reader_loaded = ([], refl);
}
ring_opened orders start said state Right low = record {
  prod = omega (arith, low);
  cons = omega (arith, low);
  own_prod = omega (arith, low);
  own_cons = omega (arith, low);
  prefix = ([], refl);
  fits = omega arith;
  bytes_sent = All-nil (λ (byte : ℕ). byte < 256);
  waiting = λ i unread below. absurd (omega (arith, below));
  writer_looked = tt;
  writer_stored = λ i below. absurd (omega (arith, below));
  reader_looked = All-nil (ShowsBytes start 0 0 0);
  reader_loaded = ([], refl);
}

pub lawful_opened : (orders : Orders) (start : ℕ) (said : ℕ × ℕ) (state : EndState) → start < 2 ^ 32 → said.0 < 2 ^ 16 → said.1 < 2 ^ 16 → state ≢ Shut → Lawful (opened orders start said state)
lawful_opened orders start said state low left right open_or_fresh =
    with_lives _
    (rings_of (opened orders start said state) (omega (arith, length-replicate {A = ℕ} (word_count orders - 14) 0)) (left, right) (record { role_is = refl; orders_are = refl }) (record { role_is = refl; orders_are = refl }) tt tt
    (ring_opened orders start said state Left low) (ring_opened orders start said state Right low))
    (life_opened orders start said state open_or_fresh)
