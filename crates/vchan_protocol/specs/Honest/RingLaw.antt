-- What holds of one ring of a page between two honest ends, and of the call that an honest end is in.
-- Source: libxenvchan's io.c for what an index shows and releases; the statements are this project's own.
use Rattle.std.specs.Prelude.{◌≡◌, ℕ, ◌+◌, ◌-◌, ◌%◌, ◌^◌, ◌<◌, ◌≤◌, Option, Some, None, IfSome, List, ◌∷◌, ◌++◌, length, slice_index, if◌then◌else◌}
use Rattle.std.specs.List.{All}
use Rattle.list_laws.specs.Lists.{IsPrefixOf}
use Rattle.ring_words.specs.Rings.{size, place}
use Rattle.ring_words.specs.Page.{index_of, order_of}
use Rattle.ring_words.specs.declared.order.Order.{Order}
use Rattle.ring_words.specs.declared.order.Orders.{Orders}
use Rattle.ring_words.specs.declared.page.Ring.{Ring}
use Rattle.ring_words.specs.declared.page.WordName.{WordName}
use Rattle.ring_words.specs.declared.page.WordName.TheVariants.{RingByte}
use Rattle.vchan_protocol.specs.declared.call.EndState.TheVariants.{Shut}
use Rattle.vchan_protocol.specs.declared.side.Side.{Side}
use Rattle.vchan_protocol.specs.declared.side.Begun.{Begun}
use Rattle.vchan_protocol.specs.Table.Plan.{Plan, Leads, GoesOn, rest_after}
use Rattle.vchan_protocol.specs.Table.Ends.{prod_word, cons_word}
use Rattle.vchan_protocol.specs.Table.Calls.{plan_of, payload_of, put_bytes, put_index, take_bytes, take_index, IsAllowed}
use Rattle.vchan_protocol.specs.History.Core.{Core, writer_of, reader_of, begun_standing, standing_of, standing_along, plan_left}
use Rattle.vchan_protocol.specs.History.TrailSummary.{summary, unshown, unreleased}

-- each number of a list is a byte
abbrev pub AreBytes : List ℕ → Type 0
AreBytes = All (λ byte. byte < 256)

-- an index after this many bytes
abbrev pub index_at : ℕ → ℕ → ℕ
index_at start count = (start + count) % 2 ^ 32

-- what the word of this name holds
abbrev pub word_at : Orders → List ℕ → WordName → ℕ
word_at orders words name = slice_index words (index_of orders name)

-- ---- one ring

-- a ring between its two ends
pub record Channel : Type 0 where
  pub start : ℕ
  pub order : Order
  -- the words of its bytes by their places, and of its two indices
  pub bytes : ℕ → ℕ
  pub prod : ℕ
  pub cons : ℕ
  pub sent : List ℕ
  pub got : List ℕ
  -- the writer: its own count, the consumer index that its call loaded last, its payload, how much of it is stored and not shown yet
  pub own_prod : ℕ
  pub cons_seen : Option ℕ
  pub payload : List ℕ
  pub stored : ℕ
  -- the reader: its own count, the producer indices that its call loaded, the bytes that it loaded and hasn't released yet, how much it had got before its call released any
  pub own_cons : ℕ
  pub prods_seen : List ℕ
  pub loaded : List ℕ
  pub got_before : ℕ

-- how much an end had got before its call released any place
abbrev pub got_before : Side → ℕ
got_before s = length s.got - (if (summary s.role s.trail).released then length (summary s.role s.trail).loaded else 0)

-- a ring of these words, between this writer and this reader
abbrev pub channel_between : ℕ → Orders → List ℕ → Ring → Side → Side → Channel
channel_between start orders words ring writer reader = record {
  start = start;
  order = order_of orders ring;
  bytes = λ at. word_at orders words (RingByte ring at);
  prod = word_at orders words (prod_word ring);
  cons = word_at orders words (cons_word ring);
  sent = writer.sent;
  got = reader.got;
  own_prod = writer.prod;
  cons_seen = (summary writer.role writer.trail).cons_seen;
  payload = writer.payload;
  stored = unshown (summary writer.role writer.trail);
  own_cons = reader.cons;
  prods_seen = (summary reader.role reader.trail).prods_seen;
  loaded = unreleased (summary reader.role reader.trail);
  got_before = got_before reader;
}

-- a ring of a core state
abbrev pub channel_of : Core → Ring → Channel
channel_of core ring = channel_between core.start core.orders core.words ring (writer_of core ring) (reader_of core ring)

-- the consumer index is that of a moment at which no more was got than now, and leaves room for this many bytes after those sent
pub record LeavesRoom (start size sent got more index : ℕ) : Type 0 where
  pub count : ℕ
  pub is : index ≡ index_at start count
  pub within : count ≤ got
  pub room : sent + more ≤ count + size

-- the producer index is that of a moment at which no more was sent than now, and shows this many bytes after those got
pub record ShowsBytes (start sent got more index : ℕ) : Type 0 where
  pub count : ℕ
  pub is : index ≡ index_at start count
  pub unread : got + more ≤ count
  pub within : count ≤ sent

-- what holds of a ring at each moment, while both its ends are honest
pub record IsLawful (r : Channel) : Type 0 where
  -- the indices and the own counts are the lengths of the lists, from the start on
  pub prod : r.prod ≡ index_at r.start (length r.sent)
  pub cons : r.cons ≡ index_at r.start (length r.got)
  pub own_prod : r.own_prod ≡ index_at r.start (length r.sent)
  pub own_cons : r.own_cons ≡ index_at r.start (length r.got)
  -- what was got is the beginning of what was sent, and the rest fits the ring
  pub prefix : IsPrefixOf r.got r.sent
  pub fits : length r.sent ≤ length r.got + size r.order
  pub bytes_sent : AreBytes r.sent
  -- what waits stands in the ring
  pub waiting : (i : ℕ) → length r.got ≤ i → i < length r.sent → r.bytes (place (r.start + i) r.order) ≡ slice_index r.sent i
  -- the writer may rely on the consumer index that it loaded last, and what it stored stands after what was sent
  pub writer_looked : IfSome r.cons_seen (LeavesRoom r.start (size r.order) (length r.sent) (length r.got) 0)
  pub writer_stored : (i : ℕ) → i < r.stored → r.bytes (place (r.start + length r.sent + i) r.order) ≡ slice_index r.payload i
  -- the reader may rely on each producer index that it loaded, and what it loaded comes in `sent` after what was got
  pub reader_looked : All (ShowsBytes r.start (length r.sent) r.got_before 0) r.prods_seen
  pub reader_loaded : IsPrefixOf (r.got ++ r.loaded) r.sent

-- inside a PUT of k bytes, its index not stored yet
pub record IsPutting (s : Side) (k : ℕ) : Type 0 where
  pub begun : Begun
  pub is : s.call ≡ Some begun
  pub then_does : Plan
  pub rest_is : plan_left s ≡ put_bytes (begun_standing s begun) (summary s.role s.trail).stored (k - (summary s.role s.trail).stored) (put_index (begun_standing s begun) k then_does)

-- inside a TAKE of k bytes, its index not stored yet
pub record IsTaking (s : Side) (k : ℕ) : Type 0 where
  pub begun : Begun
  pub is : s.call ≡ Some begun
  pub then_does : Plan
  pub rest_is : plan_left s ≡ take_bytes (begun_standing s begun) (length (summary s.role s.trail).loaded) (k - length (summary s.role s.trail).loaded) (take_index (begun_standing s begun) k then_does)

-- the index that a writer loaded last leaves room for this many bytes
pub record HasRoom (r : Channel) (more : ℕ) : Type 0 where
  pub index : ℕ
  pub seen : r.cons_seen ≡ Some index
  pub leaves : LeavesRoom r.start (size r.order) (length r.sent) (length r.got) more index

-- the index that a reader loaded last shows this many bytes
pub record HasBytes (r : Channel) (more : ℕ) : Type 0 where
  pub index : ℕ
  pub older : List ℕ
  pub seen : r.prods_seen ≡ index ∷ older
  pub shows : ShowsBytes r.start (length r.sent) (length r.got) more index

-- a ring is lawful, its writer puts no more than there is room for, and its reader takes no more than waits
pub record RingLawful (core : Core) (ring : Ring) : Type 0 where
  pub lawful : IsLawful (channel_of core ring)
  pub puts : (k : ℕ) → IsPutting (writer_of core ring) k → HasRoom (channel_of core ring) k
  pub takes : (k : ℕ) → IsTaking (reader_of core ring) k → HasBytes (channel_of core ring) k

-- ---- a call

-- the call that an end is in: it was allowed, its events are those of its plan, and the end stands as they left it
pub record IsLawfulCall (s : Side) (b : Begun) : Type 0 where
  pub allowed : IsAllowed s.role b.state b.call
  pub led : Leads (plan_of (begun_standing s b) b.call) s.trail (rest_after (plan_of (begun_standing s b) b.call) s.trail)
  pub goes_on : GoesOn (rest_after (plan_of (begun_standing s b) b.call) s.trail)
  pub pays : length s.payload ≡ payload_of b.call
  pub bytes : AreBytes s.payload
  pub stands : standing_along (begun_standing s b) s.trail ≡ standing_of s
  -- its state is the one in which it began the call, and shut once it stored 0 in its live byte
  pub state : s.state ≡ (if (summary s.role s.trail).closed then Shut else b.state)
  -- its counts are those with which it began the call, and go on by what it moved once it stored the index
  pub prod : s.prod ≡ (if (summary s.role s.trail).shown then (b.prod + (summary s.role s.trail).stored) % 2 ^ 32 else b.prod)
  pub cons : s.cons ≡ (if (summary s.role s.trail).released then (b.cons + length (summary s.role s.trail).loaded) % 2 ^ 32 else b.cons)

-- no call, or a lawful one
abbrev pub IsLawfulIn : Side → Option Begun → Type 0
IsLawfulIn s None = Unit {0}
IsLawfulIn s (Some b) = IsLawfulCall s b

-- an end is between two calls, or in a lawful one
abbrev pub CallLawful : Side → Type 0
CallLawful s = IsLawfulIn s s.call
