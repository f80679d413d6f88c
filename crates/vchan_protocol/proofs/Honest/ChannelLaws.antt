-- What an event on a ring does to it keeps it lawful.
use Rattle.std.proofs.Common.{◌≡◌, ◌≢◌, ℕ, ◌+◌, ◌-◌, ◌%◌, ◌^◌, ◌<◌, ◌≤◌, inl, inr, List, [], ◌∷◌, ◌++◌, length, get_or, take, slice_index, Option, Some, None, IfSome, refl, subst, sym, ap, ◌∙◌, arith, append_assoc, append-nil}
use Rattle.std.specs.List.{All}
use Rattle.std.proofs.lemmas.List.{get_or_append_left, get_or-append_right, get_or-take, length-take, length-append}
use Rattle.std.proofs.lemmas.List.Elements.{All-nil, All-cons, All-head, All-append, All-take}
use Rattle.std.proofs.lemmas.Bool.{cases_lt}
use Rattle.std.proofs.lemmas.Bool.Decides.{nat_tests}
use Rattle.list_laws.specs.Lists.{IsPrefixOf}
use Rattle.list_laws.proofs.Prefixes.{prefix_length}
use Rattle.ring_words.specs.declared.order.Order.{Order}
use Rattle.ring_words.specs.Rings.{size, place, room, ready}
use Rattle.ring_words.proofs.RingLaws.{place_apart, diff_counts, size_within, place_wraps, place_within}
use Rattle.vchan_protocol.specs.Honest.RingLaw.{Channel, IsLawful, LeavesRoom, ShowsBytes, AreBytes, index_at}

-- ---- prefixes

-- it goes on with the next number
pub prefix_next : (xs ys : List ℕ) → IsPrefixOf xs ys → length xs < length ys → IsPrefixOf (xs ++ slice_index ys (length xs) ∷ []) ys
prefix_next xs ys h more = go h.0 h.1
  where
    go : (rest : List ℕ) → xs ++ rest ≡ ys → IsPrefixOf (xs ++ slice_index ys (length xs) ∷ []) ys
    go [] e = absurd (omega (arith, more, ap (λ (l : List ℕ). length l) e, length-append xs []))
    go (x ∷ rest) e =
        let none : length xs - length xs ≡ 0 = omega arith in
        let next : slice_index ys (length xs) ≡ x = ap (λ (l : List ℕ). slice_index l (length xs)) (sym e) ∙ get_or-append_right xs (x ∷ rest) (length xs) (length xs) 0 refl (omega arith) ∙ ap (λ (k : ℕ). get_or (x ∷ rest) k 0) none in
        (rest, ap (λ (b : ℕ). (xs ++ b ∷ []) ++ rest) next ∙ append_assoc xs (x ∷ []) rest ∙ e)

-- more may be sent after it
pub prefix_more : (xs ys more : List ℕ) → IsPrefixOf xs ys → IsPrefixOf xs (ys ++ more)
prefix_more xs ys more h = (h.0 ++ more, sym (append_assoc xs h.0 more) ∙ ap (λ (l : List ℕ). l ++ more) h.1)

-- ---- what a look is good for

-- what a writer's room leaves
room_total : (start sent count k : ℕ) (order : Order) → sent ≤ count + size order → count ≤ sent → k ≤ room (index_at start sent) (index_at start count) order → sent + k ≤ count + size order
unfolding room
room_total start sent count k order fits past h =
    let s = size_within order in
    let d = diff_counts start sent count past (omega (arith, s.0, s.1)) in
    grind (arith, nat_tests)

-- what waits for a reader
ready_total : (start got count k : ℕ) (order : Order) → got ≤ count → count ≤ got + size order → k ≤ ready (index_at start count) (index_at start got) order → got + k ≤ count
unfolding ready
ready_total start got count k order past fits h =
    let s = size_within order in
    let d = diff_counts start count got past (omega (arith, s.0, s.1)) in
    grind (arith, nat_tests)

-- an index that was seen leaves as much as there was room
pub leaves_room : (r : Channel) (index k : ℕ) → IsLawful r → r.cons_seen ≡ Some index → k ≤ room r.own_prod index r.order → LeavesRoom r.start (size r.order) (length r.sent) (length r.got) k index
leaves_room r index k w seen h =
    let g : LeavesRoom r.start (size r.order) (length r.sent) (length r.got) 0 index = subst (λ (o : Option ℕ). IfSome o (LeavesRoom r.start (size r.order) (length r.sent) (length r.got) 0)) seen w.writer_looked in
    let here : k ≤ room (index_at r.start (length r.sent)) (index_at r.start g.count) r.order =
    subst (λ (n : ℕ). k ≤ room (index_at r.start (length r.sent)) n r.order) g.is (subst (λ (n : ℕ). k ≤ room n index r.order) w.own_prod h) in
    record { count = g.count; is = g.is; within = g.within; room = room_total r.start (length r.sent) g.count k r.order (omega (arith, g.room)) (omega (arith, g.within, prefix_length r.got r.sent w.prefix)) here }

pub shows_bytes : (r : Channel) (index k : ℕ) (older : List ℕ) → IsLawful r → r.got_before ≡ length r.got → r.prods_seen ≡ index ∷ older → k ≤ ready index r.own_cons r.order → ShowsBytes r.start (length r.sent) (length r.got) k index
shows_bytes r index k older w before seen h =
    let s : ShowsBytes r.start (length r.sent) r.got_before 0 index =
    All-head (ShowsBytes r.start (length r.sent) r.got_before 0) index older (subst (λ (l : List ℕ). All (ShowsBytes r.start (length r.sent) r.got_before 0) l) seen w.reader_looked) in
    let here : k ≤ ready (index_at r.start s.count) (index_at r.start (length r.got)) r.order =
    subst (λ (n : ℕ). k ≤ ready n (index_at r.start (length r.got)) r.order) s.is (subst (λ (n : ℕ). k ≤ ready index n r.order) w.own_cons h) in
    record { count = s.count; is = s.is; unread = ready_total r.start (length r.got) s.count k r.order (omega (arith, before, s.unread)) (omega (arith, s.within, w.fits)) here; within = s.within }

-- the place of a byte by its number, whichever way the index counts
place_counts : (start sent i : ℕ) (order : Order) → place (index_at start sent + i) order ≡ place (start + sent + i) order
place_counts start sent i order =
    let e : ((start + sent) % 2 ^ 32 + i) % 2 ^ 32 ≡ (start + sent + i) % 2 ^ 32 = omega arith in
    sym (place_wraps ((start + sent) % 2 ^ 32 + i) order) ∙ ap (λ (n : ℕ). place n order) e ∙ place_wraps (start + sent + i) order

index_more : (start sent k : ℕ) → (index_at start sent + k) % 2 ^ 32 ≡ index_at start (sent + k)
index_more start sent k = omega arith

-- ---- events on other words

-- the ring's own words are as they were
pub lawful_same : (r : Channel) (new : ℕ → ℕ) (prod cons : ℕ) → IsLawful r → ((i : ℕ) → i < size r.order → new i ≡ r.bytes i) → prod ≡ r.prod → cons ≡ r.cons → IsLawful (record r { bytes = new; prod = prod; cons = cons })
lawful_same r new prod cons w same p c = record {
  prod = p ∙ w.prod;
  cons = c ∙ w.cons;
  own_prod = w.own_prod;
  own_cons = w.own_cons;
  prefix = w.prefix;
  fits = w.fits;
  bytes_sent = w.bytes_sent;
  waiting = λ i unread sent. same _ (place_within _ _) ∙ w.waiting i unread sent;
  writer_looked = w.writer_looked;
  writer_stored = λ i below. same _ (place_within _ _) ∙ w.writer_stored i below;
  reader_looked = w.reader_looked;
  reader_loaded = w.reader_loaded;
}

-- ---- events of the writer

-- it loads the consumer index
pub lawful_look_write : (r : Channel) → IsLawful r → IsLawful (record r { cons_seen = Some r.cons })
lawful_look_write r w = record {
  prod = w.prod;
  cons = w.cons;
  own_prod = w.own_prod;
  own_cons = w.own_cons;
  prefix = w.prefix;
  fits = w.fits;
  bytes_sent = w.bytes_sent;
  waiting = w.waiting;
  writer_looked = record { count = length r.got; is = w.cons; within = omega arith; room = omega (arith, w.fits) };
  writer_stored = w.writer_stored;
  reader_looked = w.reader_looked;
  reader_loaded = w.reader_loaded;
}

-- where its next byte lies
put_place : (r : Channel) → IsLawful r → place (r.own_prod + r.stored) r.order ≡ place (r.start + length r.sent + r.stored) r.order
put_place r w = ap (λ (n : ℕ). place (n + r.stored) r.order) w.own_prod ∙ place_counts r.start (length r.sent) r.stored r.order

-- that is after what waits, and within the ring
put_fits : (r : Channel) (index : ℕ) → IsLawful r → r.cons_seen ≡ Some index → r.stored < room r.own_prod index r.order → length r.sent + r.stored < length r.got + size r.order
put_fits r index w seen h =
    let g = leaves_room r index (r.stored + 1) w seen (omega (arith, h)) in
    omega (arith, g.room, g.within)

-- it stores its next byte
pub lawful_store_byte : (r : Channel) (index : ℕ) (new : ℕ → ℕ) → IsLawful r → r.cons_seen ≡ Some index → r.stored < room r.own_prod index r.order →
    new (place (r.own_prod + r.stored) r.order) ≡ slice_index r.payload r.stored → ((i : ℕ) → i < size r.order → i ≢ place (r.own_prod + r.stored) r.order → new i ≡ r.bytes i) →
    IsLawful (record r { bytes = new; stored = r.stored + 1 })
lawful_store_byte r index new w seen h here others =
    let fits = put_fits r index w seen h in
    let small = prefix_length r.got r.sent w.prefix in
    record {
      prod = w.prod;
      cons = w.cons;
      own_prod = w.own_prod;
      own_cons = w.own_cons;
      prefix = w.prefix;
      fits = w.fits;
      bytes_sent = w.bytes_sent;
      waiting = λ i unread sent.
          others _ (place_within _ _) (λ e. place_apart (r.start + i) (r.start + length r.sent + r.stored) r.order (omega arith) (omega (arith, fits)) (e ∙ put_place r w)) ∙ w.waiting i unread sent;
      writer_looked = w.writer_looked;
      writer_stored = λ i below. elim (cases_lt i r.stored) [
        | inl before ↦ others _ (place_within _ _) (λ e. place_apart (r.start + length r.sent + i) (r.start + length r.sent + r.stored) r.order (omega arith) (omega (arith, fits, small)) (e ∙ put_place r w)) ∙ w.writer_stored i before
        | inr last ↦ (let same : i ≡ r.stored = omega arith in
            ap new (ap (λ (n : ℕ). place (r.start + length r.sent + n) r.order) same ∙ sym (put_place r w)) ∙ here ∙ ap (λ (n : ℕ). slice_index r.payload n) (sym same))
      ];
      reader_looked = w.reader_looked;
      reader_loaded = w.reader_loaded;
    }

shows_more : (start sent more before : ℕ) (seen : List ℕ) → sent ≤ more → All (ShowsBytes start sent before 0) seen → All (ShowsBytes start more before 0) seen
shows_more start sent more before seen h w = λ k d below.
    let s = w k d below in
    record { count = s.count; is = s.is; unread = s.unread; within = omega (arith, h, s.within) }

length_sent : (xs ys : List ℕ) (k : ℕ) → k ≤ length ys → length (xs ++ take k ys) ≡ length xs + k
length_sent xs ys k h = omega (arith, length-append xs (take k ys), length-take k ys)

-- it stores its index: what it stored is sent
pub lawful_store_prod : (r : Channel) (index : ℕ) → IsLawful r → r.cons_seen ≡ Some index → r.stored ≤ room r.own_prod index r.order → r.stored ≤ length r.payload → AreBytes r.payload →
    IsLawful (record r { prod = (r.own_prod + r.stored) % 2 ^ 32; own_prod = (r.own_prod + r.stored) % 2 ^ 32; sent = r.sent ++ take r.stored r.payload; stored = 0 })
lawful_store_prod r index w seen h has bytes =
    let g = leaves_room r index r.stored w seen h in
    let n = length_sent r.sent r.payload r.stored has in
    let e : (r.own_prod + r.stored) % 2 ^ 32 ≡ index_at r.start (length (r.sent ++ take r.stored r.payload)) =
    ap (λ (m : ℕ). (m + r.stored) % 2 ^ 32) w.own_prod ∙ index_more r.start (length r.sent) r.stored ∙ ap (λ (m : ℕ). index_at r.start m) (sym n) in
    record {
      prod = e;
      cons = w.cons;
      own_prod = e;
      own_cons = w.own_cons;
      prefix = prefix_more r.got r.sent (take r.stored r.payload) w.prefix;
      fits = omega (arith, g.room, g.within, n);
      bytes_sent = All-append (λ (b : ℕ). b < 256) r.sent (take r.stored r.payload) w.bytes_sent (All-take (λ (b : ℕ). b < 256) r.stored r.payload bytes);
      waiting = λ i unread below. elim (cases_lt i (length r.sent)) [
        | inl before ↦ w.waiting i unread before ∙ sym (get_or_append_left r.sent (take r.stored r.payload) 0 i before)
        | inr here ↦ (let j : length r.sent + (i - length r.sent) ≡ i = omega arith in
            let low : i - length r.sent < r.stored = omega (arith, n) in
            ap (λ (m : ℕ). r.bytes (place m r.order)) (omega (arith, j)) ∙ w.writer_stored (i - length r.sent) low
            ∙ sym (get_or-take r.stored r.payload (i - length r.sent) 0 low) ∙ sym (get_or-append_right r.sent (take r.stored r.payload) (length r.sent) i 0 refl here))
      ];
      writer_looked = subst (λ (o : Option ℕ). IfSome o (LeavesRoom r.start (size r.order) (length (r.sent ++ take r.stored r.payload)) (length r.got) 0)) (sym seen)
          (record { count = g.count; is = g.is; within = g.within; room = omega (arith, g.room, n) });
      writer_stored = λ i below. absurd (omega (arith, below));
      reader_looked = shows_more r.start (length r.sent) (length (r.sent ++ take r.stored r.payload)) r.got_before r.prods_seen (omega (arith, n)) w.reader_looked;
      reader_loaded = prefix_more (r.got ++ r.loaded) r.sent (take r.stored r.payload) w.reader_loaded;
    }

-- it begins a call, with another payload
pub lawful_begin_write : (r : Channel) (payload : List ℕ) → IsLawful r → IsLawful (record r { cons_seen = None; payload = payload; stored = 0 })
lawful_begin_write r payload w = record {
  prod = w.prod;
  cons = w.cons;
  own_prod = w.own_prod;
  own_cons = w.own_cons;
  prefix = w.prefix;
  fits = w.fits;
  bytes_sent = w.bytes_sent;
  waiting = w.waiting;
  writer_looked = tt;
  writer_stored = λ i below. absurd (omega (arith, below));
  reader_looked = w.reader_looked;
  reader_loaded = w.reader_loaded;
}

-- ---- events of the reader

-- it loads the producer index
pub lawful_look_read : (r : Channel) → r.got_before ≤ length r.got → IsLawful r → IsLawful (record r { prods_seen = r.prod ∷ r.prods_seen })
lawful_look_read r before w = record {
  prod = w.prod;
  cons = w.cons;
  own_prod = w.own_prod;
  own_cons = w.own_cons;
  prefix = w.prefix;
  fits = w.fits;
  bytes_sent = w.bytes_sent;
  waiting = w.waiting;
  writer_looked = w.writer_looked;
  writer_stored = w.writer_stored;
  reader_looked = All-cons (ShowsBytes r.start (length r.sent) r.got_before 0) r.prod r.prods_seen
      (record { count = length r.sent; is = w.prod; unread = omega (arith, before, prefix_length r.got r.sent w.prefix); within = omega arith }) w.reader_looked;
  reader_loaded = w.reader_loaded;
}

-- it loads its next byte
pub lawful_load_byte : (r : Channel) (index byte : ℕ) (older : List ℕ) → IsLawful r → r.got_before ≡ length r.got → r.prods_seen ≡ index ∷ older → length r.loaded < ready index r.own_cons r.order →
    byte ≡ r.bytes (place (r.own_cons + length r.loaded) r.order) % 2 ^ 8 → IsLawful (record r { loaded = r.loaded ++ byte ∷ [] })
lawful_load_byte r index byte older w before seen h is =
    let s = shows_bytes r index (length r.loaded + 1) older w before seen (omega (arith, h)) in
    let k = length r.got + length r.loaded in
    let long : length (r.got ++ r.loaded) ≡ length r.got + length r.loaded = length-append r.got r.loaded in
    let unread : length r.got + length r.loaded < length r.sent = omega (arith, s.unread, s.within) in
    let at : place (r.own_cons + length r.loaded) r.order ≡ place (r.start + (length r.got + length r.loaded)) r.order =
    ap (λ (n : ℕ). place (n + length r.loaded) r.order) w.own_cons ∙ place_counts r.start (length r.got) (length r.loaded) r.order ∙ ap (λ (n : ℕ). place n r.order) (omega arith) in
    let there : r.bytes (place (r.own_cons + length r.loaded) r.order) ≡ slice_index r.sent (length r.got + length r.loaded) = ap r.bytes at ∙ w.waiting (length r.got + length r.loaded) (omega arith) unread in
    let low : slice_index r.sent (length r.got + length r.loaded) < 256 = w.bytes_sent (length r.got + length r.loaded) 0 unread in
    let byte_is : byte ≡ slice_index r.sent (length (r.got ++ r.loaded)) = is ∙ ap (λ (n : ℕ). n % 2 ^ 8) there ∙ omega (arith, low) ∙ ap (λ (n : ℕ). slice_index r.sent n) (sym long) in
    record {
      prod = w.prod;
      cons = w.cons;
      own_prod = w.own_prod;
      own_cons = w.own_cons;
      prefix = w.prefix;
      fits = w.fits;
      bytes_sent = w.bytes_sent;
      waiting = w.waiting;
      writer_looked = w.writer_looked;
      writer_stored = w.writer_stored;
      reader_looked = w.reader_looked;
      reader_loaded = subst (λ (l : List ℕ). IsPrefixOf l r.sent) (append_assoc r.got r.loaded (byte ∷ []))
          (subst (λ (b : ℕ). IsPrefixOf ((r.got ++ r.loaded) ++ b ∷ []) r.sent) (sym byte_is) (prefix_next (r.got ++ r.loaded) r.sent w.reader_loaded (omega (arith, long, unread))));
    }

leaves_more : (o : Option ℕ) (start size sent got more : ℕ) → got ≤ more → IfSome o (LeavesRoom start size sent got 0) → IfSome o (LeavesRoom start size sent more 0)
leaves_more None start size sent got more h w = tt
leaves_more (Some index) start size sent got more h w = record { count = w.count; is = w.is; within = omega (arith, h, w.within); room = w.room }

-- it stores its index: what it loaded is got
pub lawful_store_cons : (r : Channel) → IsLawful r →
    IsLawful (record r { cons = (r.own_cons + length r.loaded) % 2 ^ 32; own_cons = (r.own_cons + length r.loaded) % 2 ^ 32; got = r.got ++ r.loaded; loaded = [] })
lawful_store_cons r w =
    let n = length-append r.got r.loaded in
    let e : (r.own_cons + length r.loaded) % 2 ^ 32 ≡ index_at r.start (length (r.got ++ r.loaded)) =
    ap (λ (m : ℕ). (m + length r.loaded) % 2 ^ 32) w.own_cons ∙ index_more r.start (length r.got) (length r.loaded) ∙ ap (λ (m : ℕ). index_at r.start m) (sym n) in
    record {
      prod = w.prod;
      cons = e;
      own_prod = w.own_prod;
      own_cons = e;
      prefix = w.reader_loaded;
      fits = omega (arith, n, w.fits);
      bytes_sent = w.bytes_sent;
      waiting = λ i unread below. w.waiting i (omega (arith, unread, n)) below;
      writer_looked = leaves_more r.cons_seen r.start (size r.order) (length r.sent) (length r.got) (length (r.got ++ r.loaded)) (omega (arith, n)) w.writer_looked;
      writer_stored = w.writer_stored;
      reader_looked = w.reader_looked;
      reader_loaded = subst (λ (l : List ℕ). IsPrefixOf l r.sent) (sym (append-nil (r.got ++ r.loaded))) w.reader_loaded;
    }

-- it begins a call
pub lawful_begin_read : (r : Channel) (before : ℕ) → IsLawful r → IsLawful (record r { prods_seen = []; loaded = []; got_before = before })
lawful_begin_read r before w = record {
  prod = w.prod;
  cons = w.cons;
  own_prod = w.own_prod;
  own_cons = w.own_cons;
  prefix = w.prefix;
  fits = w.fits;
  bytes_sent = w.bytes_sent;
  waiting = w.waiting;
  writer_looked = w.writer_looked;
  writer_stored = w.writer_stored;
  reader_looked = All-nil (ShowsBytes r.start (length r.sent) before 0);
  reader_loaded = subst (λ (l : List ℕ). IsPrefixOf l r.sent) (sym (append-nil r.got)) w.prefix;
}
