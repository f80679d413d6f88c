-- Laws of images: where the pieces of a page lie, and what an image shows once it is made again.
use Rattle.std.proofs.Common.{◌≡◌, ℕ, ◌+◌, ◌^◌, ◌<◌, ◌≤◌, replicate, ◌⊎◌, ◌≢◌, Option, Some, None, inl, inr, Bool, true, List, [], ◌∷◌, ◌++◌, length, get_or, map, lit<, refl, sym, ap, subst, ◌∙◌, arith}
use Rattle.std.specs.Prelude.{nat_le, ◌==◌, if◌then◌else◌}
use Rattle.std.proofs.lemmas.Bool.{and_from, cases_eq, le-leb, ne_eqb, cases_lt}
use Rattle.std.proofs.lemmas.List.{get_or-append_right, get_or_append_left, get_or_past, length-append, length-replicate}
use Rattle.std.proofs.lemmas.List.Edits.{get_or-between, length-between}
use Rattle.std.specs.List.{between}
use Rattle.std.specs.Option.{option_map_or}
use Rattle.ring_words.proofs.ByteLaws.{byte_of_number_from, byte_of_small}
use Rattle.ring_words.specs.declared.order.Order.{Order}
use Rattle.ring_words.specs.declared.page.Ring.{Ring}
use Rattle.ring_words.specs.declared.order.Orders.{Orders}
use Rattle.ring_words.specs.declared.page.Ring.TheVariants.{Left, Right}
use Rattle.ring_words.specs.declared.page.WordName.TheVariants.{RingByte}
use Rattle.ring_words.specs.Page.{index_of, order_of, word_count}
use Rattle.ring_words.specs.PageWords.{PageWords}
use Rattle.ring_words.specs.Rings.{number_of, size}
use Rattle.ring_words.specs.Image.{Field, Piece, bytes_piece, byte_at, byte_of, field_piece, fields, header_shown, image_of, number_from, number_piece, page_shown, pieces, ring_offset, ring_pieces, ring_shown, word_of, AreWithinPage, IsCovered, IsShown, Puts}
use Rattle.ring_words.proofs.PieceLaws.{covered_append, same_piece, Agrees, AllAgree, AllAgree_append, byte_at_agrees, covered_between, covered_first, covered_second, apart_at, begin_from, covered_below, end_by, get_or_list_by, puts_more, puts_nothing, length_list_by, same_list_by}

-- a field put after others
pub puts_field : (page : PageWords) (field : Field) {word : ℕ} {ps : List Piece} {old mid new : List ℕ} → Puts ps old mid → Puts (number_piece field.offset field.bytes word ∷ []) mid new → word ≡ word_of page field.name → end_by ps field.offset ≡ true → Puts (ps ++ field_piece page field ∷ []) old new
puts_field page field {word} {ps} {old} {mid} {new} first second e ends =
    let begins : begin_from (field_piece page field ∷ []) field.offset ≡ true = and_from (nat_le field.offset field.offset) true (le-leb field.offset field.offset (omega arith)) refl in
    puts_more ps (field_piece page field ∷ []) old mid new (apart_at ps (field_piece page field ∷ []) field.offset ends begins) first
    (subst (λ (n : ℕ). Puts (number_piece field.offset field.bytes n ∷ []) mid new) e second)

-- ---- where rings lie

-- a ring of each kind of order
pub data Placed (order : Order) : Type 0 where
  small : number_of order ≡ 10 → ring_offset order ≡ Some 1024 → size order ≡ 1024 → Placed order
  large : number_of order ≡ 11 → ring_offset order ≡ Some 2048 → size order ≡ 2048 → Placed order
  away : 12 ≤ number_of order → ring_offset order ≡ None → Placed order

-- each order is of one of the kinds
pub placed : (order : Order) → Placed order
unfolding size
placed order = go (cases_eq (number_of order) 10) (cases_eq (number_of order) 11)
  where
    go : (number_of order ≡ 10) ⊎ (number_of order ≢ 10) → (number_of order ≡ 11) ⊎ (number_of order ≢ 11) → Placed order
    go (inl e) _ = small e (ap (λ (n : ℕ). if n == 10 then Some 1024 else (if n == 11 then Some 2048 else None)) e) (ap (λ (n : ℕ). 2 ^ n) e)
    go (inr _) (inl e) = large e (ap (λ (n : ℕ). if n == 10 then Some 1024 else (if n == 11 then Some 2048 else None)) e) (ap (λ (n : ℕ). 2 ^ n) e)
    go (inr f) (inr g) = away (omega (arith, order.in_range)) (ap (λ (b : Bool). if b then Some 1024 else (if number_of order == 11 then Some 2048 else None)) (ne_eqb (number_of order) 10 f) ∙ ap (λ (b : Bool). if b then Some 2048 else None) (ne_eqb (number_of order) 11 g))

-- the piece of a ring at an offset
abbrev pub ring_piece : PageWords → Ring → ℕ → Piece
ring_piece page ring offset = record { offset = offset; count = size (order_of page.orders ring); byte = λ at. byte_of (word_of page (RingByte ring at)) 0 }

-- the piece of a ring that lies in the page, and of one that does not
ring_pieces_at : (page : PageWords) (ring : Ring) (offset : ℕ) → ring_offset (order_of page.orders ring) ≡ Some offset → ring_pieces page ring ≡ ring_piece page ring offset ∷ []
ring_pieces_at page ring offset e = ap (λ (o : Option ℕ). option_map_or (λ place. ring_piece page ring place ∷ []) o []) e

pub ring_pieces_none : (page : PageWords) (ring : Ring) → ring_offset (order_of page.orders ring) ≡ None → ring_pieces page ring ≡ []
ring_pieces_none page ring e = ap (λ (o : Option ℕ). option_map_or (λ place. ring_piece page ring place ∷ []) o []) e

-- where the bytes of a ring are
data InRing (number at : ℕ) : Type 0 where
  in_small : number ≡ 10 → 1024 ≤ at → at < 2048 → InRing number at
  in_large : number ≡ 11 → 2048 ≤ at → at < 4096 → InRing number at

-- the bytes of a ring are at the place that its order gives
in_ring : (page : PageWords) (ring : Ring) (at : ℕ) → IsCovered (ring_pieces page ring) at → InRing (number_of (order_of page.orders ring)) at
in_ring page ring at h = go (placed (order_of page.orders ring))
  where
    one : (offset : ℕ) → ring_offset (order_of page.orders ring) ≡ Some offset → (offset ≤ at) × (at < offset + size (order_of page.orders ring))
    one offset e = alone (subst (λ (ps : List Piece). IsCovered ps at) (ring_pieces_at page ring offset e) h)
      where
        alone : ((offset ≤ at) × (at < offset + size (order_of page.orders ring))) ⊎ ⊥ → (offset ≤ at) × (at < offset + size (order_of page.orders ring))
        alone (inl k) = k
        alone (inr k) = absurd k

    go : Placed (order_of page.orders ring) → InRing (number_of (order_of page.orders ring)) at
    go (small n e s) = in_small n (one 1024 e).0 (omega (arith, (one 1024 e).1, s))
    go (large n e s) = in_large n (one 2048 e).0 (omega (arith, (one 2048 e).1, s))
    go (away n e) = absurd (subst (λ (ps : List Piece). IsCovered ps at) (ring_pieces_none page ring e) h)

-- the two rings have no byte in common
rings_apart : (page : PageWords) (at : ℕ) → IsCovered (ring_pieces page Left) at → IsCovered (ring_pieces page Right) at → ⊥
rings_apart page at h k = go (in_ring page Left at h) (in_ring page Right at k)
  where
    go : InRing (number_of page.orders.left) at → InRing (number_of page.orders.right) at → ⊥
    go (in_small n _ _) (in_small m _ _) = omega (arith, n, page.orders.distinct (n ∙ sym m))
    go (in_small _ _ l) (in_large _ g _) = omega (arith, l, g)
    go (in_large _ g _) (in_small _ _ l) = omega (arith, l, g)
    go (in_large n _ _) (in_large m _ _) = omega (arith, n, page.orders.distinct (n ∙ sym m))

-- a ring lies after the grant list
ring_behind : (page : PageWords) (ring : Ring) (at : ℕ) → IsCovered (ring_pieces page ring) at → 1024 ≤ at
ring_behind page ring at h = go (in_ring page ring at h)
  where
    go : InRing (number_of (order_of page.orders ring)) at → 1024 ≤ at
    go (in_small _ g _) = g
    go (in_large _ g _) = omega (arith, g)

-- the header's pieces
abbrev pub header_pieces : PageWords → List Piece
header_pieces page = map (field_piece page) fields

-- nothing of a page lies beyond the image
covered_within : (page : PageWords) (at : ℕ) → IsCovered (pieces page) at → at < 4096
covered_within page at h = go (covered_append (header_pieces page ++ ring_pieces page Left) (ring_pieces page Right) at h)
  where
    of_ring : (ring : Ring) → InRing (number_of (order_of page.orders ring)) at → at < 4096
    of_ring ring (in_small _ _ l) = omega (arith, l)
    of_ring ring (in_large _ _ l) = l

    of_rest : IsCovered (header_pieces page) at ⊎ IsCovered (ring_pieces page Left) at → at < 4096
    of_rest (inl k) = omega (arith, covered_below (header_pieces page) 24 at refl k)
    of_rest (inr k) = of_ring Left (in_ring page Left at k)

    go : IsCovered (header_pieces page ++ ring_pieces page Left) at ⊎ IsCovered (ring_pieces page Right) at → at < 4096
    go (inl k) = of_rest (covered_append (header_pieces page) (ring_pieces page Left) at k)
    go (inr k) = of_ring Right (in_ring page Right at k)

-- a header and two rings put over zeros are the image
pub image_put : (page : PageWords) (zeros header left new : List ℕ) → length new ≡ 4096 → ((at : ℕ) → get_or zeros at 0 ≡ 0) → Puts (header_pieces page) zeros header → Puts (ring_pieces page Left) header left → Puts (ring_pieces page Right) left new → new ≡ image_of page
unfolding image_of
image_put page zeros header left new long blank one two three =
    same_list_by (λ at. byte_at (pieces page) at 0) new 4096 long
    (λ at h. all.bytes at ∙ ap (λ (n : ℕ). byte_at (pieces page) at n) (blank at))
  where
    before_left : (at : ℕ) → IsCovered (header_pieces page) at → IsCovered (ring_pieces page Left) at → ⊥
    before_left at h k = omega (arith, covered_below (header_pieces page) 24 at refl h, ring_behind page Left at k)

    before_right : (at : ℕ) → IsCovered (header_pieces page ++ ring_pieces page Left) at → IsCovered (ring_pieces page Right) at → ⊥
    before_right at h k = go (covered_append (header_pieces page) (ring_pieces page Left) at h)
      where
        go : IsCovered (header_pieces page) at ⊎ IsCovered (ring_pieces page Left) at → ⊥
        go (inl l) = omega (arith, covered_below (header_pieces page) 24 at refl l, ring_behind page Right at k)
        go (inr l) = rings_apart page at l k

    all : Puts (pieces page) zeros new
    all =
        puts_more (header_pieces page ++ ring_pieces page Left) (ring_pieces page Right) zeros left new before_right
        (puts_more (header_pieces page) (ring_pieces page Left) zeros header left before_left one two) three

-- a ring's bytes follow its first one
pub index_of_byte : (orders : Orders) (ring : Ring) (k : ℕ) → index_of orders (RingByte ring k) ≡ index_of orders (RingByte ring 0) + k
index_of_byte orders Left k = omega arith
index_of_byte orders Right k = omega arith

-- a ring ends within the list of words
ring_within : (orders : Orders) (ring : Ring) → index_of orders (RingByte ring 0) + size (order_of orders ring) ≤ word_count orders
ring_within orders Left = omega arith
ring_within orders Right = omega arith

-- a ring put at its place in the page
pub puts_ring : (page : PageWords) (ring : Ring) (offset first : ℕ) (words old new : List ℕ) → length page.list ≡ word_count page.orders → ring_offset (order_of page.orders ring) ≡ Some offset → first ≡ index_of page.orders (RingByte ring 0) → words ≡ between first (first + size (order_of page.orders ring)) page.list → Puts (bytes_piece offset words ∷ []) old new → Puts (ring_pieces page ring) old new
puts_ring page ring offset first words old new long e f is put =
    subst (λ (ps : List Piece). Puts ps old new) (sym (ring_pieces_at page ring offset e))
    (same_piece (bytes_piece offset words) (ring_piece page ring offset) old new refl count byte put)
  where
    count : length words ≡ size (order_of page.orders ring)
    count = ap length is ∙ length-between page.list first (first + size (order_of page.orders ring)) (omega (arith, ring_within page.orders ring, f, long)) ∙ omega arith

    byte : (k : ℕ) → k < size (order_of page.orders ring) → byte_of (get_or words k 0) 0 ≡ byte_of (word_of page (RingByte ring k)) 0
    byte k h = ap (λ (n : ℕ). byte_of n 0) (ap (λ (l : List ℕ). get_or l k 0) is ∙ get_or-between page.list first (first + size (order_of page.orders ring)) k 0 (omega (arith, h)) ∙ ap (λ (i : ℕ). get_or page.list i 0) (omega (arith, f, index_of_byte page.orders ring k)))

-- a ring that doesn't lie in the page
pub puts_no_ring : (page : PageWords) (ring : Ring) (old : List ℕ) → ((offset : ℕ) → ring_offset (order_of page.orders ring) ≡ Some offset → ⊥) → Puts (ring_pieces page ring) old old
puts_no_ring page ring old not = go (placed (order_of page.orders ring))
  where
    go : Placed (order_of page.orders ring) → Puts (ring_pieces page ring) old old
    go (small _ e _) = absurd (not 1024 e)
    go (large _ e _) = absurd (not 2048 e)
    go (away _ e) = subst (λ (ps : List Piece). Puts ps old old) (sym (ring_pieces_none page ring e)) (puts_nothing old)

-- ---- what an image shows, and its image again

-- a field's bytes make its number
agree_field : (image : List ℕ) (offset count : ℕ) → offset + count ≤ length image → ((i : ℕ) → get_or image i 0 < 256) → Agrees image (number_piece offset count (number_from (between offset (offset + count) image)))
agree_field image offset count within fits k h =
    byte_of_number_from (between offset (offset + count) image) k (λ i. part_fits i)
    ∙ get_or-between image offset (offset + count) k 0 (omega (arith, h))
  where
    part_fits : (i : ℕ) → get_or (between offset (offset + count) image) i 0 < 256
    part_fits i = go (cases_lt i count)
      where
        go : (i < count) ⊎ (count ≤ i) → get_or (between offset (offset + count) image) i 0 < 256
        go (inl l) = rw (get_or-between image offset (offset + count) i 0 (omega (arith, l))) (fits (offset + i))
        go (inr g) = rw (get_or_past (between offset (offset + count) image) i 0 (omega (arith, g, length-between image offset (offset + count) within))) (lit< tt)

-- the words of a ring that lies in the page, and of one that doesn't
pub ring_shown_at : (image : List ℕ) (order : Order) (offset : ℕ) → ring_offset order ≡ Some offset → ring_shown image order ≡ between offset (offset + size order) image
ring_shown_at image order offset e = ap (λ (o : Option ℕ). option_map_or (λ place. between place (place + size order) image) o (replicate (size order) 0)) e

ring_shown_none : (image : List ℕ) (order : Order) → ring_offset order ≡ None → ring_shown image order ≡ replicate (size order) 0
ring_shown_none image order e = ap (λ (o : Option ℕ). option_map_or (λ place. between place (place + size order) image) o (replicate (size order) 0)) e

-- a shown ring has as many words as its size
pub length_ring_shown : (image : List ℕ) (order : Order) → length image ≡ 4096 → length (ring_shown image order) ≡ size order
length_ring_shown image order long = go (placed order)
  where
    at : (offset : ℕ) → ring_offset order ≡ Some offset → offset + size order ≤ 4096 → length (ring_shown image order) ≡ size order
    at offset e within = ap length (ring_shown_at image order offset e) ∙ length-between image offset (offset + size order) (omega (arith, within, long)) ∙ omega arith

    go : Placed order → length (ring_shown image order) ≡ size order
    go (small _ e s) = at 1024 e (omega (arith, s))
    go (large _ e s) = at 2048 e (omega (arith, s))
    go (away _ e) = ap length (ring_shown_none image order e) ∙ length-replicate (size order) 0

-- a shown page has all its words
pub length_page_shown : (image : List ℕ) (orders : Orders) → length image ≡ 4096 → length (page_shown image orders).list ≡ word_count orders
unfolding page_shown
length_page_shown image orders long =
    length-append (header_shown image ++ ring_shown image orders.left) (ring_shown image orders.right)
    ∙ omega (arith, length-append (header_shown image) (ring_shown image orders.left), length_ring_shown image orders.left long, length_ring_shown image orders.right long)

-- a word of a shown ring is the one at that place in it
word_of_shown : (image : List ℕ) (orders : Orders) (ring : Ring) (k : ℕ) → length image ≡ 4096 → k < size (order_of orders ring) → word_of (page_shown image orders) (RingByte ring k) ≡ get_or (ring_shown image (order_of orders ring)) k 0
unfolding page_shown
word_of_shown image orders Left k long h =
    get_or_append_left (header_shown image ++ ring_shown image orders.left) (ring_shown image orders.right) 0 (14 + k) (omega (arith, length-append (header_shown image) (ring_shown image orders.left), length_ring_shown image orders.left long, h))
    ∙ get_or-append_right (header_shown image) (ring_shown image orders.left) 14 (14 + k) 0 refl (omega arith)
    ∙ ap (λ (i : ℕ). get_or (ring_shown image orders.left) i 0) (omega arith)
word_of_shown image orders Right k long h =
    get_or-append_right (header_shown image ++ ring_shown image orders.left) (ring_shown image orders.right) (14 + size orders.left) (14 + size orders.left + k) 0 (omega (arith, length-append (header_shown image) (ring_shown image orders.left), length_ring_shown image orders.left long)) (omega arith)
    ∙ ap (λ (i : ℕ). get_or (ring_shown image orders.right) i 0) (omega arith)

-- a shown ring agrees with the image
agree_ring : (image : List ℕ) (orders : Orders) (ring : Ring) → length image ≡ 4096 → ((i : ℕ) → get_or image i 0 < 256) → AllAgree image (ring_pieces (page_shown image orders) ring)
unfolding page_shown
agree_ring image orders ring long fits = go (placed (order_of orders ring))
  where
    at : (offset : ℕ) → ring_offset (order_of orders ring) ≡ Some offset → AllAgree image (ring_pieces (page_shown image orders) ring)
    at offset e = subst (λ (ps : List Piece). AllAgree image ps) (sym (ring_pieces_at (page_shown image orders) ring offset e)) (λ k h. byte k h, tt)
      where
        word : (k : ℕ) → k < size (order_of orders ring) → word_of (page_shown image orders) (RingByte ring k) ≡ get_or image (offset + k) 0
        word k h =
            word_of_shown image orders ring k long h
            ∙ ap (λ (l : List ℕ). get_or l k 0) (ring_shown_at image (order_of orders ring) offset e)
            ∙ get_or-between image offset (offset + size (order_of orders ring)) k 0 (omega (arith, h))

        byte : (k : ℕ) → k < size (order_of orders ring) → byte_of (word_of (page_shown image orders) (RingByte ring k)) 0 ≡ get_or image (offset + k) 0
        byte k h = ap (λ (n : ℕ). byte_of n 0) (word k h) ∙ byte_of_small (get_or image (offset + k) 0) (fits (offset + k))

    go : Placed (order_of orders ring) → AllAgree image (ring_pieces (page_shown image orders) ring)
    go (small _ e _) = at 1024 e
    go (large _ e _) = at 2048 e
    go (away _ e) = subst (λ (ps : List Piece). AllAgree image ps) (sym (ring_pieces_none (page_shown image orders) ring e)) tt

-- the fields of a shown page agree with the image
agree_fields : (image : List ℕ) (orders : Orders) → length image ≡ 4096 → ((i : ℕ) → get_or image i 0 < 256) → AllAgree image (header_pieces (page_shown image orders))
unfolding page_shown
agree_fields image orders long fits =
    (field 0 4 (omega arith), (field 4 4 (omega arith), (field 8 4 (omega arith), (field 12 4 (omega arith), (field 16 2 (omega arith), (field 18 2 (omega arith), (field 20 1 (omega arith), (field 21 1 (omega arith), (field 22 1 (omega arith), (field 23 1 (omega arith), tt))))))))))
  where
    field : (offset count : ℕ) → offset + count ≤ 4096 → Agrees image (number_piece offset count (number_from (between offset (offset + count) image)))
    field offset count within = agree_field image offset count (omega (arith, within, long)) fits

-- the image of a shown page is the image, wherever something of a page lies
pub shown_again : (image : List ℕ) (orders : Orders) → length image ≡ 4096 → ((i : ℕ) → get_or image i 0 < 256) → (at : ℕ) → IsCovered (pieces (page_shown image orders)) at → get_or (image_of (page_shown image orders)) at 0 ≡ get_or image at 0
unfolding image_of
shown_again image orders long fits at h =
    get_or_list_by (λ i. byte_at (pieces (page_shown image orders)) i 0) 4096 at (covered_within (page_shown image orders) at h)
    ∙ byte_at_agrees image (pieces (page_shown image orders)) at 0 all h
  where
    all : AllAgree image (pieces (page_shown image orders))
    all =
        AllAgree_append image (header_pieces (page_shown image orders) ++ ring_pieces (page_shown image orders) Left) (ring_pieces (page_shown image orders) Right)
        (AllAgree_append image (header_pieces (page_shown image orders)) (ring_pieces (page_shown image orders) Left) (agree_fields image orders long fits) (agree_ring image orders Left long fits))
        (agree_ring image orders Right long fits)

-- ---- where something of a page lies

-- each place of a ring is one of its bytes
covered_by_ring : (page : PageWords) (ring : Ring) (at : ℕ) → InRing (number_of (order_of page.orders ring)) at → IsCovered (ring_pieces page ring) at
covered_by_ring page ring at h = go h (placed (order_of page.orders ring))
  where
    one : (offset : ℕ) → ring_offset (order_of page.orders ring) ≡ Some offset → offset ≤ at → at < offset + size (order_of page.orders ring) → IsCovered (ring_pieces page ring) at
    one offset e low high = subst (λ (ps : List Piece). IsCovered ps at) (sym (ring_pieces_at page ring offset e)) (inl (low, high))

    go : InRing (number_of (order_of page.orders ring)) at → Placed (order_of page.orders ring) → IsCovered (ring_pieces page ring) at
    go (in_small n l h) (small _ e s) = one 1024 e l (omega (arith, h, s))
    go (in_large n l h) (large _ e s) = one 2048 e l (omega (arith, h, s))
    go (in_small n _ _) (large m _ _) = absurd (omega (arith, n, m))
    go (in_large n _ _) (small m _ _) = absurd (omega (arith, n, m))
    go (in_small n _ _) (away m _) = absurd (omega (arith, n, m))
    go (in_large n _ _) (away m _) = absurd (omega (arith, n, m))

-- within the page the rings have the orders 10 and 11
orders_within : (orders : Orders) → AreWithinPage orders → ((orders.left.number ≡ 10) × (orders.right.number ≡ 11)) ⊎ ((orders.left.number ≡ 11) × (orders.right.number ≡ 10))
orders_within orders within = go (cases_eq orders.left.number 10) (cases_eq orders.left.number orders.right.number)
  where
    go : (orders.left.number ≡ 10) ⊎ (orders.left.number ≢ 10) → (orders.left.number ≡ orders.right.number) ⊎ (orders.left.number ≢ orders.right.number) → ((orders.left.number ≡ 10) × (orders.right.number ≡ 11)) ⊎ ((orders.left.number ≡ 11) × (orders.right.number ≡ 10))
    go _ (inl same) = absurd (omega (arith, within, orders.distinct same))
    go (inl e) (inr other) = inl (e, omega (arith, within, e, other, orders.right.in_range))
    go (inr f) (inr other) =
        let e : orders.left.number ≡ 11 = omega (arith, within, f, orders.left.in_range) in
        inr (e, omega (arith, within, e, other, orders.right.in_range))

-- two rings within the page fill it after the grant list
covered_by_rings : (page : PageWords) (at : ℕ) → AreWithinPage page.orders → 1024 ≤ at → at < 4096 → IsCovered (ring_pieces page Left) at ⊎ IsCovered (ring_pieces page Right) at
covered_by_rings page at within low high = go (orders_within page.orders within) (cases_lt at 2048)
  where
    go : ((page.orders.left.number ≡ 10) × (page.orders.right.number ≡ 11)) ⊎ ((page.orders.left.number ≡ 11) × (page.orders.right.number ≡ 10)) → (at < 2048) ⊎ (2048 ≤ at) → IsCovered (ring_pieces page Left) at ⊎ IsCovered (ring_pieces page Right) at
    go (inl e) (inl l) = inl (covered_by_ring page Left at (in_small e.0 low l))
    go (inl e) (inr g) = inr (covered_by_ring page Right at (in_large e.1 g high))
    go (inr e) (inl l) = inr (covered_by_ring page Right at (in_small e.1 low l))
    go (inr e) (inr g) = inl (covered_by_ring page Left at (in_large e.0 g high))

-- if both rings lie in the page, something lies at each offset except in the grant list
covered_around : (page : PageWords) (at : ℕ) → AreWithinPage page.orders → (at < 24) ⊎ (1024 ≤ at) → at < 4096 → IsCovered (pieces page) at
covered_around page at within (inl h) _ =
    covered_first (header_pieces page ++ ring_pieces page Left) (ring_pieces page Right) at
    (covered_first (header_pieces page) (ring_pieces page Left) at (covered_between (header_pieces page) 0 24 at refl (omega arith) h))
covered_around page at within (inr h) high = go (covered_by_rings page at within h high)
  where
    go : IsCovered (ring_pieces page Left) at ⊎ IsCovered (ring_pieces page Right) at → IsCovered (pieces page) at
    go (inl k) = covered_first (header_pieces page ++ ring_pieces page Left) (ring_pieces page Right) at (covered_second (header_pieces page) (ring_pieces page Left) at k)
    go (inr k) = covered_second (header_pieces page ++ ring_pieces page Left) (ring_pieces page Right) at k

-- if both rings lie in the page, the image of a shown page is the image, except in the grant list
pub shown_around : (image : List ℕ) (orders : Orders) → length image ≡ 4096 → ((i : ℕ) → get_or image i 0 < 256) → AreWithinPage orders → (at : ℕ) → (at < 24) ⊎ (1024 ≤ at) → get_or (image_of (page_shown image orders)) at 0 ≡ get_or image at 0
unfolding image_of page_shown
shown_around image orders long fits within at o = go (cases_lt at 4096)
  where
    go : (at < 4096) ⊎ (4096 ≤ at) → get_or (image_of (page_shown image orders)) at 0 ≡ get_or image at 0
    go (inl h) = shown_again image orders long fits at (covered_around (page_shown image orders) at within o h)
    go (inr h) =
        get_or_past (image_of (page_shown image orders)) at 0 (omega (arith, h, length_list_by (λ i. byte_at (pieces (page_shown image orders)) i 0) 4096))
        ∙ sym (get_or_past image at 0 (omega (arith, h, long)))

-- a shown page from a list that is made in three steps
pub list_shown : (image : List ℕ) (orders : Orders) {none one two three result : List ℕ} → none ≡ [] → result ≡ header_shown image → one ≡ none ++ result → two ≡ one ++ ring_shown image orders.left → three ≡ two ++ ring_shown image orders.right → three ≡ (page_shown image orders).list
unfolding page_shown
list_shown image orders {none} {one} {two} {three} {result} n h e f g =
    g ∙ ap (λ (l : List ℕ). l ++ ring_shown image orders.right) (f ∙ ap (λ (l : List ℕ). l ++ ring_shown image orders.left) (e ∙ ap (λ (l : List ℕ). l ++ result) n ∙ h))

-- a page with the shown words is the shown page
pub page_is_shown : (image : List ℕ) (page : PageWords) (orders : Orders) → page.orders ≡ orders → page.list ≡ (page_shown image orders).list → page ≡ page_shown image page.orders
unfolding page_shown
page_is_shown image page orders o l =
    let with_list : List ℕ → PageWords = λ list. record { orders = page.orders; list = list } in
    ap with_list (l ∙ ap (λ (these : Orders). (page_shown image these).list) (sym o))

-- the two laws of the image of a shown page, for a page that is the shown one
pub page_shows_again : (image : List ℕ) (page : PageWords) → length image ≡ 4096 → ((i : ℕ) → get_or image i 0 < 256) → page ≡ page_shown image page.orders → (at : ℕ) → IsShown page at → get_or (image_of page) at 0 ≡ get_or image at 0
unfolding IsShown
page_shows_again image page long fits is =
    subst (λ (these : PageWords). (at : ℕ) → IsCovered (pieces these) at → get_or (image_of these) at 0 ≡ get_or image at 0) (sym is) (shown_again image page.orders long fits)

pub page_shows_around : (image : List ℕ) (page : PageWords) → length image ≡ 4096 → ((i : ℕ) → get_or image i 0 < 256) → page ≡ page_shown image page.orders → AreWithinPage page.orders → (at : ℕ) → (at < 24) ⊎ (1024 ≤ at) → get_or (image_of page) at 0 ≡ get_or image at 0
page_shows_around image page long fits is within =
    subst (λ (these : PageWords). (at : ℕ) → (at < 24) ⊎ (1024 ≤ at) → get_or (image_of these) at 0 ≡ get_or image at 0) (sym is) (shown_around image page.orders long fits within)
