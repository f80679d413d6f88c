-- Laws of pieces: bytes put over others, piece by piece.
use Rattle.std.proofs.Common.{◌≡◌, ℕ, ◌+◌, ◌-◌, ◌<◌, ◌≤◌, zero, suc, replicate, ◌⊎◌, inl, inr, Bool, true, false, ◌&&◌, List, [], ◌∷◌, ◌++◌, length, get_or, refl, sym, ap, ◌∙◌, arith}
use Rattle.std.specs.Prelude.{nat_le, nat_lt, ◌==◌, if◌then◌else◌}
use Rattle.std.proofs.lemmas.Bool.{eqb-true, cases_Bool, cases_lt, false≢true, and_parts, leb-true}
use Rattle.std.proofs.lemmas.Bool.Decides.{nat_tests}
use Rattle.std.proofs.lemmas.List.{places}
use Rattle.std.proofs.lemmas.List.FromFn.{fill_by_all, get_or-map-range_with_len, length-map-range_with_len}
use borrow.Rule.Slice.PartMut.{put_mid}
use Rattle.ring_words.specs.Image.{Piece, covers, byte_at, list_by, IsCovered, Puts}

-- ---- a list told place by place

-- its length and its elements, and a list that has them
pub length_list_by : (value : ℕ → ℕ) (n : ℕ) → length (list_by value n) ≡ n
unfolding list_by
length_list_by value n = length-map-range_with_len value 0 n

pub get_or_list_by : (value : ℕ → ℕ) (n k : ℕ) → k < n → get_or (list_by value n) k 0 ≡ value k
unfolding list_by
get_or_list_by value n k h = get_or-map-range_with_len value 0 n k k 0 h (omega arith)

pub same_list_by : (value : ℕ → ℕ) (xs : List ℕ) (n : ℕ) → length xs ≡ n → ((k : ℕ) → k < n → get_or xs k 0 ≡ value k) → xs ≡ list_by value n
unfolding list_by
same_list_by value xs n e h = fill_by_all value xs n 0 e h

-- ---- a byte among pieces

-- the test of one piece
pub covers_true : (p : Piece) (at : ℕ) → p.offset ≤ at → at < p.offset + p.count → covers p at ≡ true
covers_true p at h k = grind (arith, nat_tests)

-- what the test tells
pub covers_tells : (p : Piece) (at : ℕ) → covers p at ≡ true → (p.offset ≤ at) × (at < p.offset + p.count)
covers_tells p at e = (grind (arith, nat_tests), grind (arith, nat_tests))

covers_denies : (p : Piece) (at : ℕ) → covers p at ≡ false → (at < p.offset) ⊎ (p.offset + p.count ≤ at)
covers_denies p at e = go (cases_lt at p.offset) (cases_lt at (p.offset + p.count))
  where
    go : (at < p.offset) ⊎ (p.offset ≤ at) → (at < p.offset + p.count) ⊎ (p.offset + p.count ≤ at) → (at < p.offset) ⊎ (p.offset + p.count ≤ at)
    go (inl h) _ = inl h
    go _ (inr h) = inr h
    go (inr h) (inl k) = absurd (false≢true (sym e ∙ covers_true p at h k))

-- if the first piece has the byte, and if it doesn't
pub byte_at_first : (p : Piece) (ps : List Piece) (at before : ℕ) → covers p at ≡ true → byte_at (p ∷ ps) at before ≡ p.byte (at - p.offset)
unfolding byte_at
byte_at_first p ps at before e = ap (λ (b : Bool). if b then p.byte (at - p.offset) else byte_at ps at before) e

pub byte_at_others : (p : Piece) (ps : List Piece) (at before : ℕ) → covers p at ≡ false → byte_at (p ∷ ps) at before ≡ byte_at ps at before
unfolding byte_at
byte_at_others p ps at before e = ap (λ (b : Bool). if b then p.byte (at - p.offset) else byte_at ps at before) e

-- each piece has the byte, or none of them has
data Standing (ps : List Piece) (at : ℕ) : Type 0 where
  covered : IsCovered ps at → Standing ps at
  bare : ((before : ℕ) → byte_at ps at before ≡ before) → Standing ps at

-- one of the two holds
standing : (ps : List Piece) (at : ℕ) → Standing ps at
unfolding byte_at
standing [] at = bare (λ before. refl)
standing (p ∷ ps) at = go (standing ps at) (cases_Bool (covers p at))
  where
    go : Standing ps at → (covers p at ≡ true) ⊎ (covers p at ≡ false) → Standing (p ∷ ps) at
    go _ (inl e) = covered (inl (covers_tells p at e))
    go (covered h) (inr e) = covered (inr h)
    go (bare b) (inr e) = bare (λ before. byte_at_others p ps at before e ∙ b before)

-- one piece put, byte by byte
pub puts_one : (p : Piece) (old new : List ℕ) → length new ≡ length old → ((k : ℕ) → k < p.count → get_or new (p.offset + k) 0 ≡ p.byte k) → ((at : ℕ) → (at < p.offset) ⊎ (p.offset + p.count ≤ at) → get_or new at 0 ≡ get_or old at 0) → Puts (p ∷ []) old new
unfolding byte_at
puts_one p old new e inside outside = record { same_length = e; bytes = λ at. go at (cases_Bool (covers p at)) }
  where
    go : (at : ℕ) → (covers p at ≡ true) ⊎ (covers p at ≡ false) → get_or new at 0 ≡ byte_at (p ∷ []) at (get_or old at 0)
    go at (inl t) =
        let within = covers_tells p at t in
        let place : p.offset + (at - p.offset) ≡ at = omega (arith, within) in
        sym (ap (λ (i : ℕ). get_or new i 0) place) ∙ inside (at - p.offset) (omega (arith, within)) ∙ sym (byte_at_first p [] at (get_or old at 0) t)
    go at (inr f) = outside at (covers_denies p at f) ∙ sym (byte_at_others p [] at (get_or old at 0) f)

-- a part of a list written over
pub puts_part : (p : Piece) (xs ys : List ℕ) (width : ℕ) → p.offset + p.count ≤ length xs → length ys ≡ p.count → width ≡ p.count → ((k : ℕ) → k < p.count → get_or ys k 0 ≡ p.byte k) → Puts (p ∷ []) xs (put_mid p.offset width xs ys)
puts_part p xs ys width h e w inside =
    puts_one p xs (put_mid p.offset width xs ys) (grind (arith, places)) (λ k l. grind (arith, places, inside k l)) (λ at o. grind (arith, places))

-- what was there before doesn't matter if a piece has the byte
byte_at_covered : (ps : List Piece) (at before other : ℕ) → IsCovered ps at → byte_at ps at before ≡ byte_at ps at other
byte_at_covered [] at before other h = absurd h
byte_at_covered (p ∷ ps) at before other h = go (byte_at_covered ps at before other) h (cases_Bool (covers p at))
  where
    go : (IsCovered ps at → byte_at ps at before ≡ byte_at ps at other) → ((p.offset ≤ at) × (at < p.offset + p.count)) ⊎ IsCovered ps at → (covers p at ≡ true) ⊎ (covers p at ≡ false) → byte_at (p ∷ ps) at before ≡ byte_at (p ∷ ps) at other
    go _ _ (inl e) = byte_at_first p ps at before e ∙ sym (byte_at_first p ps at other e)
    go same (inr h) (inr e) = byte_at_others p ps at before e ∙ same h ∙ sym (byte_at_others p ps at other e)
    go same (inl h) (inr e) = absurd (false≢true (sym e ∙ covers_true p at h.0 h.1))

-- later pieces count only if none of the earlier ones has the byte
byte_at_append : (ps qs : List Piece) (at before : ℕ) → byte_at (ps ++ qs) at before ≡ byte_at ps at (byte_at qs at before)
unfolding byte_at
byte_at_append [] qs at before = refl
byte_at_append (p ∷ ps) qs at before = ap (λ (other : ℕ). if covers p at then p.byte (at - p.offset) else other) (byte_at_append ps qs at before)

-- pieces put after others that are apart from them
pub puts_more : (ps qs : List Piece) (old mid new : List ℕ) → ((at : ℕ) → IsCovered ps at → IsCovered qs at → ⊥) → Puts ps old mid → Puts qs mid new → Puts (ps ++ qs) old new
puts_more ps qs old mid new apart first second = record {
  same_length = second.same_length ∙ first.same_length;
  bytes = λ at. go at (standing ps at) (standing qs at) (get_or old at 0) (first.bytes at) (second.bytes at) ∙ sym (byte_at_append ps qs at (get_or old at 0));
}
  where
    go : (at : ℕ) → Standing ps at → Standing qs at → (before : ℕ) → get_or mid at 0 ≡ byte_at ps at before → get_or new at 0 ≡ byte_at qs at (get_or mid at 0) → get_or new at 0 ≡ byte_at ps at (byte_at qs at before)
    go at (covered h) (covered k) before e f = absurd (apart at h k)
    go at (covered h) (bare b) before e f = f ∙ b (get_or mid at 0) ∙ e ∙ byte_at_covered ps at before (byte_at qs at before) h
    go at (bare b) _ before e f = f ∙ ap (λ (x : ℕ). byte_at qs at x) (e ∙ b before) ∙ sym (b (byte_at qs at before))

-- nothing put
pub puts_nothing : (old : List ℕ) → Puts [] old old
unfolding byte_at
puts_nothing old = record { same_length = refl; bytes = λ at. refl }

-- all pieces end at a place or before it; none begins before a place
abbrev pub end_by : List Piece → ℕ → Bool
end_by [] end = true
end_by (p ∷ ps) end = nat_le (p.offset + p.count) end && end_by ps end

abbrev pub begin_from : List Piece → ℕ → Bool
begin_from [] start = true
begin_from (p ∷ ps) start = nat_le start p.offset && begin_from ps start

-- so are the offsets at which they have bytes
pub covered_below : (ps : List Piece) (end at : ℕ) → end_by ps end ≡ true → IsCovered ps at → at < end
covered_below [] end at e h = absurd h
covered_below (p ∷ ps) end at e (inl h) = omega (arith, leb-true (p.offset + p.count) end (and_parts (nat_le (p.offset + p.count) end) (end_by ps end) e).0, h)
covered_below (p ∷ ps) end at e (inr h) = covered_below ps end at (and_parts _ _ e).1 h

covered_above : (ps : List Piece) (start at : ℕ) → begin_from ps start ≡ true → IsCovered ps at → start ≤ at
covered_above [] start at e h = absurd h
covered_above (p ∷ ps) start at e (inl h) = omega (arith, leb-true start p.offset (and_parts (nat_le start p.offset) (begin_from ps start) e).0, h)
covered_above (p ∷ ps) start at e (inr h) = covered_above ps start at (and_parts _ _ e).1 h

-- pieces before a place and pieces after it are apart
pub apart_at : (ps qs : List Piece) (place : ℕ) → end_by ps place ≡ true → begin_from qs place ≡ true → (at : ℕ) → IsCovered ps at → IsCovered qs at → ⊥
apart_at ps qs place e f at h k = omega (arith, covered_below ps place at e h, covered_above qs place at f k)

-- a list of zeros is 0 at each place
pub zero_at : (count at : ℕ) → get_or (replicate count zero) at 0 ≡ zero
zero_at zero at = refl
zero_at (suc count) zero = refl
zero_at (suc count) (suc at) = zero_at count at

-- a byte of joined pieces is a byte of one of the lists
pub covered_append : (ps qs : List Piece) (at : ℕ) → IsCovered (ps ++ qs) at → IsCovered ps at ⊎ IsCovered qs at
covered_append [] qs at h = inr h
covered_append (p ∷ ps) qs at (inl h) = inl (inl h)
covered_append (p ∷ ps) qs at (inr h) = go (covered_append ps qs at h)
  where
    go : IsCovered ps at ⊎ IsCovered qs at → IsCovered (p ∷ ps) at ⊎ IsCovered qs at
    go (inl k) = inl (inr k)
    go (inr k) = inr k

-- a piece with the same bytes in another form
pub same_piece : (p q : Piece) (old new : List ℕ) → p.offset ≡ q.offset → p.count ≡ q.count → ((k : ℕ) → k < q.count → p.byte k ≡ q.byte k) → Puts (p ∷ []) old new → Puts (q ∷ []) old new
same_piece p q old new o n same put = record { same_length = put.same_length; bytes = λ at. put.bytes at ∙ go at (cases_Bool (covers q at)) }
  where
    test : (at : ℕ) → covers p at ≡ covers q at
    test at = ap (λ (w : ℕ). nat_le w at && nat_lt at (w + p.count)) o ∙ ap (λ (w : ℕ). nat_le q.offset at && nat_lt at (q.offset + w)) n

    go : (at : ℕ) → (covers q at ≡ true) ⊎ (covers q at ≡ false) → byte_at (p ∷ []) at (get_or old at 0) ≡ byte_at (q ∷ []) at (get_or old at 0)
    go at (inl t) =
        byte_at_first p [] at (get_or old at 0) (test at ∙ t)
        ∙ ap (λ (w : ℕ). p.byte (at - w)) o
        ∙ same (at - q.offset) (omega (arith, covers_tells q at t))
        ∙ sym (byte_at_first q [] at (get_or old at 0) t)
    go at (inr f) =
        byte_at_others p [] at (get_or old at 0) (test at ∙ f)
        ∙ byte_at_none at (get_or old at 0)
        ∙ sym (byte_at_others q [] at (get_or old at 0) f)
      where
        byte_at_none : (place before : ℕ) → byte_at [] place before ≡ byte_at [] place before
        byte_at_none place before = refl

-- a piece has the bytes that a list has there
abbrev pub Agrees : List ℕ → Piece → Type 0
Agrees image piece = (k : ℕ) → k < piece.count → piece.byte k ≡ get_or image (piece.offset + k) 0

abbrev pub AllAgree : List ℕ → List Piece → Type 0
AllAgree image [] = Unit {0}
AllAgree image (p ∷ ps) = Agrees image p × AllAgree image ps

-- of two lists joined
pub AllAgree_append : (image : List ℕ) (ps qs : List Piece) → AllAgree image ps → AllAgree image qs → AllAgree image (ps ++ qs)
AllAgree_append image [] qs _ h = h
AllAgree_append image (p ∷ ps) qs h k = (h.0, AllAgree_append image ps qs h.1 k)

-- if a piece has the byte, it is that of the list
pub byte_at_agrees : (image : List ℕ) (ps : List Piece) (at before : ℕ) → AllAgree image ps → IsCovered ps at → byte_at ps at before ≡ get_or image at 0
byte_at_agrees image [] at before h k = absurd k
byte_at_agrees image (p ∷ ps) at before h k = go (byte_at_agrees image ps at before h.1) k (cases_Bool (covers p at))
  where
    go : (IsCovered ps at → byte_at ps at before ≡ get_or image at 0) → ((p.offset ≤ at) × (at < p.offset + p.count)) ⊎ IsCovered ps at → (covers p at ≡ true) ⊎ (covers p at ≡ false) → byte_at (p ∷ ps) at before ≡ get_or image at 0
    go _ _ (inl t) =
        let within = covers_tells p at t in
        byte_at_first p ps at before t ∙ h.0 (at - p.offset) (omega (arith, within)) ∙ ap (λ (i : ℕ). get_or image i 0) (omega (arith, within))
    go others (inr c) (inr f) = byte_at_others p ps at before f ∙ others c
    go others (inl c) (inr f) = absurd (false≢true (sym f ∙ covers_true p at c.0 c.1))

-- the pieces follow one another from a start to an end
abbrev pub follow_on : List Piece → ℕ → ℕ → Bool
follow_on [] start end = start == end
follow_on (p ∷ ps) start end = p.offset == start && follow_on ps (p.offset + p.count) end

-- they have a byte at each offset between the two
pub covered_between : (ps : List Piece) (start end at : ℕ) → follow_on ps start end ≡ true → start ≤ at → at < end → IsCovered ps at
covered_between [] start end at e h k = absurd (omega (arith, eqb-true start end e, h, k))
covered_between (p ∷ ps) start end at e h k = go (covered_between ps (p.offset + p.count) end at tests.1) (cases_lt at (p.offset + p.count))
  where
    tests : (p.offset == start ≡ true) × (follow_on ps (p.offset + p.count) end ≡ true)
    tests = and_parts (p.offset == start) (follow_on ps (p.offset + p.count) end) e

    go : (p.offset + p.count ≤ at → at < end → IsCovered ps at) → (at < p.offset + p.count) ⊎ (p.offset + p.count ≤ at) → IsCovered (p ∷ ps) at
    go _ (inl l) = inl (omega (arith, eqb-true p.offset start tests.0, h), l)
    go others (inr g) = inr (others g k)

-- a byte of either list is one of both joined
pub covered_first : (ps qs : List Piece) (at : ℕ) → IsCovered ps at → IsCovered (ps ++ qs) at
covered_first [] qs at h = absurd h
covered_first (p ∷ ps) qs at (inl h) = inl h
covered_first (p ∷ ps) qs at (inr h) = inr (covered_first ps qs at h)

pub covered_second : (ps qs : List Piece) (at : ℕ) → IsCovered qs at → IsCovered (ps ++ qs) at
covered_second [] qs at h = h
covered_second (p ∷ ps) qs at h = inr (covered_second ps qs at h)
