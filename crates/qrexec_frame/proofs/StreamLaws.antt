use Rattle.std.proofs.lemmas.List.{append-nil, take_all, length-take}
use Rattle.std.proofs.lemmas.Bool.{cases_lt}
use Rattle.std.proofs.Common.{◌⊎◌, inl, inr, ◌≡◌, ℕ, ◌+◌, ◌-◌, ◌<◌, ◌≤◌, suc, zero, List, [], ◌∷◌, ◌++◌, length, take, refl, ap, sym, ◌∙◌, arith, append_assoc, subst}
use Rattle.std.specs.List.{flat_map, AllByRecursion as Each}
use Rattle.qrexec_frame.specs.Streams.{Front, Whole, Bad, Short, Ending, Rest, FaultAt, Placed, Reading, read_on, reading_by, messages, then_reading, IsPrefixCode, IsReadAgain, Begins, ExtendsFrom, Extends}

-- the bytes of the message before are skipped
pub read_on_skip : {M F : Type 0} (first : List ℕ → Front M F) → (s bs : List ℕ) (at skip : ℕ) → skip ≡ length s → read_on first (s ++ bs) at skip ≡ read_on first bs (at + length s) 0
read_on_skip first [] bs at skip is = let e : at + 0 ≡ at = omega arith in rw (is, e) refl
read_on_skip first (x ∷ s) bs at skip is = rw is (let e : at + suc (length s) ≡ (at + 1) + length s = omega arith in rw e (read_on_skip first s bs (at + 1) (length s) refl))

-- a whole message at the front is read, and then the rest
pub read_on_whole : {M F : Type 0} (first : List ℕ → Front M F) (m : M) (s more : List ℕ) (at : ℕ) → 0 < length s → first (s ++ more) ≡ Whole m (length s)
    → read_on first (s ++ more) at 0 ≡ record { placed = record { at = at; message = m } ∷ (read_on first more (at + length s) 0).placed; ending = (read_on first more (at + length s) 0).ending }
read_on_whole first m [] more at some is = absurd (omega (arith, some))
read_on_whole first m (x ∷ s) more at some is =
    let less : suc (length s) - 1 ≡ length s = omega arith in
    let there : at + suc (length s) ≡ (at + 1) + length s = omega arith in
    rw is (rw there (rw (read_on_skip first s more (at + 1) (suc (length s) - 1) less) refl))

-- by cases on whether one list is longer: of two beginnings of one list one begins the other
pub two_fronts : {A : Type 0} (a b x y : List A) → a ++ x ≡ b ++ y → length a ≤ length b → (mid : List A) × (b ≡ a ++ mid) × (x ≡ mid ++ y)
two_fronts [] b x y same le = (b, refl, same)
two_fronts (p ∷ a) [] x y same le = absurd (omega (arith, le))
two_fronts (p ∷ a) (q ∷ b) x y same le =
    let head : p ≡ q = cc in
    let tail : a ++ x ≡ b ++ y = cc in
    let more = two_fronts a b x y tail (omega (arith, le)) in
    (more.0, (let e = more.1 in cc), more.2)

-- nothing is known of a proper beginning of a written message
pub first_short : {M F : Type 0} (first : List ℕ → Front M F) (written : M → List ℕ) (Good : M → Type 0) → IsPrefixCode first → IsReadAgain first written Good
    → (m : M) → Good m → (p over : List ℕ) → p ++ over ≡ written m → length p < length (written m) → first p ≡ Short
first_short {M} {F} first written Good code again m good p over is less = by_front (first p) refl
  where
    all : first (written m) ≡ Whole m (length (written m))
    all = let e = again m [] good in rw append-nil at e

    by_front : (f : Front M F) → first p ≡ f → first p ≡ Short
    by_front (Whole m' n) e =
        let stays = code.whole_stays p over m' n e in let both : first (written m) ≡ Whole m' n = rw (← is) stays in
        let here = all in let same : n ≡ length (written m) = cc in
        absurd (omega (arith, same, less, (code.sized p m' n e).1))
    by_front (Bad f) e =
        let stays = code.bad_stays p over f e in let both : first (written m) ≡ Bad f = rw (← is) stays in
        let here = all in cc
    by_front Short e = e

begins_after : {M F : Type 0} (first : List ℕ → Front M F) (written : M → List ℕ) (m : M) (ms : List M) (tail : List ℕ) (at : ℕ)
    → 0 < length (written m) → first (written m ++ tail) ≡ Whole m (length (written m))
    → Begins first written ms tail (at + length (written m)) → Begins first written (m ∷ ms) (written m ++ tail) at
begins_after first written m ms tail at some front more =
    let read = read_on_whole first m (written m) tail at some front in
    record {
      count = suc more.count;
      over = more.over;
      within = omega (arith, more.within);
      is = ap (λ bytes. written m ++ bytes) more.is ∙ sym (append_assoc (written m) (flat_map written (take more.count ms)) more.over);
      read = rw read (ap (λ rest. m ∷ rest) more.read);
      ending = rw read more.ending;
      all = λ e. more.all (omega (arith, e));
    }

begins_one : {M F : Type 0} (first : List ℕ → Front M F) (written : M → List ℕ) (Good : M → Type 0) → IsPrefixCode first → IsReadAgain first written Good
    → (m : M) → Good m → (ms : List M) → ((bytes rest : List ℕ) (at : ℕ) → bytes ++ rest ≡ flat_map written ms → Begins first written ms bytes at)
    → (bytes rest : List ℕ) (at : ℕ) → bytes ++ rest ≡ written m ++ flat_map written ms → Begins first written (m ∷ ms) bytes at
begins_one {M} {F} first written Good code again m good ms next bytes rest at is = by_length (cases_lt (length bytes) (length (written m)))
  where
    ended : (p over : List ℕ) → p ++ over ≡ written m → length p < length (written m) → read_on first p at 0 ≡ record { placed = []; ending = Rest (length p) }
    ended [] over same less = refl
    ended (b ∷ bs) over same less = rw (first_short first written Good code again m good (b ∷ bs) over same less) refl

    by_length : ((length bytes < length (written m)) ⊎ (length (written m) ≤ length bytes)) → Begins first written (m ∷ ms) bytes at
    by_length (inl short) =
        let cut = two_fronts bytes (written m) rest (flat_map written ms) is (omega (arith, short)) in
        let read = ended bytes cut.0 (sym cut.1) short in
        record { count = 0; over = bytes; within = omega arith; is = refl; read = rw read refl; ending = rw read refl; all = λ e. cc }
    by_length (inr long) =
        let cut = two_fronts (written m) bytes (flat_map written ms) rest (sym is) long in
        let more = next cut.0 rest (at + length (written m)) (sym cut.2) in
        let front = again m cut.0 good in
        let some = (code.sized (written m ++ cut.0) m (length (written m)) front).0 in
        let P : List ℕ → Type 0 = λ b. Begins first written (m ∷ ms) b at in
        subst P (sym cut.1) (begins_after first written m ms cut.0 at some front more)

-- a beginning of written messages reads without fault, as the first few of them
pub begins : {M F : Type 0} (first : List ℕ → Front M F) (written : M → List ℕ) (Good : M → Type 0) → IsPrefixCode first → IsReadAgain first written Good
    → (ms : List M) → Each Good ms → (bytes rest : List ℕ) (at : ℕ) → bytes ++ rest ≡ flat_map written ms → Begins first written ms bytes at
begins first written Good code again [] each [] rest at is = record { count = 0; over = []; within = omega arith; is = refl; read = refl; ending = refl; all = λ _. refl }
begins first written Good code again [] each (b ∷ bytes) rest at is = cc
begins first written Good code again (m ∷ ms) each bytes rest at is =
    begins_one first written Good code again m each.0 ms (λ b r a i. begins first written Good code again ms each.1 b r a i) bytes rest at is

extends_whole : {M F : Type 0} (p : Placed M) (old new : Reading M F) → Extends old new → Extends (record { placed = p ∷ old.placed; ending = old.ending }) (record { placed = p ∷ new.placed; ending = new.ending })
extends_whole {M} {F} p old new more = by_ending old.ending more
  where
    by_ending : (e : Ending F) → ExtendsFrom e old new → ExtendsFrom e (record { placed = p ∷ old.placed; ending = old.ending }) (record { placed = p ∷ new.placed; ending = new.ending })
    by_ending (Rest left) h = (h.0, ap (λ ps. p ∷ ps) h.1)
    by_ending (FaultAt at f) h = rw h refl

extends_front : {M F : Type 0} (first : List ℕ → Front M F) → IsPrefixCode first → (x : ℕ) (a b : List ℕ) (at : ℕ)
    → ((skip : ℕ) → Extends (read_on first a (at + 1) skip) (read_on first (a ++ b) (at + 1) skip))
    → Extends (read_on first (x ∷ a) at 0) (read_on first (x ∷ a ++ b) at 0)
extends_front {M} {F} first code x a b at next = by_front (first (x ∷ a)) refl
  where
    by_front : (f : Front M F) → first (x ∷ a) ≡ f → Extends (read_on first (x ∷ a) at 0) (read_on first (x ∷ a ++ b) at 0)
    by_front (Whole m n) is =
        let stays : first (x ∷ a ++ b) ≡ Whole m n = code.whole_stays (x ∷ a) b m n is in
        rw (is, stays) (extends_whole (record { at = at; message = m }) _ _ (next (n - 1)))
    by_front (Bad f) is =
        let stays : first (x ∷ a ++ b) ≡ Bad f = code.bad_stays (x ∷ a) b f is in
        rw (is, stays) refl
    by_front Short is = rw is (_, refl)

-- the reading of a longer stream goes on from the reading of the shorter one
pub extends : {M F : Type 0} (first : List ℕ → Front M F) → IsPrefixCode first → (a b : List ℕ) (at skip : ℕ) → Extends (read_on first a at skip) (read_on first (a ++ b) at skip)
extends first code [] b at skip = (_, refl)
extends first code (x ∷ a) b at (suc skip) = extends first code a b (at + 1) skip
extends first code (x ∷ a) b at zero = extends_front first code x a b at (λ skip. extends first code a b (at + 1) skip)

-- if as many messages were read as were written, all the bytes came
pub all_came : {M F : Type 0} (first : List ℕ → Front M F) (written : M → List ℕ) (ms : List M) (bytes : List ℕ) → Begins first written ms bytes 0
    → length ms ≤ length (messages (reading_by first bytes)) → bytes ≡ flat_map written ms
all_came first written ms bytes b same =
    let long : length ms ≤ length (take b.count ms) = rw (← b.read) same in
    let short : length (take b.count ms) ≤ b.count = grind (arith, length-take) in
    let count : b.count ≡ length ms = omega (arith, b.within) in
    let whole : take b.count ms ≡ ms = take_all b.count ms (omega (arith, count)) in
    let none : b.over ≡ [] = b.all count in
    b.is ∙ rw (whole, none) (append-nil (flat_map written ms))

-- written messages are read as they are
pub reads_all : {M F : Type 0} (first : List ℕ → Front M F) (written : M → List ℕ) (Good : M → Type 0) → IsPrefixCode first → IsReadAgain first written Good
    → (ms : List M) → Each Good ms → (at : ℕ) → (messages (read_on first (flat_map written ms) at 0) ≡ ms) × ((read_on first (flat_map written ms) at 0).ending ≡ Rest 0)
reads_all first written Good code again [] each at = (refl, refl)
reads_all first written Good code again (m ∷ ms) each at =
    let front = again m (flat_map written ms) each.0 in
    let some = (code.sized _ m (length (written m)) front).0 in
    let read = read_on_whole first m (written m) (flat_map written ms) at some front in
    let more = reads_all first written Good code again ms each.1 (at + length (written m)) in
    rw read (ap (λ rest. m ∷ rest) more.0, more.1)

-- what was read to its end as whole messages is read the same, whatever follows it
pub reads_then : {M F : Type 0} (first : List ℕ → Front M F) → IsPrefixCode first → (bytes tail : List ℕ) (at skip : ℕ) → skip ≤ length bytes → (read_on first bytes at skip).ending ≡ Rest 0
    → read_on first (bytes ++ tail) at skip ≡ then_reading (read_on first bytes at skip).placed (read_on first tail (at + length bytes) 0)
reads_then first code [] tail at zero within done = let same : at + 0 ≡ at = omega arith in rw same refl
reads_then first code [] tail at (suc skip) within done = absurd (omega (arith, within))
reads_then first code (b ∷ bytes) tail at (suc skip) within done =
    let same : at + suc (length bytes) ≡ (at + 1) + length bytes = omega arith in
    rw same (reads_then first code bytes tail (at + 1) skip (omega (arith, within)) done)
reads_then first code (b ∷ bytes) tail at zero within done =
    let same : at + suc (length bytes) ≡ (at + 1) + length bytes = omega arith in
    rw same (reads_then_front first code b bytes tail at done (λ skip less more. reads_then first code bytes tail (at + 1) skip less more))
  where
    reads_then_front : {M F : Type 0} (first : List ℕ → Front M F) → IsPrefixCode first → (b : ℕ) (bytes tail : List ℕ) (at : ℕ) → (read_on first (b ∷ bytes) at 0).ending ≡ Rest 0
        → ((skip : ℕ) → skip ≤ length bytes → (read_on first bytes (at + 1) skip).ending ≡ Rest 0
        → read_on first (bytes ++ tail) (at + 1) skip ≡ then_reading (read_on first bytes (at + 1) skip).placed (read_on first tail ((at + 1) + length bytes) 0))
        → read_on first (b ∷ bytes ++ tail) at 0 ≡ then_reading (read_on first (b ∷ bytes) at 0).placed (read_on first tail ((at + 1) + length bytes) 0)
    reads_then_front {M} {F} first code b bytes tail at done next = by_front (first (b ∷ bytes)) refl
      where
        by_front : (f : Front M F) → first (b ∷ bytes) ≡ f → read_on first (b ∷ bytes ++ tail) at 0 ≡ then_reading (read_on first (b ∷ bytes) at 0).placed (read_on first tail ((at + 1) + length bytes) 0)
        by_front (Whole m n) is =
            let stays : first (b ∷ bytes ++ tail) ≡ Whole m n = code.whole_stays (b ∷ bytes) tail m n is in
            let sized = code.sized (b ∷ bytes) m n is in
            let less : n - 1 ≤ length bytes = omega (arith, sized.0, sized.1) in
            let ended : (read_on first bytes (at + 1) (n - 1)).ending ≡ Rest 0 = rw is at done in
            let rest = next (n - 1) less ended in
            rw (is, stays) (rw rest refl)
        by_front (Bad f) is = let ended : FaultAt at f ≡ Rest 0 = rw is at done in cc
        by_front Short is =
            let left : ℕ → Ending F = λ k. Rest k in
            let ended : left (suc (length bytes)) ≡ left 0 = rw is at done in
            let none : suc (length bytes) ≡ 0 = cc in absurd (omega (arith, none))

-- less than a message is the rest
pub read_on_short : {M F : Type 0} (first : List ℕ → Front M F) (bytes : List ℕ) (at : ℕ) → first bytes ≡ Short → read_on first bytes at 0 ≡ record { placed = []; ending = Rest (length bytes) }
read_on_short first [] at is = refl
read_on_short first (b ∷ bytes) at is = rw is refl

-- a fault at the front is the end
pub read_on_bad : {M F : Type 0} (first : List ℕ → Front M F) (bytes : List ℕ) (at : ℕ) (f : F) → 0 < length bytes → first bytes ≡ Bad f → read_on first bytes at 0 ≡ record { placed = []; ending = FaultAt at f }
read_on_bad first [] at f some is = absurd (omega (arith, some))
read_on_bad first (b ∷ bytes) at f some is = rw is refl
