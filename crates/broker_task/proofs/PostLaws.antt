-- Letters that are put into outboxes, domain by domain.
use Rattle.std.proofs.Common.{◌≡◌, ◌≢◌, ℕ, ◌+◌, ◌-◌, ◌<◌, ◌≤◌, Bool, true, false, List, [], ◌∷◌, ◌++◌, length, get_or, refl, sym, ap, ◌∙◌, subst, arith, append_assoc}
use Rattle.std.specs.Prelude.{◌==◌, Result, Ok, Err, OnOk}
use Rattle.std.proofs.Math.ListN.{set}
use Rattle.std.proofs.lemmas.List.{append-nil, get_or-set_same, get_or-set_other, length-set}
use Rattle.std.proofs.lemmas.Bool.{false≢true}
use Rattle.std.proofs.lemmas.Bool.Decides.{nat_tests}
use Rattle.std.specs.List.{AllByRecursion as Each}
use Rattle.list_laws.proofs.Tests.{same_number}
use Rattle.qrexec_frame.specs.declared.message.Message.{Message}
use Rattle.qrexec_frame.specs.declared.message.Message.TheVariants as message
use Rattle.call_broker.specs.declared.event.Event.{Event}
use Rattle.call_broker.specs.declared.event.Event.TheVariants.{Trigger, Terminated, Dropped}
use Rattle.call_broker.specs.declared.decision.Decision.{Decision}
use Rattle.call_broker.specs.declared.decision.Decision.TheVariants as decision
use Rattle.call_broker.specs.Domains.{Domains}
use Rattle.task_duties.specs.Broker.Outbox.{puts, is_from, is_answer}
use Rattle.broker_task.specs.declared.outbox.Letter.{Letter}
use Rattle.broker_task.specs.declared.daemon.Daemon.{Daemon}
use Rattle.broker_task.specs.declared.reply.Reply.TheVariants.{Nothing, Refused, Accepted}
use Rattle.broker_task.specs.Letters.{IsAt, messages_in}
use Rattle.broker_task.specs.Replies.{IsReplyTo, IsFit}
use Rattle.broker_task.specs.Posting.{EachAt, EachMoves, SamePort, Posts, IsFree, IsCallOf, one_if}

-- ---- lists of domains

-- one domain is changed, and the others are as they were
pub moves_one : (R : ℕ → Daemon → Daemon → Type 0) (old : List Daemon) (i : ℕ) (x y : Daemon) → IsAt old i x → R (i + 1) x y → ((d : ℕ) (z : Daemon) → d ≢ i + 1 → R d z z) → EachMoves R old (set old i y)
moves_one R old i x y there here others = record {
  count = length-set old i y;
  each = λ j z at. by_place j z at (j == i) refl;
}
  where
    by_place : (j : ℕ) (z : Daemon) → IsAt (set old i y) j z → (b : Bool) → (j == i) ≡ b → (w : Daemon) × IsAt old j w × R (j + 1) w z
    by_place j z at true is =
        let same : j ≡ i = same_number j i is in
        let z_is : z ≡ y = at.is ∙ ap (λ k. get_or (set old i y) k z) same ∙ get_or-set_same old i y z there.within in
        subst (λ k. (w : Daemon) × IsAt old k w × R (k + 1) w z) (sym same) (x, there, subst (λ w. R (i + 1) x w) (sym z_is) here)
    by_place j z at false is =
        let apart : j ≢ i = λ same. grind (arith, nat_tests, is, same) in
        let less : j < length old = subst (λ n. j < n) (length-set old i y) at.within in
        (z, record { within = less; is = at.is ∙ get_or-set_other old i j y z apart }, others (j + 1) z (λ same. apart (omega (arith, same))))

-- an element that was read from its place
pub at_item : (ds : List Daemon) (i : ℕ) (x : Daemon) → i < length ds → x ≡ get_or ds i x → IsAt ds i (get_or ds i x)
at_item ds i x less is = record { within = less; is = ap (λ z. get_or ds i z) is }

pub moves_none : (R : ℕ → Daemon → Daemon → Type 0) (ds : List Daemon) → ((d : ℕ) (x : Daemon) → R d x x) → EachMoves R ds ds
moves_none R ds same = record { count = refl; each = λ j z at. (z, at, same (j + 1) z) }

pub moves_as : (R T : ℕ → Daemon → Daemon → Type 0) (a b : List Daemon) → EachMoves R a b → ((d : ℕ) (x y : Daemon) → R d x y → T d x y) → EachMoves T a b
moves_as R T a b moves step = record { count = moves.count; each = λ j y at. let m = moves.each j y at in (m.0, m.1, step (j + 1) m.0 y m.2) }

pub moves_then : (R S T : ℕ → Daemon → Daemon → Type 0) (a b c : List Daemon) → EachMoves R a b → EachMoves S b c → ((d : ℕ) (x y z : Daemon) → R d x y → S d y z → T d x z) → EachMoves T a c
moves_then R S T a b c first second join = record {
  count = second.count ∙ first.count;
  each = λ j z at. let s = second.each j z at in let f = first.each j s.0 s.1 in (f.0, f.1, join (j + 1) f.0 s.0 z f.2 s.2);
}

-- what holds of each domain, through a change of each
pub each_moved : (P Q : ℕ → Daemon → Type 0) (R : ℕ → Daemon → Daemon → Type 0) (old new : List Daemon) → EachMoves R old new → ((d : ℕ) (x y : Daemon) → R d x y → P d x → Q d y) → EachAt P old → EachAt Q new
each_moved P Q R old new moves step each = λ j y at. let m = moves.each j y at in step (j + 1) m.0 y m.2 (each j m.0 m.1)

-- ---- letters that are put

pub record Adds (more : List Letter) (n : ℕ) (x y : Daemon) : Type 0 where
  pub port : y.port ≡ x.port
  pub domain : y.domain ≡ x.domain
  pub awaited : y.awaited ≡ x.awaited
  pub letters : y.outbox.letters.items ≡ x.outbox.letters.items ++ more
  pub counted : y.answered ≡ x.answered + n

pub adds_none : (x : Daemon) → Adds [] 0 x x
adds_none x = record { port = refl; domain = refl; awaited = refl; letters = sym (append-nil x.outbox.letters.items); counted = omega arith }

pub adds_then : (m k : List Letter) (n p : ℕ) (x y z : Daemon) → Adds m n x y → Adds k p y z → Adds (m ++ k) (n + p) x z
adds_then m k n p x y z a b = record {
  port = b.port ∙ a.port;
  domain = b.domain ∙ a.domain;
  awaited = b.awaited ∙ a.awaited;
  letters = b.letters ∙ ap (λ l. l ++ k) a.letters ∙ append_assoc x.outbox.letters.items m k;
  counted = omega (arith, a.counted, b.counted);
}

abbrev pub letter_if : Bool → Letter → List Letter
letter_if true l = l ∷ []
letter_if false l = []

abbrev pub count_if : Bool → ℕ → ℕ
count_if true n = n
count_if false n = 0

-- a letter is put for one domain
pub moves_letter : (ds : List Daemon) (k : ℕ) (l : Letter) (n : ℕ) (x y : Daemon) → 1 ≤ k → IsAt ds (k - 1) x → Adds (l ∷ []) n x y
    → EachMoves (λ d. Adds (letter_if (d == k) l) (count_if (d == k) n)) ds (set ds (k - 1) y)
moves_letter ds k l n x y some there adds =
    let number : k - 1 + 1 ≡ k = omega (arith, some) in
    let self : (k - 1 + 1 == k) ≡ true = grind (arith, nat_tests, number) in
    moves_one (λ d. Adds (letter_if (d == k) l) (count_if (d == k) n)) ds (k - 1) x y there
    (subst (λ b. Adds (letter_if b l) (count_if b n) x y) (sym self) adds)
    (λ d z apart. let other : (d == k) ≡ false = grind (arith, nat_tests, number, apart) in subst (λ b. Adds (letter_if b l) (count_if b n) z z) (sym other) (adds_none z))

-- ---- the replies

posts_from : (hub : Domains) (e : Event) (decided : Decision) (d : ℕ) (more : List Letter) (n : ℕ) (x y : Daemon) → Adds more n x y → messages_in more ≡ puts hub d e decided
    → Each (λ l. IsFit hub l.message) more → Each (λ l. l.held ≡ false → IsFree l.message) more → Each (λ l. l.held ≡ true → IsCallOf e decided d l.message) more → n ≡ one_if (is_answer d e decided)
    → Posts hub (record { event = e; decision = decided }) d x y
posts_from hub e decided d more n x y a are fit free held counted = record {
  domain = a.domain;
  port = a.port;
  awaited = a.awaited;
  more = more;
  letters = a.letters;
  are = are;
  replies = fit;
  free = free;
  held = held;
  counted = a.counted ∙ ap (λ k. x.answered + k) counted;
}

pub posts_nothing : (hub : Domains) (e : Event) (decided : Decision) (d : ℕ) (x : Daemon) → IsReplyTo hub e decided Nothing → Posts hub (record { event = e; decision = decided }) d x x
posts_nothing hub (Trigger f t s i) (decision.Accepted to port) d x is = absurd is
posts_nothing hub (Trigger f t s i) (decision.Refused cause) d x is = absurd is
posts_nothing hub (Trigger f t s i) (decision.Ended a b port) d x is = posts_from hub (Trigger f t s i) (decision.Ended a b port) d [] 0 x x (adds_none x) refl tt tt tt refl
posts_nothing hub (Trigger f t s i) decision.PassedOver d x is = posts_from hub (Trigger f t s i) decision.PassedOver d [] 0 x x (adds_none x) refl tt tt tt refl
posts_nothing hub (Terminated f o p) decided d x is = posts_from hub (Terminated f o p) decided d [] 0 x x (adds_none x) refl tt tt tt refl
posts_nothing hub (Dropped o) decided d x is = posts_from hub (Dropped o) decided d [] 0 x x (adds_none x) refl tt tt tt refl

pub posts_refused : (hub : Domains) (e : Event) (decided : Decision) (from d : ℕ) (m : Message) (x y : Daemon) → is_from from e ≡ true → IsReplyTo hub e decided (Refused m) → IsFit hub m
    → Adds (letter_if (d == from) (record { message = m; held = false })) (count_if (d == from) 1) x y → Posts hub (record { event = e; decision = decided }) d x y
posts_refused hub (Trigger f t s i) (decision.Refused cause) from d m x y own is fit a =
    let same : f ≡ from = same_number f from own in
    by_test (d == from) (ap (λ k. d == k) same) a
  where
    by_test : (b : Bool) → (d == f) ≡ b → Adds (letter_if b (record { message = m; held = false })) (count_if b 1) x y → Posts hub (record { event = Trigger f t s i; decision = decision.Refused cause }) d x y
    by_test true here a' =
        posts_from hub (Trigger f t s i) (decision.Refused cause) d (record { message = m; held = false } ∷ []) 1 x y a' (rw here (ap (λ k. k ∷ []) is)) (fit, tt) ((λ free. subst IsFree (sym is) tt), tt) ((λ held. absurd (false≢true held)), tt)
        (rw (swap here) refl)
      where
        swap : (d == f) ≡ true → (f == d) ≡ true
        swap h = grind (arith, nat_tests, h)
    by_test false away a' =
        posts_from hub (Trigger f t s i) (decision.Refused cause) d [] 0 x y a' (rw away refl) tt tt tt (rw (swap away) refl)
      where
        swap : (d == f) ≡ false → (f == d) ≡ false
        swap h = grind (arith, nat_tests, h)
posts_refused hub (Trigger f t s i) (decision.Accepted to port) from d m x y own is fit a = absurd is
posts_refused hub (Trigger f t s i) (decision.Ended q r port) from d m x y own is fit a = absurd is
posts_refused hub (Trigger f t s i) decision.PassedOver from d m x y own is fit a = absurd is
posts_refused hub (Terminated f o p) decided from d m x y own is fit a = absurd is
posts_refused hub (Dropped o) decided from d m x y own is fit a = absurd is

pub posts_accepted : (hub : Domains) (e : Event) (decided : Decision) (from to d : ℕ) (exec connect : Message) (x y : Daemon) → is_from from e ≡ true → IsReplyTo hub e decided (Accepted to exec connect) → IsFit hub exec × IsFit hub connect
    → Adds (letter_if (d == from) (record { message = connect; held = true }) ++ letter_if (d == to) (record { message = exec; held = false })) (count_if (d == from) 1 + count_if (d == to) 0) x y
    → Posts hub (record { event = e; decision = decided }) d x y
posts_accepted hub (Trigger f t s i) (decision.Accepted q port) from to d exec connect x y own is fit a =
    let same : f ≡ from = same_number f from own in
    by_tests (d == from) (d == to) (ap (λ k. d == k) same) (ap (λ k. d == k) (sym is.0)) a
  where
    swap : (b : Bool) → (d == f) ≡ b → (f == d) ≡ b
    swap true h = grind (arith, nat_tests, h)
    swap false h = grind (arith, nat_tests, h)

    by_tests : (b c : Bool) → (d == f) ≡ b → (d == q) ≡ c
        → Adds (letter_if b (record { message = connect; held = true }) ++ letter_if c (record { message = exec; held = false })) (count_if b 1 + count_if c 0) x y
        → Posts hub (record { event = Trigger f t s i; decision = decision.Accepted q port }) d x y
    by_tests true true here there a' =
        posts_from hub (Trigger f t s i) (decision.Accepted q port) d (record { message = connect; held = true } ∷ record { message = exec; held = false } ∷ []) 1 x y a'
        (rw (here, there) (ap (λ k. k ∷ exec ∷ []) is.2 ∙ ap (λ k. message.Connect q port i ∷ k ∷ []) is.1)) (fit.1, (fit.0, tt)) ((λ free. cc), ((λ free. subst IsFree (sym is.1) tt), tt)) ((λ held. (same_number d f here, is.2)), ((λ held. absurd (false≢true held)), tt)) (rw (swap true here) refl)
    by_tests true false here there a' =
        posts_from hub (Trigger f t s i) (decision.Accepted q port) d (record { message = connect; held = true } ∷ []) 1 x y a' (rw (here, there) (ap (λ k. k ∷ []) is.2)) (fit.1, tt) ((λ free. cc), tt) ((λ held. (same_number d f here, is.2)), tt) (rw (swap true here) refl)
    by_tests false true here there a' =
        posts_from hub (Trigger f t s i) (decision.Accepted q port) d (record { message = exec; held = false } ∷ []) 0 x y a' (rw (here, there) (ap (λ k. k ∷ []) is.1)) (fit.0, tt) ((λ free. subst IsFree (sym is.1) tt), tt) ((λ held. absurd (false≢true held)), tt) (rw (swap false here) refl)
    by_tests false false here there a' =
        posts_from hub (Trigger f t s i) (decision.Accepted q port) d [] 0 x y a' (rw (here, there) refl) tt tt tt (rw (swap false here) refl)
posts_accepted hub (Trigger f t s i) (decision.Refused cause) from to d exec connect x y own is fit a = absurd is
posts_accepted hub (Trigger f t s i) (decision.Ended q r port) from to d exec connect x y own is fit a = absurd is
posts_accepted hub (Trigger f t s i) decision.PassedOver from to d exec connect x y own is fit a = absurd is
posts_accepted hub (Terminated f o p) decided from to d exec connect x y own is fit a = absurd is
posts_accepted hub (Dropped o) decided from to d exec connect x y own is fit a = absurd is

-- ---- where a call may run out of memory

pub on_ok : {A E : Type 0} {P Q : Type 0} (r : Result A E) → OnOk r P → (P → Q) → OnOk r Q
on_ok (Ok a) p go = go p
on_ok (Err e) p go = tt

pub on_ok_both : {A E : Type 0} {P Q R : Type 0} (r : Result A E) → OnOk r P → OnOk r Q → (P → Q → R) → OnOk r R
on_ok_both (Ok a) p q go = go p q
on_ok_both (Err e) p q go = tt

-- ---- the ports

pub same_port : (d : ℕ) (x : Daemon) → SamePort d x x
same_port d x = (refl, refl, refl)

pub port_then : (d : ℕ) (x y z : Daemon) → SamePort d x y → SamePort d y z → SamePort d x z
port_then d x y z a b = (b.0 ∙ a.0, b.1 ∙ a.1, b.2 ∙ a.2)
