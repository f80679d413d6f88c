-- What a turn did for one domain, step by step.
use Rattle.std.proofs.Common.{◌≡◌, ◌≢◌, ℕ, ◌+◌, ◌<◌, ◌≤◌, suc, Bool, true, false, List, [], ◌∷◌, ◌++◌, length, map, Option, None, refl, sym, ap, ◌∙◌, subst, arith, inl, inr}
use Rattle.std.specs.Prelude.{◌⊎◌, ◌==◌, IsSome, IfOk, Result, Ok, Err, if◌then◌else◌}
use Rattle.std.proofs.Math.ListN.{set}
use Rattle.std.proofs.lemmas.Bool.Decides.{nat_tests}
use Rattle.vchan_lifecycle.specs.Lifecycle.{FindsNotYet}
use Rattle.vchan_packet.proofs.FailingLaws.{sent_no_more}
use Rattle.vchan_rule.specs.Seated.{SeatedEnd, view}
use Rattle.control_port.specs.Port.{PortState}
use Rattle.broker_task.specs.declared.outbox.Letter.{Letter}
use Rattle.broker_task.specs.declared.daemon.Daemon.{Daemon}
use Rattle.broker_task.specs.Letters.{IsAt, connects, released}
use Rattle.call_broker.specs.declared.decision.Entry.{Entry}
use Rattle.call_broker.specs.Domains.{Domains}
use Rattle.std.proofs.lemmas.Bool.{false≢true}
use Rattle.std.specs.List.{AllZip as EachPair}
use Rattle.list_laws.proofs.Tests.{same_number}
use Rattle.broker_task.specs.declared.switchboard.Switchboard.{Switchboard}
use Rattle.broker_task.specs.Given.{BrokerState}
use Rattle.task_duties.specs.declared.ends.TaskTurn.{TaskTurn}
use Rattle.broker_task.specs.declared.task.BrokerDone.{BrokerDone}
use Rattle.task_duties.specs.declared.ends.TaskTurn.TheVariants as turn
use Rattle.broker_task.specs.Turns.{TurnsEach, KeepsLines}
use Rattle.vchan_protocol.specs.declared.call.EndState.{EndState}
use Rattle.vchan_protocol.specs.declared.call.EndState.TheVariants.{Fresh, Open, Shut}
use Rattle.broker_task.specs.Lines.{end_of, is_begun, is_shut, is_gone, OnlyPort}
use Rattle.broker_task.specs.Posting.{EachMoves, LetsGo, Posts}
use Rattle.broker_task.specs.Moving.{BrokerLine, line_of, IsLater, HearsNothing, SaysNothing, has_not_greeted, all_held, greeting_waits, letter_waits, Grows, HasMoved, IsQuiet, HasTurned, StandsBy, FindsHere, Listens, ListensAsTold, Decides, SendsMore, SendsOrNot, SendsSoFar, IsDropped, Turns, Steps}
use Rattle.broker_task.proofs.PostLaws.{moves_one, moves_as, moves_then}
use Rattle.broker_task.proofs.Lists.{at_one}
use Rattle.broker_task.proofs.SendingSteps.{Alone}

-- ---- letters

pub later_self : (letters : List Letter) → IsLater letters letters
later_self [] = tt
later_self (l ∷ letters) = (refl, (λ held. held), later_self letters)

pub later_then : (a b c : List Letter) → IsLater a b → IsLater b c → IsLater a c
later_then [] b c first second = tt
later_then (x ∷ a) [] c first second = absurd first
later_then (x ∷ a) (y ∷ b) [] first second = absurd second
later_then (x ∷ a) (y ∷ b) (z ∷ c) first second = (second.0 ∙ first.0, (λ held. first.1 (second.1 held)), later_then a b c first.2 second.2)

pub later_more : (letters more : List Letter) → IsLater letters (letters ++ more)
later_more [] more = tt
later_more (l ∷ letters) more = (refl, (λ held. held), later_more letters more)

pub later_released : (t : ℕ) (meant : Option ℕ) (letters : List Letter) → IsLater letters (map (released t meant) letters)
later_released t meant [] = tt
later_released t meant (l ∷ letters) = by_test (connects t meant l.message) (later_released t meant letters)
  where
    by_test : (b : Bool) → IsLater letters (map (released t meant) letters) → IsLater (l ∷ letters) ((if b then record l { held = false } else l) ∷ map (released t meant) letters)
    by_test true rest = (refl, (λ held. cc), rest)
    by_test false rest = (refl, (λ held. held), rest)

later_count : (a b : List Letter) → IsLater a b → length a ≤ length b
later_count [] b later = omega arith
later_count (x ∷ a) [] later = absurd later
later_count (x ∷ a) (y ∷ b) later = omega (arith, later_count a b later.2)

later_as : (a b c : List Letter) → c ≡ b → IsLater a b → IsLater a c
later_as a b c is later = subst (λ (l : List Letter). IsLater a l) (sym is) later

-- ---- what lasts

pub grows_self : (e : SeatedEnd) → Grows e e
grows_self e = record { got = omega arith; sent = omega arith; shut = λ is. is }

pub grows_then : (a b c : SeatedEnd) → Grows a b → Grows b c → Grows a c
grows_then a b c first second = record {
  got = omega (arith, first.got, second.got);
  sent = omega (arith, first.sent, second.sent);
  shut = λ is. second.shut (first.shut is);
}

-- an end that wasn't shut before got no less, and sent the same
pub grows_got : (x : Daemon) (e : SeatedEnd) → is_gone x ≡ false → length (end_of x).got ≤ length (view e).got → (view e).sent ≡ (end_of x).sent → Grows x.port.end e
grows_got x e up got sent = record {
  got = got;
  sent = subst (λ (l : List ℕ). length (end_of x).sent ≤ length l) (sym sent) (omega arith);
  shut = λ is. absurd (false≢true (sym up ∙ is));
}

-- an end that is shut now got and sent the same
pub grows_shut : (x y : Daemon) → is_gone y ≡ true → (end_of y).got ≡ (end_of x).got → (end_of y).sent ≡ (end_of x).sent → Grows x.port.end y.port.end
grows_shut x y gone got sent = record {
  got = subst (λ (l : List ℕ). length (end_of x).got ≤ length l) (sym got) (omega arith);
  sent = subst (λ (l : List ℕ). length (end_of x).sent ≤ length l) (sym sent) (omega arith);
  shut = λ is. gone;
}

grows_told : (there : Bool) (x y : Daemon) → ListensAsTold there x y → Grows x.port.end y.port.end
grows_told true x y told = told.grows
grows_told false x y told = told

-- an end that is shut isn't fresh
begun_shut : (s : EndState) → is_shut s ≡ true → is_begun s ≡ true
begun_shut Fresh is = is
begun_shut Open is = refl
begun_shut Shut is = refl

-- ---- domains that stand by

pub by_self : (x : Daemon) → StandsBy x x
by_self x = record { port = refl; later = later_self x.outbox.letters.items }

pub by_then : (x y z : Daemon) → StandsBy x y → StandsBy y z → StandsBy x z
by_then x y z a b = record { port = b.port ∙ a.port; later = later_then x.outbox.letters.items y.outbox.letters.items z.outbox.letters.items a.later b.later }

pub by_let_go : (t : ℕ) (meant : Option ℕ) (x y : Daemon) → LetsGo t meant x y → StandsBy x y
by_let_go t meant x y lets = record { port = lets.port; later = later_as _ _ _ lets.letters (later_released t meant x.outbox.letters.items) }

-- ---- one domain in a turn

fewer_nothing : (version : Option ℕ) (a b : List Letter) (old new : SeatedEnd) → IsLater a b → HearsNothing version a old new → HearsNothing version b old new
fewer_nothing version a b old new later h = record { began = h.began; begins = h.begins; same = h.same; finds = widened h.finds }
  where
    widened : FindsNotYet h.began new ⊎ (IsSome version × (64 ≤ length a) × FindsHere h.began new) → FindsNotYet h.began new ⊎ (IsSome version × (64 ≤ length b) × FindsHere h.began new)
    widened (inl not_yet) = inl not_yet
    widened (inr full) = inr (full.0, omega (arith, full.1, later_count a b later), full.2)

-- what is sent stays so where nothing was said
pub nothing_sent : (version : Option ℕ) (greeted : Bool) (letters : List Letter) (old new : SeatedEnd) → SaysNothing version greeted letters old new → (view new).sent ≡ (view old).sent
nothing_sent version greeted letters old new (has_not_greeted none same) = ap (λ (e : SeatedEnd). (view e).sent) same
nothing_sent version greeted letters old new (all_held is held same) = ap (λ (e : SeatedEnd). (view e).sent) same
nothing_sent version greeted letters old new (greeting_waits is same fails) = sent_no_more _ old new fails
nothing_sent version greeted letters old new (letter_waits at l is there free held same fails) = sent_no_more _ old new fails

-- all three steps
pub turned_own : (x a b y : Daemon) → Listens x a → Decides a b → SendsOrNot b y → HasMoved (line_of x) (line_of y) ⊎ IsQuiet (line_of x) (line_of y)
turned_own x a b y hears decides sends = by_sends sends.sends
  where
    got : (view y.port.end).got ≡ (view a.port.end).got
    got = sends.got ∙ ap (λ (e : SeatedEnd). (view e).got) decides.end

    sent : (view b.port.end).sent ≡ (view x.port.end).sent
    sent = ap (λ (e : SeatedEnd). (view e).sent) decides.end ∙ hears.sent

    later : IsLater x.outbox.letters.items b.outbox.letters.items
    later = subst (λ (l : List Letter). IsLater l b.outbox.letters.items) hears.letters decides.later

    by_found : SaysNothing y.port.version y.port.greeted b.outbox.letters.items b.port.end y.port.end × IsLater b.outbox.letters.items y.outbox.letters.items
        → (length (view x.port.end).got < length (view a.port.end).got) ⊎ HearsNothing x.port.version x.outbox.letters.items x.port.end a.port.end → HasMoved (line_of x) (line_of y) ⊎ IsQuiet (line_of x) (line_of y)
    by_found says (inl more) = inl (inl (subst (λ (l : List ℕ). length (view x.port.end).got < length l) (sym got) more))
    by_found says (inr nothing) = inr (record {
      heard = a.port.end;
      letters = b.outbox.letters.items;
      before = later;
      after = says.1;
      hears = fewer_nothing x.port.version x.outbox.letters.items b.outbox.letters.items x.port.end a.port.end later nothing;
      says = subst (λ (e : SeatedEnd). SaysNothing y.port.version y.port.greeted b.outbox.letters.items e y.port.end) decides.end says.0;
    })

    by_sends : (length (view b.port.end).sent < length (view y.port.end).sent)
        ⊎ (SaysNothing y.port.version y.port.greeted b.outbox.letters.items b.port.end y.port.end × IsLater b.outbox.letters.items y.outbox.letters.items)
        → HasMoved (line_of x) (line_of y) ⊎ IsQuiet (line_of x) (line_of y)
    by_sends (inl more) = inl (inr (subst (λ (l : List ℕ). length l < length (view y.port.end).sent) sent more))
    by_sends (inr says) = by_found says hears.found

-- nothing is lost by what is sent
pub grows_sending : (x a b y : Daemon) → Listens x a → Decides a b → SendsOrNot b y → Grows x.port.end y.port.end
grows_sending x a b y hears decides sends = record {
  got = subst (λ (l : List ℕ). length (end_of x).got ≤ length l) (sym (sends.got ∙ ap (λ (e : SeatedEnd). (view e).got) decides.end)) hears.grows.got;
  sent = by_sends sends.sends;
  shut = λ is. absurd (false≢true (sym hears.up ∙ is));
}
  where
    sent : (view b.port.end).sent ≡ (view x.port.end).sent
    sent = ap (λ (e : SeatedEnd). (view e).sent) decides.end ∙ hears.sent

    by_sends : (length (view b.port.end).sent < length (view y.port.end).sent)
        ⊎ (SaysNothing y.port.version y.port.greeted b.outbox.letters.items b.port.end y.port.end × IsLater b.outbox.letters.items y.outbox.letters.items)
        → length (view x.port.end).sent ≤ length (view y.port.end).sent
    by_sends (inl more) = omega (arith, subst (λ (l : List ℕ). length l < length (view y.port.end).sent) sent more)
    by_sends (inr says) =
        subst (λ (l : List ℕ). length (view x.port.end).sent ≤ length l) (sym (nothing_sent y.port.version y.port.greeted b.outbox.letters.items b.port.end y.port.end says.0 ∙ sent)) (omega arith)

-- what was moved, or found, before and after which the domain stood by
either : {A B C D : Type 0} → (A → C) → (B → D) → A ⊎ B → C ⊎ D
either f g (inl a) = inl (f a)
either f g (inr b) = inr (g b)

pub turned_after : (x y z : Daemon) → StandsBy y z → HasTurned (line_of x) (line_of y) → HasTurned (line_of x) (line_of z)
turned_after x y z by turned = record {
  begun = subst (λ (q : PortState). is_begun (view q.end).state ≡ true) (sym by.port) turned.begun;
  grows = subst (λ (q : PortState). Grows x.port.end q.end) (sym by.port) turned.grows;
  found = λ up.
      either (subst (λ (q : PortState). Moved q) (sym by.port)) (λ (q : IsQuiet (line_of x) (line_of y)). record {
        heard = q.heard;
        letters = q.letters;
        before = q.before;
        after = later_then q.letters y.outbox.letters.items z.outbox.letters.items q.after by.later;
        hears = q.hears;
        says = subst (λ (p : PortState). SaysNothing p.version p.greeted q.letters q.heard p.end) (sym by.port) q.says;
      }) (turned.found (subst (λ (q : PortState). is_shut (view q.end).state ≡ false) by.port up));
}
  where
    Moved : PortState → Type 0
    Moved q = (length (view x.port.end).got < length (view q.end).got) ⊎ (length (view x.port.end).sent < length (view q.end).sent)

pub turned_before : (w x y : Daemon) → StandsBy w x → HasTurned (line_of x) (line_of y) → HasTurned (line_of w) (line_of y)
turned_before w x y by turned = record {
  begun = turned.begun;
  grows = subst (λ (q : PortState). Grows q.end y.port.end) by.port turned.grows;
  found = λ up.
      either (subst (λ (q : PortState). Moved q) by.port) (λ (q : IsQuiet (line_of x) (line_of y)). record {
        heard = q.heard;
        letters = q.letters;
        before = later_then w.outbox.letters.items x.outbox.letters.items q.letters by.later q.before;
        after = q.after;
        hears = subst (λ (p : PortState). HearsNothing p.version q.letters p.end q.heard) by.port q.hears;
        says = q.says;
      }) (turned.found up);
}
  where
    Moved : PortState → Type 0
    Moved q = (length (view q.end).got < length (view y.port.end).got) ⊎ (length (view q.end).sent < length (view y.port.end).sent)

-- ---- all domains, of which one makes a step

pub steps_self : (domain : ℕ) (R : Daemon → Daemon → Type 0) (ds : List Daemon) → ((i : ℕ) (x : Daemon) → IsAt ds i x → i + 1 ≡ domain → R x x) → EachMoves (Steps domain R) ds ds
steps_self domain R ds same = record { count = refl; each = λ i x at. (x, at, record { own = λ here. same i x at here; others = λ apart. by_self x }) }

pub steps_one : (domain : ℕ) (R : Daemon → Daemon → Type 0) (ds : List Daemon) (i : ℕ) (x y : Daemon) → IsAt ds i x → i + 1 ≡ domain → R x y → EachMoves (Steps domain R) ds (set ds i y)
steps_one domain R ds i x y there number step =
    moves_one (Steps domain R) ds i x y there (record { own = λ here. step; others = λ apart. absurd (apart number) })
    (λ d z apart. record { own = λ here. absurd (apart (here ∙ sym number)); others = λ away. by_self z })

pub steps_then : (domain : ℕ) (R S T : Daemon → Daemon → Type 0) (a b c : List Daemon) → ((x y z : Daemon) → R x y → S y z → T x z) → EachMoves (Steps domain R) a b → EachMoves (Steps domain S) b c → EachMoves (Steps domain T) a c
steps_then domain R S T a b c join first second =
    moves_then (Steps domain R) (Steps domain S) (Steps domain T) a b c first second
    (λ d x y z r s. record { own = λ here. join x y z (r.own here) (s.own here); others = λ apart. by_then x y z (r.others apart) (s.others apart) })

-- all stand by, the one too
pub steps_by : (domain : ℕ) (a b : List Daemon) → EachMoves (λ d. StandsBy) a b → EachMoves (Steps domain StandsBy) a b
steps_by domain a b moves = moves_as (λ d. StandsBy) (Steps domain StandsBy) a b moves (λ d x y by. record { own = λ here. by; others = λ apart. by })

-- the steps of one domain, joined
pub decides_self : (x : Daemon) → Decides x x
decides_self x = record { end = refl; later = later_self x.outbox.letters.items }

pub decides_then : (x y z : Daemon) → Decides x y → Decides y z → Decides x z
decides_then x y z a b = record { end = b.end ∙ a.end; later = later_then x.outbox.letters.items y.outbox.letters.items z.outbox.letters.items a.later b.later }

pub decides_by : (x y z : Daemon) → Decides x y → StandsBy y z → Decides x z
decides_by x y z a b = decides_then x y z a (record { end = ap (λ (q : PortState). q.end) b.port; later = b.later })

pub sends_by : (x y z : Daemon) → SendsMore x y → StandsBy y z → SendsMore x z
sends_by x y z s by = record {
  got = ap (λ (q : PortState). (view q.end).got) by.port ∙ s.got;
  more = subst (λ (q : PortState). length (view x.port.end).sent < length (view q.end).sent) (sym by.port) s.more;
}

pub sends_on : (x y z : Daemon) → SendsSoFar x y → SendsMore y z → SendsMore x z
sends_on x y z (inl same) s = subst (λ (w : Daemon). SendsMore w z) same s
sends_on x y z (inr more) s = record { got = s.got ∙ more.got; more = omega (arith, s.more, more.more) }

pub sends_out : (x y z : Daemon) → SendsSoFar x y → SendsOrNot y z → SendsOrNot x z
sends_out x y z (inl same) s = subst (λ (w : Daemon). SendsOrNot w z) same s
sends_out x y z (inr more) s = record { up = s.up; got = s.got ∙ more.got; sends = inl (by_sends s.sends) }
  where
    by_sends : (length (view y.port.end).sent < length (view z.port.end).sent)
        ⊎ (SaysNothing z.port.version z.port.greeted y.outbox.letters.items y.port.end z.port.end × IsLater y.outbox.letters.items z.outbox.letters.items)
        → length (view x.port.end).sent < length (view z.port.end).sent
    by_sends (inl sent) = omega (arith, sent, more.more)
    by_sends (inr none) = subst (λ (l : List ℕ). length (view x.port.end).sent < length l) (sym (nothing_sent z.port.version z.port.greeted y.outbox.letters.items y.port.end z.port.end none.0)) more.more

-- ---- a round, of which so many domains had their turn

abbrev pub TurnsUpTo : ℕ → ℕ → Daemon → Daemon → Type 0
TurnsUpTo n d x y = (d ≤ n → Turns x y) × (n < d → StandsBy x y)

pub turns_none : (ds : List Daemon) → EachMoves (TurnsUpTo 0) ds ds
turns_none ds = record { count = refl; each = λ i x at. (x, at, ((λ within. absurd (omega (arith, within))), (λ beyond. by_self x))) }

pub turns_next : (n : ℕ) (before ds new : List Daemon) → EachMoves (TurnsUpTo n) before ds → EachMoves (Steps (n + 1) Turns) ds new → EachMoves (TurnsUpTo (n + 1)) before new
turns_next n before ds new so_far step =
    moves_then (TurnsUpTo n) (Steps (n + 1) Turns) (TurnsUpTo (n + 1)) before ds new so_far step (λ d a b c p q. by_test d a b c p q (d == n + 1) refl)
  where
    by_test : (d : ℕ) (a b c : Daemon) → TurnsUpTo n d a b → Steps (n + 1) Turns d b c → (v : Bool) → (d == n + 1) ≡ v → TurnsUpTo (n + 1) d a c
    by_test d a b c p q true is =
        let same : d ≡ n + 1 = same_number d (n + 1) is in
        ((λ within. turned_before a b c (p.1 (omega (arith, same))) (q.own same)), (λ beyond. absurd (omega (arith, same, beyond))))
    by_test d a b c p q false is =
        let apart : d ≢ n + 1 = λ same. grind (arith, nat_tests, is, same) in (
          (λ within. turned_after a b c (q.others apart) (p.0 (omega (arith, apart, within)))),
          (λ beyond. by_then a b c (p.1 (omega (arith, beyond))) (q.others apart)),
        )

pub turns_all : (n : ℕ) (before ds : List Daemon) → EachMoves (TurnsUpTo n) before ds → length before ≤ n → EachMoves (λ d. Turns) before ds
turns_all n before ds moves all = record {
  count = moves.count;
  each = λ i y at. let m = moves.each i y at in (m.0, m.1, m.2.0 (omega (arith, m.1.within, all)));
}

-- ---- what a turn says of the lines

pub pairs_lines : (old new : List Daemon) → EachMoves (λ d. Turns) old new → EachPair HasTurned (map line_of old) (map line_of new)
pairs_lines [] [] moves = tt
pairs_lines [] (y ∷ new) moves = absurd (omega (arith, moves.count))
pairs_lines (x ∷ old) [] moves = absurd (omega (arith, moves.count))
pairs_lines (x ∷ old) (y ∷ new) moves =
    let first = moves.each 0 y (record { within = omega arith; is = refl }) in
    let is : first.0 ≡ x = at_one (x ∷ old) 0 first.0 x first.1 (record { within = omega arith; is = refl }) in (
      subst (λ (z : Daemon). Turns z y) is first.2,
      pairs_lines old new (record {
        count = omega (arith, moves.count);
        each = λ i z at.
            let m = moves.each (suc i) z (record { within = omega (arith, at.within); is = at.is }) in
            (m.0, record { within = omega (arith, m.1.within); is = m.1.is }, m.2);
      }),
    )

-- one domain lets go, and the others are as they were
pub by_alone : (t f : ℕ) (meant : Option ℕ) (a b : List Daemon) → EachMoves (Alone f (LetsGo t meant)) a b → EachMoves (λ d. StandsBy) a b
by_alone t f meant a b moves = moves_as (Alone f (LetsGo t meant)) (λ d. StandsBy) a b moves (λ d x y m. by_test d x y m (d == f) refl)
  where
    by_test : (d : ℕ) (x y : Daemon) → Alone f (LetsGo t meant) d x y → (v : Bool) → (d == f) ≡ v → StandsBy x y
    by_test d x y m true is = by_let_go t meant x y (m.0 (same_number d f is))
    by_test d x y m false is = let apart : d ≢ f = λ same. grind (arith, nat_tests, is, same) in subst (λ (z : Daemon). StandsBy x z) (sym (m.1 apart)) (by_self x)

pub by_posts : (hub : Domains) (e : Entry) (d : ℕ) (x y : Daemon) → Posts hub e d x y → StandsBy x y
by_posts hub e d x y p = record { port = p.port; later = later_as x.outbox.letters.items (x.outbox.letters.items ++ p.more) y.outbox.letters.items p.letters (later_more x.outbox.letters.items p.more) }

pub decides_next : (domain : ℕ) (before ds : List Daemon) (i : ℕ) (x y : Daemon) → EachMoves (Steps domain Decides) before ds → IsAt ds i x → i + 1 ≡ domain → OnlyPort x y → y.port.end ≡ x.port.end → EachMoves (Steps domain Decides) before (set ds i y)
decides_next domain before ds i x y so_far there number only end =
    steps_then domain Decides Decides Decides before ds (set ds i y) (λ a b z p q. decides_then a b z p q) so_far
    (steps_one domain Decides ds i x y there number (record { end = end; later = later_as x.outbox.letters.items x.outbox.letters.items y.outbox.letters.items (ap (λ (z : Daemon). z.outbox.letters.items) only) (later_self x.outbox.letters.items) }))

pub drops : (t : ℕ) (ds : List Daemon) (i : ℕ) (x y : Daemon) (new : List Daemon) → IsAt ds i x → i + 1 ≡ t → IsDropped x y → EachMoves (λ d. LetsGo t None) (set ds i y) new → EachMoves (Steps t IsDropped) ds new
drops t ds i x y new there number dropped lets =
    steps_then t IsDropped StandsBy IsDropped ds (set ds i y) new
    (λ a b z g by. record { grows = subst (λ (q : PortState). Grows a.port.end q.end) (sym by.port) g.grows; shut = ap (λ (q : PortState). is_shut (view q.end).state) by.port ∙ g.shut })
    (steps_one t IsDropped ds i x y there number dropped)
    (steps_by t (set ds i y) new (moves_as (λ d. LetsGo t None) (λ d. StandsBy) (set ds i y) new lets (λ d a b l. by_let_go t None a b l)))

pub listens_moves : {E : Type 0} (r : Result Bool E) (domain : ℕ) (ds : List Daemon) (i : ℕ) (x y : Daemon) → IsAt ds i x → i + 1 ≡ domain → IfOk r (λ there. ListensAsTold there x y)
    → IfOk r (λ there. EachMoves (Steps domain (ListensAsTold there)) ds (set ds i y))
listens_moves (Ok there) domain ds i x y at number listens = steps_one domain (ListensAsTold there) ds i x y at number listens
listens_moves (Err e) domain ds i x y at number listens = tt

-- ---- a whole turn of one domain

pub gone_turns : (domain : ℕ) (ds : List Daemon) (i : ℕ) (x : Daemon) → IsAt ds i x → i + 1 ≡ domain → is_gone x ≡ true → EachMoves (Steps domain Turns) ds ds
gone_turns domain ds i x there number gone = steps_self domain Turns ds (λ j y at here. turned j y at here)
  where
    turned : (j : ℕ) (y : Daemon) → IsAt ds j y → j + 1 ≡ domain → Turns y y
    turned j y at here =
        let place : j ≡ i = omega (arith, here, number) in
        let same : y ≡ x = at_one ds i y x (subst (λ (k : ℕ). IsAt ds k y) place at) there in
        let shut : is_gone y ≡ true = ap (λ (z : Daemon). is_gone z) same ∙ gone in
        record { begun = begun_shut (view y.port.end).state shut; grows = grows_self y.port.end; found = λ up. absurd (false≢true (sym up ∙ shut)) }

pub drop_turns : (domain : ℕ) (there : Bool) (a b c d : List Daemon) → EachMoves (Steps domain (ListensAsTold there)) a b → EachMoves (Steps domain Decides) b c → EachMoves (Steps domain IsDropped) c d → EachMoves (Steps domain Turns) a d
drop_turns domain there a b c d listens decides drop =
    steps_then domain (ListensAsTold there) IsDropped Turns a b d
    (λ x y z l g. record { begun = begun_shut (view z.port.end).state g.shut; grows = grows_then x.port.end y.port.end z.port.end (grows_told there x y l) g.grows; found = λ up. absurd (false≢true (sym up ∙ g.shut)) }) listens
    (steps_then domain Decides IsDropped IsDropped b c d (λ x y z p g. record { grows = subst (λ (e : SeatedEnd). Grows e z.port.end) p.end g.grows; shut = g.shut }) decides drop)

-- what was taken and decided
record Hears (x y : Daemon) : Type 0 where
  a : Daemon
  listens : Listens x a
  decides : Decides a y

pub send_turns : (domain : ℕ) (a b c d : List Daemon) → EachMoves (Steps domain Listens) a b → EachMoves (Steps domain Decides) b c → EachMoves (Steps domain SendsOrNot) c d → EachMoves (Steps domain Turns) a d
send_turns domain a b c d listens decides sends =
    steps_then domain Hears SendsOrNot Turns a c d (λ x y z h s. record { begun = ap is_begun s.up; grows = grows_sending x h.a y z h.listens h.decides s; found = λ up. turned_own x h.a y z h.listens h.decides s })
    (steps_then domain Listens Decides Hears a b c (λ x y z l p. record { a = y; listens = l; decides = p }) listens decides) sends

pub turns_each : (old new : Switchboard) (result : TaskTurn BrokerState BrokerDone) → EachMoves (λ d. Turns) old.daemons.items new.daemons.items → KeepsLines new result → TurnsEach (map line_of old.daemons.items) result
turns_each old new (turn.Again task) moves is = subst (λ (lines : List BrokerLine). EachPair HasTurned (map line_of old.daemons.items) lines) (sym is) (pairs_lines old.daemons.items new.daemons.items moves)
turns_each old new (turn.Done done) moves is = tt
turns_each old new (turn.NoMemory ends) moves is = tt
