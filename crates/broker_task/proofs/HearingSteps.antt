-- A domain that is heard, event by event.
use Rattle.std.proofs.Common.{◌≡◌, ◌≢◌, ℕ, ◌+◌, ◌-◌, ◌≤◌, Some, None, Bool, true, false, List, [], ◌∷◌, ◌++◌, length, refl, sym, ap, ◌∙◌, subst, arith, suc, zero, ◌<◌}
use Rattle.std.proofs.Math.ListN.{set}
use Rattle.std.specs.Prelude.{nat_le, filter_map, slice_index_or, IsPermutation, if◌then◌else◌}
use Rattle.qrexec_frame.specs.declared.message.Message.{Message}
use Rattle.std.proofs.lemmas.List.{append-nil, get_or-set_same, length-set}
use Rattle.std.proofs.lemmas.Bool.Decides.{nat_tests}
use Rattle.std.specs.List.{AllByRecursion as Each}
use Rattle.std.proofs.lemmas.Bool.{and_parts}
use Rattle.list_laws.proofs.Tests.{same_number}
use Rattle.call_broker.specs.declared.event.Event.{Event}
use Rattle.call_broker.specs.declared.event.Event.TheVariants.{Trigger, Terminated, Dropped}
use Rattle.call_broker.specs.declared.decision.Entry.{Entry}
use Rattle.call_broker.specs.Domains.{Domains, is_domain, count_of}
use Rattle.call_broker.specs.Journal.{events}
use Rattle.vchan_rule.specs.Seated.{SeatedEnd, view}
use Rattle.control_port.specs.Port.{PortState, HasSaid, HasHeard, HasFewerLeft}
use Rattle.task_duties.specs.Broker.Outbox.{outbox, read_from, is_from, event_of}
use Rattle.broker_task.specs.declared.daemon.Daemon.{Daemon}
use Rattle.broker_task.specs.declared.outbox.Letter.{Letter}
use Rattle.broker_task.specs.Letters.{IsAt, messages_in}
use Rattle.broker_task.specs.Lines.{is_shut, IsLine, IsGoing, ReadsOn, HasRead, HasReadAll, HandsOut, HasRoom, OnlyPort}
use Rattle.broker_task.proofs.LineLaws.{read_still}
use Rattle.broker_task.specs.Posting.{EachAt, EachMoves, SamePort, SameEnd, MovesPort, HasPosted, IsLetter, IsPosting, IsHearing, HasHeardOut}
use Rattle.broker_task.proofs.PostLaws.{each_moved, moves_one, moves_as, moves_then}

-- ---- what was sent and waits, while ports move

pub port_stays : (d : ℕ) (x : Daemon) → MovesPort d x x
port_stays d x = record { domain = refl; awaited = refl; outbox = refl; counted = refl; gone = refl; line = λ h. h; said = λ said h. h }

posted_port : (hub : Domains) (journal : List Entry) (said : ℕ → List Message) (d : ℕ) (x y : Daemon) → MovesPort d x y → HasPosted hub journal said d x → HasPosted hub journal said d y
posted_port hub journal said d x y m h = record {
  says = m.said (said d) h.says;
  lost = h.lost;
  kept = subst (λ (l : List Letter). IsPermutation (said d ++ (messages_in l ++ h.lost)) (outbox hub journal d)) (sym m.outbox) h.kept;
  none_lost = λ up. h.none_lost (sym m.gone ∙ up);
  letters = subst (λ (l : List Letter). Each (IsLetter hub journal said d) l) (sym m.outbox) h.letters;
  went = h.went;
  counted = m.counted ∙ h.counted;
  dropped = h.dropped ∙ sym m.gone;
}

pub posting_port : (hub : Domains) (journal : List Entry) (old new : List Daemon) → EachMoves MovesPort old new → IsPosting hub journal old → IsPosting hub journal new
posting_port hub journal old new moves h = record {
  count = moves.count ∙ h.count;
  decided = h.decided;
  numbered = h.numbered;
  lines = each_moved IsLine IsLine MovesPort old new moves (λ d x y m line. m.line line) h.lines;
  said = h.said;
  posted = each_moved (HasPosted hub journal h.said) (HasPosted hub journal h.said) MovesPort old new moves (λ d x y m p. posted_port hub journal h.said d x y m p) h.posted;
}

-- ---- what was read, through one entry more

pub read_more : (journal : List Entry) (e : Entry) (d : ℕ) → read_from (journal ++ e ∷ []) d ≡ read_from journal d ++ (if is_from d e.event then e.event ∷ [] else [])
read_more [] e d = refl
read_more (x ∷ journal) e d = by_test (is_from d x.event) refl (read_more journal e d)
  where
    by_test : (b : Bool) → is_from d x.event ≡ b → read_from (journal ++ e ∷ []) d ≡ read_from journal d ++ (if is_from d e.event then e.event ∷ [] else [])
        → read_from (x ∷ (journal ++ e ∷ [])) d ≡ read_from (x ∷ journal) d ++ (if is_from d e.event then e.event ∷ [] else [])
    by_test true is more = rw is (ap (λ r. x.event ∷ r) more)
    by_test false is more = rw is more

pub read_own : (journal : List Entry) (e : Entry) (d : ℕ) → is_from d e.event ≡ true → read_from (journal ++ e ∷ []) d ≡ read_from journal d ++ e.event ∷ []
read_own journal e d is = read_more journal e d ∙ ap (λ b. read_from journal d ++ (if b then e.event ∷ [] else [])) is

from_one : (event : Event) (d domain : ℕ) → is_from domain event ≡ true → d ≢ domain → is_from d event ≡ false
from_one (Trigger f t s i) d domain is apart = let same : f ≡ domain = same_number f domain is in grind (arith, nat_tests, same, apart)
from_one (Terminated f o p) d domain is apart = let same : f ≡ domain = same_number f domain is in grind (arith, nat_tests, same, apart)
from_one (Dropped o) d domain is apart = refl

pub read_other : (journal : List Entry) (e : Entry) (d domain : ℕ) → is_from domain e.event ≡ true → d ≢ domain → read_from (journal ++ e ∷ []) d ≡ read_from journal d
read_other journal e d domain is apart = read_more journal e d ∙ ap (λ b. read_from journal d ++ (if b then e.event ∷ [] else [])) (from_one e.event d domain is apart) ∙ append-nil (read_from journal d)

-- ---- what was read, by another state of the same port

pub read_port : (x y : Daemon) (events : List Event) → y.port ≡ x.port → y.domain ≡ x.domain → HasRead x events → HasRead y events
read_port x y events port domain h =
    read_still x y events domain (ap (λ (q : PortState). (view q.end).got) port) (ap (λ (q : PortState). is_shut (view q.end).state) port) (ap (λ (q : PortState). q.fault) port)
    (ap (λ (q : PortState). q.version) port) (λ g. subst (λ (q : PortState). IsGoing (view q.end)) (sym port) g) (λ heard g. subst (λ (q : PortState). HasHeard q heard) (sym port) g) h

-- what was read of a domain stays so if its port has heard the same
pub reads_heard : (x y : Daemon) (events : List Event) → y.domain ≡ x.domain → y.port.fault ≡ x.port.fault → ((heard : List Message) → HasHeard x.port heard → HasHeard y.port heard) → ReadsOn x events → ReadsOn y events
reads_heard x y events domain fault hears r = record {
  heard = r.heard;
  hears_them = hears r.heard r.hears_them;
  are = r.are ∙ ap (λ d. filter_map (event_of d) r.heard) (sym domain);
  fine = fault ∙ r.fine;
}

pub reads_port : (x y : Daemon) (events : List Event) → y.port ≡ x.port → y.domain ≡ x.domain → ReadsOn x events → ReadsOn y events
reads_port x y events port domain h = record {
  heard = h.heard;
  hears_them = subst (λ (q : PortState). HasHeard q h.heard) (sym port) h.hears_them;
  are = h.are ∙ ap (λ n. filter_map (event_of n) h.heard) (sym domain);
  fine = ap (λ (q : PortState). q.fault) port ∙ h.fine;
}

-- ---- one event more

-- the event that was handed out is decided: each domain has read what the journal has of it
pub hearing_on : (domain : ℕ) (journal : List Entry) (e : Entry) (before now new : List Daemon) → is_from domain e.event ≡ true → IsHearing domain journal before
    → EachMoves (λ d x y. (d ≢ domain → y ≡ x) × (d ≡ domain → (events : List Event) → ReadsOn x events → ReadsOn y (events ++ e.event ∷ []))) before now
    → EachMoves SamePort now new → IsHearing domain (journal ++ e ∷ []) new
hearing_on domain journal e before now new own h hands ports =
    let R : ℕ → Daemon → Daemon → Type 0 = λ d x y. (d ≢ domain → y ≡ x) × (d ≡ domain → (events : List Event) → ReadsOn x events → ReadsOn y (events ++ e.event ∷ [])) in
    let Q : ℕ → Daemon → Type 0 = λ d x. d ≢ domain → HasRead x (read_from journal d) in
    let S : ℕ → Daemon → Type 0 = λ d x. d ≡ domain → ReadsOn x (read_from journal d ++ e.event ∷ []) in
    let others : EachAt Q now = each_moved Q Q R before now hands (λ d x y m q apart. subst (λ (z : Daemon). HasRead z (read_from journal d)) (sym (m.0 apart)) (q apart)) h.others in
    let mine : EachAt S now = each_moved (λ d x. d ≡ domain → ReadsOn x (read_from journal d)) S R before now hands (λ d x y m q same. m.1 same (read_from journal d) (q same)) h.own in
    record {
      others = each_moved Q (λ d x. d ≢ domain → HasRead x (read_from (journal ++ e ∷ []) d)) SamePort now new ports
          (λ d x y m q apart. subst (λ es. HasRead y es) (sym (read_other journal e d domain own apart)) (read_port x y (read_from journal d) m.0 m.1 (q apart))) others;
      own = each_moved S (λ d x. d ≡ domain → ReadsOn x (read_from (journal ++ e ∷ []) d)) SamePort now new ports
          (λ d x y m q same.
          let mine' : is_from d e.event ≡ true = subst (λ k. is_from k e.event ≡ true) (sym same) own in
          subst (λ es. ReadsOn y es) (sym (read_own journal e d mine')) (reads_port x y (read_from journal d ++ e.event ∷ []) m.0 m.1 (q same))) mine;
    }

-- ---- how much is left of what was taken

abbrev pub left_in : List Daemon → ℕ → ℕ
left_in [] i = 0
left_in (x ∷ ds) zero = length x.port.decoder.left
left_in (x ∷ ds) (suc i) = left_in ds i

pub left_at : (ds : List Daemon) (i : ℕ) (x : Daemon) → IsAt ds i x → left_in ds i ≡ length x.port.decoder.left
left_at [] i x at = absurd (omega (arith, at.within))
left_at (y ∷ ds) zero x at = ap (λ (z : Daemon). length z.port.decoder.left) (sym at.is)
left_at (y ∷ ds) (suc i) x at = left_at ds i x (record { within = omega (arith, at.within); is = at.is })

pub item_at : (ds : List Daemon) (i : ℕ) → i < length ds → (z : Daemon) × IsAt ds i z
item_at [] i less = absurd (omega (arith, less))
item_at (x ∷ ds) zero less = (x, record { within = omega arith; is = refl })
item_at (x ∷ ds) (suc i) less = let z = item_at ds i (omega (arith, less)) in (z.0, record { within = omega (arith, z.1.within); is = z.1.is })

left_same : (old new : List Daemon) (i : ℕ) → i < length old → EachMoves SamePort old new → left_in new i ≡ left_in old i
left_same old new i less moves =
    let z = item_at new i (omega (arith, less, moves.count)) in
    let m = moves.each i z.0 z.1 in
    left_at new i z.0 z.1 ∙ ap (λ (q : PortState). length q.decoder.left) m.2.0 ∙ sym (left_at old i m.0 m.1)

-- ---- one domain's port hands out an event

pub place_of_domain : (hub : Domains) (ds : List Daemon) (d : ℕ) → is_domain hub d ≡ true → length ds ≡ count_of hub → (d - 1 < length ds) × (d - 1 + 1 ≡ d)
place_of_domain hub ds d there count =
    let bounds = and_parts (nat_le 1 d) (nat_le d (count_of hub)) there in
    let low : 1 ≤ d = grind (arith, nat_tests, bounds.0) in
    let high : d ≤ count_of hub = grind (arith, nat_tests, bounds.1) in
    (omega (arith, low, high, count), omega (arith, low))

-- what was read at the place of a domain is its daemon
pub at_domain : (hub : Domains) (ds : List Daemon) (d : ℕ) (x : Daemon) → is_domain hub d ≡ true → length ds ≡ count_of hub → x ≡ slice_index_or ds (d - 1) x → IsAt ds (d - 1) x × (d - 1 + 1 ≡ d)
at_domain hub ds d x there count is = let place = place_of_domain hub ds d there count in (record { within = place.0; is = is }, place.1)

pub next_moves : (d : ℕ) (x y : Daemon) → OnlyPort x y → y.port.end ≡ x.port.end → IsLine y.domain y → ((said : List Message) → HasSaid x.port said → HasSaid y.port said) → MovesPort d x y
next_moves d x y only end line said =
    let domain : y.domain ≡ x.domain = ap (λ (z : Daemon). z.domain) only in record {
      domain = domain;
      awaited = ap (λ (z : Daemon). z.awaited) only;
      outbox = ap (λ (z : Daemon). z.outbox.letters.items) only;
      counted = ap (λ (z : Daemon). z.answered) only;
      gone = ap (λ (e : SeatedEnd). is_shut (view e).state) end;
      line = λ h. subst (λ n. IsLine n y) (domain ∙ h.number) line;
      said = said;
    }

pub posting_next : (hub : Domains) (journal : List Entry) (ds : List Daemon) (i : ℕ) (x y : Daemon) → IsAt ds i x → MovesPort (i + 1) x y → IsPosting hub journal ds → IsPosting hub journal (set ds i y)
posting_next hub journal ds i x y there moves h = posting_port hub journal ds (set ds i y) (moves_one MovesPort ds i x y there moves (λ d z apart. port_stays d z)) h

-- the event is one of its domain
pub own_event : (domain : ℕ) (journal : List Entry) (ds : List Daemon) (i : ℕ) (x y : Daemon) (e : Event) → IsAt ds i x → i + 1 ≡ domain → IsHearing domain journal ds → y.domain ≡ x.domain → x.domain ≡ i + 1
    → ((events : List Event) → ReadsOn x events → HandsOut y events (Some e)) → (is_from domain e ≡ true) × HasRoom e
own_event domain journal ds i x y e there number h same line hands =
    let out = hands (read_from journal (i + 1)) (h.own i x there number) in
    (subst (λ d. is_from d e ≡ true) (same ∙ line ∙ number) out.1, out.2)

pub hearing_next : (domain : ℕ) (journal : List Entry) (e : Entry) (ds new : List Daemon) (i : ℕ) (x y : Daemon) → IsAt ds i x → i + 1 ≡ domain → is_from domain e.event ≡ true
    → ((events : List Event) → ReadsOn x events → HandsOut y events (Some e.event)) → EachMoves SamePort (set ds i y) new → IsHearing domain journal ds → IsHearing domain (journal ++ e ∷ []) new
hearing_next domain journal e ds new i x y there number own hands ports h =
    hearing_on domain journal e ds (set ds i y) new own h
    (moves_one (λ d a b. (d ≢ domain → b ≡ a) × (d ≡ domain → (events : List Event) → ReadsOn a events → ReadsOn b (events ++ e.event ∷ []))) ds i x y there
    ((λ apart. absurd (apart number)), (λ same events reads. (hands events reads).0))
    (λ d z apart. ((λ away. refl), (λ same. absurd (apart (same ∙ sym number))))))
    ports

-- nothing is left of what the domain has sent
pub heard_out : (domain : ℕ) (journal : List Entry) (ds : List Daemon) (i : ℕ) (x y : Daemon) → IsAt ds i x → i + 1 ≡ domain → ((events : List Event) → ReadsOn x events → HandsOut y events None) → IsHearing domain journal ds
    → HasHeardOut domain journal (set ds i y)
heard_out domain journal ds i x y there number hands h =
    let R : ℕ → Daemon → Daemon → Type 0 = λ d a b. (d ≢ domain → b ≡ a) × (d ≡ domain → (events : List Event) → ReadsOn a events → HasReadAll b events) in
    let moves =
    moves_one R ds i x y there ((λ apart. absurd (apart number)), (λ same events reads. hands events reads))
    (λ d z apart. ((λ away. refl), (λ same. absurd (apart (same ∙ sym number))))) in
    record {
      others =
          each_moved (λ d a. d ≢ domain → HasRead a (read_from journal d)) (λ d a. d ≢ domain → HasRead a (read_from journal d)) R ds (set ds i y) moves
          (λ d a b m q apart. subst (λ (z : Daemon). HasRead z (read_from journal d)) (sym (m.0 apart)) (q apart)) h.others;
      own =
          each_moved (λ d a. d ≡ domain → ReadsOn a (read_from journal d)) (λ d a. d ≡ domain → HasReadAll a (read_from journal d)) R ds (set ds i y) moves
          (λ d a b m q same. m.1 same (read_from journal d) (q same)) h.own;
    }

pub left_falls : (ds new : List Daemon) (i : ℕ) (x y : Daemon) → IsAt ds i x → HasFewerLeft x.port y.port → EachMoves SamePort (set ds i y) new → left_in new i < left_in ds i
left_falls ds new i x y there fewer ports =
    let less : i < length (set ds i y) = omega (arith, there.within, length-set ds i y) in
    let here : IsAt (set ds i y) i y = record { within = less; is = sym (get_or-set_same ds i y y there.within) } in
    omega (arith, fewer, left_same (set ds i y) new i less ports, left_at (set ds i y) i y here, left_at ds i x there)

-- ---- the ends, while one domain is heard

pub ends_none : (ds : List Daemon) → EachMoves SameEnd ds ds
ends_none ds = record { count = refl; each = λ i x at. (x, at, (refl, refl, refl)) }

pub ends_then : (a b c : List Daemon) → EachMoves SameEnd a b → EachMoves SameEnd b c → EachMoves SameEnd a c
ends_then a b c first second = moves_then SameEnd SameEnd SameEnd a b c first second (λ d x y z p q. (q.0 ∙ p.0, q.1 ∙ p.1, q.2 ∙ p.2))

pub ends_next : (before ds : List Daemon) (i : ℕ) (x y : Daemon) → EachMoves SameEnd before ds → IsAt ds i x → OnlyPort x y → y.port.end ≡ x.port.end → EachMoves SameEnd before (set ds i y)
ends_next before ds i x y so_far there only end =
    ends_then before ds (set ds i y) so_far
    (moves_one SameEnd ds i x y there (end, ap (λ (z : Daemon). z.domain) only, ap (λ (z : Daemon). z.awaited) only) (λ d z apart. (refl, refl, refl)))

pub ends_decided : (before ds new : List Daemon) → EachMoves SameEnd before ds → EachMoves SamePort ds new → EachMoves SameEnd before new
ends_decided before ds new so_far ports =
    ends_then before ds new so_far (moves_as SamePort SameEnd ds new ports (λ d x y m. (ap (λ (q : PortState). q.end) m.0, m.1, m.2)))
