-- The Connects that may be sent after a message.
use Rattle.std.proofs.Common.{◌≡◌, ◌≢◌, ℕ, ◌+◌, ◌<◌, Bool, true, false, List, [], ◌∷◌, ◌++◌, length, map, refl, sym, ap, ◌∙◌, subst, arith, suc, zero, Option, Some, None, inr}
use Rattle.std.specs.Prelude.{◌==◌, Contains, IsPermutation, if◌then◌else◌}
use Rattle.std.proofs.Math.ListN.{set}
use Rattle.std.specs.List.{remove, AllByRecursion as Each}
use Rattle.std.proofs.lemmas.List.{length-set, get_or-set_same, length-map}
use Rattle.std.proofs.lemmas.Bool.Decides.{nat_tests}
use Rattle.std.proofs.lemmas.Bool.{and_parts}
use Rattle.list_laws.proofs.Tests.{same_number}
use Rattle.qrexec_frame.specs.declared.message.Message.{Message}
use Rattle.qrexec_frame.specs.declared.message.Message.TheVariants.{Hello, Exec, JustExec, Connect, Refused, Terminated, Trigger3, Trigger, Stdin, Stdout, Stderr, ExitCode}
use Rattle.call_broker.specs.declared.decision.Entry.{Entry}
use Rattle.call_broker.specs.declared.event.Event.{Event}
use Rattle.vchan_rule.specs.Seated.{view, IsOpen}
use Rattle.control_port.specs.Port.{PortState, HasSaid}
use Rattle.call_broker.specs.Domains.{Domains}
use Rattle.task_duties.specs.Broker.Outbox.{outbox, read_from}
use Rattle.broker_task.specs.declared.outbox.Letter.{Letter}
use Rattle.broker_task.specs.declared.daemon.Daemon.{Daemon}
use Rattle.broker_task.specs.Letters.{IsAt, messages_in, connects, released}
use Rattle.broker_task.specs.Lines.{is_shut, is_gone, first_view, IsLine, HasRead, SendsOne, IsSameDaemon}
use Rattle.broker_task.specs.Posting.{EachMoves, LetsGo, MayGo, IsLetter, HasPosted, IsPosting, IsSending, MovesPort, AreIdle, waiting_in}
use Rattle.broker_task.proofs.PostLaws.{moves_one, moves_then}
use Rattle.broker_task.proofs.PostingLaws.{line_same}
use Rattle.broker_task.proofs.HearingSteps.{posting_next, read_port, item_at}
use Rattle.broker_task.proofs.SendingSteps.{Sends, Alone, each_alone, moves_alone, is_up}

abbrev let_go_if : Bool → Letter → Letter
let_go_if b l = if b then record l { held = false } else l

-- a release moves no message
released_message : (t : ℕ) (meant : Option ℕ) (l : Letter) → (released t meant l).message ≡ l.message
released_message t meant l = by_test (connects t meant l.message)
  where
    by_test : (b : Bool) → (let_go_if b l).message ≡ l.message
    by_test true = refl
    by_test false = refl

pub released_messages : (t : ℕ) (meant : Option ℕ) (letters : List Letter) → messages_in (map (released t meant) letters) ≡ messages_in letters
released_messages t meant [] = refl
released_messages t meant (l ∷ letters) = ap (λ m. m ∷ messages_in (map (released t meant) letters)) (released_message t meant l) ∙ ap (λ r. l.message ∷ r) (released_messages t meant letters)

-- a release lets go only what may be sent
letter_released : (hub : Domains) (journal : List Entry) (said : ℕ → List Message) (d t : ℕ) (meant : Option ℕ) (l : Letter) → ((m : Message) → connects t meant m ≡ true → MayGo journal said d m)
    → IsLetter hub journal said d l → IsLetter hub journal said d (released t meant l)
letter_released hub journal said d t meant l go is = by_test (connects t meant l.message) refl
  where
    by_test : (b : Bool) → connects t meant l.message ≡ b → IsLetter hub journal said d (let_go_if b l)
    by_test true h = record { fits = is.fits; may = λ free. go l.message h }
    by_test false h = is

pub letters_released : (hub : Domains) (journal : List Entry) (said : ℕ → List Message) (d t : ℕ) (meant : Option ℕ) (letters : List Letter) → ((m : Message) → connects t meant m ≡ true → MayGo journal said d m)
    → Each (IsLetter hub journal said d) letters → Each (IsLetter hub journal said d) (map (released t meant) letters)
letters_released hub journal said d t meant [] go each = tt
letters_released hub journal said d t meant (l ∷ letters) go each = (letter_released hub journal said d t meant l go each.0, letters_released hub journal said d t meant letters go each.1)

-- the Connect of a call may be sent once its Exec was sent
pub goes_after_exec : (journal : List Entry) (said : ℕ → List Message) (f t port : ℕ) (line : List ℕ) → Contains (said t) (Exec f port line) → (m : Message) → connects t (Some port) m ≡ true → MayGo journal said f m
goes_after_exec journal said f t port line there (Connect to q ident) h =
    let tests = and_parts (to == t) (q == port) h in
    let same_port : port ≡ q = sym (same_number q port tests.1) in
    let same_to : t ≡ to = sym (same_number to t tests.0) in
    inr (line, subst (λ (k : ℕ). Contains (said k) (Exec f q line)) same_to (subst (λ (k : ℕ). Contains (said t) (Exec f k line)) same_port there))
goes_after_exec journal said f t port line there (Hello v) h = tt
goes_after_exec journal said f t port line there (Exec x p l) h = tt
goes_after_exec journal said f t port line there (JustExec x p l) h = tt
goes_after_exec journal said f t port line there (Refused i) h = tt
goes_after_exec journal said f t port line there (Terminated x p) h = tt
goes_after_exec journal said f t port line there (Trigger3 x i s) h = tt
goes_after_exec journal said f t port line there (Trigger x i s) h = tt
goes_after_exec journal said f t port line there (Stdin b) h = tt
goes_after_exec journal said f t port line there (Stdout b) h = tt
goes_after_exec journal said f t port line there (Stderr b) h = tt
goes_after_exec journal said f t port line there (ExitCode c) h = tt

-- the letters of a domain after a release
pub posted_released : (hub : Domains) (journal : List Entry) (said : ℕ → List Message) (d t : ℕ) (meant : Option ℕ) (x : Daemon) (letters : List Letter) → ((m : Message) → connects t meant m ≡ true → MayGo journal said d m)
    → letters ≡ map (released t meant) x.outbox.letters.items → HasPosted hub journal said d x → Each (IsLetter hub journal said d) letters × (messages_in letters ≡ messages_in x.outbox.letters.items)
posted_released hub journal said d t meant x letters go is h = (
  subst (λ (l : List Letter). Each (IsLetter hub journal said d) l) (sym is) (letters_released hub journal said d t meant x.outbox.letters.items go h.letters),
  ap (λ (l : List Letter). messages_in l) is ∙ released_messages t meant x.outbox.letters.items,
)

pub posted_let_go : (hub : Domains) (journal : List Entry) (said : ℕ → List Message) (d t : ℕ) (meant : Option ℕ) (x y : Daemon) → ((m : Message) → connects t meant m ≡ true → MayGo journal said d m)
    → LetsGo t meant x y → HasPosted hub journal said d x → HasPosted hub journal said d y
posted_let_go hub journal said d t meant x y go lets h =
    let gone : is_gone y ≡ is_gone x = ap (λ (q : PortState). is_shut (view q.end).state) lets.port in
    let after = posted_released hub journal said d t meant x y.outbox.letters.items go lets.letters h in
    record {
      says = subst (λ (q : PortState). HasSaid q (said d)) (sym lets.port) h.says;
      lost = h.lost;
      kept = subst (λ w. IsPermutation (said d ++ (w ++ h.lost)) (outbox hub journal d)) (sym after.1) h.kept;
      none_lost = λ up. h.none_lost (sym gone ∙ up);
      letters = after.0;
      went = h.went;
      counted = lets.counted ∙ h.counted;
      dropped = h.dropped ∙ sym gone;
    }

pub same_let_go : (t : ℕ) (meant : Option ℕ) (x y : Daemon) → LetsGo t meant x y → IsSameDaemon x y
same_let_go t meant x y lets = record { domain = lets.domain; awaited = lets.awaited; given = ap (λ (q : PortState). first_view (view q.end)) lets.port }

pub sending_released : (hub : Domains) (journal : List Entry) (domain f t port : ℕ) (line : List ℕ) (old new : List Daemon) → EachMoves (Alone f (LetsGo t (Some port))) old new → (p : IsSending hub domain journal old)
    → Contains (p.posting.said t) (Exec f port line) → IsSending hub domain journal new
sending_released hub journal domain f t port line old new moves p there = record {
  posting = record {
    count = moves.count ∙ p.posting.count;
    decided = p.posting.decided;
    numbered = p.posting.numbered;
    lines = each_alone f (LetsGo t (Some port)) IsLine IsLine old new moves (λ d x y same lets line. line_same d x y lets.port lets.domain line) (λ d x apart line. line) p.posting.lines;
    said = p.posting.said;
    posted =
        each_alone f (LetsGo t (Some port)) (HasPosted hub journal p.posting.said) (HasPosted hub journal p.posting.said) old new moves
        (λ d x y same lets h.
        posted_let_go hub journal p.posting.said d t (Some port) x y (subst (λ (k : ℕ). (m : Message) → connects t (Some port) m ≡ true → MayGo journal p.posting.said k m) (sym same) (goes_after_exec journal p.posting.said f t port line there))
        lets h)
        (λ d x apart h. h) p.posting.posted;
  };
  read =
      each_alone f (LetsGo t (Some port)) (λ d x. HasRead x (read_from journal d)) (λ d x. HasRead x (read_from journal d)) old new moves
      (λ d x y same lets h. read_port x y (read_from journal d) lets.port lets.domain h) (λ d x apart h. h) p.read;
  opened =
      each_alone f (LetsGo t (Some port)) (λ d x. d ≡ domain → IsOpen x.port.end) (λ d x. d ≡ domain → IsOpen x.port.end) old new moves
      (λ d x y same lets h here. subst (λ (q : PortState). IsOpen q.end) (sym lets.port) (h here)) (λ d x apart h. h) p.opened;
}

-- ---- how many wait

pub waiting_at : (ds : List Daemon) (i : ℕ) (x : Daemon) → IsAt ds i x → waiting_in ds i ≡ length x.outbox.letters.items
waiting_at [] i x at = absurd (omega (arith, at.within))
waiting_at (y ∷ ds) zero x at = ap (λ (z : Daemon). length z.outbox.letters.items) (sym at.is)
waiting_at (y ∷ ds) (suc i) x at = waiting_at ds i x (record { within = omega (arith, at.within); is = at.is })

pub fewer_out : (letters : List Letter) (at : ℕ) (l : Letter) → IsAt letters at l → length (remove letters at) < length letters
fewer_out [] at l there = absurd (omega (arith, there.within))
fewer_out (x ∷ letters) zero l there = omega arith
fewer_out (x ∷ letters) (suc at) l there = omega (arith, fewer_out letters at l (record { within = omega (arith, there.within); is = there.is }))

-- one letter fewer waits for the domain that was sent to
pub waiting_sent : (hub : Domains) (journal : List Entry) (domain : ℕ) (m : Message) (ds : List Daemon) (i : ℕ) (x y : Daemon) → IsAt ds i x → Sends m x y → IsSending hub domain journal ds → waiting_in (set ds i y) i < waiting_in ds i
waiting_sent hub journal domain m ds i x y there s p =
    let h = p.posting.posted i x there in
    let one = s.sends (p.posting.said (i + 1)) h.says in
    let here : IsAt (set ds i y) i y = record { within = omega (arith, there.within, length-set ds i y); is = sym (get_or-set_same ds i y y there.within) } in
    let rest : length y.outbox.letters.items ≡ length (remove x.outbox.letters.items one.0) = ap (λ (l : List Letter). length l) one.5 in
    let less = fewer_out x.outbox.letters.items one.0 one.1 one.2 in
    omega (arith, waiting_at (set ds i y) i y here, waiting_at ds i x there, rest, less)

-- a release leaves as many
pub waiting_released : (t : ℕ) (meant : Option ℕ) (f : ℕ) (old new : List Daemon) (i : ℕ) → i < length old → EachMoves (Alone f (LetsGo t meant)) old new → waiting_in new i ≡ waiting_in old i
waiting_released t meant f old new i less moves =
    let z = item_at new i (omega (arith, less, moves.count)) in
    let m = moves.each i z.0 z.1 in
    waiting_at new i z.0 z.1 ∙ by_test m.0 z.0 m.2 (i + 1 == f) refl ∙ sym (waiting_at old i m.0 m.1)
  where
    by_test : (x y : Daemon) → Alone f (LetsGo t meant) (i + 1) x y → (b : Bool) → (i + 1 == f) ≡ b → length y.outbox.letters.items ≡ length x.outbox.letters.items
    by_test x y m true is =
        let same : i + 1 ≡ f = same_number (i + 1) f is in
        let moved : length (map (released t meant) x.outbox.letters.items) ≡ length x.outbox.letters.items = simp length-map in
        ap (λ (l : List Letter). length l) (m.0 same).letters ∙ moved
    by_test x y m false is = let apart : i + 1 ≢ f = λ same. grind (arith, nat_tests, is, same) in ap (λ (z : Daemon). length z.outbox.letters.items) (m.1 apart)

-- ---- nothing was sent

-- only the port of a domain has moved to which nothing was sent
pub unsent_moves : {said_to : List Message} (i : ℕ) (x y : Daemon) → ((said : List Message) → HasSaid x.port said → SendsOne x y said None) → HasSaid x.port said_to → IsOpen x.port.end → IsSameDaemon x y → y.answered ≡ x.answered
    → IsLine y.domain y → IsOpen y.port.end → MovesPort (i + 1) x y
unsent_moves {said_to} i x y sends says up same counted line opens = record {
  domain = same.domain;
  awaited = same.awaited;
  outbox = (sends said_to says).0;
  counted = counted;
  gone = is_up y opens ∙ sym (is_up x up);
  line = λ l. subst (λ n. IsLine n y) (same.domain ∙ l.number) line;
  said = λ said s. (sends said s).1;
}

pub sending_moves : (hub : Domains) (journal : List Entry) (domain : ℕ) (ds : List Daemon) (i : ℕ) (x y : Daemon) → IsAt ds i x → i + 1 ≡ domain → ((said : List Message) → HasSaid x.port said → SendsOne x y said None)
    → IsSameDaemon x y → y.answered ≡ x.answered → IsLine y.domain y → IsOpen y.port.end → ((events : List Event) → HasRead x events → HasRead y events) → IsSending hub domain journal ds → IsSending hub domain journal (set ds i y)
sending_moves hub journal domain ds i x y there number sends same counted line opens read p =
    let moves = unsent_moves i x y sends (p.posting.posted i x there).says (p.opened i x there number) same counted line opens in
    let alone = moves_alone domain (λ a b. (a ≡ x) × (b ≡ y)) ds i x y there number (refl, refl) in
    record {
      posting = posting_next hub journal ds i x y there moves p.posting;
      read =
          each_alone domain (λ a b. (a ≡ x) × (b ≡ y)) (λ d a. HasRead a (read_from journal d)) (λ d a. HasRead a (read_from journal d)) ds (set ds i y) alone
          (λ d a b here is q. subst (λ (z : Daemon). HasRead z (read_from journal d)) (sym is.1) (read (read_from journal d) (subst (λ (z : Daemon). HasRead z (read_from journal d)) is.0 q))) (λ d a apart q. q) p.read;
      opened =
          each_alone domain (λ a b. (a ≡ x) × (b ≡ y)) (λ d a. d ≡ domain → IsOpen a.port.end) (λ d a. d ≡ domain → IsOpen a.port.end) ds (set ds i y) alone
          (λ d a b here is q now. subst (λ (z : Daemon). IsOpen z.port.end) (sym is.1) opens) (λ d a apart q. q) p.opened;
    }

-- ---- the ends

pub idle_posting : (hub : Domains) (journal : List Entry) (ds : List Daemon) → IsPosting hub journal ds → AreIdle ds
idle_posting hub journal ds p = λ i x at. (p.lines i x at).idle

pub same_daemon : (x : Daemon) → IsSameDaemon x x
same_daemon x = record { domain = refl; awaited = refl; given = refl }

pub same_then : (x y z : Daemon) → IsSameDaemon x y → IsSameDaemon y z → IsSameDaemon x z
same_then x y z a b = record { domain = b.domain ∙ a.domain; awaited = b.awaited ∙ a.awaited; given = b.given ∙ a.given }

pub same_one : (ds : List Daemon) (i : ℕ) (x y : Daemon) → IsAt ds i x → IsSameDaemon x y → EachMoves (λ d. IsSameDaemon) ds (set ds i y)
same_one ds i x y there same = moves_one (λ d. IsSameDaemon) ds i x y there same (λ d z apart. same_daemon z)

pub same_moves : (a b c : List Daemon) → EachMoves (λ d. IsSameDaemon) a b → EachMoves (λ d. IsSameDaemon) b c → EachMoves (λ d. IsSameDaemon) a c
same_moves a b c first second = moves_then (λ d. IsSameDaemon) (λ d. IsSameDaemon) (λ d. IsSameDaemon) a b c first second (λ d x y z p q. same_then x y z p q)
