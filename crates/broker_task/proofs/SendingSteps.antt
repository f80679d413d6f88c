-- A message that was sent, and the Connects that may be sent after it.
use Rattle.std.proofs.Common.{◌≡◌, ◌≢◌, ℕ, ◌+◌, Bool, true, false, List, [], ◌∷◌, ◌++◌, refl, sym, ap, ◌∙◌, subst, arith, suc, zero, append_assoc, Some}
use Rattle.std.specs.Prelude.{◌==◌, Contains, IsPermutation, if◌then◌else◌}
use Rattle.std.specs.List.{remove, AllByRecursion as Each}
use Rattle.std.proofs.Math.ListN.{set}
use Rattle.std.proofs.lemmas.List.Sorted.{IsPermutation-refl, IsPermutation-sym, IsPermutation-trans, IsPermutation-cons, IsPermutation-append_left, IsPermutation-append_right, IsPermutation-middle}
use Rattle.qrexec_frame.specs.declared.message.Message.{Message}
use Rattle.call_broker.specs.declared.decision.Entry.{Entry}
use Rattle.call_broker.specs.Domains.{Domains}
use Rattle.task_duties.specs.Broker.Outbox.{outbox}
use Rattle.broker_task.specs.declared.outbox.Letter.{Letter}
use Rattle.broker_task.specs.declared.daemon.Daemon.{Daemon}
use Rattle.std.proofs.lemmas.List.Elements.{Contains-append_left, Contains-append_right}
use Rattle.std.proofs.lemmas.Bool.Decides.{nat_tests}
use Rattle.list_laws.proofs.Tests.{same_number}
use Rattle.list_laws.proofs.Each.{each_weaker, each_append}
use Rattle.vchan_rule.specs.Seated.{IsOpen}
use Rattle.control_port.specs.Port.{HasSaid}
use Rattle.call_broker.specs.declared.event.Event.{Event}
use Rattle.task_duties.specs.Broker.Outbox.{read_from}
use Rattle.broker_task.specs.Letters.{IsAt, messages_in}
use Rattle.broker_task.specs.Lines.{is_shut, is_gone, IsLine, HasRead, SendsOne, IsSameDaemon}
use Rattle.broker_task.specs.Replies.{IsFit, NamesDomain}
use Rattle.broker_task.specs.Posting.{EachAt, EachMoves, MayGo, IsLetter, HasPosted, IsSending, HasGone}
use Rattle.broker_task.proofs.PostLaws.{moves_one, each_moved}
use Rattle.broker_task.proofs.PostingLaws.{may_go_on}

-- the messages without one of them are the others
pub taken_out : (letters : List Letter) (at : ℕ) (l : Letter) → IsAt letters at l → IsPermutation (messages_in letters) (l.message ∷ messages_in (remove letters at))
taken_out [] at l there = absurd (omega (arith, there.within))
taken_out (x ∷ letters) zero l there =
    subst (λ (k : Letter). IsPermutation (x.message ∷ messages_in letters) (k.message ∷ messages_in letters)) (sym there.is) (IsPermutation-refl (x.message ∷ messages_in letters))
taken_out (x ∷ letters) (suc at) l there =
    let rest = taken_out letters at l (record { within = omega (arith, there.within); is = there.is }) in
    IsPermutation-trans _ _ _ (IsPermutation-cons x.message (messages_in letters) (l.message ∷ messages_in (remove letters at)) rest)
    (IsPermutation-middle (x.message ∷ []) l.message (messages_in (remove letters at)))

pub each_out : (P : Letter → Type 0) (letters : List Letter) (at : ℕ) → Each P letters → Each P (remove letters at)
each_out P [] zero each = tt
each_out P [] (suc at) each = tt
each_out P (x ∷ letters) zero each = each.1
each_out P (x ∷ letters) (suc at) each = (each.0, each_out P letters at each.1)

pub each_there : (P : Letter → Type 0) (letters : List Letter) (at : ℕ) (l : Letter) → IsAt letters at l → Each P letters → P l
each_there P [] at l there each = absurd (omega (arith, there.within))
each_there P (x ∷ letters) zero l there each = subst P (sym there.is) each.0
each_there P (x ∷ letters) (suc at) l there each = each_there P letters at l (record { within = omega (arith, there.within); is = there.is }) each.1

-- a message that waited was sent
pub gone_on : (said waits rest lost all : List Message) (m : Message) → IsPermutation waits (m ∷ rest) → IsPermutation (said ++ (waits ++ lost)) all → IsPermutation ((said ++ m ∷ []) ++ (rest ++ lost)) all
gone_on said waits rest lost all m out kept =
    let moved : IsPermutation (said ++ (waits ++ lost)) (said ++ ((m ∷ rest) ++ lost)) = IsPermutation-append_right said (waits ++ lost) ((m ∷ rest) ++ lost) (IsPermutation-append_left lost waits (m ∷ rest) out) in
    subst (λ l. IsPermutation l all) (sym (append_assoc said (m ∷ []) (rest ++ lost))) (IsPermutation-trans _ _ _ (IsPermutation-sym _ _ moved) kept)

-- ---- what was sent, with one message more

-- a domain is sent a message of its letters
pub record Sends (m : Message) (x y : Daemon) : Type 0 where
  pub sends : (said : List Message) → HasSaid x.port said → SendsOne x y said (Some m)
  pub same : IsSameDaemon x y
  pub counted : y.answered ≡ x.answered
  pub line : IsLine y.domain y
  pub up : IsOpen x.port.end
  pub opened : IsOpen y.port.end
  pub read : (events : List Event) → HasRead x events → HasRead y events

abbrev pub said_with : (ℕ → List Message) → ℕ → Message → ℕ → List Message
said_with said domain m d = if d == domain then said d ++ m ∷ [] else said d

said_own : (said : ℕ → List Message) (domain : ℕ) (m : Message) (d : ℕ) → d ≡ domain → said_with said domain m d ≡ said d ++ m ∷ []
said_own said domain m d same = let is : (d == domain) ≡ true = grind (arith, nat_tests, same) in ap (λ b. if b then said d ++ m ∷ [] else said d) is

said_other : (said : ℕ → List Message) (domain : ℕ) (m : Message) (d : ℕ) → d ≢ domain → said_with said domain m d ≡ said d
said_other said domain m d apart = let is : (d == domain) ≡ false = grind (arith, nat_tests, apart) in ap (λ b. if b then said d ++ m ∷ [] else said d) is

said_grows : (said : ℕ → List Message) (domain : ℕ) (m : Message) (d : ℕ) (w : Message) → Contains (said d) w → Contains (said_with said domain m d) w
said_grows said domain m d w there = by_test (d == domain)
  where
    by_test : (b : Bool) → Contains (if b then said d ++ m ∷ [] else said d) w
    by_test true = Contains-append_left (said d) (m ∷ []) w there
    by_test false = there

pub is_up : (x : Daemon) → IsOpen x.port.end → is_gone x ≡ false
is_up x is = ap is_shut is.1

posted_sent : (hub : Domains) (journal : List Entry) (said : ℕ → List Message) (domain : ℕ) (m : Message) (d : ℕ) (x y : Daemon) → d ≡ domain → Sends m x y
    → HasPosted hub journal said d x → HasPosted hub journal (said_with said domain m) d y
posted_sent hub journal said domain m d x y same s h =
    let one = s.sends (said d) h.says in
    let at = one.0 in
    let l = one.1 in
    let there = one.2 in
    let m_is : m ≡ l.message = one.4 in
    let rest = one.5 in
    let said_is = said_own said domain m d same in
    let mine = each_there (IsLetter hub journal said d) x.outbox.letters.items at l there h.letters in
    let on : (w : Message) → MayGo journal said d w → MayGo journal (said_with said domain m) d w = may_go_on journal journal said (said_with said domain m) (λ t dropped. dropped) (said_grows said domain m) d in
    record {
      says = subst (λ w. HasSaid y.port w) (sym said_is) one.6;
      lost = h.lost;
      kept =
          subst (λ w. IsPermutation (w ++ (messages_in y.outbox.letters.items ++ h.lost)) (outbox hub journal d)) (sym said_is)
          (subst (λ (r : List Letter). IsPermutation ((said d ++ m ∷ []) ++ (messages_in r ++ h.lost)) (outbox hub journal d)) (sym rest)
          (gone_on (said d) (messages_in x.outbox.letters.items) (messages_in (remove x.outbox.letters.items at)) h.lost (outbox hub journal d) m
          (subst (λ w. IsPermutation (messages_in x.outbox.letters.items) (w ∷ messages_in (remove x.outbox.letters.items at))) (sym m_is) (taken_out x.outbox.letters.items at l there)) h.kept));
      none_lost = λ up. h.none_lost (is_up x s.up);
      letters =
          subst (λ (r : List Letter). Each (IsLetter hub journal (said_with said domain m) d) r) (sym rest)
          (each_weaker (IsLetter hub journal said d) (IsLetter hub journal (said_with said domain m) d) (λ k is. record { fits = is.fits; may = λ free. on k.message (is.may free) }) (remove x.outbox.letters.items at)
          (each_out (IsLetter hub journal said d) x.outbox.letters.items at h.letters));
      went =
          subst (λ w. Each (MayGo journal (said_with said domain m) d) w) (sym said_is)
          (each_append (MayGo journal (said_with said domain m) d) (said d) (m ∷ []) (each_weaker (MayGo journal said d) (MayGo journal (said_with said domain m) d) on (said d) h.went)
          (on m (subst (MayGo journal said d) (sym m_is) (mine.may one.3)), tt));
      counted = s.counted ∙ h.counted;
      dropped = h.dropped ∙ is_up x s.up ∙ sym (is_up y s.opened);
    }

posted_beside : (hub : Domains) (journal : List Entry) (said : ℕ → List Message) (domain : ℕ) (m : Message) (d : ℕ) (x : Daemon) → d ≢ domain
    → HasPosted hub journal said d x → HasPosted hub journal (said_with said domain m) d x
posted_beside hub journal said domain m d x apart h =
    let said_is = said_other said domain m d apart in
    let on : (w : Message) → MayGo journal said d w → MayGo journal (said_with said domain m) d w = may_go_on journal journal said (said_with said domain m) (λ t dropped. dropped) (said_grows said domain m) d in
    record {
      says = subst (λ w. HasSaid x.port w) (sym said_is) h.says;
      lost = h.lost;
      kept = subst (λ w. IsPermutation (w ++ (messages_in x.outbox.letters.items ++ h.lost)) (outbox hub journal d)) (sym said_is) h.kept;
      none_lost = h.none_lost;
      letters = each_weaker (IsLetter hub journal said d) (IsLetter hub journal (said_with said domain m) d) (λ k is. record { fits = is.fits; may = λ free. on k.message (is.may free) }) x.outbox.letters.items h.letters;
      went = subst (λ w. Each (MayGo journal (said_with said domain m) d) w) (sym said_is) (each_weaker (MayGo journal said d) (MayGo journal (said_with said domain m) d) on (said d) h.went);
      counted = h.counted;
      dropped = h.dropped;
    }

-- one domain moves, and the others stay as they are
abbrev pub Alone : ℕ → (Daemon → Daemon → Type 0) → ℕ → Daemon → Daemon → Type 0
Alone domain R d x y = (d ≡ domain → R x y) × (d ≢ domain → y ≡ x)

pub moves_alone : (domain : ℕ) (R : Daemon → Daemon → Type 0) (ds : List Daemon) (i : ℕ) (x y : Daemon) → IsAt ds i x → i + 1 ≡ domain → R x y → EachMoves (Alone domain R) ds (set ds i y)
moves_alone domain R ds i x y there number r = moves_one (Alone domain R) ds i x y there ((λ same. r), (λ apart. absurd (apart number))) (λ d z apart. ((λ same. absurd (apart (same ∙ sym number))), (λ away. refl)))

-- what holds of each domain still holds if it holds of the one that moved
pub each_alone : (domain : ℕ) (R : Daemon → Daemon → Type 0) (P Q : ℕ → Daemon → Type 0) (old new : List Daemon) → EachMoves (Alone domain R) old new
    → ((d : ℕ) (x y : Daemon) → d ≡ domain → R x y → P d x → Q d y) → ((d : ℕ) (x : Daemon) → d ≢ domain → P d x → Q d x) → EachAt P old → EachAt Q new
each_alone domain R P Q old new moves own other each =
    each_moved P Q (Alone domain R) old new moves
    (λ d x y m p. by_test d x y m p (d == domain) refl) each
  where
    by_test : (d : ℕ) (x y : Daemon) → Alone domain R d x y → P d x → (b : Bool) → (d == domain) ≡ b → Q d y
    by_test d x y m p true is = let same : d ≡ domain = same_number d domain is in own d x y same (m.0 same) p
    by_test d x y m p false is = let apart : d ≢ domain = λ same. grind (arith, nat_tests, is, same) in subst (Q d) (sym (m.1 apart)) (other d x apart p)

pub sending_sent : (hub : Domains) (journal : List Entry) (domain : ℕ) (m : Message) (old new : List Daemon) → EachMoves (Alone domain (Sends m)) old new → (p : IsSending hub domain journal old) → IsSending hub domain journal new
sending_sent hub journal domain m old new moves p = record {
  posting = record {
    count = moves.count ∙ p.posting.count;
    decided = p.posting.decided;
    numbered = p.posting.numbered;
    lines = each_alone domain (Sends m) IsLine IsLine old new moves (λ d x y same s line. subst (λ n. IsLine n y) (s.same.domain ∙ line.number) s.line) (λ d x apart line. line) p.posting.lines;
    said = said_with p.posting.said domain m;
    posted =
        each_alone domain (Sends m) (HasPosted hub journal p.posting.said) (HasPosted hub journal (said_with p.posting.said domain m)) old new moves
        (λ d x y same s h. posted_sent hub journal p.posting.said domain m d x y same s h) (λ d x apart h. posted_beside hub journal p.posting.said domain m d x apart h) p.posting.posted;
  };
  read = each_alone domain (Sends m) (λ d x. HasRead x (read_from journal d)) (λ d x. HasRead x (read_from journal d)) old new moves (λ d x y same s h. s.read (read_from journal d) h) (λ d x apart h. h) p.read;
  opened = each_alone domain (Sends m) (λ d x. d ≡ domain → IsOpen x.port.end) (λ d x. d ≡ domain → IsOpen x.port.end) old new moves (λ d x y same s h here. s.opened) (λ d x apart h. h) p.opened;
}

-- the message is one of those that were sent then, and names a domain
pub gone_one : (hub : Domains) (journal : List Entry) (domain : ℕ) (m : Message) (ds : List Daemon) (i : ℕ) (x y : Daemon) → IsAt ds i x → i + 1 ≡ domain → Sends m x y → IsSending hub domain journal ds
    → HasGone hub domain journal (set ds i y) m
unfolding sending_sent
gone_one hub journal domain m ds i x y there number s p =
    let moves = moves_alone domain (Sends m) ds i x y there number s in
    let h = p.posting.posted i x there in
    let one = s.sends (p.posting.said (i + 1)) h.says in
    let fit : IsFit hub one.1.message = (each_there (IsLetter hub journal p.posting.said (i + 1)) x.outbox.letters.items one.0 one.1 one.2 h.letters).fits in (
      sending_sent hub journal domain m ds (set ds i y) moves p,
      subst (λ w. Contains w m) (sym (said_own p.posting.said domain m domain refl)) (Contains-append_right (p.posting.said domain) (m ∷ []) m (0, omega arith, refl)),
      subst (NamesDomain hub) (sym one.4) fit.1,
    )
