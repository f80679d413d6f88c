-- One domain that is attended to, step by step.
use Rattle.std.proofs.Common.{◌≡◌, ◌≢◌, ℕ, ◌+◌, ◌≤◌, ◌<◌, Option, Some, None, Bool, true, false, List, length, refl, sym, ap, ◌∙◌, subst, arith}
use Rattle.std.specs.Prelude.{◌==◌, ◌&&◌, nat_le, is_none, Result, Ok, Err, OnOk, IfOk}
use Rattle.std.proofs.Math.ListN.{set}
use Rattle.std.proofs.lemmas.List.{get_or-set_same, length-set}
use Rattle.std.proofs.lemmas.Bool.Decides.{nat_tests}
use Rattle.list_laws.proofs.Tests.{same_number}
use Rattle.qrexec_frame.specs.declared.message.Message.{Message}
use Rattle.qrexec_data.specs.declared.outcome.SessionFault.{SessionFault}
use Rattle.vchan_rule.specs.Seated.{SeatedEnd, view, IsOpen}
use Rattle.control_port.specs.Port.{HasSaid}
use Rattle.call_broker.specs.declared.event.Event.{Event}
use Rattle.call_broker.specs.declared.decision.Entry.{Entry}
use Rattle.call_broker.specs.Brokered.{Brokered}
use Rattle.call_broker.specs.Domains.{Domains, is_domain, count_of}
use Rattle.task_duties.specs.Broker.Outbox.{read_from}
use Rattle.broker_task.specs.declared.daemon.Daemon.{Daemon}
use Rattle.broker_task.specs.declared.switchboard.Switchboard.{Switchboard}
use Rattle.broker_task.specs.Letters.{IsAt}
use Rattle.broker_task.specs.Lines.{end_of, broker_end, is_gone, first_view, MayDrop, IsGoing, IsLine, ReadsOn, HasRead, IsSameDaemon, OnlyPort}
use Rattle.broker_task.specs.Replies.{HasShortNames}
use Rattle.broker_task.specs.Posting.{EachAt, EachMoves, SameEnd, LetsGo, MovesPort, IsPosting, HasHeardOut, HaveRead}
use Rattle.broker_task.specs.Holding.{lines_of, HoldsForExecs}
use Rattle.broker_task.specs.Rounds.{IsReady, GoesOn, IsThere, HasListened}
use Rattle.broker_task.proofs.PostLaws.{moves_one, moves_none, moves_as, moves_then, each_moved}
use Rattle.broker_task.proofs.Lists.{at_one}
use Rattle.broker_task.proofs.HearingSteps.{posting_next}
use Rattle.broker_task.proofs.HoldingLaws.{holds_next}
use Rattle.broker_task.proofs.SendingSteps.{each_alone, moves_alone}
use Rattle.broker_task.proofs.ReleaseSteps.{same_daemon, same_moves}

-- ---- a domain at its place

pub each_here : (P : Daemon → Type 0) (domain : ℕ) (ds : List Daemon) (i : ℕ) (x : Daemon) → IsAt ds i x → i + 1 ≡ domain → P x → EachAt (λ d y. d ≡ domain → P y) ds
each_here P domain ds i x there number p = λ j y at same.
    let j_is : j ≡ i = omega (arith, same, number) in
    subst P (at_one ds i x y there (subst (λ k. IsAt ds k y) j_is at)) p

pub domain_there : (hub : Domains) (ds : List Daemon) (i : ℕ) (x : Daemon) → length ds ≡ count_of hub → IsAt ds i x → x.domain ≡ i + 1 → is_domain hub x.domain ≡ true
domain_there hub ds i x count at number =
    let low : nat_le 1 x.domain ≡ true = grind (arith, nat_tests, number) in
    let less : x.domain ≤ count_of hub = omega (arith, count, at.within, number) in
    let high : nat_le x.domain (count_of hub) ≡ true = grind (arith, nat_tests, less) in
    λ k. low k && high k

-- ---- what has come was taken

is_there : (b : Bool) (y : Daemon) → (b ≡ true → IsOpen y.port.end × IsGoing (end_of y)) → (b ≡ false → MayDrop (broker_end y)) → IsThere b y
is_there true y opens cause = opens refl
is_there false y opens cause = cause refl

pub listened : {E : Type 0} (hub : Domains) (domain : ℕ) (journal : List Entry) (ds : List Daemon) (i : ℕ) (x y : Daemon) (r : Result Bool E) → IsAt ds i x → i + 1 ≡ domain → IsPosting hub journal ds → HaveRead journal ds
    → is_gone x ≡ false → OnlyPort x y → OnOk r (IsLine y.domain y) → OnOk r (is_gone y ≡ false) → ((said : List Message) → HasSaid x.port said → OnOk r (HasSaid y.port said))
    → ((events : List Event) → ReadsOn x events → OnOk r (ReadsOn y events)) → (r ≡ Ok true → IsOpen y.port.end × (IsGoing (end_of x) → IsGoing (end_of y))) → (r ≡ Ok false → MayDrop (broker_end y)) → HoldsForExecs (lines_of ds)
    → IfOk r (λ there. HasListened hub domain journal (set ds i y) there)
listened hub domain journal ds i x y (Err e) there number p read up only line now said reads opens cause holds = tt
listened hub domain journal ds i x y (Ok b) there number p read up only line now said reads opens cause holds =
    let domain_is : y.domain ≡ x.domain = ap (λ (z : Daemon). z.domain) only in
    let moves : MovesPort (i + 1) x y = record {
      domain = domain_is;
      awaited = ap (λ (z : Daemon). z.awaited) only;
      outbox = ap (λ (z : Daemon). z.outbox.letters.items) only;
      counted = ap (λ (z : Daemon). z.answered) only;
      gone = now ∙ sym up;
      line = λ h. subst (λ n. IsLine n y) (domain_is ∙ h.number) line;
      said = said;
    } in
    let alone = moves_alone domain (λ a b. (a ≡ x) × (b ≡ y)) ds i x y there number (refl, refl) in
    let here : IsAt (set ds i y) i y = record { within = omega (arith, there.within, length-set ds i y); is = sym (get_or-set_same ds i y y there.within) } in
    record {
      posting = posting_next hub journal ds i x y there moves p;
      hearing = record {
        others =
            each_alone domain (λ a b. (a ≡ x) × (b ≡ y)) (λ d a. HasRead a (read_from journal d)) (λ d a. d ≢ domain → HasRead a (read_from journal d)) ds (set ds i y) alone
            (λ d a b same is q apart. absurd (apart same)) (λ d a apart q away. q) read;
        own =
            each_alone domain (λ a b. (a ≡ x) × (b ≡ y)) (λ d a. HasRead a (read_from journal d)) (λ d a. d ≡ domain → ReadsOn a (read_from journal d)) ds (set ds i y) alone
            (λ d a b same is q own.
            subst (λ (z : Daemon). ReadsOn z (read_from journal d)) (sym is.1) (reads (read_from journal d) ((subst (λ (z : Daemon). HasRead z (read_from journal d)) is.0 q).on up)))
            (λ d a apart q same. absurd (apart same)) read;
      };
      whether = each_here (IsThere b) domain (set ds i y) i y here number (is_there b y (λ is. let o = opens (ap (λ (k : Bool). Ok k) is) in (o.0, o.1 ((read i x there).going up))) (λ is. cause (ap (λ (k : Bool). Ok k) is)));
      holds = holds_next ds i x y there moves holds;
    }

-- ---- what it sent was heard

there_on : (b : Bool) (x y : Daemon) → y.port.end ≡ x.port.end → IsThere b x → IsThere b y
there_on true x y same h = subst (λ (e : SeatedEnd). IsOpen e × IsGoing (view e)) (sym same) h
there_on false x y same h = subst (λ (e : SeatedEnd). MayDrop (record { view = view e; gone = e.side.notes.gone })) (sym same) h

pub still_there : (domain : ℕ) (b : Bool) (old new : List Daemon) → EachMoves SameEnd old new → EachAt (λ d x. d ≡ domain → IsThere b x) old → EachAt (λ d x. d ≡ domain → IsThere b x) new
still_there domain b old new moves h = each_moved (λ d x. d ≡ domain → IsThere b x) (λ d x. d ≡ domain → IsThere b x) SameEnd old new moves (λ d x y m is same. there_on b x y m.0 (is same)) h

pub heard_fine : (domain : ℕ) (journal : List Entry) (ds : List Daemon) → HasHeardOut domain journal ds → EachAt (λ d x. d ≡ domain → (x.port.fault ≡ None) × IsGoing (end_of x)) ds → HaveRead journal ds
heard_fine domain journal ds h fine = λ i x at. by_test i x at (i + 1 == domain) refl
  where
    by_test : (i : ℕ) (x : Daemon) → IsAt ds i x → (b : Bool) → (i + 1 == domain) ≡ b → HasRead x (read_from journal (i + 1))
    by_test i x at true is =
        let same : i + 1 ≡ domain = same_number (i + 1) domain is in
        let all = h.own i x at same in
        let f = fine i x at same in
        record { all = all.all; version = all.version; on = λ up. all.on f.0; going = λ up. f.1; fine = λ up. all.faulty ∙ f.0 }
    by_test i x at false is = let apart : i + 1 ≢ domain = λ same. grind (arith, nat_tests, is, same) in h.others i x at apart

pub no_fault : (o : Option SessionFault) → is_none o ≡ true → o ≡ None
no_fault None is = refl
no_fault (Some f) is = cc

-- ---- all of it

pub same_ends : (old new : List Daemon) → EachMoves SameEnd old new → EachMoves (λ d. IsSameDaemon) old new
same_ends old new moves = moves_as SameEnd (λ d. IsSameDaemon) old new moves (λ d x y m. record { domain = m.1; awaited = m.2; given = ap (λ (e : SeatedEnd). first_view (view e)) m.0 })

pub goes_nowhere : (s : Switchboard) → IsReady s → GoesOn s s
goes_nowhere s ready = record { ready = ready; hub = refl; same = moves_none (λ d. IsSameDaemon) s.daemons.items (λ d x. same_daemon x) }

pub goes_then : (a b c : Switchboard) → GoesOn a b → GoesOn b c → GoesOn a c
goes_then a b c first second = record {
  ready = second.ready;
  hub = second.hub ∙ first.hub;
  same = same_moves a.daemons.items b.daemons.items c.daemons.items first.same second.same;
}

pub goes_on : (s0 s1 s2 s3 : Switchboard) → IsReady s0 → s1.broker ≡ s0.broker → EachMoves (λ d. IsSameDaemon) s0.daemons.items s1.daemons.items → s2.broker.hub ≡ s1.broker.hub → EachMoves SameEnd s1.daemons.items s2.daemons.items
    → s3.broker.hub ≡ s2.broker.hub → EachMoves (λ d. IsSameDaemon) s2.daemons.items s3.daemons.items → IsPosting s3.broker.hub s3.broker.journal s3.daemons.items → HaveRead s3.broker.journal s3.daemons.items → HoldsForExecs (lines_of s3.daemons.items)
    → GoesOn s0 s3
goes_on s0 s1 s2 s3 ready broker first hub ends hub' last posting read holds =
    let all : s3.broker.hub ≡ s0.broker.hub = hub' ∙ hub ∙ ap (λ (b : Brokered). b.hub) broker in record {
      ready = record { names = subst (λ (h : Domains). HasShortNames h) (sym all) ready.names; posting = posting; read = read; holds = holds };
      hub = all;
      same =
          same_moves s0.daemons.items s1.daemons.items s3.daemons.items first
          (same_moves s1.daemons.items s2.daemons.items s3.daemons.items (same_ends s1.daemons.items s2.daemons.items ends) last);
    }

pub goes_on_ok : {A E : Type 0} (r : Result A E) (s0 s1 s2 s3 : Switchboard) → IsReady s0 → s1.broker ≡ s0.broker → EachMoves (λ d. IsSameDaemon) s0.daemons.items s1.daemons.items → s2.broker.hub ≡ s1.broker.hub
    → EachMoves SameEnd s1.daemons.items s2.daemons.items → s3.broker.hub ≡ s2.broker.hub → OnOk r (EachMoves (λ d. IsSameDaemon) s2.daemons.items s3.daemons.items) → OnOk r (IsPosting s3.broker.hub s3.broker.journal s3.daemons.items)
    → OnOk r (HaveRead s3.broker.journal s3.daemons.items) → OnOk r (HoldsForExecs (lines_of s3.daemons.items)) → OnOk r (GoesOn s0 s3)
goes_on_ok (Ok a) s0 s1 s2 s3 ready broker first hub ends hub' last posting read holds = goes_on s0 s1 s2 s3 ready broker first hub ends hub' last posting read holds
goes_on_ok (Err e) s0 s1 s2 s3 ready broker first hub ends hub' last posting read holds = tt

-- ---- a release, domain by domain

-- the first `n` domains were let go
abbrev pub LetsGoUpTo : ℕ → ℕ → ℕ → Daemon → Daemon → Type 0
LetsGoUpTo t n d x y = (d ≤ n → LetsGo t None x y) × (n < d → y ≡ x)

pub let_go_none : (t : ℕ) (ds : List Daemon) → EachMoves (LetsGoUpTo t 0) ds ds
let_go_none t ds = record { count = refl; each = λ i x at. (x, at, ((λ within. absurd (omega (arith, within))), (λ beyond. refl))) }

pub let_go_next : (t n : ℕ) (before ds : List Daemon) (x y : Daemon) → EachMoves (LetsGoUpTo t n) before ds → IsAt ds n x → LetsGo t None x y → EachMoves (LetsGoUpTo t (n + 1)) before (set ds n y)
let_go_next t n before ds x y so_far there lets =
    moves_then (LetsGoUpTo t n) (λ d a b. (d ≡ n + 1 → LetsGo t None a b) × (d ≢ n + 1 → b ≡ a)) (LetsGoUpTo t (n + 1)) before ds (set ds n y) so_far
    (moves_one (λ d a b. (d ≡ n + 1 → LetsGo t None a b) × (d ≢ n + 1 → b ≡ a)) ds n x y there ((λ same. lets), (λ apart. absurd (apart refl)))
    (λ d z apart. ((λ same. absurd (apart same)), (λ away. refl))))
    (λ d a b c p q. by_test d a b c p q (d == n + 1) refl)
  where
    by_test : (d : ℕ) (a b c : Daemon) → LetsGoUpTo t n d a b → (d ≡ n + 1 → LetsGo t None b c) × (d ≢ n + 1 → c ≡ b) → (v : Bool) → (d == n + 1) ≡ v → LetsGoUpTo t (n + 1) d a c
    by_test d a b c p q true is =
        let same : d ≡ n + 1 = same_number d (n + 1) is in
        let was : b ≡ a = p.1 (omega (arith, same)) in
        ((λ within. subst (λ (z : Daemon). LetsGo t None z c) was (q.0 same)), (λ beyond. absurd (omega (arith, same, beyond))))
    by_test d a b c p q false is =
        let apart : d ≢ n + 1 = λ same. grind (arith, nat_tests, is, same) in
        let now : c ≡ b = q.1 apart in
        ((λ within. subst (λ (z : Daemon). LetsGo t None a z) (sym now) (p.0 (omega (arith, apart, within)))), (λ beyond. now ∙ p.1 (omega (arith, beyond))))

pub let_go_all : (t n : ℕ) (before ds : List Daemon) → EachMoves (LetsGoUpTo t n) before ds → length before ≤ n → EachMoves (λ d. LetsGo t None) before ds
let_go_all t n before ds moves all = record {
  count = moves.count;
  each = λ i y at. let m = moves.each i y at in (m.0, m.1, m.2.0 (omega (arith, m.1.within, all)));
}
