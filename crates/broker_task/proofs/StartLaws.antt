-- The task at first: nothing was decided, heard or sent.
use Rattle.std.proofs.Common.{◌≡◌, ℕ, ◌+◌, suc, zero, List, [], ◌∷◌, ◌++◌, length, map, refl, sym, ap, ◌∙◌, subst, arith}
use Rattle.std.specs.Prelude.{IsPermutation}
use Rattle.std.proofs.lemmas.List.Sorted.{IsPermutation-refl}
use Rattle.std.specs.List.{AllByRecursion as Each}
use Rattle.vchan_rule.specs.Seated.{SeatedEnd, view}
use Rattle.call_broker.specs.declared.decision.Entry.{Entry}
use Rattle.call_broker.specs.Domains.{Domains, count_of}
use Rattle.task_duties.specs.Broker.Outbox.{outbox}
use Rattle.task_duties.specs.TaskOwes.{Broker, broker_ends, broker_given}
use Rattle.broker_task.specs.declared.daemon.Daemon.{Daemon}
use Rattle.broker_task.specs.declared.outbox.Letter.{Letter}
use Rattle.broker_task.specs.declared.switchboard.Switchboard.{Switchboard}
use Rattle.broker_task.specs.Letters.{IsAt, messages_in}
use Rattle.broker_task.specs.Lines.{end_of, first_view, IsLine, HasRead}
use Rattle.broker_task.specs.Replies.{HasShortNames}
use Rattle.broker_task.specs.Posting.{IsLetter, HasPosted, IsPosting, HaveRead}
use Rattle.broker_task.specs.Given.{given_now}
use Rattle.broker_task.specs.Starting.{IsStarted, AreStarted}
use Rattle.broker_task.specs.Rounds.{IsReady}
use Rattle.broker_task.proofs.HoldingLaws.{holds_none}

-- ---- one domain more

pub started_push : (d : ℕ) (awaited : List ℕ) (controls : List SeatedEnd) (ds : List Daemon) (a : ℕ) (e : SeatedEnd) (x : Daemon) → AreStarted d awaited controls ds → IsStarted (d + length ds) a e x
    → AreStarted d (awaited ++ a ∷ []) (controls ++ e ∷ []) (ds ++ x ∷ [])
started_push d [] [] [] a e x so_far is = let here : d + 0 ≡ d = omega arith in (subst (λ n. IsStarted n a e x) here is, tt)
started_push d [] [] (y ∷ ds) a e x so_far is = absurd so_far
started_push d [] (c ∷ controls) [] a e x so_far is = absurd so_far
started_push d [] (c ∷ controls) (y ∷ ds) a e x so_far is = absurd so_far
started_push d (b ∷ awaited) [] [] a e x so_far is = absurd so_far
started_push d (b ∷ awaited) [] (y ∷ ds) a e x so_far is = absurd so_far
started_push d (b ∷ awaited) (c ∷ controls) [] a e x so_far is = absurd so_far
started_push d (b ∷ awaited) (c ∷ controls) (y ∷ ds) a e x so_far is =
    let place : d + suc (length ds) ≡ d + 1 + length ds = omega arith in
    (so_far.0, started_push (d + 1) awaited controls ds a e x so_far.1 (subst (λ n. IsStarted n a e x) place is))

-- ---- all domains

pub started_count : (d : ℕ) (awaited : List ℕ) (controls : List SeatedEnd) (ds : List Daemon) → AreStarted d awaited controls ds → length ds ≡ length awaited
started_count d [] [] [] are = refl
started_count d [] [] (y ∷ ds) are = absurd are
started_count d [] (c ∷ controls) [] are = absurd are
started_count d [] (c ∷ controls) (y ∷ ds) are = absurd are
started_count d (b ∷ awaited) [] [] are = absurd are
started_count d (b ∷ awaited) [] (y ∷ ds) are = absurd are
started_count d (b ∷ awaited) (c ∷ controls) [] are = absurd are
started_count d (b ∷ awaited) (c ∷ controls) (y ∷ ds) are = ap (λ (n : ℕ). suc n) (started_count (d + 1) awaited controls ds are.1)

started_awaited : (d : ℕ) (awaited : List ℕ) (controls : List SeatedEnd) (ds : List Daemon) → AreStarted d awaited controls ds → map (λ x. x.awaited) ds ≡ awaited
started_awaited d [] [] [] are = refl
started_awaited d [] [] (y ∷ ds) are = absurd are
started_awaited d [] (c ∷ controls) [] are = absurd are
started_awaited d [] (c ∷ controls) (y ∷ ds) are = absurd are
started_awaited d (b ∷ awaited) [] [] are = absurd are
started_awaited d (b ∷ awaited) [] (y ∷ ds) are = absurd are
started_awaited d (b ∷ awaited) (c ∷ controls) [] are = absurd are
started_awaited d (b ∷ awaited) (c ∷ controls) (y ∷ ds) are = λ i. are.0.awaited_is i ∷ started_awaited (d + 1) awaited controls ds are.1 i

started_views : (d : ℕ) (awaited : List ℕ) (controls : List SeatedEnd) (ds : List Daemon) → AreStarted d awaited controls ds → map (λ x. first_view (end_of x)) ds ≡ map view controls
started_views d [] [] [] are = refl
started_views d [] [] (y ∷ ds) are = absurd are
started_views d [] (c ∷ controls) [] are = absurd are
started_views d [] (c ∷ controls) (y ∷ ds) are = absurd are
started_views d (b ∷ awaited) [] [] are = absurd are
started_views d (b ∷ awaited) [] (y ∷ ds) are = absurd are
started_views d (b ∷ awaited) (c ∷ controls) [] are = absurd are
started_views d (b ∷ awaited) (c ∷ controls) (y ∷ ds) are = λ i. are.0.given i ∷ started_views (d + 1) awaited controls ds are.1 i

started_at : (P : ℕ → Daemon → Type 0) → ((d a : ℕ) (e : SeatedEnd) (x : Daemon) → IsStarted d a e x → P d x) → (d : ℕ) (awaited : List ℕ) (controls : List SeatedEnd) (ds : List Daemon) → AreStarted d awaited controls ds
    → (i : ℕ) (x : Daemon) → IsAt ds i x → P (i + d) x
started_at P go d [] [] [] are i x at = absurd (omega (arith, at.within))
started_at P go d [] [] (y ∷ ds) are i x at = absurd are
started_at P go d [] (c ∷ controls) [] are i x at = absurd are
started_at P go d [] (c ∷ controls) (y ∷ ds) are i x at = absurd are
started_at P go d (b ∷ awaited) [] [] are i x at = absurd are
started_at P go d (b ∷ awaited) [] (y ∷ ds) are i x at = absurd are
started_at P go d (b ∷ awaited) (c ∷ controls) [] are i x at = absurd are
started_at P go d (b ∷ awaited) (c ∷ controls) (y ∷ ds) are zero x at = let here : d ≡ 0 + d = omega arith in subst (λ n. P n x) here (subst (P d) (sym at.is) (go d b c y are.0))
started_at P go d (b ∷ awaited) (c ∷ controls) (y ∷ ds) are (suc i) x at =
    let here : i + (d + 1) ≡ suc i + d = omega arith in
    subst (λ n. P n x) here (started_at P go (d + 1) awaited controls ds are.1 i x (record { within = omega (arith, at.within); is = at.is }))

-- ---- the task

posted_first : (hub : Domains) (d a : ℕ) (e : SeatedEnd) (x : Daemon) → IsStarted d a e x → HasPosted hub [] (λ k. []) d x
posted_first hub d a e x is = record {
  says = is.said;
  lost = [];
  kept = subst (λ (l : List Letter). IsPermutation ([] ++ (messages_in l ++ [])) (outbox hub [] d)) (sym is.outbox) (IsPermutation-refl []);
  none_lost = λ up. refl;
  letters = subst (λ (l : List Letter). Each (IsLetter hub [] (λ k. []) d) l) (sym is.outbox) tt;
  went = tt;
  counted = is.answered;
  dropped = sym is.up;
}

ready_first : (hub : Domains) (awaited : List ℕ) (controls : List SeatedEnd) (ds : List Daemon) → length awaited ≡ count_of hub → AreStarted 1 awaited controls ds → IsPosting hub [] ds × HaveRead [] ds
ready_first hub awaited controls ds count are = (
  record {
    count = started_count 1 awaited controls ds are ∙ count;
    decided = tt;
    numbered = tt;
    lines = started_at IsLine (λ d a e x is. is.line) 1 awaited controls ds are;
    said = λ k. [];
    posted = started_at (HasPosted hub [] (λ k. [])) (posted_first hub) 1 awaited controls ds are;
  },
  started_at (λ d x. HasRead x []) (λ d a e x is. is.read) 1 awaited controls ds are,
)

pub ready_new : (s : Switchboard) (awaited : List ℕ) (controls : List SeatedEnd) → s.broker.journal ≡ [] → HasShortNames s.broker.hub → length awaited ≡ count_of s.broker.hub → AreStarted 1 awaited controls s.daemons.items → IsReady s
ready_new s awaited controls first names count are =
    let both = ready_first s.broker.hub awaited controls s.daemons.items count are in record {
      names = names;
      posting = subst (λ (j : List Entry). IsPosting s.broker.hub j s.daemons.items) (sym first) both.0;
      read = subst (λ (j : List Entry). HaveRead j s.daemons.items) (sym first) both.1;
      holds = holds_none s.daemons.items (started_at (λ d x. x.outbox.letters.items ≡ []) (λ d a e x is. is.outbox) 1 awaited controls s.daemons.items are);
    }

pub given_new : (s : Switchboard) (awaited : List ℕ) (controls : List SeatedEnd) → AreStarted 1 awaited controls s.daemons.items → given_now s ≡ broker_given s.broker.hub awaited (map view controls)
given_new s awaited controls are = λ i. Broker s.broker.hub (started_awaited 1 awaited controls s.daemons.items are i) (broker_ends 1 (started_views 1 awaited controls s.daemons.items are i))
