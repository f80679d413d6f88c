-- A task whose domains are all settled owes what it gives.
use Rattle.std.proofs.Common.{◌≡◌, ℕ, ◌+◌, ◌-◌, suc, zero, true, false, List, [], ◌∷◌, ◌++◌, length, map, refl, sym, ap, ◌∙◌, subst, arith, inl, inr}
use Rattle.std.specs.Prelude.{◌⊎◌, IsPermutation, IsSome, filter_map}
use Rattle.std.proofs.lemmas.List.{append-nil}
use Rattle.std.specs.List.{AllByRecursion as Each, AllZip as EachPair}
use Rattle.end_view.specs.EndView.{EndView, no_end}
use Rattle.vchan_lifecycle.specs.Lifecycle.{retired_view}
use Rattle.qrexec_frame.specs.declared.message.Message.{Message}
use Rattle.qrexec_frame.specs.declared.message.Message.TheVariants.{Connect}
use Rattle.call_broker.specs.declared.decision.Entry.{Entry}
use Rattle.call_broker.specs.Brokered.{Brokered}
use Rattle.call_broker.specs.Domains.{Domains, is_domain, count_of}
use Rattle.call_broker.specs.Journal.{is_dropped}
use Rattle.control_port.specs.Port.{HasSaid}
use Rattle.task_duties.specs.declared.place.PagePlace.{PagePlace}
use Rattle.task_duties.specs.declared.place.PagePlace.TheVariants.{Control, Payload}
use Rattle.task_duties.specs.declared.ends.RetiredEnd.{RetiredEnd}
use Rattle.task_duties.specs.Places.{numbers}
use Rattle.task_duties.specs.Hearing.{to_agent, to_broker, IsSaid, hears}
use Rattle.task_duties.specs.Broker.Outbox.{outbox, event_of, read_from, answered, live_calls}
use Rattle.task_duties.specs.Broker.Owes.{broker_version, awaited_of, BrokerOwes}
use Rattle.task_duties.specs.TaskOwes.{Broker, IsSameEnd, AreEnds, broker_ends}
use Rattle.task_duties.specs.GivenEnds.{retired_at}
use Rattle.task_duties.proofs.Elements.{each_at, has_from}
use Rattle.broker_task.specs.declared.outbox.Letter.{Letter}
use Rattle.broker_task.specs.declared.daemon.Daemon.{Daemon}
use Rattle.broker_task.specs.declared.switchboard.Switchboard.{Switchboard}
use Rattle.task_duties.specs.declared.ends.TaskTurn.{TaskTurn}
use Rattle.broker_task.specs.declared.task.BrokerDone.{BrokerDone}
use Rattle.task_duties.specs.declared.ends.TaskTurn.TheVariants as turn
use Rattle.broker_task.specs.Letters.{IsAt, messages_in}
use Rattle.broker_task.specs.Lines.{end_of, BrokerEnd, is_gone, first_view, MayDrop, IsLine, events_got}
use Rattle.broker_task.specs.Posting.{EachAt, EachMoves, MayGo, HasPosted}
use Rattle.broker_task.specs.Given.{BrokerState, given_now, retired_end, IsRetiredOf}
use Rattle.broker_task.specs.Rounds.{IsReady, GoesOn, IsSettled}
use Rattle.broker_task.specs.Standing.{Stands}
use Rattle.broker_task.specs.Turns.{Pays, StandsAfter, Finishes}
use Rattle.broker_task.proofs.HearingSteps.{place_of_domain, item_at}
use Rattle.broker_task.proofs.Lists.{at_one}
use Rattle.broker_task.proofs.StandingLaws.{said_by, awaited_at, stands_done}

-- ---- what was given is the same

moves_map : {B : Type 0} (f : Daemon → B) (old new : List Daemon) → EachMoves (λ d x y. f y ≡ f x) old new → map f new ≡ map f old
moves_map f [] [] moves = refl
moves_map f [] (y ∷ new) moves = absurd (omega (arith, moves.count))
moves_map f (x ∷ old) [] moves = absurd (omega (arith, moves.count))
moves_map {B} f (x ∷ old) (y ∷ new) moves =
    let first = moves.each 0 y (record { within = omega arith; is = refl }) in
    let head : f y ≡ f x = first.2 ∙ ap f (at_one (x ∷ old) 0 first.0 x first.1 (record { within = omega arith; is = refl })) in
    let rest : EachMoves (λ d a b. f b ≡ f a) old new = record {
      count = omega (arith, moves.count);
      each = λ i z at.
          let m = moves.each (suc i) z (record { within = omega (arith, at.within); is = at.is }) in
          (m.0, record { within = omega (arith, m.1.within); is = m.1.is }, m.2);
    } in
    λ i. head i ∷ moves_map f old new rest i

pub given_on : (old new : Switchboard) → GoesOn old new → given_now new ≡ given_now old
given_on old new goes =
    let awaited : map (λ x. x.awaited) new.daemons.items ≡ map (λ x. x.awaited) old.daemons.items =
    moves_map (λ x. x.awaited) old.daemons.items new.daemons.items (record { count = goes.same.count; each = λ i y at. let m = goes.same.each i y at in (m.0, m.1, m.2.awaited) }) in
    let views : map (λ x. first_view (end_of x)) new.daemons.items ≡ map (λ x. first_view (end_of x)) old.daemons.items =
    moves_map (λ x. first_view (end_of x)) old.daemons.items new.daemons.items (record { count = goes.same.count; each = λ i y at. let m = goes.same.each i y at in (m.0, m.1, m.2.given) }) in
    λ i. Broker (goes.hub i) (awaited i) (broker_ends 1 (views i))

-- ---- all domains in turn, as a list

pub each_from : (P : ℕ → Daemon → Type 0) (Q : Daemon → Type 0) (k : ℕ) (ds : List Daemon) → ((i : ℕ) (x : Daemon) → P (i + k) x → Q x) → ((i : ℕ) (x : Daemon) → IsAt ds i x → P (i + k) x) → Each Q ds
each_from P Q k [] go all = tt
each_from P Q k (x ∷ ds) go all = (
  go 0 x (all 0 x (record { within = omega arith; is = refl })),
  each_from P Q (k + 1) ds (λ i z p. let same : i + (k + 1) ≡ suc i + k = omega arith in go (suc i) z (subst (λ n. P n z) same p))
      (λ i z at. let same : suc i + k ≡ i + (k + 1) = omega arith in subst (λ n. P n z) same (all (suc i) z (record { within = omega (arith, at.within); is = at.is }))),
)

pub lines_list : (ds : List Daemon) → EachAt IsLine ds → Each (λ x. IsLine x.domain x) ds
lines_list ds lines = each_from IsLine (λ x. IsLine x.domain x) 1 ds (λ i x line. subst (λ n. IsLine n x) (sym line.number) line) lines

pub idle_list : (ds : List Daemon) → EachAt (λ d x. (end_of x).idle ≡ true) ds → Each (λ x. (end_of x).idle ≡ true) ds
idle_list ds idle = each_from (λ d x. (end_of x).idle ≡ true) (λ x. (end_of x).idle ≡ true) 1 ds (λ i x is. is) idle

-- ---- the end of each domain

end_nth : List Daemon → ℕ → EndView
end_nth [] i = no_end
end_nth (x ∷ ds) zero = retired_view (end_of x)
end_nth (x ∷ ds) (suc i) = end_nth ds i

end_in : List Daemon → PagePlace → EndView
end_in ds (Control d) = end_nth ds (d - 1)
end_in ds (Payload from to port) = no_end

nth_at : (ds : List Daemon) (i : ℕ) (x : Daemon) → IsAt ds i x → end_nth ds i ≡ retired_view (end_of x)
unfolding end_nth
nth_at [] i x at = absurd (omega (arith, at.within))
nth_at (y ∷ ds) zero x at = ap (λ (z : Daemon). retired_view (end_of z)) (sym at.is)
nth_at (y ∷ ds) (suc i) x at = nth_at ds i x (record { within = omega (arith, at.within); is = at.is })

in_at : (ds : List Daemon) (d i : ℕ) (x : Daemon) → IsAt ds i x → d ≡ i + 1 → end_in ds (Control d) ≡ retired_view (end_of x)
unfolding end_in
in_at ds d i x at is = let place : d - 1 ≡ i = omega (arith, is) in ap (λ (k : ℕ). end_nth ds k) place ∙ nth_at ds i x at

ends_same : (k : ℕ) (ds : List Daemon) (rs : List RetiredEnd) → ((i : ℕ) (x : Daemon) → IsAt ds i x → x.domain ≡ i + k) → EachPair IsRetiredOf ds rs
    → EachPair IsSameEnd (broker_ends k (map (λ x. first_view (end_of x)) ds)) (map retired_at rs)
ends_same k [] [] number pairs = tt
ends_same k [] (r ∷ rs) number pairs = absurd pairs
ends_same k (x ∷ ds) [] number pairs = absurd pairs
ends_same k (x ∷ ds) (r ∷ rs) number pairs =
    let here : x.domain ≡ 0 + k = number 0 x (record { within = omega arith; is = refl }) in
    let d_is : x.domain ≡ k = omega (arith, here) in (
      record {
        place = pairs.0.place ∙ ap (λ (d : ℕ). Control d) d_is;
        page = ap (λ (e : EndView). e.page) pairs.0.retired;
        role = ap (λ (e : EndView). e.role) pairs.0.retired;
      },
      ends_same (k + 1) ds rs (λ i z at. let next = number (suc i) z (record { within = omega (arith, at.within); is = at.is }) in omega (arith, next)) pairs.1,
    )

ends_are : (all : List Daemon) (k : ℕ) (ds : List Daemon) (rs : List RetiredEnd) → ((i : ℕ) (x : Daemon) → IsAt ds i x → end_in all (Control x.domain) ≡ retired_view (end_of x)) → EachPair IsRetiredOf ds rs
    → AreEnds (end_in all) (map retired_at rs)
ends_are all k [] [] ends pairs = tt
ends_are all k [] (r ∷ rs) ends pairs = absurd pairs
ends_are all k (x ∷ ds) [] ends pairs = absurd pairs
ends_are all k (x ∷ ds) (r ∷ rs) ends pairs = (
  pairs.0.retired ∙ sym (ends 0 x (record { within = omega arith; is = refl })) ∙ ap (λ (p : PagePlace). end_in all p) (sym pairs.0.place),
  ends_are all (k + 1) ds rs (λ i z at. ends (suc i) z (record { within = omega (arith, at.within); is = at.is })) pairs.1,
)

ends_honest : (ds : List Daemon) (rs : List RetiredEnd) → EachPair IsRetiredOf ds rs → Each (λ e. e.view.turned ≡ false) (map retired_at rs)
ends_honest [] [] pairs = tt
ends_honest [] (r ∷ rs) pairs = absurd pairs
ends_honest (x ∷ ds) [] pairs = absurd pairs
ends_honest (x ∷ ds) (r ∷ rs) pairs = (pairs.0.honest, ends_honest ds rs pairs.1)

-- ---- what each domain was sent, and has sent

drop_cause : (e : BrokerEnd) → MayDrop e → (e.view.saw ≡ true) ⊎ (e.view.misled ≡ true) ⊎ IsSome (hears broker_version to_broker e.view.got).fault
drop_cause e (inl h) = inl h.saw
drop_cause e (inr h) = inr h

-- ---- the whole task

owes : (s : Switchboard) → IsReady s → EachAt (IsSettled s.broker.hub s.broker.journal (length s.daemons.items)) s.daemons.items
    → BrokerOwes s.broker.hub (map (λ x. x.awaited) s.daemons.items) s.broker.journal (λ d. end_in s.daemons.items (Control d))
owes s ready settled = record {
  decided = ready.posting.decided;
  numbered = ready.posting.numbered;
  reads = λ d there.
      let at = daemon d there in
      let x = at.0 in
      let h = ready.read at.1 x at.2 in
      let number : x.domain ≡ d = (ready.posting.lines at.1 x at.2).number ∙ at.3 in
      sym (subst (λ (k : ℕ). events_got x ≡ read_from journal k) at.3 h.all)
      ∙ ap (λ (k : ℕ). filter_map (event_of k) (hears broker_version to_broker (end_of x).got).messages) number
      ∙ ap (λ (e : EndView). filter_map (event_of d) (hears broker_version to_broker e.got).messages) (sym (end_is d there));
  drops = λ d there dropped.
      let at = daemon d there in
      let x = at.0 in
      let h = (ready.posting.posted at.1 x at.2).dropped in
      let gone : is_gone x ≡ true = sym h ∙ ap (λ (k : ℕ). is_dropped journal k) at.3 ∙ dropped in
      subst (λ (e : EndView). (e.saw ≡ true) ⊎ (e.misled ≡ true) ⊎ IsSome (hears broker_version to_broker e.got).fault) (sym (end_is d there)) (drop_cause _ ((ready.posting.lines at.1 x at.2).cause gone));
  said = ready.posting.said;
  says = λ d there.
      let at = daemon d there in
      let x = at.0 in
      let line = ready.posting.lines at.1 x at.2 in
      let h = subst (λ (k : ℕ). HasSaid x.port (ready.posting.said k)) at.3 (ready.posting.posted at.1 x at.2).says in
      subst (λ (e : EndView). IsSaid broker_version to_agent (ready.posting.said d) e.sent) (sym (end_is d there)) (said_by x.port (ready.posting.said d) line.talker line.own h);
  from_journal = λ d there. let p = posted d there in (messages_in p.0.outbox.letters.items ++ p.1.lost, p.1.kept);
  exec_first = λ f t port ident there has. let p = posted f there in each_at (MayGo journal ready.posting.said f) (ready.posting.said f) (Connect t port ident) p.1.went (has_from (ready.posting.said f) (Connect t port ident) has);
  settled = λ d there kept.
      let at = daemon d there in
      let x = at.0 in
      let p = posted d there in
      let up : is_gone x ≡ false = sym p.1.dropped ∙ kept in
      let done = (settled at.1 x at.2 up).0 in
      let awaited : awaited_of (map (λ z. z.awaited) ds) d ≡ x.awaited = awaited_is d there in
      let counted : x.answered ≡ answered journal d = p.1.counted in
      let calls : live_calls hub journal (numbers 1 1 (length ds)) (at.1 + 1) ≡ live_calls hub journal (numbers 1 1 (count_of hub)) d =
      ap (λ (n : ℕ). live_calls hub journal (numbers 1 1 n) (at.1 + 1)) ready.posting.count ∙ ap (λ (k : ℕ). live_calls hub journal (numbers 1 1 (count_of hub)) k) at.3 in
      omega (arith, done, awaited, counted, calls);
  all_said = λ d there kept some.
      let at = daemon d there in
      let x = at.0 in
      let p = posted d there in
      let up : is_gone x ≡ false = sym p.1.dropped ∙ kept in
      let awaited : awaited_of (map (λ z. z.awaited) ds) d ≡ x.awaited = awaited_is d there in
      let empty = (settled at.1 x at.2 up).1 (omega (arith, awaited, some)) in
      let rest : ready.posting.said d ++ (messages_in x.outbox.letters.items ++ p.1.lost) ≡ ready.posting.said d =
      ap (λ (l : List Letter). ready.posting.said d ++ (messages_in l ++ p.1.lost)) empty ∙ ap (λ (l : List Message). ready.posting.said d ++ l) (p.1.none_lost up) ∙ append-nil (ready.posting.said d) in
      subst (λ (l : List Message). IsPermutation l (outbox hub journal d)) rest p.1.kept;
}
  where
    hub : Domains
    hub = s.broker.hub

    journal : List Entry
    journal = s.broker.journal

    ds : List Daemon
    ds = s.daemons.items

    daemon : (d : ℕ) → is_domain s.broker.hub d ≡ true → (x : Daemon) × (i : ℕ) × IsAt s.daemons.items i x × (i + 1 ≡ d)
    daemon d there =
        let place = place_of_domain s.broker.hub s.daemons.items d there ready.posting.count in
        let item = item_at s.daemons.items (d - 1) place.0 in
        (item.0, d - 1, item.1, place.1)

    end_is : (d : ℕ) (there : is_domain s.broker.hub d ≡ true) → end_in s.daemons.items (Control d) ≡ retired_view (end_of (daemon d there).0)
    end_is d there = let at = daemon d there in in_at s.daemons.items d at.1 at.0 at.2 (sym at.3)

    posted : (d : ℕ) (there : is_domain s.broker.hub d ≡ true) → (x : Daemon) × HasPosted s.broker.hub s.broker.journal ready.posting.said d x
    posted d there =
        let at = daemon d there in
        (at.0, subst (λ (k : ℕ). HasPosted s.broker.hub s.broker.journal ready.posting.said k at.0) at.3 (ready.posting.posted at.1 at.0 at.2))

    awaited_is : (d : ℕ) (there : is_domain s.broker.hub d ≡ true) → awaited_of (map (λ z. z.awaited) s.daemons.items) d ≡ (daemon d there).0.awaited
    awaited_is d there = let at = daemon d there in awaited_at s.daemons.items (d - 1) at.0 at.2

pub done_pays : (s : Switchboard) (result : TaskTurn BrokerState BrokerDone) → IsReady s → EachAt (IsSettled s.broker.hub s.broker.journal (length s.daemons.items)) s.daemons.items → Finishes s result → Pays (given_now s) result
done_pays s (turn.Again task) ready settled finishes = absurd finishes
done_pays s (turn.NoMemory ends) ready settled finishes = absurd finishes
done_pays s (turn.Done done) ready settled finishes = (
  end_in s.daemons.items,
  ap (λ (b : Brokered). b.hub) finishes.0,
  record {
    back = record {
      same = ends_same 1 s.daemons.items done.ends.items (λ i x at. (ready.posting.lines i x at).number) finishes.1;
      turned_are = ends_honest s.daemons.items done.ends.items finishes.1;
    };
    are = ends_are s.daemons.items 0 s.daemons.items done.ends.items (λ i x at. in_at s.daemons.items x.domain i x at (ready.posting.lines i x at).number) finishes.1;
  },
  subst (λ (b : Brokered). BrokerOwes s.broker.hub (map (λ x. x.awaited) s.daemons.items) b.journal (λ d. end_in s.daemons.items (Control d))) (sym finishes.0) (owes s ready settled),
)

pub done_stands : (s : Switchboard) (result : TaskTurn BrokerState BrokerDone) → IsReady s → Finishes s result → StandsAfter result
done_stands s (turn.Again task) ready finishes = absurd finishes
done_stands s (turn.NoMemory ends) ready finishes = absurd finishes
done_stands s (turn.Done done) ready finishes = subst (λ (b : Brokered). Stands b.hub b.journal (map retired_end done.ends.items)) (sym finishes.0) (stands_done s done.ends.items ready finishes.1)
