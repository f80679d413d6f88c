-- How tasks stand from round to round.
use Rattle.std.proofs.Common.{◌≡◌, ◌⊎◌, ℕ, zero, suc, ◌<◌, ◌≤◌, List, [], ◌∷◌, length, set, get_or, take, drop, ◌++◌, append-nil, Option, Some, None, true, false, All, Any, map, refl, sym, ap, ◌∙◌, subst, inl, inr, arith}
use Rattle.std.specs.List.{AllByRecursion as Each, AllZip, list_any}
use Rattle.std.proofs.lemmas.Bool.{false≢true}
use Rattle.std.proofs.lemmas.List.{drop_all, take_all}
use Rattle.std.proofs.lemmas.List.Elements.{All-nil, All-cons}
use Rattle.task_pool.specs.declared.task.Turn.{Turn}
use Rattle.task_pool.specs.declared.rounds.Seat.{Seat}
use Rattle.task_pool.specs.Rounds.{GoesOn, Gives, Stands, StandsAfter, StandsOn, IsOver, going, is_going, over}

module _ {T D : Type 0} (owes : T → D → Type 0) (turns : T → Turn T D → Type 0) where
  pub stands_first : (tasks : List T) → AllZip (StandsAfter owes turns 0) tasks (map going tasks)
  stands_first [] = tt
  stands_first (t ∷ tasks) = ((refl, λ done owed. owed), stands_first tasks)

  pub stands_on : (n : ℕ) (tasks : List T) (before after : List (Seat T D)) → AllZip (StandsAfter owes turns n) tasks before → AllZip (StandsOn owes turns) before after → AllZip (StandsAfter owes turns (suc n)) tasks after
  stands_on n [] [] [] stands made = tt
  stands_on n [] [] (a ∷ after) stands made = absurd made
  stands_on n [] (b ∷ before) after stands made = absurd stands
  stands_on n (t ∷ tasks) [] after stands made = absurd stands
  stands_on n (t ∷ tasks) (b ∷ before) [] stands made = absurd made
  stands_on n (t ∷ tasks) (b ∷ before) (a ∷ after) stands made = (made.0 t n stands.0, stands_on n tasks before after stands.1 made.1)

  given_within : (n most : ℕ) (first : T) (done : D) → n ≤ most → Gives owes turns n first done → Gives owes turns most first done
  given_within n most first done le gives = record { count = gives.count; few = (let few = gives.few in omega arith); last = gives.last; went = gives.went; gave = gives.gave; owed = gives.owed }

  pub all_given : (n most : ℕ) (tasks : List T) (dones : List D) → n ≤ most → AllZip (StandsAfter owes turns n) tasks (map over dones) → AllZip (Gives owes turns most) tasks dones
  all_given n most [] [] le stands = tt
  all_given n most [] (d ∷ dones) le stands = absurd stands
  all_given n most (t ∷ tasks) [] le stands = absurd stands
  all_given n most (t ∷ tasks) (d ∷ dones) le stands = (given_within n most t d le stands.0, all_given n most tasks dones le stands.1)

  -- the task made a turn in each round until it was done
  abbrev pub EachRound : ℕ → T → Type 0
  EachRound n first = ((now : T) × GoesOn owes turns n first now) ⊎ ((done : D) × Gives owes turns n first done)

  seat_in_round : (n : ℕ) (first : T) (task : Option T) (done : Option D) → Stands owes turns n first task done → EachRound n first
  seat_in_round n first (Some now) None stands = inl (now, stands.0)
  seat_in_round n first None (Some done) gives = inr (done, gives)
  seat_in_round n first (Some now) (Some done) stands = absurd stands
  seat_in_round n first None None stands = absurd stands

  pub each_round : (n : ℕ) (tasks : List T) (stands : List (Seat T D)) → AllZip (StandsAfter owes turns n) tasks stands → All (EachRound n) tasks
  each_round n [] [] all = All-nil (EachRound n)
  each_round n [] (s ∷ stands) all = absurd all
  each_round n (t ∷ tasks) [] all = absurd all
  each_round n (t ∷ tasks) (s ∷ stands) all = All-cons (EachRound n) t tasks (seat_in_round n t s.task s.done all.0) (each_round n tasks stands all.1)

  -- the task goes on after the last round
  abbrev pub LastRound : ℕ → T → Type 0
  LastRound n first = (now : T) × GoesOn owes turns n first now

  one_more : (n : ℕ) (first : T) (tasks : List T) (task : Option T) (done : Option D) (seats : List (Seat T D)) → Stands owes turns n first task done → (list_any is_going seats ≡ true → Any (LastRound n) tasks)
      → list_any is_going (record { task = task; done = done } ∷ seats) ≡ true → Any (LastRound n) (first ∷ tasks)
  one_more n first tasks (Some now) None seats stands rest some = (0, first, omega arith, refl, (now, stands.0))
  one_more n first tasks None (Some given) seats stands rest some = let other = rest some in (suc other.0, other.1, (let lt = other.2 in omega arith), other.3, other.4)
  one_more n first tasks (Some now) (Some given) seats stands rest some = absurd stands
  one_more n first tasks None None seats stands rest some = absurd stands

  pub one_goes : (n : ℕ) (tasks : List T) (seats : List (Seat T D)) → AllZip (StandsAfter owes turns n) tasks seats → list_any is_going seats ≡ true → Any (LastRound n) tasks
  one_goes n [] [] all some = absurd (false≢true some)
  one_goes n [] (s ∷ seats) all some = absurd all
  one_goes n (t ∷ tasks) [] all some = absurd all
  one_goes n (t ∷ tasks) (s ∷ seats) all some = one_more n t tasks s.task s.done seats all.0 (one_goes n tasks seats all.1) some

  over_more : (n : ℕ) (first : T) (task : Option T) (done : Option D) (seats : List (Seat T D)) → Stands owes turns n first task done → list_any is_going (record { task = task; done = done } ∷ seats) ≡ false
      → IsOver (record { task = task; done = done }) × (list_any is_going seats ≡ false)
  over_more n first (Some now) None seats stands none = absurd (false≢true (sym none))
  over_more n first None (Some given) seats stands none = ((given, refl), none)
  over_more n first (Some now) (Some given) seats stands none = absurd stands
  over_more n first None None seats stands none = absurd stands

  pub all_over : (n : ℕ) (tasks : List T) (seats : List (Seat T D)) → AllZip (StandsAfter owes turns n) tasks seats → list_any is_going seats ≡ false → Each IsOver seats
  all_over n [] [] all none = tt
  all_over n [] (s ∷ seats) all none = absurd all
  all_over n (t ∷ tasks) [] all none = absurd all
  all_over n (t ∷ tasks) (s ∷ seats) all none = let here = over_more n t s.task s.done seats all.0 none in (here.0, all_over n tasks seats all.1 here.1)

  -- the first so many made their turn of the round
  abbrev pub OnFirst : ℕ → List (Seat T D) → List (Seat T D) → Type 0
  OnFirst zero before after = before ≡ after
  OnFirst (suc n) [] after = ⊥
  OnFirst (suc n) (b ∷ before) [] = ⊥
  OnFirst (suc n) (b ∷ before) (a ∷ after) = StandsOn owes turns b a × OnFirst n before after

  pub on_more : (n : ℕ) (before after : List (Seat T D)) (d s : Seat T D) → OnFirst n before after → n < length after → StandsOn owes turns (get_or after n d) s → OnFirst (suc n) before (set after n s)
  on_more zero before [] d s on lt one = absurd (omega arith)
  on_more zero before (a ∷ after) d s on lt one = subst (λ l. OnFirst 1 l (s ∷ after)) (sym on) (one, refl)
  on_more (suc n) [] after d s on lt one = absurd on
  on_more (suc n) (b ∷ before) [] d s on lt one = absurd on
  on_more (suc n) (b ∷ before) (a ∷ after) d s on lt one = (on.0, on_more n before after d s on.1 (omega arith) one)

  pub on_all : (n : ℕ) (before after : List (Seat T D)) → OnFirst n before after → n ≡ length after → AllZip (StandsOn owes turns) before after
  on_all zero before [] on e = subst (λ l. AllZip (StandsOn owes turns) l []) (sym on) tt
  on_all zero before (a ∷ after) on e = absurd (omega arith)
  on_all (suc n) [] after on e = absurd on
  on_all (suc n) (b ∷ before) [] on e = absurd on
  on_all (suc n) (b ∷ before) (a ∷ after) on e = (on.0, on_all n before after on.1 (omega arith))

  -- a whole slice that was written over
  pub written : (n : ℕ) (new items : List (Seat T D)) → n ≡ length items → length new ≡ length items → take n (new ++ drop (length new) items) ≡ new
  written n new items size same = ap (take n) (ap (λ l. new ++ l) (drop_all (length new) items (omega arith)) ∙ append-nil new) ∙ take_all n new (omega arith)

  pub all_paid : (most : ℕ) (tasks : List T) (dones : List D) → AllZip (Gives owes turns most) tasks dones → AllZip owes tasks dones
  all_paid most [] [] all = tt
  all_paid most [] (d ∷ dones) all = absurd all
  all_paid most (t ∷ tasks) [] all = absurd all
  all_paid most (t ∷ tasks) (d ∷ dones) all = (all.0.owed, all_paid most tasks dones all.1)
