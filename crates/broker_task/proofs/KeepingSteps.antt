-- The ends stay those of their pages, whatever a step did, and can be given back.
use Rattle.std.proofs.Common.{◌≡◌, ℕ, ◌+◌, suc, false, List, [], ◌∷◌, map, refl, ap, ◌∙◌, subst, arith}
use Rattle.std.proofs.Math.ListN.{set}
use Rattle.std.specs.List.{AllByRecursion as Each, AllZip as EachPair}
use Rattle.end_view.specs.EndView.{EndView}
use Rattle.vchan_rule.specs.Seated.{SeatedEnd}
use Rattle.task_duties.specs.declared.place.PagePlace.TheVariants.{Control}
use Rattle.task_duties.specs.declared.ends.RetiredEnd.{RetiredEnd}
use Rattle.task_duties.specs.TaskOwes.{AreGivenBack, IsSameEnd, broker_ends}
use Rattle.task_duties.specs.GivenEnds.{retired_at}
use Rattle.broker_task.specs.declared.daemon.Daemon.{Daemon}
use Rattle.broker_task.specs.Letters.{IsAt}
use Rattle.broker_task.specs.Lines.{end_of, first_view, IsLine, IsSameDaemon, KeepsEnd}
use Rattle.broker_task.specs.Posting.{EachAt, EachMoves, SameEnd}
use Rattle.broker_task.specs.Given.{IsGivenBack}
use Rattle.broker_task.proofs.PostLaws.{moves_one, moves_none, moves_as, moves_then}
use Rattle.broker_task.proofs.Lists.{at_one}

-- ---- one domain

pub keeps_self : (x : Daemon) → KeepsEnd x x
keeps_self x = record { domain = refl; page = refl; role = refl }

keeps_then : (x y z : Daemon) → KeepsEnd x y → KeepsEnd y z → KeepsEnd x z
keeps_then x y z a b = record { domain = b.domain ∙ a.domain; page = b.page ∙ a.page; role = b.role ∙ a.role }

pub keeps_same : (x y : Daemon) → IsSameDaemon x y → KeepsEnd x y
keeps_same x y same = record { domain = same.domain; page = ap (λ (e : EndView). e.page) same.given; role = ap (λ (e : EndView). e.role) same.given }

-- ---- all domains

pub keeps_none : (ds : List Daemon) → EachMoves (λ d. KeepsEnd) ds ds
keeps_none ds = moves_none (λ d. KeepsEnd) ds (λ d x. keeps_self x)

pub keeps_one : (ds : List Daemon) (i : ℕ) (x y : Daemon) → IsAt ds i x → KeepsEnd x y → EachMoves (λ d. KeepsEnd) ds (set ds i y)
keeps_one ds i x y there keeps = moves_one (λ d. KeepsEnd) ds i x y there keeps (λ d z apart. keeps_self z)

pub keeps_all : (a b c : List Daemon) → EachMoves (λ d. KeepsEnd) a b → EachMoves (λ d. KeepsEnd) b c → EachMoves (λ d. KeepsEnd) a c
keeps_all a b c first second = moves_then (λ d. KeepsEnd) (λ d. KeepsEnd) (λ d. KeepsEnd) a b c first second (λ d x y z f s. keeps_then x y z f s)

pub keeps_daemons : (a b : List Daemon) → EachMoves (λ d. IsSameDaemon) a b → EachMoves (λ d. KeepsEnd) a b
keeps_daemons a b same = moves_as (λ d. IsSameDaemon) (λ d. KeepsEnd) a b same (λ d x y s. keeps_same x y s)

pub keeps_ends : (a b : List Daemon) → EachMoves SameEnd a b → EachMoves (λ d. KeepsEnd) a b
keeps_ends a b same =
    moves_as SameEnd (λ d. KeepsEnd) a b same
    (λ d x y s. record { domain = s.1; page = ap (λ (e : SeatedEnd). e.page) s.0; role = ap (λ (e : SeatedEnd). e.side.role) s.0 })

-- a step that only hears lies between two others
pub keeps_through : (a b c d : List Daemon) → EachMoves (λ d. KeepsEnd) a b → EachMoves SameEnd b c → EachMoves (λ d. KeepsEnd) c d → EachMoves (λ d. KeepsEnd) a d
keeps_through a b c d first heard last = keeps_all a b d first (keeps_all b c d (keeps_ends b c heard) last)

-- ---- the ends that are given back

-- the first domain alone, and the others
moves_apart : (x y : Daemon) (old new : List Daemon) → EachMoves (λ d. KeepsEnd) (x ∷ old) (y ∷ new) → KeepsEnd x y × EachMoves (λ d. KeepsEnd) old new
moves_apart x y old new moves =
    let first = moves.each 0 y (record { within = omega arith; is = refl }) in
    let is : first.0 ≡ x = at_one (x ∷ old) 0 first.0 x first.1 (record { within = omega arith; is = refl }) in (
      subst (λ (z : Daemon). KeepsEnd z y) is first.2,
      record {
        count = omega (arith, moves.count);
        each = λ i z at.
            let m = moves.each (suc i) z (record { within = omega (arith, at.within); is = at.is }) in
            (m.0, record { within = omega (arith, m.1.within); is = m.1.is }, m.2);
      },
    )

back_same : (k : ℕ) (old new : List Daemon) (rs : List RetiredEnd) → ((i : ℕ) (x : Daemon) → IsAt old i x → x.domain ≡ i + k) → EachMoves (λ d. KeepsEnd) old new → EachPair IsGivenBack new rs
    → EachPair IsSameEnd (broker_ends k (map (λ x. first_view (end_of x)) old)) (map retired_at rs)
back_same k [] [] [] number moves pairs = tt
back_same k [] [] (r ∷ rs) number moves pairs = absurd pairs
back_same k [] (y ∷ new) rs number moves pairs = absurd (omega (arith, moves.count))
back_same k (x ∷ old) [] rs number moves pairs = absurd (omega (arith, moves.count))
back_same k (x ∷ old) (y ∷ new) [] number moves pairs = absurd pairs
back_same k (x ∷ old) (y ∷ new) (r ∷ rs) number moves pairs =
    let both = moves_apart x y old new moves in
    let here : x.domain ≡ 0 + k = number 0 x (record { within = omega arith; is = refl }) in
    let d_is : x.domain ≡ k = omega (arith, here) in (
      record {
        place = pairs.0.place ∙ ap (λ (d : ℕ). Control d) (both.0.domain ∙ d_is);
        page = pairs.0.page ∙ both.0.page;
        role = pairs.0.role ∙ both.0.role;
      },
      back_same (k + 1) old new rs (λ i z at. let next = number (suc i) z (record { within = omega (arith, at.within); is = at.is }) in omega (arith, next)) both.1 pairs.1,
    )

back_honest : (ds : List Daemon) (rs : List RetiredEnd) → EachPair IsGivenBack ds rs → Each (λ e. e.view.turned ≡ false) (map retired_at rs)
back_honest [] [] pairs = tt
back_honest [] (r ∷ rs) pairs = absurd pairs
back_honest (x ∷ ds) [] pairs = absurd pairs
back_honest (x ∷ ds) (r ∷ rs) pairs = (pairs.0.honest, back_honest ds rs pairs.1)

pub given_back : (old new : List Daemon) (rs : List RetiredEnd) → EachAt IsLine old → EachMoves (λ d. KeepsEnd) old new → EachPair IsGivenBack new rs
    → AreGivenBack false (broker_ends 1 (map (λ x. first_view (end_of x)) old)) (map retired_at rs)
given_back old new rs lines moves pairs = record { same = back_same 1 old new rs (λ i x at. (lines i x at).number) moves pairs; turned_are = back_honest new rs pairs }

-- nothing came between
pub given_up : (ds : List Daemon) (rs : List RetiredEnd) → EachAt IsLine ds → EachPair IsGivenBack ds rs → AreGivenBack false (broker_ends 1 (map (λ x. first_view (end_of x)) ds)) (map retired_at rs)
given_up ds rs lines pairs = given_back ds ds rs lines (record { count = refl; each = λ i y at. (y, at, keeps_self y) }) pairs
