-- The ends of a task that wasn't made are given back one after the other.
use Rattle.std.proofs.Common.{◌≡◌, ℕ, true, false, List, [], ◌∷◌, ◌++◌, ap, sym, ◌∙◌, subst, append_assoc}
use Rattle.std.proofs.lemmas.List.{append-nil, map-append}
use Rattle.std.specs.List.{AllByRecursion as Each}
use Rattle.task_duties.specs.declared.ends.DataEnd.{DataEnd}
use Rattle.task_duties.specs.declared.ends.RetiredEnd.{RetiredEnd}
use Rattle.task_duties.specs.TaskOwes.{AreGivenBack, EndAt, IsSameEnd}
use Rattle.task_duties.specs.GivenEnds.{all_given, all_retired, fresh_view, retired_at}
use Rattle.agent_slots.specs.Slots.{IsGiven, held_at}

-- whatever is given back of the ends that are left, with those that are retired already all are given back
pub record IsGivingBack (given left : List EndAt) (made : List RetiredEnd) : Type 0 where
  pub go : (more : List EndAt) → AreGivenBack false left more → AreGivenBack false given (all_retired made ++ more)

pub giving_first : (given : List EndAt) (made : List RetiredEnd) → made ≡ [] → IsGivingBack given given made
giving_first given made is = subst (IsGivingBack given given) (sym is) (record { go = λ more back. back })

pub giving_on : (given left : List EndAt) (e : EndAt) (made now : List RetiredEnd) (r : RetiredEnd) → now ≡ made ++ r ∷ [] → IsSameEnd e (retired_at r) → (retired_at r).view.turned ≡ false
    → IsGivingBack given (e ∷ left) made → IsGivingBack given left now
giving_on given left e made now r is same honest giving = record {
  go = λ more back.
      (let placed : all_retired now ++ more ≡ all_retired made ++ retired_at r ∷ more =
      ap (λ l. all_retired l ++ more) is ∙ ap (λ l. l ++ more) (map-append retired_at made (r ∷ [])) ∙ append_assoc (all_retired made) (retired_at r ∷ []) more in
      subst (AreGivenBack false given) (sym placed) (giving.go (retired_at r ∷ more) (record { same = (same, back.same); turned_are = (honest, back.turned_are) })));
}

pub giving_none : (given left : List EndAt) (made : List RetiredEnd) → left ≡ [] → IsGivingBack given left made → AreGivenBack false given (all_retired made)
giving_none given left made none giving =
    subst (AreGivenBack false given) (append-nil (all_retired made)) (giving.go [] (subst (λ l. AreGivenBack false l []) (sym none) (record { same = tt; turned_are = tt })))

-- data ends that a domain is given make no call
pub all_idle : (domain : ℕ) (ends : List DataEnd) → Each (IsGiven domain) (all_given ends) → Each (λ x. (fresh_view x.end).idle ≡ true) ends
all_idle domain [] given = tt
all_idle domain (x ∷ ends) given = (given.0.unused.idle, all_idle domain ends given.1)

-- an end with the same place, page and role
pub same_end : (given retired : EndAt) → held_at retired ≡ held_at given → IsSameEnd given retired
same_end given retired held = record { place = ap (λ h. h.place) held; page = ap (λ h. h.page) held; role = ap (λ h. h.role) held }
