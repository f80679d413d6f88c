-- What the hand of a hostile domain has.
use Rattle.std.proofs.Common.{◌≡◌, ℕ, refl, sym, ◌∙◌}
use Rattle.std.specs.Prelude.{true, false}
use Rattle.std.specs.List.{AllByRecursion as Each}
use Rattle.list_laws.proofs.Each.{each_weaker}
use Rattle.scenario_file.specs.Scenario.{Plan as Scenario, hostile_at}
use Rattle.task_duties.specs.declared.ends.DataEnd.{DataEnd}
use Rattle.task_duties.specs.declared.ends.UnusedEnd.{UnusedEnd}
use Rattle.task_duties.specs.declared.ends.UnusedEnd.TheVariants as unused
use Rattle.run_pages.specs.declared.deal.Hand.{Hand}
use Rattle.run_pages.specs.Dealt.{FitsDomain, HasOrders, IsLaidWith}

-- an end that fits a hostile domain is one of a page that is laid
end_laid : (s : Scenario) (domain : ℕ) (e : DataEnd) → hostile_at s domain ≡ true → (end : UnusedEnd) → e.end ≡ end → FitsDomain s domain end → IsLaidWith s.payload e
end_laid s domain e hostile (unused.Laid end) is fits = record { end = end; is = is; orders_are = fits }
end_laid s domain e hostile _ is fits = absurd (let both : true ≡ false = sym hostile ∙ fits in cc)

-- so are all data ends of its hand
pub all_laid : (s : Scenario) (domain : ℕ) (hand : Hand) → hostile_at s domain ≡ true → HasOrders s domain hand → Each (IsLaidWith s.payload) hand.payload.items
all_laid s domain hand hostile has = each_weaker (λ e. FitsDomain s domain e.end) (IsLaidWith s.payload) (λ e fits. end_laid s domain e hostile e.end refl fits) hand.payload.items has.of_payload
