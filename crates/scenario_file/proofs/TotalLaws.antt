-- The numbers of domains, pages and words.
use Rattle.std.proofs.Common.{◌≡◌, ◌≤◌, ◌*◌, ℕ, List, Option, Bool, true, false, ◌⊎◌, refl, arith}
use Rattle.std.specs.Prelude.{is_some}
use Rattle.std.proofs.Math.Nat.{mul-le-mul}
use Rattle.ring_words.specs.declared.order.Orders.{Orders}
use Rattle.ring_words.specs.Page.{word_count}
use Rattle.ring_words.specs.Rings.{size}
use Rattle.scenario_file.specs.declared.acts.Act.{Act}
use Rattle.scenario_file.specs.declared.scenario.Domain.{Domain}
use Rattle.scenario_file.specs.Names.{is_name}
use Rattle.scenario_file.specs.Scenario.{DomainFits, HostileFits, NumbersFit, order_numbers}
use Rattle.scenario_file.specs.Tables.{words_with}

-- the numbers from 2 to 3
pub two_or_three : (n : ℕ) → 2 ≤ n → n ≤ 3 → (n ≡ 2) ⊎ (n ≡ 3)
two_or_three n low high = grind arith

pub within_kind : (hostile : Bool) (ports version : ℕ) → NumbersFit hostile ports version → ports ≤ 32
within_kind false ports version fits = omega (arith, fits.0)
within_kind true ports version fits = fits.0

-- no domain has more pages to each other one than 32, and 992 in all
pub pages_within : (domain : Domain) (others : ℕ) → DomainFits domain → others ≤ 31 → domain.ports * others ≤ 992
pages_within domain others fits few = mul-le-mul (within_kind (is_some domain.hostile) domain.ports domain.version fits.numbers) few

pub domain_fits : (name : List ℕ) (hostile : Option (List Act)) (ports version : ℕ) → is_name name ≡ true → HostileFits hostile → NumbersFit (is_some hostile) ports version
    → DomainFits (record { name = name; hostile = hostile; ports = ports; version = version })
domain_fits name hostile ports version clean acts numbers = record { name = clean; numbers = numbers; acts = acts }

-- the words of a page by the numbers of its orders
pub words_by_numbers : (orders : Orders) → words_with (order_numbers orders) ≡ word_count orders
unfolding size
words_by_numbers orders = refl
