-- A scenario: its rings, its domains with the acts of those that are hostile, and its calls.
-- Source: this project's own; a page's words are those of ring_words.
use Rattle.std.specs.Prelude.{◌≡◌, ℕ, zero, suc, ◌-◌, ◌+◌, ◌*◌, ◌^◌, ◌<◌, ◌≤◌, ◌⊎◌, ◌==◌, not, Bool, true, false, List, [], ◌∷◌, length, is_some, slice_get, sum_by, count_by, Option, Some, None, option_map, bytes_eq, if◌then◌else◌}
use Rattle.std.specs.Option.{option_map_or}
use Rattle.std.specs.List.{All}
use Rattle.ring_words.specs.declared.order.Orders.{Orders}
use Rattle.ring_words.specs.Page.{word_count}
use Rattle.ring_words.specs.Rings.{number_of}
use Rattle.scenario_file.specs.Names.{is_name, is_service}
use Rattle.scenario_file.specs.Acts.{AreActs}
use Rattle.scenario_file.specs.declared.acts.Act.{Act}
use Rattle.scenario_file.specs.declared.scenario.Domain.{Domain}
use Rattle.scenario_file.specs.declared.scenario.CallPlan.{CallPlan}

-- a scenario as contracts see it
pub record Plan : Type 0 where
  pub control : Orders
  pub payload : Orders
  pub start : ℕ
  pub domains : List Domain
  pub calls : List CallPlan

-- a scenario as it is written: the orders of rings by their numbers, the left ring's first
pub record Written : Type 0 where
  pub control_orders : ℕ × ℕ
  pub payload_orders : ℕ × ℕ
  pub first_index : ℕ
  pub domain_list : List Domain
  pub call_list : List CallPlan

-- the numbers of the orders of a page's rings
abbrev pub order_numbers : Orders → ℕ × ℕ
order_numbers orders = (number_of orders.left, number_of orders.right)

-- how a scenario is written
abbrev pub written : Plan → Written
written s = record {
  control_orders = order_numbers s.control;
  payload_orders = order_numbers s.payload;
  first_index = s.start;
  domain_list = s.domains;
  call_list = s.calls;
}

-- ---- its domains

-- the domain of a number: domains are numbered from 1
abbrev pub domain_at : List Domain → ℕ → Option Domain
domain_at domains zero = None
domain_at domains (suc k) = slice_get domains k

abbrev pub domain_of : Plan → ℕ → Option Domain
domain_of s number = domain_at s.domains number

-- a domain is hostile if it has a list of acts
abbrev pub is_hostile : Domain → Bool
is_hostile domain = is_some domain.hostile

abbrev pub hostile_among : List Domain → ℕ → Bool
hostile_among domains number = option_map_or is_hostile (domain_at domains number) false

abbrev pub hostile_at : Plan → ℕ → Bool
hostile_at s number = hostile_among s.domains number

-- the name of a domain
abbrev pub name_among : List Domain → ℕ → List ℕ
name_among domains number = option_map_or (λ domain. domain.name) (domain_at domains number) []

abbrev pub name_at : Plan → ℕ → List ℕ
name_at s number = name_among s.domains number

-- the version that a domain announces
abbrev pub version_at : Plan → ℕ → ℕ
version_at s number = option_map_or (λ domain. domain.version) (domain_of s number) 3

-- the place of the first domain of a name, from 0 on
abbrev pub place_named : List Domain → List ℕ → Option ℕ
place_named [] name = None
place_named (domain ∷ domains) name = if bytes_eq domain.name name then Some 0 else option_map suc (place_named domains name)

-- the number of the first domain of a name
abbrev pub number_named : List Domain → List ℕ → Option ℕ
number_named domains name = option_map suc (place_named domains name)

abbrev pub domain_named : Plan → List ℕ → Option ℕ
domain_named s name = number_named s.domains name

-- the call's target is a hostile domain
abbrev pub targets_hostile : List Domain → CallPlan → Bool
targets_hostile domains call = option_map_or (hostile_among domains) (number_named domains call.to) false

abbrev pub is_mixed : Plan → CallPlan → Bool
is_mixed s call = targets_hostile s.domains call

-- ---- what is laid for it

-- the data pages for the calls of a hostile domain: its number of ports to each of the other domains
abbrev pub hostile_pages : ℕ → Domain → ℕ
hostile_pages count domain = if is_hostile domain then domain.ports * (count - 1) else 0

-- a page is laid for a call to another domain of the scenario
abbrev pub lays_page : List Domain → CallPlan → Bool
lays_page domains call = option_map_or (λ place. not (suc place == call.from)) (place_named domains call.to) false

-- all data pages
abbrev pub data_pages : List Domain → List CallPlan → ℕ
data_pages domains calls = sum_by (hostile_pages (length domains)) domains + count_by (lays_page domains) calls

-- the words of all pages, if each control page and each data page has this many
abbrev pub words_laid : ℕ → ℕ → List Domain → List CallPlan → ℕ
words_laid control payload domains calls = length domains * control + data_pages domains calls * payload

-- the words of all pages: a control page for each domain, and the data pages
abbrev pub word_total : Plan → ℕ
word_total s = words_laid (word_count s.control) (word_count s.payload) s.domains s.calls

-- the bytes of all inputs
abbrev pub stdin_total : List CallPlan → ℕ
stdin_total calls = sum_by (λ call. length call.stdin) calls

-- ---- what holds of every scenario

-- an honest domain has the default number of ports and its own version; a hostile one its own number of ports
abbrev pub NumbersFit : Bool → ℕ → ℕ → Type 0
NumbersFit false ports version = (ports ≡ 4) × ((version ≡ 2) ⊎ (version ≡ 3))
NumbersFit true ports version = (ports ≤ 32) × (version ≡ 3)

-- the acts of a hostile domain fit
abbrev pub HostileFits : Option (List Act) → Type 0
HostileFits None = Unit {0}
HostileFits (Some acts) = AreActs acts

pub record DomainFits (domain : Domain) : Type 0 where
  pub name : is_name domain.name ≡ true
  pub numbers : NumbersFit (is_hostile domain) domain.ports domain.version
  pub acts : HostileFits domain.hostile

-- the names of the domains differ
abbrev pub AreApart : List Domain → Type 0
AreApart [] = Unit {0}
AreApart (domain ∷ domains) = All (λ other. bytes_eq domain.name other.name ≡ false) domains × AreApart domains

-- the number is that of an honest domain
abbrev pub IsHonest : List Domain → ℕ → Type 0
IsHonest domains number = option_map_or is_hostile (domain_at domains number) true ≡ false

-- a call of an honest domain, with a number of 32 bits, clean names and an input within the limit
pub record CallFits (domains : List Domain) (call : CallPlan) : Type 0 where
  pub number : call.number < 2 ^ 32
  pub caller : IsHonest domains call.from
  pub target : is_name call.to ≡ true
  pub service : is_service call.service ≡ true
  pub stdin : length call.stdin ≤ 1048576

-- the numbers of the calls rise, and all are above this one
abbrev pub Rises : ℕ → List CallPlan → Type 0
Rises below [] = Unit {0}
Rises below (call ∷ calls) = (below < call.number) × Rises call.number calls

-- what every user of a scenario may rely on; its list of domains may be empty
pub record IsScenario (s : Plan) : Type 0 where
  pub few_domains : length s.domains ≤ 32
  pub few_calls : length s.calls ≤ 4096
  pub domains_fit : All DomainFits s.domains
  pub apart : AreApart s.domains
  pub calls_fit : All (CallFits s.domains) s.calls
  pub rising : Rises 0 s.calls
  pub stdin : stdin_total s.calls ≤ 8388608
  pub words : word_total s ≤ 16777216
