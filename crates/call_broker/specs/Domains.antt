-- The domains of a broker, their pages, and the ports of each ordered pair. Numbers and ports are this project's own.
use Rattle.std.specs.Prelude.{ℕ, suc, ◌+◌, ◌-◌, ◌*◌, ◌%◌, nat_lt, nat_le, ◌==◌, ◌&&◌, Bool, List, [], ◌∷◌, length, slice_index_or, bytes_eq, is_some, Option, Some, None, option_map, if◌then◌else◌}
use Rattle.qrexec_frame.specs.Names.{cleaned_target, cleaned_service}
use Rattle.service_gate.specs.ServiceResult.{service}

-- the names of the domains 1, 2 and so on, and how many pages were laid for each ordered pair, those from 1 first
pub record Domains : Type 0 where
  pub names : List (List ℕ)
  pub pages : List ℕ

-- how many domains there are
abbrev pub count_of : Domains → ℕ
count_of hub = length hub.names

-- whether this is the number of a domain
abbrev pub is_domain : Domains → ℕ → Bool
is_domain hub d = nat_le 1 d && nat_le d (count_of hub)

-- the name of a domain
abbrev pub name_of : Domains → ℕ → List ℕ
name_of hub d = slice_index_or hub.names (d - 1) []

-- the first place of a name in a list, from 0 on
abbrev pub place_of : List (List ℕ) → List ℕ → Option ℕ
place_of [] name = None
place_of (n ∷ names) name = if bytes_eq n name then Some 0 else option_map suc (place_of names name)

-- the number of the first domain of this name
abbrev pub domain_at : List (List ℕ) → List ℕ → Option ℕ
domain_at names name = option_map suc (place_of names name)

-- the domain that a target names once it is cleaned
abbrev pub target_of : Domains → List ℕ → Option ℕ
target_of hub target = domain_at hub.names (cleaned_target target)

-- whether a name is that of a built-in service once it is cleaned
abbrev pub is_service : List ℕ → Bool
is_service name = is_some (service (cleaned_service name) [])

-- how many pages were laid for calls from one domain to another
abbrev pub pages_of : Domains → ℕ → ℕ → ℕ
pages_of hub from to = slice_index_or hub.pages ((from - 1) * count_of hub + (to - 1)) 0

-- the first port of an ordered pair
abbrev pub first_port : ℕ → ℕ → ℕ
first_port from to = if nat_lt from to then 513 else 514

-- its port after this many calls
abbrev pub port_after : ℕ → ℕ → ℕ → ℕ
port_after from to calls = first_port from to + 2 * calls

-- whether a port is odd, as those from a lower number to a higher one are
abbrev pub is_odd : ℕ → Bool
is_odd port = port % 2 == 1
