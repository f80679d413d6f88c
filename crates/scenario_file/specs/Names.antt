-- The names of domains and of services that a scenario may have.
-- Source: this project's own; the letters are those that qrexec keeps in names.
use Rattle.std.specs.Prelude.{ℕ, ◌==◌, ◌&&◌, ◌||◌, nat_le, Bool, List, length}
use Rattle.std.specs.List.{list_all}
use Rattle.qrexec_frame.specs.Names.{is_name_byte}

-- a byte of a service's name: one of a domain's name, or `+` (43)
abbrev pub is_service_byte : ℕ → Bool
is_service_byte byte = is_name_byte byte || (byte == 43)

-- a domain's name: 1 to 31 bytes that such names may hold
abbrev pub is_name : List ℕ → Bool
is_name text = nat_le 1 (length text) && nat_le (length text) 31 && list_all is_name_byte text

-- a service's name: 1 to 63 bytes that such names may hold
abbrev pub is_service : List ℕ → Bool
is_service text = nat_le 1 (length text) && nat_le (length text) 63 && list_all is_service_byte text
