-- The cleaning of names: the bytes that names, services and targets hold.
use Rattle.std.specs.Prelude.{ℕ, ◌==◌, ◌&&◌, ◌||◌, nat_le, Bool, if◌then◌else◌, List, map}
use Rattle.qrexec_frame.specs.declared.clean.Letters.{Letters}
use Rattle.qrexec_frame.specs.declared.clean.Letters.TheVariants.{Name, Service, Target}

-- a letter or a digit of ASCII, `_`, `-` or `.`
abbrev pub is_name_byte : ℕ → Bool
is_name_byte b = (nat_le 48 b && nat_le b 57) || (nat_le 65 b && nat_le b 90) || (nat_le 97 b && nat_le b 122) || (b == 95) || (b == 45) || (b == 46)

-- the bytes of a name; of a service, `+` too; of a target, `@` and `:` too
abbrev pub is_allowed : Letters → ℕ → Bool
is_allowed Name b = is_name_byte b
is_allowed Service b = is_name_byte b || (b == 43)
is_allowed Target b = is_name_byte b || (b == 64) || (b == 58)

-- a text with `_` in place of each byte that isn't allowed
abbrev pub cleaned : Letters → List ℕ → List ℕ
cleaned letters text = map (λ b. if is_allowed letters b then b else 95) text

-- the three cleanings, by names that other crates can cite
abbrev pub cleaned_name : List ℕ → List ℕ
cleaned_name text = cleaned Name text

abbrev pub cleaned_service : List ℕ → List ℕ
cleaned_service text = cleaned Service text

abbrev pub cleaned_target : List ℕ → List ℕ
cleaned_target text = cleaned Target text
