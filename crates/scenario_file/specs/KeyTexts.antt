-- How a path shows a key of a file, which may be any text.
-- Source: this project's own; an escape is that of Rust's and of JavaScript's texts.
use Rattle.std.specs.Prelude.{ℕ, ◌-◌, ◌≤◌, ◌==◌, ◌&&◌, not, nat_le, nat_lt, Bool, false, List, [], ◌∷◌, ◌++◌, length, take, if◌then◌else◌, codes, decimal}
use Rattle.std.specs.List.{flat_map, list_all, AllByRecursion as Each}
use Rattle.std.specs.Fmt.{digits}
use Rattle.std.specs.Str.{chars}

-- a text of one line, of the printable bytes of ASCII alone: the space (32) to the tilde (126)
abbrev pub IsPrintable : List ℕ → Type 0
IsPrintable text = Each (λ byte. (32 ≤ byte) × (byte ≤ 126)) text

-- a key is shown as it is if it has at most 64 bytes, each printable, and none a space
abbrev pub is_plain_byte : ℕ → Bool
is_plain_byte byte = nat_le 33 byte && nat_le byte 126

abbrev pub is_plain : List ℕ → Bool
is_plain key = nat_le (length key) 64 && list_all is_plain_byte key

-- a character that quotes show as it is: a printable one of ASCII but the quote (34) and the backslash (92)
abbrev pub is_quotable : ℕ → Bool
is_quotable c = nat_le 32 c && nat_le c 126 && not (c == 34) && not (c == 92)

-- a character as quotes show it: as it is, or by its code in hexadecimal, as \u{1b}
abbrev pub shown_char : ℕ → List ℕ
shown_char c = if is_quotable c then c ∷ [] else codes "\\u{" ++ digits 16 false c ++ codes "}"

-- a text, and how many characters more there are
abbrev pub with_rest : List ℕ → ℕ → List ℕ
with_rest text left = if nat_lt 0 left then text ++ (codes "+" ++ decimal left) else text

-- the first 64 characters in quotes, and how many more there are
unfoldable pub quoted : List ℕ → List ℕ
quoted cs = with_rest (codes "\"" ++ flat_map shown_char (take 64 cs) ++ codes "\"") (length cs - 64)

-- a key as a path shows it
abbrev pub shown_key : List ℕ → List ℕ
shown_key key = if is_plain key then key else quoted (chars key)
