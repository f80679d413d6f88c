-- The built-in services: their names, and what each makes of its whole input.
use Rattle.std.specs.Prelude.{◌≡◌, ◌⊎◌, ℕ, ℤ, ◌≤◌, ◌%◌, ◌^◌, pos, Bool, true, false, not, if◌then◌else◌, List, [], ◌∷◌, ◌++◌, take, drop, length, map, codes, decimal, bytes_eq, Option, Some, None, option_map, option_and_then}
use Rattle.std.specs.Option.{option_or}
use Rattle.std.specs.Char.{to_ascii_uppercase}
use Rattle.script_words.specs.Numbers.{number_of}
use Rattle.service_gate.specs.Triple.{Triple, writes}

-- the greatest N of `first+N`, and of `exit+N`
abbrev pub most_first : ℕ
most_first = 1048576

abbrev pub most_exit : ℕ
most_exit = 255

-- what follows the prefix in the text, if the text begins with it
abbrev pub after_prefix : List ℕ → List ℕ → Option (List ℕ)
after_prefix prefix text = if bytes_eq (take (length prefix) text) prefix then Some (drop (length prefix) text) else None

-- the number N, at most `most`, if the name is the prefix and then N in decimal digits without a leading zero
abbrev pub number_after : List ℕ → ℕ → List ℕ → Option ℕ
number_after prefix most name = option_and_then (number_of most) (after_prefix prefix name)

-- every other byte: those at places 0, 2, 4 and so on if `first` is true, else those at places 1, 3, 5 and so on
abbrev pub every_other : Bool → List ℕ → List ℕ
every_other first [] = []
every_other true (x ∷ xs) = x ∷ every_other false xs
every_other false (x ∷ xs) = every_other true xs

-- the bytes in turn on stdout and stderr, the first on stdout if `first` is true
abbrev pub splits : Bool → List ℕ → Triple
splits first input = record { stdout = every_other first input; stderr = every_other (not first) input; code = pos 0 }

-- nothing on either output, and this code
abbrev pub exits : ℕ → Triple
exits code = record { stdout = []; stderr = []; code = pos code }

-- the text of a count: decimal digits and a line feed
abbrev pub count_line : ℕ → List ℕ
count_line n = decimal (n % 2 ^ 64) ++ 10 ∷ []

-- what the services whose names end in a number make of their input: `first+N` and `exit+N`
abbrev pub numbered_service : List ℕ → List ℕ → Option Triple
numbered_service name input =
    option_or (option_map (λ n. writes (take n input)) (number_after (codes "first+") most_first name))
    (option_map exits (number_after (codes "exit+") most_exit name))

-- what the service of this name makes of its whole input: a line for each name, and none for any other
unfoldable pub service : List ℕ → List ℕ → Option Triple
service name input =
    if bytes_eq name (codes "echo") then Some (writes input)
    else if bytes_eq name (codes "upper") then Some (writes (map to_ascii_uppercase input))
    else if bytes_eq name (codes "count") then Some (writes (count_line (length input)))
    else if bytes_eq name (codes "split") then Some (splits true input)
    else numbered_service name input

-- the name is the prefix and then a number of at most `most`
abbrev pub IsNumbered : List ℕ → ℕ → List ℕ → Type 0
IsNumbered prefix most name = (n : ℕ) × (n ≤ most) × (name ≡ prefix ++ decimal n)

-- the text is the name of a service
abbrev pub IsName : List ℕ → Type 0
IsName name =
    (name ≡ codes "echo") ⊎ (name ≡ codes "upper") ⊎ (name ≡ codes "count") ⊎ (name ≡ codes "split")
    ⊎ IsNumbered (codes "first+") most_first name ⊎ IsNumbered (codes "exit+") most_exit name

-- the code is 0 to 255
abbrev pub IsSmallCode : ℤ → Type 0
IsSmallCode code = (n : ℕ) × (n ≤ 255) × (code ≡ pos n)
