-- A path is one line of printable ASCII, whatever keys a file has.
use Rattle.std.proofs.Common.{◌≡◌, ◌==◌, ℕ, zero, suc, ◌+◌, ◌-◌, ◌/◌, ◌%◌, ◌<◌, ◌≤◌, Bool, true, false, List, [], ◌∷◌, ◌++◌, length, take, refl, sym, subst, arith, decimal, codes, Option, Some, None}
use Rattle.std.specs.Prelude.{◌&&◌, not, nat_le, nat_lt, if◌then◌else◌}
use Rattle.std.specs.List.{list_all, flat_map}
use Rattle.std.specs.Fmt.{digits, digits_onto, digit_glyph}
use Rattle.std.specs.Str.{chars}
use Rattle.std.proofs.lemmas.Bool.{and_parts}
use Rattle.std.proofs.lemmas.Bool.Decides.{nat_tests}
use Rattle.list_laws.proofs.Each.{each_append}
use Rattle.scenario_file.specs.declared.error.ScenarioKind.{ScenarioKind}
use Rattle.scenario_file.specs.declared.error.ScenarioKind.TheVariants as kind
use Rattle.scenario_file.specs.declared.place.Section.{Section}
use Rattle.scenario_file.specs.declared.place.Section.TheVariants.{Top, Rings, Domain, Call}
use Rattle.scenario_file.specs.declared.place.KeyPlace.{KeyPlace}
use Rattle.scenario_file.specs.KeyTexts.{IsPrintable, is_plain, is_plain_byte, is_quotable, shown_char, quoted, shown_key}
use Rattle.scenario_file.specs.Checks.{section_path, path_of}
use Rattle.scenario_file.specs.Readings.{path_at, place_path}
use Rattle.scenario_file.specs.KindWords.{kind_word, fault_line}

-- ---- lists

pub joined : (xs ys : List ℕ) → IsPrintable xs → IsPrintable ys → IsPrintable (xs ++ ys)
joined xs ys left right = each_append (λ (byte : ℕ). (32 ≤ byte) × (byte ≤ 126)) xs ys left right

-- text that is written out passes this test
abbrev pub passes : ℕ → Bool
passes byte = nat_le 32 byte && nat_le byte 126

within : (byte : ℕ) → passes byte ≡ true → (32 ≤ byte) × (byte ≤ 126)
within byte h =
    let parts = and_parts (nat_le 32 byte) (nat_le byte 126) h in
    (grind (arith, nat_tests, parts.0), grind (arith, nat_tests, parts.1))

pub tested : (text : List ℕ) → list_all passes text ≡ true → IsPrintable text
tested [] h = tt
tested (byte ∷ text) h = let parts = and_parts (passes byte) (list_all passes text) h in (within byte parts.0, tested text parts.1)

-- ---- digits

glyph : (d : ℕ) → d < 16 → (32 ≤ digit_glyph false d) × (digit_glyph false d ≤ 126)
glyph d few = by_test (nat_lt d 10) refl
  where
    by_test : (b : Bool) → nat_lt d 10 ≡ b → (32 ≤ (if b then 48 + d else 87 + d)) × ((if b then 48 + d else 87 + d) ≤ 126)
    by_test true is = (omega arith, omega (arith, few))
    by_test false is = (omega arith, omega (arith, few))

onto : (base : ℕ) → ((n : ℕ) → n % base < 16) → (k n : ℕ) (after : List ℕ) → IsPrintable after → IsPrintable (digits_onto k base false n after)
onto base small zero n after h = h
onto base small (suc k) n after h = by_test (n / base == 0) (onto base small k (n / base) (digit_glyph false (n % base) ∷ after) more)
  where
    more : IsPrintable (digit_glyph false (n % base) ∷ after)
    more = (glyph (n % base) (small n), h)

    by_test : (b : Bool) → IsPrintable (digits_onto k base false (n / base) (digit_glyph false (n % base) ∷ after))
        → IsPrintable (if b then digit_glyph false (n % base) ∷ after else digits_onto k base false (n / base) (digit_glyph false (n % base) ∷ after))
    by_test true longer = more
    by_test false longer = longer

pub printable_decimal : (n : ℕ) → IsPrintable (decimal n)
unfolding digits
printable_decimal n = onto 10 (λ (k : ℕ). omega arith) 64 n [] tt

printable_hex : (n : ℕ) → IsPrintable (digits 16 false n)
unfolding digits
printable_hex n = onto 16 (λ (k : ℕ). omega arith) 64 n [] tt

-- ---- keys

printable_char : (c : ℕ) → IsPrintable (shown_char c)
printable_char c = by_test (is_quotable c) refl
  where
    by_test : (b : Bool) → is_quotable c ≡ b → IsPrintable (if b then c ∷ [] else codes "\\u{" ++ digits 16 false c ++ codes "}")
    by_test true is =
        let front = and_parts (nat_le 32 c && nat_le c 126 && not (c == 34)) (not (c == 92)) is in
        let both = and_parts (nat_le 32 c && nat_le c 126) (not (c == 34)) front.0 in
        (within c both.0, tt)
    by_test false is = joined (codes "\\u{" ++ digits 16 false c) (codes "}") (joined (codes "\\u{") (digits 16 false c) (tested (codes "\\u{") refl) (printable_hex c)) (tested (codes "}") refl)

printable_chars : (cs : List ℕ) → IsPrintable (flat_map shown_char cs)
printable_chars [] = tt
printable_chars (c ∷ cs) = joined (shown_char c) (flat_map shown_char cs) (printable_char c) (printable_chars cs)

printable_quoted : (cs : List ℕ) → IsPrintable (quoted cs)
unfolding quoted
printable_quoted cs = by_test (nat_lt 0 (length cs - 64))
  where
    shown : List ℕ
    shown = flat_map shown_char (take 64 cs)

    text : IsPrintable (codes "\"" ++ flat_map shown_char (take 64 cs) ++ codes "\"")
    text = joined (codes "\"" ++ flat_map shown_char (take 64 cs)) (codes "\"") (joined (codes "\"") (flat_map shown_char (take 64 cs)) (tested (codes "\"") refl) (printable_chars (take 64 cs))) (tested (codes "\"") refl)

    by_test : (b : Bool) → IsPrintable (if b then (codes "\"" ++ flat_map shown_char (take 64 cs) ++ codes "\"") ++ (codes "+" ++ decimal (length cs - 64)) else codes "\"" ++ flat_map shown_char (take 64 cs) ++ codes "\"")
    by_test true = joined (codes "\"" ++ flat_map shown_char (take 64 cs) ++ codes "\"") (codes "+" ++ decimal (length cs - 64)) text (joined (codes "+") (decimal (length cs - 64)) (tested (codes "+") refl) (printable_decimal (length cs - 64)))
    by_test false = text

plain : (key : List ℕ) → list_all is_plain_byte key ≡ true → IsPrintable key
plain [] h = tt
plain (byte ∷ key) h = let parts = and_parts (is_plain_byte byte) (list_all is_plain_byte key) h in (by_byte parts.0, plain key parts.1)
  where
    by_byte : is_plain_byte byte ≡ true → (32 ≤ byte) × (byte ≤ 126)
    by_byte is =
        let halves = and_parts (nat_le 33 byte) (nat_le byte 126) is in
        let low : 33 ≤ byte = grind (arith, nat_tests, halves.0) in
        (omega (arith, low), grind (arith, nat_tests, halves.1))

printable_key : (key : List ℕ) → IsPrintable (shown_key key)
printable_key key = by_test (is_plain key) refl
  where
    by_test : (b : Bool) → is_plain key ≡ b → IsPrintable (if b then key else quoted (chars key))
    by_test true is = plain key (and_parts (nat_le (length key) 64) (list_all is_plain_byte key) is).1
    by_test false is = printable_quoted (chars key)

-- ---- paths

printable_section : (section : Section) → IsPrintable (section_path section)
printable_section Top = tt
printable_section Rings = tested (codes "rings.") refl
printable_section (Domain number) = joined (codes "domain[" ++ decimal number) (codes "].") (joined (codes "domain[") (decimal number) (tested (codes "domain[") refl) (printable_decimal number)) (tested (codes "].") refl)
printable_section (Call number) = joined (codes "call[" ++ decimal number) (codes "].") (joined (codes "call[") (decimal number) (tested (codes "call[") refl) (printable_decimal number)) (tested (codes "].") refl)

printable_path : (section : Section) (key : List ℕ) → IsPrintable (path_of section key)
printable_path section key = joined (section_path section) (shown_key key) (printable_section section) (printable_key key)

printable_at : (section : Section) (key : List ℕ) (item : Option ℕ) → IsPrintable (path_at section key item)
printable_at section key None = printable_path section key
printable_at section key (Some number) =
    joined (path_of section key ++ codes "[" ++ decimal number) (codes "]")
    (joined (path_of section key ++ codes "[") (decimal number) (joined (path_of section key) (codes "[") (printable_path section key) (tested (codes "[") refl)) (printable_decimal number))
    (tested (codes "]") refl)

pub printable_place : (text : List ℕ) (place : KeyPlace) → text ≡ place_path place → IsPrintable text
printable_place text place is = subst IsPrintable (sym is) (printable_at place.section place.key.now place.item)

pub printable_file : (text : List ℕ) → text ≡ codes "file" → IsPrintable text
printable_file text is = subst IsPrintable (sym is) (tested (codes "file") refl)

-- ---- lines

printable_kind : (k : ScenarioKind) → IsPrintable (kind_word k)
printable_kind kind.Toml = tested (codes "toml") refl
printable_kind kind.UnknownKey = tested (codes "unknown-key") refl
printable_kind kind.MissingKey = tested (codes "missing-key") refl
printable_kind kind.WrongType = tested (codes "wrong-type") refl
printable_kind kind.BadOrders = tested (codes "bad-orders") refl
printable_kind kind.BadNumber = tested (codes "bad-number") refl
printable_kind kind.BadText = tested (codes "bad-text") refl
printable_kind kind.BadAct = tested (codes "bad-act") refl
printable_kind kind.SameName = tested (codes "same-name") refl
printable_kind kind.BadCaller = tested (codes "bad-caller") refl
printable_kind kind.TwoStdin = tested (codes "two-stdin") refl
printable_kind kind.TooMany = tested (codes "too-many") refl

pub printable_fault : (k : ScenarioKind) (path : List ℕ) → IsPrintable path → IsPrintable (fault_line k path)
printable_fault k path h = joined (path ++ codes ": ") (kind_word k) (joined path (codes ": ") h (tested (codes ": ") refl)) (printable_kind k)
