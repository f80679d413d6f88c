-- Texts before their first NUL, and the fields that hold them.
use Rattle.std.proofs.Common.{◌≡◌, ℕ, ◌+◌, ◌-◌, ◌<◌, ◌≤◌, suc, zero, List, [], ◌∷◌, ◌++◌, length, take, drop, replicate, get_or, refl, sym, ◌∙◌, ap, arith, true, false, ◌⊎◌, inl, inr, append_assoc, length-append}
use Rattle.std.proofs.lemmas.List.{get_or-take, get_or-drop, length-take, length-drop, length-replicate, replicate-append-replicate, get_or_append_left, get_or-append-add, take_at, drop_at, take-append-le}
use Rattle.std.proofs.lemmas.Bool.{eqb-false, ne_eqb, eq-eqb, cases_lt}
use Rattle.std.proofs.lemmas.List.Sums.{fails_before_first, position_or_len_is}
use Rattle.std.specs.List.{position_or_len, before_first}
use Rattle.qrexec_frame.specs.Texts.{HasNoNul, FitsText, is_nul, padded, ended, field_text, line_text}
use Rattle.qrexec_frame.specs.Grammar.{last_byte}

-- no byte before the first NUL is NUL
pub HasNoNul_before_first : (bytes : List ℕ) → HasNoNul (before_first is_nul bytes)
HasNoNul_before_first bytes = record {
  none = λ found.
      let less : found.0 < position_or_len is_nul bytes = omega (arith, found.1, length-take (position_or_len is_nul bytes) bytes) in
      let fails = fails_before_first is_nul bytes found.0 0 less in
      let same = get_or-take (position_or_len is_nul bytes) bytes found.0 0 less in
      eqb-false _ _ fails (sym same ∙ found.2);
}

-- a text is what stands before a NUL that follows it
pub before_first_text : (text more : List ℕ) → HasNoNul text → get_or more 0 0 ≡ 0 → before_first is_nul (text ++ more) ≡ text
before_first_text text more no_nul nul = rw place (take_at text more (length text) refl)
  where
    within : length text ≤ length (text ++ more)
    within = omega (arith, length-append text more)

    fails : (k : ℕ) → k < length text → is_nul (get_or (text ++ more) k 0) ≡ false
    fails k less = let same = get_or_append_left text more 0 k less in rw same (ne_eqb (get_or text k 0) 0 (λ is. no_nul.none (k, less, is)))

    passes : length text < length (text ++ more) → is_nul (get_or (text ++ more) (length text) 0) ≡ true
    passes less =
        let there : get_or (text ++ more) (length text + 0) 0 ≡ get_or more 0 0 = get_or-append-add text more 0 0 in
        let at : length text + 0 ≡ length text = omega arith in
        let is : get_or (text ++ more) (length text) 0 ≡ 0 = ap (λ i. get_or (text ++ more) i 0) (sym at) ∙ there ∙ nul in
        eq-eqb (get_or (text ++ more) (length text) 0) 0 is

    place : position_or_len is_nul (text ++ more) ≡ length text
    place = position_or_len_is is_nul (text ++ more) (length text) 0 within fails passes

-- a fixed field that a text was padded for says that text
pub field_text_padded : (front text rest : List ℕ) (start len : ℕ) → length front ≡ start → HasNoNul text → length text < len → field_text start len (front ++ (padded len text ++ rest)) ≡ text
field_text_padded front text rest start len at no_nul less =
    let here : drop start (front ++ (padded len text ++ rest)) ≡ padded len text ++ rest = drop_at front (padded len text ++ rest) start at in
    let size : length (padded len text) ≡ len = omega (arith, length-append text (replicate (len - length text) 0), length-replicate {A = ℕ} (len - length text) 0) in
    let short : len - 1 ≤ length (padded len text) = omega (arith, size) in
    let cut : take (len - 1) (padded len text ++ rest) ≡ take (len - 1) (padded len text) = take-append-le (len - 1) (padded len text) rest short in
    rw (here, cut) (rw (cut_padded text len less) (before_first_text text (replicate (len - 1 - length text) 0) no_nul (zeros_begin (len - 1 - length text))))
  where
    zeros_begin : (n : ℕ) → get_or {A = ℕ} (replicate n 0) 0 0 ≡ 0
    zeros_begin zero = refl
    zeros_begin (suc n) = refl

    cut_padded : (text : List ℕ) (len : ℕ) → length text < len → take (len - 1) (padded len text) ≡ text ++ replicate (len - 1 - length text) 0
    cut_padded text len less =
        let count : len - length text ≡ (len - 1 - length text) + 1 = omega (arith, less) in
        let nuls : replicate {A = ℕ} (len - length text) 0 ≡ replicate (len - 1 - length text) 0 ++ replicate 1 0 = ap (λ n. replicate {A = ℕ} n 0) count ∙ sym (replicate-append-replicate (len - 1 - length text) 1 0) in
        let parts : padded len text ≡ (text ++ replicate (len - 1 - length text) 0) ++ replicate 1 0 = ap (λ rest. text ++ rest) nuls ∙ sym (append_assoc text (replicate (len - 1 - length text) 0) (replicate 1 0)) in
        let size : length (text ++ replicate (len - 1 - length text) 0) ≡ len - 1 = omega (arith, less, length-append text (replicate (len - 1 - length text) 0), length-replicate {A = ℕ} (len - 1 - length text) 0) in
        ap (take (len - 1)) parts ∙ take_at (text ++ replicate (len - 1 - length text) 0) (replicate 1 0) (len - 1) size

-- a line or a service that was ended says its text
pub line_text_ended : (front text : List ℕ) (start : ℕ) → length front ≡ start → HasNoNul text → line_text start (front ++ ended text) ≡ text
line_text_ended front text start at no_nul = rw (drop_at front (ended text) start at) (before_first_text text (0 ∷ []) no_nul refl)

-- what ends with a NUL has it as its last byte
pub last_byte_ended : (front : List ℕ) → last_byte (front ++ 0 ∷ []) ≡ 0
last_byte_ended front =
    let size : length (front ++ 0 ∷ []) - 1 ≡ length front + 0 = omega (arith, length-append front (0 ∷ [])) in
    ap (λ i. get_or (front ++ 0 ∷ []) i 0) size ∙ get_or-append-add front (0 ∷ []) 0 0

-- the text of a field is shorter than the field
pub FitsText_field : (start len : ℕ) (body : List ℕ) → FitsText (len - 1) (field_text start len body)
FitsText_field start len body = record {
  within = omega (arith, length-take (position_or_len is_nul (take (len - 1) (drop start body))) (take (len - 1) (drop start body)), length-take (len - 1) (drop start body));
  no_nul = HasNoNul_before_first (take (len - 1) (drop start body));
}

-- the text of a line that ends with NUL is shorter than what it stands in
pub FitsText_line : (start most : ℕ) (body : List ℕ) → last_byte body ≡ 0 → start < length body → length body ≤ start + suc most → FitsText most (line_text start body)
FitsText_line start most body nul some fits = by_place (cases_lt (position_or_len is_nul (drop start body)) (length (drop start body)))
  where
    size : length (drop start body) ≡ length body - start
    size = length-drop start body

    by_place : ((position_or_len is_nul (drop start body) < length (drop start body)) ⊎ (length (drop start body) ≤ position_or_len is_nul (drop start body))) → FitsText most (line_text start body)
    by_place (inl less) = record {
      within = omega (arith, size, length-take (position_or_len is_nul (drop start body)) (drop start body));
      no_nul = HasNoNul_before_first (drop start body);
    }
    by_place (inr more) =
        let last : start + (length (drop start body) - 1) ≡ length body - 1 = omega (arith, size) in
        let less : length (drop start body) - 1 < position_or_len is_nul (drop start body) = omega (arith, size) in
        let fails = fails_before_first is_nul (drop start body) (length (drop start body) - 1) 0 less in
        let is : get_or (drop start body) (length (drop start body) - 1) 0 ≡ 0 = get_or-drop start body (length (drop start body) - 1) 0 ∙ ap (λ i. get_or body i 0) last ∙ nul in
        absurd (eqb-false _ _ fails is)
