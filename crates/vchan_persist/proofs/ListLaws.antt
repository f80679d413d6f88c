-- A list of clients, read line by line.
use Rattle.std.proofs.Common.{◌≡◌, ℕ, ◌+◌, ◌-◌, ◌≤◌, length, List, [], ◌∷◌, ◌++◌, Bool, true, false, None, Result, Ok, Err, refl, sym, ap, subst, ◌∙◌, arith}
use Rattle.std.proofs.lemmas.Bool.Decides.{nat_tests}
use Rattle.std.proofs.lemmas.List.{length_push}
use Rattle.std.specs.Prelude.{◌||◌, nat_lt, IsOk, MatchBool, if◌then◌else◌}
use Rattle.list_laws.specs.Results.{◌>>=◌}
use Rattle.list_laws.proofs.Each.{each_push}
use Rattle.script_words.specs.KeptLines.{is_passed_over}
use Rattle.script_words.specs.Words.{words_of}
use Rattle.vchan_persist.specs.declared.client.Client.{Client}
use Rattle.vchan_persist.specs.declared.error.ClientsKind.{ClientsKind}
use Rattle.vchan_persist.specs.declared.error.ClientsKind.TheVariants.{TooMany}
use Rattle.vchan_persist.specs.declared.error.ClientsError.{ClientsError}
use Rattle.vchan_persist.specs.declared.error.ClientsError.TheVariants as list
use Rattle.vchan_persist.specs.Clients.{AreServable, IsServable, BeginsWell, added, at_number, client_of, clients_from, has_too_many, some_client, stdin_len, stdin_total, too_many, with_line}
use Rattle.vchan_persist.specs.Reading.{IsLineRefusal, IsRefusal}

-- ---- one client more

pub total_push : (clients : List Client) (client : Client) → stdin_total (clients ++ client ∷ []) ≡ stdin_total clients + stdin_len client
unfolding stdin_total
total_push [] client = omega arith
total_push (c ∷ cs) client = let more = total_push cs client in omega (arith, more)

-- no client at all
pub no_clients : (clients : List Client) → clients ≡ [] → AreServable clients × (0 ≡ stdin_total clients)
unfolding stdin_total
no_clients clients none = subst (λ (cs : List Client). AreServable cs × (0 ≡ stdin_total cs)) (sym none) ((omega arith, tt), refl)

-- the tests of the limits, as facts
limits : (line count bytes : ℕ) → (nat_lt 65536 line || (nat_lt 4096 count || nat_lt 8388608 bytes)) ≡ false → (line ≤ 65536) × (count ≤ 4096) × (bytes ≤ 8388608)
limits line count bytes none = (grind (arith, nat_tests), grind (arith, nat_tests), grind (arith, nat_tests))

pub line_within : (line : ℕ) (clients : List Client) → too_many line clients ≡ false → line ≤ 65536
line_within line clients none = (limits line (length clients) (stdin_total clients) none).0

-- one client more is within the limits if the test says so
pub list_more : (line : ℕ) (clients now : List Client) (client : Client) (bytes len : ℕ) → AreServable clients → bytes ≡ stdin_total clients → IsServable client → too_many line (clients ++ client ∷ []) ≡ false
    → now ≡ clients ++ client ∷ [] → len ≡ stdin_len client → AreServable now × (bytes + len ≡ stdin_total now) × (bytes + len ≤ 8388608)
list_more line clients now client bytes len are total servable room is long =
    let most = limits line (length (clients ++ client ∷ [])) (stdin_total (clients ++ client ∷ [])) room in
    let sum : bytes + len ≡ stdin_total (clients ++ client ∷ []) = omega (arith, total_push clients client, total, long) in
    subst (λ (cs : List Client). AreServable cs × (bytes + len ≡ stdin_total cs) × (bytes + len ≤ 8388608)) (sym is) ((most.1, each_push IsServable clients client are.1 servable), sum, omega (arith, most.2, sum))

-- whether there is room for one client more
room_by_numbers : (count bytes len : ℕ) → count ≤ 4096 → bytes ≤ 8388608 → nat_lt (8388608 - bytes) len ≡ (nat_lt 4096 count || nat_lt 8388608 (bytes + len))
room_by_numbers count bytes len few small =
    let one : nat_lt 4096 count ≡ false = grind (arith, nat_tests) in
    let other : nat_lt (8388608 - bytes) len ≡ nat_lt 8388608 (bytes + len) = grind (arith, nat_tests) in
    other ∙ ap (λ (b : Bool). b || nat_lt 8388608 (bytes + len)) (sym one)

pub room_left : (clients : List Client) (client : Client) (bytes len count : ℕ) → bytes ≡ stdin_total clients → bytes ≤ 8388608 → length clients ≤ 4096 → count ≡ length clients → (count ≡ 4096 → ⊥) → len ≡ stdin_len client
    → nat_lt (8388608 - bytes) len ≡ has_too_many (clients ++ client ∷ [])
room_left clients client bytes len count total small few counted less long =
    let longer = length_push clients client in
    let count_is : length (clients ++ client ∷ []) ≤ 4096 = omega (arith, longer, counted, less, few) in
    let sum : bytes + len ≡ stdin_total (clients ++ client ∷ []) = omega (arith, total_push clients client, total, long) in
    room_by_numbers (length (clients ++ client ∷ [])) bytes len count_is small ∙ ap (λ (n : ℕ). nat_lt 4096 (length (clients ++ client ∷ [])) || nat_lt 8388608 n) sum

-- ---- all lines

pub read_line : (number : ℕ) (clients now : List Client) (text : List ℕ) (lines more : List (List ℕ)) → lines ≡ text ∷ more → with_line number clients text ≡ Ok now → clients_from number clients lines ≡ clients_from (number + 1) now more
unfolding clients_from
read_line number clients now text lines more cut is =
    ap (clients_from number clients) cut ∙ ap (λ (due : Result (List Client) ClientsKind). at_number number due >>= (λ cs. clients_from (number + 1) cs more)) is

pub read_bad : (number : ℕ) (clients : List Client) (text : List ℕ) (lines more : List (List ℕ)) (e : ClientsError) (all : Result (List Client) (ℕ × ClientsKind)) → lines ≡ text ∷ more → IsLineRefusal number e text (with_line number clients text)
    → all ≡ clients_from number clients lines → IsRefusal e all
unfolding clients_from
read_bad number clients text lines more list.Memory all cut refused is = tt
read_bad number clients text lines more (list.Bad at kind) all cut refused is =
    is ∙ ap (clients_from number clients) cut ∙ ap (λ (due : Result (List Client) ClientsKind). at_number number due >>= (λ cs. clients_from (number + 1) cs more)) refused.1
    ∙ ap (λ (n : ℕ). Err (n, kind)) (sym refused.0)

pub read_all : (number : ℕ) (clients : List Client) (lines : List (List ℕ)) (all : Result (List Client) (ℕ × ClientsKind)) → lines ≡ [] → all ≡ clients_from number clients lines → all ≡ Ok clients
unfolding clients_from
read_all number clients lines all none is = is ∙ ap (clients_from number clients) none

-- ---- the first client

-- likewise if what comes after a good line begins well
pub begins_later : (number : ℕ) (clients now : List Client) (text : List ℕ) (lines more : List (List ℕ)) → lines ≡ text ∷ more → with_line number clients text ≡ Ok now → BeginsWell more → BeginsWell lines
begins_later number clients now text lines more cut is later = subst BeginsWell (sym cut) (by_passed (is_passed_over text) refl)
  where
    line_by : Bool → Result (List Client) ClientsKind
    line_by b = (if b then Ok None else some_client (client_of (words_of text))) >>= (λ e. if too_many number (added clients e) then Err TooMany else Ok (added clients e))

    by_client : (due : Result Client ClientsKind) → (some_client due >>= (λ e. if too_many number (added clients e) then Err TooMany else Ok (added clients e))) ≡ Ok now → IsOk due
    by_client (Ok c) same = refl
    by_client (Err kind) same = cc

    by_passed : (b : Bool) → is_passed_over text ≡ b → MatchBool (is_passed_over text) (BeginsWell more) (IsOk (client_of (words_of text)))
    by_passed true passed = subst (λ (b : Bool). MatchBool b (BeginsWell more) (IsOk (client_of (words_of text)))) (sym passed) later
    by_passed false passed = subst (λ (b : Bool). MatchBool b (BeginsWell more) (IsOk (client_of (words_of text)))) (sym passed) (by_client (client_of (words_of text)) (ap line_by (sym passed) ∙ is))
