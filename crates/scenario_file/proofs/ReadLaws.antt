-- Lists of a file, item by item.
use Rattle.std.proofs.Common.{◌≡◌, ◌≢◌, ◌≤◌, ◌<◌, ℕ, ◌+◌, List, [], ◌∷◌, ◌++◌, length, drop, take, get_or, map, append-nil, string_bytes, refl, ap, sym, ◌∙◌, arith, Option, Some, None, Result, Ok, Err, Bool, true, false}
use Rattle.std.specs.Prelude.{bytes_eq, filter, is_some, not, option_map}
use Rattle.std.specs.List.{All}
use Rattle.std.specs.Map.{keys_of as map_keys}
use Rattle.std.proofs.lemmas.List.Elements.{All-nil, All-push, filter-append}
use Rattle.toml.specs.Data.{Data}
use Rattle.toml.specs.View.{view, items_view, members_view}
use Rattle.toml.specs.declared.value.Value.{Value}
use Rattle.toml.proofs.Views.{Entry, items_view-drop}
use Rattle.scenario_file.specs.declared.scenario.Domain.{Domain}
use Rattle.scenario_file.specs.declared.scenario.CallPlan.{CallPlan}
use Rattle.scenario_file.specs.Scenario.{AreApart, place_named, targets_hostile}
use Rattle.std.proofs.lemmas.List.{length_push, map-append, take_more}
use Rattle.scenario_file.specs.declared.place.Section.TheVariants as section
use Rattle.scenario_file.specs.Checks.{Fault, all_from, key_list, path_of}
use Rattle.scenario_file.proofs.NumberLaws.{IsNumbered, IsNumbered_push}
use Rattle.scenario_file.specs.declared.place.CheckError.{CheckError}
use Rattle.scenario_file.specs.declared.place.CheckError.TheVariants as part
use Rattle.std.specs.Str.{IsUtf8, is_utf8}
use Rattle.std.proofs.lemmas.Str.{IsUtf8-from_is_utf8, is_utf8-from_IsUtf8}
use Rattle.std.proofs.Common.{codes}
use Rattle.toml.specs.Data.{Members}
use Rattle.toml.specs.Parse.{parse_document}
use Rattle.scenario_file.specs.declared.error.ScenarioKind.TheVariants.{MissingKey, Toml}
use Rattle.scenario_file.specs.declared.error.ScenarioError.{ScenarioError}
use Rattle.scenario_file.specs.declared.error.ScenarioError.TheVariants as whole
use Rattle.scenario_file.specs.Readings.{IsFault, IsNoDocument, IsRefusal, place_path}
use Rattle.std.proofs.lemmas.Grind.{common_steps}
use Rattle.scenario_file.specs.Tables.{document_of, item_count, some_items, two_of}

-- the keys of a table are those of its map
pub keys_listed : (es : List Entry) → key_list (members_view es) ≡ map string_bytes (map_keys es)
keys_listed [] = refl
keys_listed (e ∷ es) = ap (λ ks. string_bytes e.0 ∷ ks) (keys_listed es)

-- as many items as values
pub item_count_seen : (vs : List Value) → item_count (items_view vs) ≡ length vs
item_count_seen [] = refl
item_count_seen (v ∷ vs) = omega (arith, item_count_seen vs)

-- a domain with a new name stays apart from those before
pub apart_push : (domains : List Domain) (domain : Domain) → AreApart domains → place_named domains domain.name ≡ None → AreApart (domains ++ domain ∷ [])
apart_push [] domain h none = (All-nil (λ other. bytes_eq domain.name other.name ≡ false), tt)
apart_push (x ∷ domains) domain h none = by_name (bytes_eq x.name domain.name) refl (place_named domains domain.name) refl none (λ is. apart_push domains domain h.1 is)
  where
    by_name : (b : Bool) → bytes_eq x.name domain.name ≡ b → (o : Option ℕ) → place_named domains domain.name ≡ o → place_named (x ∷ domains) domain.name ≡ None
        → (place_named domains domain.name ≡ None → AreApart (domains ++ domain ∷ [])) → AreApart (x ∷ domains ++ domain ∷ [])
    by_name true is o o_is e more = let e' = rw is at e in absurd (cc e')
    by_name false is None o_is e more = (All-push (λ other. bytes_eq x.name other.name ≡ false) domains domain h.0 is, more o_is)
    by_name false is (Some k) o_is e more = let e' = rw (is, o_is) at e in absurd (cc e')

-- an item that was read, after those before
pub all_from_next : {A : Type 0} (next : List A → Data → Result A Fault) (before : List A) (vs : List Value) (i : ℕ) (v : Value) (x : A) → i < length vs → v ≡ get_or vs i v
    → next before (view v) ≡ Ok x → all_from next before (items_view (drop i vs)) ≡ all_from next (before ++ x ∷ []) (items_view (drop (i + 1) vs))
unfolding all_from
all_from_next next before vs i v x within same read = rw (items_view-drop vs i v within, ← same, read) refl

-- an item that was refused
pub all_from_bad : {A : Type 0} (next : List A → Data → Result A Fault) (before : List A) (vs : List Value) (i : ℕ) (v : Value) (fault : Fault) → i < length vs → v ≡ get_or vs i v
    → next before (view v) ≡ Err fault → all_from next before (items_view (drop i vs)) ≡ Err fault
unfolding all_from
all_from_bad next before vs i v fault within same read = rw (items_view-drop vs i v within, ← same, read) refl

-- all items were read
pub all_from_all : {A : Type 0} (next : List A → Data → Result A Fault) (before : List A) (vs : List Value) (i : ℕ) → length vs ≤ i → all_from next before (items_view (drop i vs)) ≡ Ok before
unfolding all_from
all_from_all next before vs i all = let none : drop i vs ≡ [] = grind (arith, common_steps) in rw none refl

-- what an item refuses, the list refuses
pub refused_item : {A B : Type 0} (e : CheckError) (due : Result A Fault) (whole : Result B Fault) → ((fault : Fault) → due ≡ Err fault → whole ≡ Err fault) → IsRefusal e due → IsRefusal e whole
refused_item (part.Bad kind place) due whole goes h = goes (kind, place_path place) h
refused_item part.Memory due whole goes h = tt

-- bytes that are a document
pub document_read : (bytes : List ℕ) (ms : Members) → IsUtf8 bytes → parse_document bytes ≡ Some ms → document_of bytes ≡ Ok ms
document_read bytes ms text read = let test = is_utf8-from_IsUtf8 bytes text in rw (test, read) refl

-- bytes that are none
pub document_bad : (bytes : List ℕ) → (IsUtf8 bytes → parse_document bytes ≡ None) → document_of bytes ≡ Err (Toml, codes "file")
document_bad bytes none = by_test (is_utf8 bytes) refl
  where
    by_test : (b : Bool) → is_utf8 bytes ≡ b → document_of bytes ≡ Err (Toml, codes "file")
    by_test true is = let read = none (IsUtf8-from_is_utf8 bytes is) in rw (is, read) refl
    by_test false is = rw is refl

pub told_document : {Y : Type 0} (e : ScenarioError) (due : Result Y Fault) → IsNoDocument e → due ≡ Err (Toml, codes "file") → IsFault e due
told_document (whole.Bad kind path) due h is =
    let kinds = sym h.0 in
    let paths = sym h.1 in
    is ∙ (λ i. Err (kinds i, paths i))
told_document whole.Memory due h is = tt

-- the items of a list of two
pub two_of_some : (vs : List Value) (d e : Value) → length vs ≡ 2 → two_of (items_view vs) ≡ Some (view (get_or vs 0 d), view (get_or vs 1 e))
two_of_some [] d e two = absurd (omega (arith, two))
two_of_some (v ∷ []) d e two = absurd (omega (arith, two))
two_of_some (v ∷ w ∷ []) d e two = refl
two_of_some (v ∷ w ∷ x ∷ vs) d e two = absurd (omega (arith, two))

-- any other list has none
pub two_of_none : (vs : List Value) → length vs ≢ 2 → two_of (items_view vs) ≡ None
two_of_none [] other = refl
two_of_none (v ∷ []) other = refl
two_of_none (v ∷ w ∷ []) other = absurd (other refl)
two_of_none (v ∷ w ∷ x ∷ vs) other = refl

-- a list without an item, and one with some
pub some_items_none : (vs : List Value) → length vs ≡ 0 → some_items (items_view vs) ≡ Err (MissingKey, path_of section.Top (codes "domain"))
some_items_none [] none = refl
some_items_none (v ∷ vs) none = absurd (omega (arith, none))

pub some_items_full : (vs : List Value) → length vs ≢ 0 → some_items (items_view vs) ≡ Ok (items_view vs)
some_items_full [] some = absurd (some refl)
some_items_full (v ∷ vs) some = refl

-- what a loop over the items owes if an item is refused, if one is read, and at its end
pub item_refused : {A : Type 0} (next : List A → Data → Result A Fault) (before seen : List A) (vs : List Value) (i : ℕ) (v : Value) (all : Result (List A) Fault) (e : CheckError) → i < length vs
    → v ≡ get_or vs i v → seen ≡ before → all_from next before (items_view (drop i vs)) ≡ all → IsRefusal e (next seen (view v)) → IsRefusal e all
item_refused next before seen vs i v all e within same is so_far h =
    refused_item e (next seen (view v)) all (λ fault due. sym so_far ∙ all_from_bad next before vs i v fault within same (rw (← is) due)) h

pub item_read : {A : Type 0} (next : List A → Data → Result A Fault) (before seen after : List A) (vs : List Value) (i : ℕ) (v : Value) (x : A) (all : Result (List A) Fault) → i < length vs
    → v ≡ get_or vs i v → seen ≡ before → after ≡ before ++ x ∷ [] → all_from next before (items_view (drop i vs)) ≡ all → next seen (view v) ≡ Ok x
    → all_from next after (items_view (drop (i + 1) vs)) ≡ all
item_read next before seen after vs i v x all within same is pushed so_far read =
    rw pushed (sym (all_from_next next before vs i v x within same (rw (← is) read)) ∙ so_far)

pub all_read : {A : Type 0} (next : List A → Data → Result A Fault) (before : List A) (vs : List Value) (i : ℕ) (all : Result (List A) Fault) → length vs ≤ i
    → all_from next before (items_view (drop i vs)) ≡ all → all ≡ Ok before
all_read next before vs i all over so_far = sym so_far ∙ all_from_all next before vs i over

pub pushed_length : {A : Type 0} (before after : List A) (x : A) (i : ℕ) → after ≡ before ++ x ∷ [] → length before ≡ i → length after ≡ i + 1
pushed_length before after x i pushed is = rw pushed (length_push before x ∙ ap (λ n. n + 1) is)

pub pushed_all : {A : Type 0} (P : A → Type 0) (before after : List A) (x : A) → after ≡ before ++ x ∷ [] → All P before → P x → All P after
pushed_all P before after x pushed all here = rw pushed (All-push P before x all here)

pub pushed_apart : (before seen after : List Domain) (x : Domain) → seen ≡ before → after ≡ before ++ x ∷ [] → AreApart before → place_named seen x.name ≡ None → AreApart after
pushed_apart before seen after x is pushed apart new = rw pushed (apart_push before x apart (rw (← is) new))

pub pushed_numbered : (before seen after : List CallPlan) (x : CallPlan) → seen ≡ before → after ≡ before ++ x ∷ [] → IsNumbered 1 before → x.number ≡ length seen + 1 → IsNumbered 1 after
pushed_numbered before seen after x is pushed numbered new = rw pushed (IsNumbered_push 1 before x numbered (let same = ap length is in omega (arith, new, same)))

-- whether a table has a key, by the value that was looked up
pub key_asked : {A B : Type 0} (see : A → B) (o : Option A) (due : Option B) (b : Bool) → b ≡ is_some o → option_map see o ≡ due → b ≡ is_some due
key_asked see (Some x) due b is seen = is ∙ ap is_some seen
key_asked see None due b is seen = is ∙ ap is_some seen

-- the items up to a place that a test lets pass: with the one at it, or without
pub kept_more : {X : Type 0} (p : X → Bool) (xs : List X) (i : ℕ) (x : X) → i < length xs → x ≡ get_or xs i x → p x ≡ true → filter p (take (i + 1) xs) ≡ filter p (take i xs) ++ x ∷ []
kept_more p xs i x within same passes = rw (take_more xs i x within, filter-append p (take i xs) (get_or xs i x ∷ []), ← same, passes) refl

pub passed_over : {X : Type 0} (p : X → Bool) (xs : List X) (i : ℕ) (x : X) → i < length xs → x ≡ get_or xs i x → p x ≡ false → filter p (take (i + 1) xs) ≡ filter p (take i xs)
passed_over p xs i x within same stays = rw (take_more xs i x within, filter-append p (take i xs) (get_or xs i x ∷ []), ← same, stays) (append-nil (filter p (take i xs)))

-- what is made of each call whose target isn't hostile
abbrev pub made_of_plain : {Y : Type 0} → (CallPlan → Y) → List Domain → List CallPlan → List Y
made_of_plain f domains calls = map f (filter (λ call. not (targets_hostile domains call)) calls)

-- over the calls up to a place: with the call at it, or without
pub plain_more : {Y : Type 0} (f : CallPlan → Y) (domains : List Domain) (calls : List CallPlan) (i : ℕ) (call : CallPlan) (b : Bool) (before after : List Y) (y : Y) → i < length calls
    → call ≡ get_or calls i call → b ≡ targets_hostile domains call → b ≡ false → before ≡ made_of_plain f domains (take i calls) → y ≡ f call → after ≡ before ++ y ∷ []
    → after ≡ made_of_plain f domains (take (i + 1) calls)
plain_more f domains calls i call b before after y within same is plain so_far made pushed =
    let stays = λ (c : CallPlan). not (targets_hostile domains c) in
    rw (pushed, so_far, made, kept_more stays calls i call within same (ap not (sym is ∙ plain)), map-append f (filter stays (take i calls)) (call ∷ [])) refl

pub mixed_over : {Y : Type 0} (f : CallPlan → Y) (domains : List Domain) (calls : List CallPlan) (i : ℕ) (call : CallPlan) (b : Bool) (before : List Y) → i < length calls
    → call ≡ get_or calls i call → b ≡ targets_hostile domains call → b ≡ true → before ≡ made_of_plain f domains (take i calls) → before ≡ made_of_plain f domains (take (i + 1) calls)
mixed_over f domains calls i call b before within same is mixed so_far =
    so_far ∙ ap (map f) (sym (passed_over (λ (c : CallPlan). not (targets_hostile domains c)) calls i call within same (ap not (sym is ∙ mixed))))
