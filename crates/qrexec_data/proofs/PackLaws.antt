-- A side that serves keeps what it stands for when a message is packed and when bytes have gone.
use Rattle.std.proofs.Common.{◌≡◌, ℕ, ◌<◌, ◌≤◌, suc, zero, List, [], ◌∷◌, ◌++◌, length, take, drop, map, refl, ap, sym, ◌∙◌, subst, arith, append_assoc, ◌⊎◌, inl, inr, Option, Some, None}
use Rattle.std.proofs.lemmas.List.{append-nil, take-append-drop, length-take-le}
use Rattle.std.proofs.lemmas.Bool.Decides.{nat_tests}
use Rattle.std.proofs.lemmas.Bool.{eqb-true}
use Rattle.std.specs.Prelude.{true, false, Bool, ℤ, ◌&&◌, ◌==◌, nat_lt, min, IsSome, is_some, is_none, if◌then◌else◌, ◌↔◌}
use Rattle.std.specs.List.{flat_map}
use Rattle.list_laws.proofs.Tests.{no_length, has_length, not_empty_lem}
use Rattle.list_laws.proofs.Results.{none_is}
use Rattle.qrexec_frame.specs.declared.message.Message.{Message}
use Rattle.qrexec_frame.specs.declared.message.Message.TheVariants.{Hello, Stdout, Stderr, ExitCode}
use Rattle.qrexec_frame.specs.Messages.{written}
use Rattle.qrexec_frame.specs.Streams.{Placed}
use Rattle.service_gate.specs.Triple.{Triple}
use Rattle.qrexec_data.specs.declared.outcome.Outcome.{Outcome}
use Rattle.qrexec_data.specs.declared.outcome.Outcome.TheVariants as outcome
use Rattle.qrexec_data.specs.Pieces.{In, Out, Err as Errors, Piece, message_of, joined, is_output}
use Rattle.qrexec_data.specs.Seeing.{Seen}
use Rattle.qrexec_data.specs.Sending.{agreed_by, most}
use Rattle.qrexec_data.specs.Answering.{AnsweringState, next_len, packed_end, packed_next, packed_on, end_bytes, done_if, is_over, over_if, after_gone}
use Rattle.qrexec_data.specs.ServingSide.{ServingState, Gives, ends_if, SendsOutputs, SendsAnswers, AgreesWith, Serves, IsServing, ServingStandsFor, LendsAnswers, HasGivenAll, IsStill}
use Rattle.qrexec_data.proofs.RepliesLaws.{if_true, if_false}
use Rattle.qrexec_data.proofs.HearingLaws.{joined_piece, joined_other}
use Rattle.qrexec_data.proofs.SpelledLaws.{spelled, spelled_behind, each_one, gone_on}
use Rattle.qrexec_data.proofs.AnsweringLaws.{none_if}
use Rattle.qrexec_data.proofs.ServesLaws.{sends_faulted}
use Rattle.qrexec_data.proofs.MaySendLaws.{some_limit, flat_more}

-- ---- what stays

pub record Same {S : Type 0} (a b : AnsweringState S) : Type 0 where
  pub own : b.own ≡ a.own
  pub chunk : b.chunk ≡ a.chunk
  pub version : b.version ≡ a.version
  pub code : b.code ≡ a.code
  pub outcome : b.outcome ≡ a.outcome

same_if : {S : Type 0} (a : AnsweringState S) (b : Bool) (x y : AnsweringState S) → Same a x → Same a y → Same a (if b then x else y)
same_if a true x y h k = h
same_if a false x y h k = k

same_end : {S : Type 0} (a : AnsweringState S) (code : Option ℤ) → Same a (packed_end code a)
same_end a None = record { own = refl; chunk = refl; version = refl; code = refl; outcome = refl }
same_end a (Some code) = same_if a a.closed _ _ (record { own = refl; chunk = refl; version = refl; code = refl; outcome = refl }) (record { own = refl; chunk = refl; version = refl; code = refl; outcome = refl })

pub same_packed : {S : Type 0} (version : Option ℕ) (a : AnsweringState S) → Same a (packed_on version a)
same_packed None a = record { own = refl; chunk = refl; version = refl; code = refl; outcome = refl }
same_packed (Some version) a =
    same_if a (length a.waiting == 0) _ _
    (same_if a (nat_lt 0 (length a.out)) _ _ (record { own = refl; chunk = refl; version = refl; code = refl; outcome = refl })
    (same_if a (nat_lt 0 (length a.err)) _ _ (record { own = refl; chunk = refl; version = refl; code = refl; outcome = refl }) (same_end a a.code)))
    (record { own = refl; chunk = refl; version = refl; code = refl; outcome = refl })

-- what is known stays, if what is sent stays
serves_same : {S : Type 0} (owes : S → List ℕ → Triple) (owed : List ℕ → Triple) (a b : AnsweringState S) (sent sent' : List ℕ) → Same a b
    → ((input : List ℕ) → SendsAnswers owes owed a.version a input sent → SendsAnswers owes owed b.version b input sent') → (placed : List (Placed Message)) (seen : Seen)
    → Serves owes owed a sent placed seen → Serves owes owed b sent' placed seen
serves_same owes owed a b sent sent' same sends placed seen s =
    let O : Option Outcome → Type 0 = λ o. AgreesWith o seen in
    record {
      outcome = subst O (sym same.outcome) s.outcome;
      ended = ap is_some same.code ∙ s.ended;
      version = same.version ∙ s.version ∙ ap (λ n. agreed_by n placed) (sym same.own);
      sends = sends (joined In seen.pieces) s.sends;
    }

-- ---- a message is packed

regives : {S : Type 0} (owes : S → List ℕ → Triple) (owed : List ℕ → Triple) (code : Option ℤ) (a b : AnsweringState S) (input : List ℕ) (ps qs : List Piece) → b.service ≡ a.service
    → joined Out ps ++ a.out ≡ joined Out qs ++ b.out → joined Errors ps ++ a.err ≡ joined Errors qs ++ b.err → Gives owes owed code a input ps → Gives owes owed code b input qs
regives owes owed None a b input ps qs service out err g = λ more.
    g more ∙ (λ i. record { stdout = out i ++ (owes (sym service i) more).stdout; stderr = err i ++ (owes (sym service i) more).stderr; code = (owes (sym service i) more).code })
regives owes owed (Some code) a b input ps qs service out err g = g ∙ (λ i. record { stdout = out i; stderr = err i; code = code })

moved : (j out : List ℕ) (n : ℕ) (k : List ℕ) → k ≡ j ++ take n out → j ++ out ≡ k ++ drop n out
moved j out n k is = sym (ap (λ x. x ++ drop n out) is ∙ append_assoc j (take n out) (drop n out) ∙ ap (λ x. j ++ x) (take-append-drop n out))

no_bytes : (xs : List ℕ) → nat_lt 0 (length xs) ≡ false → xs ≡ []
no_bytes [] is = refl
no_bytes (x ∷ xs) is = let none : suc (length xs) ≤ 0 = grind (arith, nat_tests, is) in absurd (omega (arith, none))

some_bytes : (xs : List ℕ) → nat_lt 0 (length xs) ≡ true → 0 < length xs
some_bytes xs is = grind (arith, nat_tests, is)

some_not : (xs : List ℕ) → 0 < length xs → xs ≡ [] → ⊥
some_not xs some is = let none : length xs ≡ 0 = ap length is in omega (arith, some, none)

-- a piece of an output is packed
sends_one : {S : Type 0} (owes : S → List ℕ → Triple) (owed : List ℕ → Triple) (limit : ℕ) (a b : AnsweringState S) (input sent : List ℕ) (p : Piece) (s : SendsOutputs owes owed limit a input sent)
    → is_output p.stream ≡ true → 0 < length p.bytes → length p.bytes ≤ limit → a.closed ≡ false → b.own ≡ a.own → b.closed ≡ a.closed → b.code ≡ a.code → b.service ≡ a.service
    → b.waiting ≡ a.waiting ++ written (message_of p)
    → joined Out s.pieces ++ a.out ≡ joined Out (s.pieces ++ p ∷ []) ++ b.out → joined Errors s.pieces ++ a.err ≡ joined Errors (s.pieces ++ p ∷ []) ++ b.err
    → SendsOutputs owes owed limit b input sent
sends_one owes owed limit a b input sent p s output some least shut own closed code service waits out err =
    let none : (c : Bool) (x : Option ℤ) → c ≡ false → ends_if c x ≡ [] = λ c x is. ap (λ y. ends_if y x) is in
    let before : sent ++ a.waiting ≡ written (Hello a.own) ++ spelled s.pieces
    = s.stream ∙ ap (λ e. written (Hello a.own) ++ flat_map written (map message_of s.pieces ++ e)) (none a.closed a.code shut) ∙ ap (λ ms. written (Hello a.own) ++ flat_map written ms) (append-nil (map message_of s.pieces)) in
    let G : Option ℤ → Type 0 = λ c. Gives owes owed c b input (s.pieces ++ p ∷ []) in
    record {
      pieces = s.pieces ++ p ∷ [];
      each = each_one is_output limit s.pieces p s.each ((output, some, least), tt);
      gives = subst G (sym code) (regives owes owed a.code a b input s.pieces (s.pieces ++ p ∷ []) service out err s.gives);
      stream = ap (λ w. sent ++ w) waits ∙ spelled_behind (written (Hello a.own)) sent a.waiting s.pieces p before
          ∙ ap (λ ms. written (Hello a.own) ++ flat_map written ms) (sym (append-nil (map message_of (s.pieces ++ p ∷ []))))
          ∙ ap (λ e. written (Hello a.own) ++ flat_map written (map message_of (s.pieces ++ p ∷ []) ++ e)) (sym (none b.closed b.code (closed ∙ shut)))
          ∙ ap (λ n. flat_map written (Hello n ∷ (map message_of (s.pieces ++ p ∷ []) ++ ends_if b.closed b.code))) (sym own);
      done = λ is. let no : false ≡ true = sym (closed ∙ shut) ∙ is in cc;
    }

-- the ends and the exit code are packed
sends_ends : {S : Type 0} (owes : S → List ℕ → Triple) (owed : List ℕ → Triple) (limit : ℕ) (a : AnsweringState S) (input sent : List ℕ) (code : ℤ) → SendsOutputs owes owed limit a input sent
    → a.closed ≡ false → a.code ≡ Some code → a.out ≡ [] → a.err ≡ [] → SendsOutputs owes owed limit (record a { closed = true; waiting = a.waiting ++ end_bytes code }) input sent
sends_ends {S} owes owed limit a input sent code s shut code_is out err =
    let ends : List Message = Stdout [] ∷ Stderr [] ∷ ExitCode code ∷ [] in
    let head : List ℕ = written (Hello a.own) ++ flat_map written (map message_of s.pieces) in
    let none : ends_if a.closed a.code ≡ [] = ap (λ c. ends_if c a.code) shut in
    let last : ends_if true a.code ≡ ends = ap (λ c. ends_if true c) code_is in
    let before : sent ++ a.waiting ≡ head
    = s.stream ∙ ap (λ e. written (Hello a.own) ++ flat_map written (map message_of s.pieces ++ e)) none ∙ ap (λ ms. written (Hello a.own) ++ flat_map written ms) (append-nil (map message_of s.pieces)) in
    let bytes : end_bytes code ≡ flat_map written ends
    = ap (λ x. written (Stdout []) ++ (written (Stderr []) ++ x)) (sym (append-nil (written (ExitCode code)))) in
    let b : AnsweringState S = record a { closed = true; waiting = a.waiting ++ end_bytes code } in
    record {
      pieces = s.pieces;
      each = s.each;
      gives = regives owes owed a.code a b input s.pieces s.pieces refl refl refl s.gives;
      stream = sym (append_assoc sent a.waiting (end_bytes code)) ∙ ap (λ x. x ++ end_bytes code) before ∙ ap (λ x. head ++ x) bytes
          ∙ append_assoc (written (Hello a.own)) (flat_map written (map message_of s.pieces)) (flat_map written ends)
          ∙ ap (λ x. written (Hello a.own) ++ x) (sym (flat_more (map message_of s.pieces) ends))
          ∙ ap (λ e. written (Hello a.own) ++ flat_map written (map message_of s.pieces ++ e)) (sym last);
      done = λ _. (out, err, ap is_some code_is);
    }

not_closed : {S : Type 0} (owes : S → List ℕ → Triple) (owed : List ℕ → Triple) (limit : ℕ) (a : AnsweringState S) (input sent : List ℕ) → SendsOutputs owes owed limit a input sent
    → ((a.out ≡ []) × (a.err ≡ []) → ⊥) → (b : Bool) → a.closed ≡ b → a.closed ≡ false
not_closed owes owed limit a input sent s some true is = absurd (some ((s.done is).0, (s.done is).1))
not_closed owes owed limit a input sent s some false is = is

sends_next : {S : Type 0} (owes : S → List ℕ → Triple) (owed : List ℕ → Triple) (version : ℕ) (a : AnsweringState S) (input sent : List ℕ) → 0 < a.chunk
    → SendsOutputs owes owed (min a.chunk (most version)) a input sent → SendsOutputs owes owed (min a.chunk (most version)) (packed_next version a) input sent
sends_next {S} owes owed version a input sent chunk s = by_out (nat_lt 0 (length a.out)) refl
  where
    limit : ℕ
    limit = min a.chunk (most version)

    room : 0 < limit
    room = some_limit a.chunk version chunk

    Is : AnsweringState S → Type 0
    Is x = SendsOutputs owes owed limit x input sent

    by_closed : (code : ℤ) → a.code ≡ Some code → a.out ≡ [] → a.err ≡ [] → (b : Bool) → a.closed ≡ b → Is (packed_end (Some code) a)
    by_closed code is out err true closed = subst Is (sym (if_true a.closed _ _ closed)) s
    by_closed code is out err false closed = subst Is (sym (if_false a.closed _ _ closed)) (sends_ends owes owed limit a input sent code s closed is out err)

    by_code : a.out ≡ [] → a.err ≡ [] → (c : Option ℤ) → a.code ≡ c → Is (packed_end c a)
    by_code out err None is = s
    by_code out err (Some code) is = by_closed code is out err a.closed refl

    by_err : nat_lt 0 (length a.out) ≡ false → (b : Bool) → nat_lt 0 (length a.err) ≡ b → Is (packed_next version a)
    by_err out true is =
        let some = some_bytes a.err is in
        let n : ℕ = next_len version a a.err in
        let size : length (take n a.err) ≡ n = length-take-le n a.err (omega arith) in
        let p : Piece = record { stream = Errors; bytes = take n a.err } in
        let shut = not_closed owes owed limit a input sent s (λ none. some_not a.err some none.1) a.closed refl in
        subst Is (sym (if_false (nat_lt 0 (length a.out)) _ _ out ∙ if_true (nat_lt 0 (length a.err)) _ _ is))
        (sends_one owes owed limit a (record a { err = drop n a.err; waiting = a.waiting ++ written (Stderr (take n a.err)) }) input sent p s refl (omega (arith, size, room, some)) (omega (arith, size)) shut refl refl refl refl refl
        (ap (λ x. x ++ a.out) (sym (joined_other Out s.pieces p refl))) (moved (joined Errors s.pieces) a.err n _ (joined_piece Errors s.pieces p refl)))
    by_err out false is =
        subst Is (sym (if_false (nat_lt 0 (length a.out)) _ _ out ∙ if_false (nat_lt 0 (length a.err)) _ _ is)) (by_code (no_bytes a.out out) (no_bytes a.err is) a.code refl)

    by_out : (b : Bool) → nat_lt 0 (length a.out) ≡ b → Is (packed_next version a)
    by_out true is =
        let some = some_bytes a.out is in
        let n : ℕ = next_len version a a.out in
        let size : length (take n a.out) ≡ n = length-take-le n a.out (omega arith) in
        let p : Piece = record { stream = Out; bytes = take n a.out } in
        let shut = not_closed owes owed limit a input sent s (λ none. some_not a.out some none.0) a.closed refl in
        subst Is (sym (if_true (nat_lt 0 (length a.out)) _ _ is))
        (sends_one owes owed limit a (record a { out = drop n a.out; waiting = a.waiting ++ written (Stdout (take n a.out)) }) input sent p s refl (omega (arith, size, room, some)) (omega (arith, size)) shut refl refl refl refl refl
        (moved (joined Out s.pieces) a.out n _ (joined_piece Out s.pieces p refl)) (ap (λ x. x ++ a.err) (sym (joined_other Errors s.pieces p refl))))
    by_out false is = by_err is (nat_lt 0 (length a.err)) refl

sends_packed : {S : Type 0} (owes : S → List ℕ → Triple) (owed : List ℕ → Triple) (version : Option ℕ) (a : AnsweringState S) (input sent : List ℕ) → 0 < a.chunk
    → SendsAnswers owes owed version a input sent → SendsAnswers owes owed version (packed_on version a) input sent
sends_packed owes owed None a input sent chunk s = s
sends_packed {S} owes owed (Some version) a input sent chunk s = by_waiting (length a.waiting == 0) refl
  where
    Is : AnsweringState S → Type 0
    Is x = SendsOutputs owes owed (min x.chunk (most version)) x input sent

    by_waiting : (b : Bool) → (length a.waiting == 0) ≡ b → Is (packed_on (Some version) a)
    by_waiting true is =
        let packed : packed_on (Some version) a ≡ packed_next version a = if_true (length a.waiting == 0) _ _ is in
        let size : (packed_next version a).chunk ≡ a.chunk = ap (λ x. x.chunk) (sym packed) ∙ (same_packed (Some version) a).chunk in
        let L : ℕ → Type 0 = λ n. SendsOutputs owes owed (min n (most version)) (packed_next version a) input sent in
        subst Is (sym packed) (subst L (sym size) (sends_next owes owed version a input sent chunk s))
    by_waiting false is = subst Is (sym (if_false (length a.waiting == 0) _ _ is)) s

-- ---- `front`

packed_going : {S : Type 0} (version : Option ℕ) (a : AnsweringState S) → (a.closed ≡ true → 0 < length a.waiting) → (packed_on version a).closed ≡ true → 0 < length (packed_on version a).waiting
packed_going None a going = going
packed_going {S} (Some version) a going = by_if (length a.waiting == 0) _ _ (by_if (nat_lt 0 (length a.out)) _ _ (behind (written (Stdout (take (next_len version a a.out) a.out))) (omega arith))
    (by_if (nat_lt 0 (length a.err)) _ _ (behind (written (Stderr (take (next_len version a a.err) a.err))) (omega arith)) (by_code a.code))) going
  where
    Goes : AnsweringState S → Type 0
    Goes x = x.closed ≡ true → 0 < length x.waiting

    by_if : (b : Bool) (x y : AnsweringState S) → Goes x → Goes y → Goes (if b then x else y)
    by_if true x y h k = h
    by_if false x y h k = k

    longer : (xs ys : List ℕ) → 0 < length ys → 0 < length (xs ++ ys)
    longer [] ys some = some
    longer (x ∷ xs) ys some = omega arith

    behind : (ys : List ℕ) → 0 < length ys → a.closed ≡ true → 0 < length (a.waiting ++ ys)
    behind ys some is = longer a.waiting ys some

    by_code : (code : Option ℤ) → Goes (packed_end code a)
    by_code None = going
    by_code (Some code) = by_if a.closed _ _ going (λ is. longer a.waiting (end_bytes code) (omega arith))

pub stands_packed : {S : Type 0} (owes : S → List ℕ → Triple) (owed : List ℕ → Triple) (s : ServingState S) (sent : List ℕ) → s.answering.outcome ≡ None → ServingStandsFor owes owed s sent
    → ServingStandsFor owes owed (record s { answering = packed_on s.answering.version s.answering }) sent
stands_packed {S} owes owed s sent none stands =
    let a : AnsweringState S = s.answering in
    let b : AnsweringState S = packed_on a.version a in
    let same : Same a b = same_packed a.version a in
    let N : ℕ → Type 0 = λ n. 0 < n in
    let sends : (input : List ℕ) → SendsAnswers owes owed a.version a input sent → SendsAnswers owes owed b.version b input sent = λ input h.
    let V : Option ℕ → Type 0 = λ v. SendsAnswers owes owed v b input sent in subst V (sym same.version) (sends_packed owes owed a.version a input sent stands.chunk h) in
    let i : IsServing owes owed s sent = stands.read.goes_on none in
    record {
      chunk = subst N (sym same.chunk) stands.chunk;
      read = record {
        serves = serves_same owes owed a b sent sent same sends _ _ stands.read.serves;
        done = λ code some. let no : None ≡ Some (outcome.Done code) = sym (same.outcome ∙ none) ∙ some in cc;
        goes_on = λ _. record { undecided = same.outcome ∙ none; at = i.at; going = packed_going a.version a i.going; serves = serves_same owes owed a b sent sent same sends _ _ i.serves };
      };
    }

pub lends_answers : {S : Type 0} (owes : S → List ℕ → Triple) (old inside : ServingState S) (answering : AnsweringState S) (piece : List ℕ) → inside ≡ old
    → is_some inside.answering.outcome ≡ false → answering ≡ packed_on inside.answering.version inside.answering → piece ≡ answering.waiting
    → LendsAnswers owes old (record inside { answering = answering }) piece
lends_answers {S} owes old inside answering piece same open_now packed lent =
    let none : inside.answering.outcome ≡ None = none_if inside.answering.outcome open_now in
    let goes : is_none inside.answering.outcome ≡ true = ap is_none none in
    let kept = same_packed inside.answering.version inside.answering in
    let P : ServingState S → Type 0 = λ s. LendsAnswers owes s (record inside { answering = answering }) piece in
    let moves : answering ≡ (if is_none inside.answering.outcome then packed_on inside.answering.version inside.answering else inside.answering)
    = packed ∙ sym (if_true (is_none inside.answering.outcome) _ _ goes) in
    subst P same (record {
      piece_is = lent ∙ sym (if_true (is_none inside.answering.outcome) _ _ goes);
      new_is = λ i. record { inbox = inside.inbox; answering = moves i };
      keeps = record { same = record { own = ap (λ x. x.own) packed ∙ kept.own; chunk = ap (λ x. x.chunk) packed ∙ kept.chunk; input = refl }; got = refl };
      outcome = ap (λ x. x.outcome) packed ∙ kept.outcome;
      stands = λ owed sent h. let Q : AnsweringState S → Type 0 = λ x. ServingStandsFor owes owed (record inside { answering = x }) sent in subst Q (sym packed) (stands_packed owes owed inside sent none h);
    })

-- ---- bytes have gone

take-nil : (n : ℕ) (xs : List ℕ) → xs ≡ [] → take n xs ≡ []
take-nil zero xs is = refl
take-nil (suc n) [] is = refl
take-nil (suc n) (x ∷ xs) is = cc

drop_nil : (n : ℕ) (xs : List ℕ) → xs ≡ [] → drop n xs ≡ []
drop_nil zero xs is = is
drop_nil (suc n) [] is = refl
drop_nil (suc n) (x ∷ xs) is = cc

sends_gone : {S : Type 0} (owes : S → List ℕ → Triple) (owed : List ℕ → Triple) (version : Option ℕ) (a : AnsweringState S) (count : ℕ) (input sent : List ℕ) → SendsAnswers owes owed version a input sent
    → SendsAnswers owes owed version (record a { waiting = drop count a.waiting }) input (sent ++ take count a.waiting)
sends_gone owes owed None a count input sent s = record {
  none = ap (λ x. x ++ take count a.waiting) s.none ∙ take-nil count a.waiting s.waits;
  waits = drop_nil count a.waiting s.waits;
  unfed = s.unfed;
  unended = s.unended;
  unclosed = s.unclosed;
  gives = s.gives;
}
sends_gone {S} owes owed (Some version) a count input sent s =
    let b : AnsweringState S = record a { waiting = drop count a.waiting } in
    record {
      pieces = s.pieces;
      each = s.each;
      gives = regives owes owed a.code a b input s.pieces s.pieces refl refl refl s.gives;
      stream = gone_on sent a.waiting count ∙ s.stream;
      done = s.done;
    }

length_some : (x : ℕ) (w : List ℕ) → (length (x ∷ w) == 0) ≡ false
length_some x w = by_test (length (x ∷ w) == 0) refl
  where
    by_test : (b : Bool) → (length (x ∷ w) == 0) ≡ b → (length (x ∷ w) == 0) ≡ false
    by_test true is = let zero_is : suc (length w) ≡ 0 = eqb-true (suc (length w)) 0 is in absurd (omega (arith, zero_is))
    by_test false is = is

-- whether the session is over
over_cases : {S : Type 0} (a : AnsweringState S) (b : Bool) → is_over a ≡ b → ((b ≡ true) × (a.closed ≡ true) × (a.waiting ≡ []) × (a.outcome ≡ None)) ⊎ ((b ≡ false) × (a.outcome ≡ None → a.closed ≡ true → 0 < length a.waiting))
over_cases a b is = by_closed a.closed a.waiting a.outcome is
  where
    by_closed : (c : Bool) (w : List ℕ) (o : Option Outcome) → (c && (length w == 0) && is_none o) ≡ b → ((b ≡ true) × (c ≡ true) × (w ≡ []) × (o ≡ None)) ⊎ ((b ≡ false) × (o ≡ None → c ≡ true → 0 < length w))
    by_closed true [] None h = inl (sym h, refl, refl, refl)
    by_closed true [] (Some o) h = inr (sym h, λ none. cc)
    by_closed true (x ∷ w) o h = inr (sym h ∙ more w o, λ _ _. omega arith)
      where
        more : (w : List ℕ) (o : Option Outcome) → (true && (length (x ∷ w) == 0) && is_none o) ≡ false
        more w o = rw (length_some x w) refl
    by_closed false w o h = inr (sym h ∙ none w o, λ _ closed. cc)
      where
        none : (w : List ℕ) (o : Option Outcome) → (false && (length w == 0) && is_none o) ≡ false
        none w None = refl
        none w (Some o) = refl

-- the code of a stream that is closed
closed_code : {S : Type 0} (owes : S → List ℕ → Triple) (owed : List ℕ → Triple) (version : Option ℕ) (a : AnsweringState S) (input sent : List ℕ) → SendsAnswers owes owed version a input sent
    → a.closed ≡ true → IsSome a.code
closed_code owes owed None a input sent s closed = let no : false ≡ true = sym s.unclosed ∙ closed in cc
closed_code owes owed (Some version) a input sent s closed = (s.done closed).2

-- some of the bytes that wait have gone
pub stands_gone : {S : Type 0} (owes : S → List ℕ → Triple) (owed : List ℕ → Triple) (old inside : ServingState S) (answering : AnsweringState S) (sent : List ℕ) (count : ℕ) → inside ≡ old
    → answering ≡ after_gone count inside.answering → ServingStandsFor owes owed old sent
    → ServingStandsFor owes owed (record inside { answering = answering }) (sent ++ take count old.answering.waiting)
stands_gone {S} owes owed old inside answering sent count same is stands =
    let Q : ServingState S → Type 0 = λ s. ServingStandsFor owes owed (record inside { answering = answering }) (sent ++ take count s.answering.waiting) in
    let A : ServingState S → Type 0 = λ s. ServingStandsFor owes owed s sent in
    let P : AnsweringState S → Type 0 = λ x. ServingStandsFor owes owed (record inside { answering = x }) (sent ++ take count inside.answering.waiting) in
    subst Q same (subst P (sym is) (by_over (subst A (sym same) stands) (over_cases gone (is_over gone) refl)))
  where
    gone : AnsweringState S
    gone = record inside.answering { waiting = drop count inside.answering.waiting }

    now : List ℕ
    now = sent ++ take count inside.answering.waiting

    kept : Same inside.answering gone
    kept = record { own = refl; chunk = refl; version = refl; code = refl; outcome = refl }

    sends : (input : List ℕ) → SendsAnswers owes owed inside.answering.version inside.answering input sent → SendsAnswers owes owed gone.version gone input now
    sends input h = sends_gone owes owed inside.answering.version inside.answering count input sent h

    On : AnsweringState S → Type 0
    On x = ServingStandsFor owes owed (record inside { answering = x }) now

    by_code : (s : ServingStandsFor owes owed inside sent) → gone.closed ≡ true → gone.waiting ≡ [] → gone.outcome ≡ None → IsSome gone.code → (c : Option ℤ) → gone.code ≡ c → On (done_if c gone)
    by_code s closed empty none some None is = absurd (none_is gone.code is some)
    by_code s closed empty none some (Some code) is =
        let k = serves_same owes owed inside.answering gone sent now kept sends _ _ s.read.serves in
        record {
          chunk = s.chunk;
          read = record {
            serves = record {
              outcome = (rw none at k.outcome, sym k.ended ∙ some);
              ended = k.ended;
              version = k.version;
              sends = sends_faulted owes owed gone.version gone (Some (outcome.Done code)) _ now k.sends;
            };
            done = λ other has. let e : code ≡ other = cc in ((closed, empty), is ∙ ap (λ x. some_code x) e);
            goes_on = λ nothing. cc;
          };
        }
      where
        some_code : ℤ → Option ℤ
        some_code x = Some x

    by_over : (s : ServingStandsFor owes owed inside sent)
        → ((is_over gone ≡ true) × (gone.closed ≡ true) × (gone.waiting ≡ []) × (gone.outcome ≡ None)) ⊎ ((is_over gone ≡ false) × (gone.outcome ≡ None → gone.closed ≡ true → 0 < length gone.waiting))
        → On (over_if gone)
    by_over s (inl over) =
        let some : IsSome gone.code = closed_code owes owed inside.answering.version inside.answering _ sent s.read.serves.sends over.1 in
        subst On (sym (if_true (is_over gone) _ _ over.0)) (by_code s over.1 over.2 over.3 some gone.code refl)
    by_over s (inr goes) =
        subst On (sym (if_false (is_over gone) _ _ goes.0)) (record {
          chunk = s.chunk;
          read = record {
            serves = serves_same owes owed inside.answering gone sent now kept sends _ _ s.read.serves;
            done = λ code has. let d = s.read.done code has in ((d.0.0, drop_nil count inside.answering.waiting d.0.1), d.1);
            goes_on = λ nothing. let i = s.read.goes_on nothing in
                record { undecided = nothing; at = i.at; going = goes.1 nothing; serves = serves_same owes owed inside.answering gone sent now kept sends _ _ i.serves };
          };
        })

-- ---- if nothing goes out

-- why nothing goes out waits for nothing
still_waits : {S : Type 0} (a : AnsweringState S) → a.outcome ≡ None → IsStill a → a.waiting ≡ []
still_waits a none (inl some) = absurd (none_is a.outcome none some)
still_waits a none (inr (inl unread)) = unread.1
still_waits a none (inr (inr given)) = given.waits

-- and, once greeted, that all was given
still_given : {S : Type 0} (a : AnsweringState S) (version : ℕ) → a.outcome ≡ None → a.version ≡ Some version → IsStill a → HasGivenAll a
still_given a version none greeted (inl some) = absurd (none_is a.outcome none some)
still_given a version none greeted (inr (inl unread)) = let no : None ≡ Some version = sym unread.0 ∙ greeted in cc
still_given a version none greeted (inr (inr given)) = given

pub still_serving : {S : Type 0} (a : AnsweringState S) → a.outcome ≡ None → (a.closed ≡ true → 0 < length a.waiting) → ((packed_on a.version a).waiting ≡ []) ↔ IsStill a
still_serving {S} a none going = by_version a.version refl
  where
    By : AnsweringState S → Type 0
    By x = (x.waiting ≡ []) ↔ IsStill a

    by_closed : (version : ℕ) (code : ℤ) → a.version ≡ Some version → a.code ≡ Some code → a.waiting ≡ [] → (b : Bool) → a.closed ≡ b → By (packed_end (Some code) a)
    by_closed version code greeted is empty true closed = absurd (some_not a.waiting (going closed) empty)
    by_closed version code greeted is empty false closed =
        subst By (sym (if_false a.closed _ _ closed)) (λ h. absurd (not_empty_lem a.waiting (end_bytes code) (omega arith) h), λ h. let g = still_given a version none greeted h in let no : None ≡ Some code = sym g.unended ∙ is in cc)

    by_code : (version : ℕ) → a.version ≡ Some version → a.waiting ≡ [] → a.out ≡ [] → a.err ≡ [] → (c : Option ℤ) → a.code ≡ c → By (packed_end c a)
    by_code version greeted empty out err None is = (λ h. inr (inr (record { greeted = ap is_some greeted; out = out; err = err; waits = empty; unended = is })), λ h. empty)
    by_code version greeted empty out err (Some code) is = by_closed version code greeted is empty a.closed refl

    by_err : (version : ℕ) → a.version ≡ Some version → a.waiting ≡ [] → nat_lt 0 (length a.out) ≡ false → (b : Bool) → nat_lt 0 (length a.err) ≡ b → By (packed_next version a)
    by_err version greeted empty out true is =
        subst By (sym (if_false (nat_lt 0 (length a.out)) _ _ out ∙ if_true (nat_lt 0 (length a.err)) _ _ is))
        (λ h. absurd (not_empty_lem a.waiting (written (Stderr (take (next_len version a a.err) a.err))) (omega arith) h), λ h. absurd (some_not a.err (some_bytes a.err is) (still_given a version none greeted h).err))
    by_err version greeted empty out false is =
        subst By (sym (if_false (nat_lt 0 (length a.out)) _ _ out ∙ if_false (nat_lt 0 (length a.err)) _ _ is)) (by_code version greeted empty (no_bytes a.out out) (no_bytes a.err is) a.code refl)

    by_out : (version : ℕ) → a.version ≡ Some version → a.waiting ≡ [] → (b : Bool) → nat_lt 0 (length a.out) ≡ b → By (packed_next version a)
    by_out version greeted empty true is =
        subst By (sym (if_true (nat_lt 0 (length a.out)) _ _ is))
        (λ h. absurd (not_empty_lem a.waiting (written (Stdout (take (next_len version a a.out) a.out))) (omega arith) h), λ h. absurd (some_not a.out (some_bytes a.out is) (still_given a version none greeted h).out))
    by_out version greeted empty false is = by_err version greeted empty is (nat_lt 0 (length a.err)) refl

    by_waiting : (version : ℕ) → a.version ≡ Some version → (b : Bool) → (length a.waiting == 0) ≡ b → By (packed_on (Some version) a)
    by_waiting version greeted true empty = subst By (sym (if_true (length a.waiting == 0) _ _ empty)) (by_out version greeted (no_length a.waiting empty) (nat_lt 0 (length a.out)) refl)
    by_waiting version greeted false some = subst By (sym (if_false (length a.waiting == 0) _ _ some)) (λ h. absurd (has_length a.waiting some h), λ h. still_waits a none h)

    by_version : (v : Option ℕ) → a.version ≡ v → By (packed_on a.version a)
    by_version None is = let V : Option ℕ → Type 0 = λ v. By (packed_on v a) in subst V (sym is) (λ h. inr (inl (is, h)), λ h. still_waits a none h)
    by_version (Some version) is = let V : Option ℕ → Type 0 = λ v. By (packed_on v a) in subst V (sym is) (by_waiting version is (length a.waiting == 0) refl)

pub lends_nothing : {S : Type 0} (owes : S → List ℕ → Triple) (owed : List ℕ → Triple) (old inside : ServingState S) (answering : AnsweringState S) (piece sent : List ℕ) → inside ≡ old
    → is_some inside.answering.outcome ≡ false → answering ≡ packed_on inside.answering.version inside.answering → piece ≡ answering.waiting → ServingStandsFor owes owed old sent
    → (piece ≡ []) ↔ IsStill old.answering
lends_nothing {S} owes owed old inside answering piece sent same open_now packed lent stands =
    let none : inside.answering.outcome ≡ None = none_if inside.answering.outcome open_now in
    let A : ServingState S → Type 0 = λ s. ServingStandsFor owes owed s sent in
    let P : ServingState S → Type 0 = λ s. (piece ≡ []) ↔ IsStill s.answering in
    let s : ServingStandsFor owes owed inside sent = subst A (sym same) stands in
    let h = still_serving inside.answering none (s.read.goes_on none).going in
    let w : piece ≡ (packed_on inside.answering.version inside.answering).waiting = lent ∙ ap (λ x. x.waiting) packed in
    subst P same (λ e. h.0 (sym w ∙ e), λ e. w ∙ h.1 e)
