-- A session that nothing has decided, and all of whose bytes were got, has something to send.
use Rattle.std.proofs.Common.{◌≡◌, ℕ, ◌+◌, ◌-◌, ◌<◌, ◌≤◌, ◌^◌, suc, List, [], ◌∷◌, ◌++◌, length, map, Option, Some, None, Bool, true, false, inl, inr, refl, subst, sym, ap, ◌∙◌, arith, append-nil}
use Rattle.std.specs.Prelude.{◌&&◌, min, nat_lt, is_some, if◌then◌else◌}
use Rattle.std.specs.List.{flat_map, AllByRecursion as Each}
use Rattle.std.proofs.lemmas.Bool.{or_right}
use Rattle.std.proofs.lemmas.Bool.Decides.{nat_tests}
use Rattle.list_laws.proofs.Results.{none_is}
use Rattle.service_gate.specs.Triple.{Triple}
use Rattle.qrexec_frame.specs.declared.kind.Channel.TheVariants.{Data}
use Rattle.qrexec_frame.specs.declared.message.Message.{Message}
use Rattle.qrexec_frame.specs.declared.message.Message.TheVariants.{Hello}
use Rattle.qrexec_frame.specs.Messages.{written}
use Rattle.qrexec_frame.specs.Grammar.{Fault}
use Rattle.qrexec_frame.specs.Fronts.{front, reading}
use Rattle.qrexec_frame.specs.Laws.{IsGood}
use Rattle.qrexec_frame.specs.Streams.{Front, Whole, Placed, Ending, Rest, read_on, with_front, messages}
use Rattle.qrexec_frame.proofs.StreamLaws.{reads_all}
use Rattle.qrexec_frame.proofs.GrammarLaws.{is_prefix_code}
use Rattle.qrexec_frame.proofs.WrittenLaws.{is_read_again}
use Rattle.qrexec_data.specs.Pieces.{Stream, In, Piece, message_of, end_of, has_ended, ArePieces, is_input, is_stream, no_bytes}
use Rattle.qrexec_data.specs.Seeing.{Carries, sees_on, sees_all, seen_by, serving_use}
use Rattle.qrexec_data.specs.Sending.{agreed_by, most}
use Rattle.qrexec_data.specs.Requests.{SendsRequests, SendsInput, end_if}
use Rattle.qrexec_data.specs.CallerSide as caller
use Rattle.qrexec_data.specs.ServingSide as serving
use Rattle.qrexec_data.specs.ServingSide.{SendsAnswers}
use Rattle.qrexec_data.specs.Answering.{AnsweringState}
use Rattle.qrexec_data.proofs.PieceLaws.{the_messages, NoneEnded, none_more, serving_carries}
use Rattle.qrexec_data.specs.Laws.{IsVersion}
use Rattle.qrexec_data.specs.Session.{SessionsGoOn}

-- ---- a greeting that was got is read

pub good_hello : (own : ℕ) → own < 2 ^ 32 → IsGood Data (Hello own)
good_hello own small = ((tt, small), refl)

-- what stands at the front is the first message that is read
first_read : (bytes : List ℕ) (m : Message) (n : ℕ) → front Data bytes ≡ Whole m n → (placed : List (Placed Message)) × ((reading Data bytes).placed ≡ record { at = 0; message = m } ∷ placed)
first_read [] m n is = absurd (let fits = (is_prefix_code Data).sized [] m n is in omega (arith, fits.0, fits.1))
first_read (b ∷ bytes) m n is =
    ((read_on (front Data) bytes (0 + 1) (n - 1)).placed, ap (λ (f : Front Message Fault). (with_front f 0 (suc (length bytes)) (λ k. read_on (front Data) bytes (0 + 1) k)).placed) is)

-- a version is agreed on once a greeting stands at the front
agrees : (own other : ℕ) (got rest : List ℕ) → IsVersion other → got ≡ written (Hello other) ++ rest → agreed_by own (reading Data got).placed ≡ Some (min own other)
agrees own other got rest version is =
    let two = version.least in
    let front_is : front Data got ≡ Whole (Hello other) (length (written (Hello other))) = subst (λ g. front Data g ≡ Whole (Hello other) (length (written (Hello other)))) (sym is) (is_read_again Data (Hello other) rest (good_hello other version.small)) in
    let first = first_read got (Hello other) (length (written (Hello other))) front_is in
    let big : nat_lt other 2 ≡ false = grind (arith, nat_tests) in
    ap (agreed_by own) first.1 ∙ rw big refl

-- ---- a whole input that was got has ended

stdin_good : (p : Piece) → is_input p.stream ≡ true → length p.bytes ≤ 65536 → IsGood Data (message_of p)
stdin_good p reads least = by_stream p.stream reads
  where
    by_stream : (s : Stream) → is_input s ≡ true → IsGood Data (message_of (record { stream = s; bytes = p.bytes }))
    by_stream In reads = ((least, tt), refl)
    by_stream _ reads = cc

pub input_good : (limit : ℕ) → limit ≤ 65536 → (pieces : List Piece) → ArePieces is_input limit pieces → Each (IsGood Data) (map message_of (pieces ++ end_of In ∷ []))
input_good limit least [] each = (stdin_good (end_of In) refl (omega arith), tt)
input_good limit least (p ∷ pieces) each = (stdin_good p each.0.0 (omega (arith, each.0.2, least)), input_good limit least pieces each.1)

input_ends : (limit : ℕ) (pieces : List Piece) → ArePieces is_input limit pieces → (before : List Piece) → NoneEnded before → (placed : List (Placed Message)) (e : Ending Fault)
    → the_messages placed ≡ map message_of (pieces ++ end_of In ∷ []) → has_ended In (sees_on serving_use placed e before).pieces ≡ true
input_ends limit [] each before none [] e is = cc
input_ends limit [] each before none (q ∷ placed) e is =
    let this : q.message ≡ message_of (end_of In) = cc in
    let taken : serving_use q.message ≡ Carries (end_of In) = ap serving_use this in
    rw (taken, none In) refl
input_ends limit (p ∷ pieces) each before none [] e is = cc
input_ends limit (p ∷ pieces) each before none (q ∷ placed) e is =
    let this : q.message ≡ message_of p = cc in
    let more : the_messages placed ≡ map message_of (pieces ++ end_of In ∷ []) = cc in
    let taken : serving_use q.message ≡ Carries p = ap serving_use this ∙ serving_carries p each.0.0 in
    let rest = input_ends limit pieces each.1 (p ∷ before) (none_more p before each.0.1 none) placed e more in
    rw (taken, none p.stream) (or_right (is_stream p.stream In && no_bytes p.bytes) _ rest)

sees_end : (own limit : ℕ) (pieces : List Piece) → IsVersion own → limit ≤ 65536 → ArePieces is_input limit pieces → (got : List ℕ)
    → got ≡ flat_map written (Hello own ∷ map message_of (pieces ++ end_of In ∷ [])) → has_ended In (seen_by serving_use got).pieces ≡ true
sees_end own limit pieces version least each got is =
    subst (λ g. has_ended In (seen_by serving_use g).pieces ≡ true) (sym is) (by_placed (reading Data stream).placed (reading Data stream).ending all.0)
  where
    stream : List ℕ
    stream = flat_map written (Hello own ∷ map message_of (pieces ++ end_of In ∷ []))

    all : (messages (reading Data stream) ≡ Hello own ∷ map message_of (pieces ++ end_of In ∷ [])) × ((reading Data stream).ending ≡ Rest 0)
    all = reads_all (front Data) written (IsGood Data) (is_prefix_code Data) (is_read_again Data) (Hello own ∷ map message_of (pieces ++ end_of In ∷ [])) (good_hello own version.small, input_good limit least pieces each) 0

    by_placed : (placed : List (Placed Message)) (e : Ending Fault) → the_messages placed ≡ Hello own ∷ map message_of (pieces ++ end_of In ∷ []) → has_ended In (sees_all serving_use placed e).pieces ≡ true
    by_placed [] e read = cc
    by_placed (p ∷ placed) e read =
        let hello : p.message ≡ Hello own = cc in
        let more : the_messages placed ≡ map message_of (pieces ++ end_of In ∷ []) = cc in
        let two = version.least in
        let big : nat_lt own 2 ≡ false = grind (arith, nat_tests) in
        rw (hello, big) (input_ends limit pieces each [] (λ s. refl) placed e more)

-- ---- the law

pub most_fits : (chunk version : ℕ) → min chunk (most version) ≤ 65536
most_fits chunk version = by_test (nat_lt version 3)
  where
    by_test : (b : Bool) → min chunk (if b then 4096 else 65536) ≤ 65536
    by_test true = omega arith
    by_test false = omega arith

-- a side that serves, once it has got a greeting: what is still has sent its own greeting, and its input hasn't ended
serving_still : {S : Type 0} (owes : S → List ℕ → Triple) (owed : List ℕ → Triple) (a : AnsweringState S) (version : ℕ) (input sent : List ℕ) → a.outcome ≡ None → a.version ≡ Some version
    → SendsAnswers owes owed a.version a input sent → serving.IsStill a → (a.code ≡ None) × ((rest : List ℕ) × (sent ≡ written (Hello a.own) ++ rest))
serving_still owes owed a version input sent none agreed sends (inl some) = absurd (none_is a.outcome none some)
serving_still owes owed a version input sent none agreed sends (inr (inl waits)) = cc
serving_still {S} owes owed a version input sent none agreed sends (inr (inr given)) =
    let o = subst (λ v. SendsAnswers owes owed v a input sent) agreed sends in
    (given.unended, (_, sym (append-nil sent) ∙ ap (λ w. sent ++ w) (sym given.waits) ∙ o.stream))

pub sessions_go_on_lem : (S : Type 0) → SessionsGoOn S
sessions_go_on_lem S owes owed c s up down u both = by_caller c.replies.version refl both.0
  where
    code_is : s.answering.code ≡ None → has_ended In (seen_by serving_use up).pieces ≡ true → ⊥
    code_is none ended =
        let is = u.serves.read.serves.ended in
        let now : has_ended In (seen_by serving_use s.inbox.got).pieces ≡ true = subst (λ g. has_ended In (seen_by serving_use g).pieces ≡ true) (sym u.serving_got) ended in
        let some : is_some s.answering.code ≡ true = is ∙ now in
        let not_some : is_some s.answering.code ≡ false = ap is_some none in
        cc

    -- once the side that serves has got a greeting
    still : (rest : List ℕ) → up ≡ written (Hello c.replies.own) ++ rest → (s.answering.code ≡ None) × ((rest : List ℕ) × (down ≡ written (Hello s.answering.own) ++ rest))
    still rest is =
        let placed = u.serves.read.serves.version in
        let got : s.inbox.got ≡ written (Hello c.replies.own) ++ rest = u.serving_got ∙ is in
        let agreed = placed ∙ agrees s.answering.own c.replies.own s.inbox.got rest u.caller_version got in
        serving_still owes owed s.answering _ _ down u.serving_undecided agreed u.serves.read.serves.sends both.1

    by_closed : (version : ℕ) (b : Bool) → c.requests.closed ≡ b → SendsInput c.replies.own (min c.requests.chunk (most version)) c.requests up → c.requests.waiting ≡ [] → b ≡ true → ⊥
    by_closed version true closed sends gone holds =
        let stream : up ≡ flat_map written (Hello c.replies.own ∷ map message_of (sends.pieces ++ end_of In ∷ [])) =
        sym (append-nil up) ∙ ap (λ w. up ++ w) (sym gone) ∙ sends.stream ∙ ap (λ b. flat_map written (Hello c.replies.own ∷ map message_of (sends.pieces ++ end_if b))) closed in
        let h = still _ stream in
        code_is h.0 (sees_end c.replies.own (min c.requests.chunk (most version)) sends.pieces u.caller_version (most_fits c.requests.chunk version) sends.each up stream)
    by_closed version false closed sends gone holds = cc

    sends : SendsRequests c.replies.own c.replies.version c.requests up
    sends = u.calls.sends

    by_caller : (v : Option ℕ) → c.replies.version ≡ v → caller.IsStill c → ⊥
    by_caller v is (inl some) = none_is c.replies.outcome u.caller_undecided some
    by_caller None is (inr (inl all)) =
        let g = subst (λ v. SendsRequests c.replies.own v c.requests up) is sends in
        let unclosed = g.unclosed in
        cc
    by_caller (Some version) is (inr (inl all)) = by_closed version c.requests.closed refl (subst (λ v. SendsRequests c.replies.own v c.requests up) is sends) all.1 all.0
    by_caller v is (inr (inr waits)) =
        let g = subst (λ v. SendsRequests c.replies.own v c.requests up) waits.0 sends in
        let stream : up ≡ written (Hello c.replies.own) ++ [] = sym (append-nil up) ∙ ap (λ w. up ++ w) (sym waits.1) ∙ g.stream ∙ sym (append-nil (written (Hello c.replies.own))) in
        let h = still [] stream in
        let got : c.inbox.got ≡ written (Hello s.answering.own) ++ h.1.0 = u.caller_got ∙ h.1.1 in
        let agreed = u.calls.read.knows.version ∙ agrees c.replies.own s.answering.own c.inbox.got h.1.0 u.serving_version got in
        let none = waits.0 in
        cc
