-- What a side sent is what it may send.
use Rattle.std.proofs.Common.{◌≡◌, ℕ, ◌<◌, List, [], ◌∷◌, ◌++◌, length, take, drop, map, refl, ap, sym, ◌∙◌, subst, arith, append_assoc, Option, Some, None}
use Rattle.std.proofs.lemmas.List.{append-nil, take-append-drop}
use Rattle.std.proofs.lemmas.Bool.{false≢true}
use Rattle.std.specs.Prelude.{true, false, Bool, ℤ, min, nat_lt, is_some, MatchOption, MatchBool}
use Rattle.std.specs.List.{flat_map}
use Rattle.list_laws.specs.Lists.{IsPrefixOf}
use Rattle.qrexec_frame.specs.declared.message.Message.{Message}
use Rattle.qrexec_frame.specs.declared.message.Message.TheVariants.{Hello, Stdout, Stderr, ExitCode}
use Rattle.qrexec_frame.specs.Messages.{written}
use Rattle.service_gate.specs.Triple.{Triple}
use Rattle.qrexec_data.specs.Pieces.{Stream, In, Out, Err as Errors, Piece, message_of, end_of, joined, is_stream, ArePieces, is_input, is_output}
use Rattle.qrexec_data.specs.Seeing.{serving_sees}
use Rattle.qrexec_data.specs.Laws.{HasSent}
use Rattle.qrexec_data.specs.declared.outcome.Outcome.TheVariants as outcome
use Rattle.qrexec_data.specs.Sending.{most, IsCallerStream, IsServingStream, IsServingBegun, Begins, CallerMaySend, ServingMaySend}
use Rattle.qrexec_data.specs.Requests.{RequestsState, end_if, SendsInput, SendsRequests}
use Rattle.qrexec_data.specs.CallerSide.{CallerState, CallerStandsFor}
use Rattle.qrexec_data.specs.Answering.{AnsweringState}
use Rattle.qrexec_data.specs.ServingSide.{ServingState, Gives, ends_if, SendsOutputs, SendsAnswers, ServingStandsFor}
use Rattle.qrexec_data.proofs.PieceLaws.{joined_append}

-- ---- pieces of one byte

single : Stream → List ℕ → List Piece
single s [] = []
single s (b ∷ bytes) = record { stream = s; bytes = b ∷ [] } ∷ single s bytes

each_single : (reads : Stream → Bool) (limit : ℕ) (s : Stream) → reads s ≡ true → 0 < limit → (bytes : List ℕ) → ArePieces reads limit (single s bytes)
unfolding single
each_single reads limit s is some [] = tt
each_single reads limit s is some (b ∷ bytes) = ((is, omega arith, omega (arith, some)), each_single reads limit s is some bytes)

joined_single : (s : Stream) (bytes : List ℕ) → is_stream s s ≡ true → joined s (single s bytes) ≡ bytes
unfolding single
joined_single s [] same = refl
joined_single s (b ∷ bytes) same = rw same (ap (λ r. b ∷ r) (joined_single s bytes same))

joined_strange : (s t : Stream) (bytes : List ℕ) → is_stream s t ≡ false → joined t (single s bytes) ≡ []
unfolding single
joined_strange s t [] other = refl
joined_strange s t (b ∷ bytes) other = rw other (joined_strange s t bytes other)

each_more : (reads : Stream → Bool) (limit : ℕ) (ps qs : List Piece) → ArePieces reads limit ps → ArePieces reads limit qs → ArePieces reads limit (ps ++ qs)
each_more reads limit [] qs each more = more
each_more reads limit (p ∷ ps) qs each more = (each.0, each_more reads limit ps qs each.1 more)

pub flat_more : (ms ns : List Message) → flat_map written (ms ++ ns) ≡ flat_map written ms ++ flat_map written ns
flat_more [] ns = refl
flat_more (m ∷ ms) ns = ap (λ r. written m ++ r) (flat_more ms ns) ∙ sym (append_assoc (written m) (flat_map written ms) (flat_map written ns))

map_more : (ps qs : List Piece) → map message_of (ps ++ qs) ≡ map message_of ps ++ map message_of qs
map_more [] qs = refl
map_more (p ∷ ps) qs = ap (λ r. message_of p ∷ r) (map_more ps qs)

pub some_limit : (chunk version : ℕ) → 0 < chunk → 0 < min chunk (most version)
some_limit chunk version some = by_test (nat_lt version 3) refl
  where
    by_test : (b : Bool) → nat_lt version 3 ≡ b → 0 < min chunk (most version)
    by_test true is = rw is (omega (arith, some))
    by_test false is = rw is (omega (arith, some))

-- what was sent, what waits and some more are a stream of which the messages up to here are known
begins_more : (sent waiting : List ℕ) (ms more : List Message) → sent ++ waiting ≡ flat_map written ms → IsPrefixOf sent (flat_map written (ms ++ more))
begins_more sent waiting ms more is = (
  waiting ++ flat_map written more,
  sym (append_assoc sent waiting (flat_map written more)) ∙ ap (λ r. r ++ flat_map written more) is ∙ sym (flat_more ms more),
)

-- ---- the caller

caller_input : (own limit : ℕ) (r : RequestsState) (sent : List ℕ) → 0 < limit → SendsInput own limit r sent → (b : Bool) → r.closed ≡ b → Begins (IsCallerStream own limit r.input) sent
caller_input own limit r sent some s true closed =
    let ps : List Piece = s.pieces in
    let ends : end_if r.closed ≡ end_of In ∷ [] = ap end_if closed in
    let stream : sent ++ r.waiting ≡ flat_map written (Hello own ∷ map message_of (ps ++ end_of In ∷ [])) = s.stream ∙ ap (λ e. flat_map written (Hello own ∷ map message_of (ps ++ e))) ends in
    let whole : take r.packed r.input ≡ r.input = rw (s.done closed) (all_of r.input) in
    (Hello own ∷ map message_of (ps ++ end_of In ∷ []), record { pieces = ps; each = s.each; all = s.all ∙ whole; is = refl }, (r.waiting, stream))
  where
    all_of : (xs : List ℕ) → take (length xs) xs ≡ xs
    all_of [] = refl
    all_of (x ∷ xs) = ap (λ r. x ∷ r) (all_of xs)
caller_input own limit r sent some s false closed =
    let rest : List Piece = single In (drop r.packed r.input) in
    let ps : List Piece = s.pieces in
    let none : ps ++ end_if r.closed ≡ ps = ap (λ b. ps ++ end_if b) closed ∙ append-nil ps in
    let stream : sent ++ r.waiting ≡ flat_map written (Hello own ∷ map message_of ps) = s.stream ∙ ap (λ e. flat_map written (Hello own ∷ map message_of e)) none in
    let all : joined In (ps ++ rest) ≡ r.input = joined_append In ps rest ∙ ap (λ x. x ++ joined In rest) s.all ∙ ap (λ x. take r.packed r.input ++ x) (joined_single In (drop r.packed r.input) refl) ∙ take-append-drop r.packed r.input in
    let messages : Hello own ∷ (map message_of ps ++ map message_of (rest ++ end_of In ∷ [])) ≡ Hello own ∷ map message_of ((ps ++ rest) ++ end_of In ∷ [])
    = ap (λ ms. Hello own ∷ ms) (sym (map_more ps (rest ++ end_of In ∷ [])) ∙ ap (map message_of) (sym (append_assoc ps rest (end_of In ∷ [])))) in
    let P : List Message → Type 0 = λ ms. IsPrefixOf sent (flat_map written ms) in (
      Hello own ∷ map message_of ((ps ++ rest) ++ end_of In ∷ []),
      record { pieces = ps ++ rest; each = each_more is_input limit ps rest s.each (each_single is_input limit In refl some (drop r.packed r.input)); all = all; is = refl },
      subst P messages (begins_more sent r.waiting (Hello own ∷ map message_of ps) (map message_of (rest ++ end_of In ∷ [])) stream),
    )

pub caller_may_send : (c : CallerState) (sent : List ℕ) → CallerStandsFor c sent → CallerMaySend c.replies.own c.requests.chunk c.requests.input c.inbox.got sent
caller_may_send c sent s = subst M s.read.knows.version (by_version c.replies.version s.sends)
  where
    M : Option ℕ → Type 0
    M v = MatchOption v (IsPrefixOf sent (written (Hello c.replies.own))) (λ u. Begins (IsCallerStream c.replies.own (min c.requests.chunk (most u)) c.requests.input) sent)

    by_version : (v : Option ℕ) → SendsRequests c.replies.own v c.requests sent → M v
    by_version None g = (c.requests.waiting, g.stream)
    by_version (Some v) i = caller_input c.replies.own (min c.requests.chunk (most v)) c.requests sent (some_limit c.requests.chunk v s.chunk) i c.requests.closed refl

-- ---- the side that serves

-- before the input's end
serving_begun : {S : Type 0} (owes : S → List ℕ → Triple) (owed : List ℕ → Triple) (limit : ℕ) (a : AnsweringState S) (input sent : List ℕ) → SendsOutputs owes owed limit a input sent → a.code ≡ None
    → Begins (IsServingBegun a.own limit owed input) sent
serving_begun {S} owes owed limit a input sent s none =
    let G : Option ℤ → Type 0 = λ c. Gives owes owed c a input s.pieces in
    let g : Gives owes owed None a input s.pieces = subst G none s.gives in
    let ends : map message_of s.pieces ++ ends_if a.closed a.code ≡ map message_of s.pieces = ap (λ e. map message_of s.pieces ++ e) (nothing a.closed a.code none) ∙ append-nil (map message_of s.pieces) in (
      Hello a.own ∷ map message_of s.pieces,
      record {
        pieces = s.pieces;
        each = s.each;
        stdout = λ more. (a.out ++ (owes a.service more).stdout, sym (append_assoc (joined Out s.pieces) a.out (owes a.service more).stdout) ∙ sym (ap (λ t. t.stdout) (g more)));
        stderr = λ more. (a.err ++ (owes a.service more).stderr, sym (append_assoc (joined Errors s.pieces) a.err (owes a.service more).stderr) ∙ sym (ap (λ t. t.stderr) (g more)));
        is = refl;
      },
      (a.waiting, s.stream ∙ ap (λ ms. flat_map written (Hello a.own ∷ ms)) ends),
    )
  where
    nothing : (b : Bool) (c : Option ℤ) → c ≡ None → ends_if b c ≡ []
    nothing false c is = refl
    nothing true None is = refl
    nothing true (Some x) is = cc

-- after the input's end, when the ends and the exit code stand in messages
whole_stream : {S : Type 0} (owes : S → List ℕ → Triple) (owed : List ℕ → Triple) (limit : ℕ) (a : AnsweringState S) (input sent : List ℕ) (code : ℤ) → SendsOutputs owes owed limit a input sent
    → a.code ≡ Some code → a.closed ≡ true → (stream : List Message) × IsServingStream a.own limit (owed input) stream × (sent ++ a.waiting ≡ flat_map written stream)
whole_stream {S} owes owed limit a input sent code s is closed =
    let G : Option ℤ → Type 0 = λ c. Gives owes owed c a input s.pieces in
    let g : Gives owes owed (Some code) a input s.pieces = subst G is s.gives in
    let d = s.done closed in
    let ends : List Message = Stdout [] ∷ Stderr [] ∷ ExitCode code ∷ [] in
    let ends_are : ends_if a.closed a.code ≡ ends = ap (λ b. ends_if b a.code) closed ∙ ap (λ c. ends_if true c) is in
    let tail : map message_of s.pieces ++ ends ≡ map message_of (s.pieces ++ end_of Out ∷ end_of Errors ∷ []) ++ ExitCode (owed input).code ∷ []
    = tails s.pieces code ∙ ap (λ c. map message_of (s.pieces ++ end_of Out ∷ end_of Errors ∷ []) ++ ExitCode c ∷ []) (sym (ap (λ t. t.code) g)) in (
      Hello a.own ∷ (map message_of (s.pieces ++ end_of Out ∷ end_of Errors ∷ []) ++ ExitCode (owed input).code ∷ []),
      record {
        pieces = s.pieces;
        each = s.each;
        stdout = sym (ap (λ t. t.stdout) g ∙ ap (λ o. joined Out s.pieces ++ o) d.0 ∙ append-nil (joined Out s.pieces));
        stderr = sym (ap (λ t. t.stderr) g ∙ ap (λ o. joined Errors s.pieces ++ o) d.1 ∙ append-nil (joined Errors s.pieces));
        is = refl;
      },
      s.stream ∙ ap (λ e. flat_map written (Hello a.own ∷ (map message_of s.pieces ++ e))) ends_are ∙ ap (λ ms. flat_map written (Hello a.own ∷ ms)) tail,
    )
  where
    tails : (ps : List Piece) (code : ℤ) → map message_of ps ++ Stdout [] ∷ Stderr [] ∷ ExitCode code ∷ [] ≡ map message_of (ps ++ end_of Out ∷ end_of Errors ∷ []) ++ ExitCode code ∷ []
    tails [] code = refl
    tails (p ∷ ps) code = ap (λ r. message_of p ∷ r) (tails ps code)

-- after the input's end
serving_whole : {S : Type 0} (owes : S → List ℕ → Triple) (owed : List ℕ → Triple) (limit : ℕ) (a : AnsweringState S) (input sent : List ℕ) (code : ℤ) → 0 < limit → SendsOutputs owes owed limit a input sent
    → a.code ≡ Some code → (b : Bool) → a.closed ≡ b → Begins (IsServingStream a.own limit (owed input)) sent
serving_whole {S} owes owed limit a input sent code some s is true closed =
    let w = whole_stream owes owed limit a input sent code s is closed in
    (w.0, w.1, (a.waiting, w.2))
serving_whole {S} owes owed limit a input sent code some s is false closed =
    let G : Option ℤ → Type 0 = λ c. Gives owes owed c a input s.pieces in
    let g : Gives owes owed (Some code) a input s.pieces = subst G is s.gives in
    let outs : List Piece = single Out a.out in
    let errs : List Piece = single Errors a.err in
    let all : List Piece = s.pieces ++ (outs ++ errs) in
    let none : map message_of s.pieces ++ ends_if a.closed a.code ≡ map message_of s.pieces = ap (λ b. map message_of s.pieces ++ ends_if b a.code) closed ∙ append-nil (map message_of s.pieces) in
    let stream : sent ++ a.waiting ≡ flat_map written (Hello a.own ∷ map message_of s.pieces) = s.stream ∙ ap (λ ms. flat_map written (Hello a.own ∷ ms)) none in
    let more : List Message = map message_of ((outs ++ errs) ++ end_of Out ∷ end_of Errors ∷ []) ++ ExitCode (owed input).code ∷ [] in
    let messages : Hello a.own ∷ (map message_of s.pieces ++ more) ≡ Hello a.own ∷ (map message_of (all ++ end_of Out ∷ end_of Errors ∷ []) ++ ExitCode (owed input).code ∷ [])
    = ap (λ ms. Hello a.own ∷ ms) (sym (append_assoc (map message_of s.pieces) (map message_of ((outs ++ errs) ++ end_of Out ∷ end_of Errors ∷ [])) (ExitCode (owed input).code ∷ []))
    ∙ ap (λ ms. ms ++ ExitCode (owed input).code ∷ []) (sym (map_more s.pieces ((outs ++ errs) ++ end_of Out ∷ end_of Errors ∷ [])) ∙ ap (map message_of) (sym (append_assoc s.pieces (outs ++ errs) (end_of Out ∷ end_of Errors ∷ []))))) in
    let P : List Message → Type 0 = λ ms. IsPrefixOf sent (flat_map written ms) in (
      Hello a.own ∷ (map message_of (all ++ end_of Out ∷ end_of Errors ∷ []) ++ ExitCode (owed input).code ∷ []),
      record {
        pieces = all;
        each = each_more is_output limit s.pieces (outs ++ errs) s.each (each_more is_output limit outs errs (each_single is_output limit Out refl some a.out) (each_single is_output limit Errors refl some a.err));
        stdout = joined_append Out s.pieces (outs ++ errs)
            ∙ ap (λ x. joined Out s.pieces ++ x) (joined_append Out outs errs ∙ ap (λ x. x ++ joined Out errs) (joined_single Out a.out refl) ∙ ap (λ x. a.out ++ x) (joined_strange Errors Out a.err refl) ∙ append-nil a.out)
            ∙ sym (ap (λ t. t.stdout) g);
        stderr = joined_append Errors s.pieces (outs ++ errs)
            ∙ ap (λ x. joined Errors s.pieces ++ x) (joined_append Errors outs errs ∙ ap (λ x. x ++ joined Errors errs) (joined_strange Out Errors a.out refl) ∙ joined_single Errors a.err refl)
            ∙ sym (ap (λ t. t.stderr) g);
        is = refl;
      },
      subst P messages (begins_more sent a.waiting (Hello a.own ∷ map message_of s.pieces) more stream),
    )

pub serving_may_send : {S : Type 0} (owes : S → List ℕ → Triple) (owed : List ℕ → Triple) (s : ServingState S) (sent : List ℕ) → ServingStandsFor owes owed s sent
    → ServingMaySend s.answering.own s.answering.chunk owed s.inbox.got sent
serving_may_send {S} owes owed s sent stands = subst M stands.read.serves.version (by_version a.version stands.read.serves.sends)
  where
    a : AnsweringState S
    a = s.answering

    input : List ℕ
    input = (serving_sees s.inbox.got).input

    M : Option ℕ → Type 0
    M v = MatchOption v (sent ≡ [])
        (λ u. MatchBool (serving_sees s.inbox.got).ended (Begins (IsServingStream a.own (min a.chunk (most u)) (owed input)) sent) (Begins (IsServingBegun a.own (min a.chunk (most u)) owed input) sent))

    by_code : (v : ℕ) → SendsOutputs owes owed (min a.chunk (most v)) a input sent → (c : Option ℤ) → a.code ≡ c → M (Some v)
    by_code v h None is =
        let B : Bool → Type 0 = λ b. MatchBool b (Begins (IsServingStream a.own (min a.chunk (most v)) (owed input)) sent) (Begins (IsServingBegun a.own (min a.chunk (most v)) owed input) sent) in
        let ended : false ≡ (serving_sees s.inbox.got).ended = ap is_some (sym is) ∙ stands.read.serves.ended in
        subst B ended (serving_begun owes owed (min a.chunk (most v)) a input sent h is)
    by_code v h (Some code) is =
        let B : Bool → Type 0 = λ b. MatchBool b (Begins (IsServingStream a.own (min a.chunk (most v)) (owed input)) sent) (Begins (IsServingBegun a.own (min a.chunk (most v)) owed input) sent) in
        let ended : true ≡ (serving_sees s.inbox.got).ended = ap is_some (sym is) ∙ stands.read.serves.ended in
        subst B ended (serving_whole owes owed (min a.chunk (most v)) a input sent code (some_limit a.chunk v stands.chunk) h is a.closed refl)

    by_version : (v : Option ℕ) → SendsAnswers owes owed v a input sent → M v
    by_version None n = n.none
    by_version (Some v) h = by_code v h a.code refl

-- a side that is done has sent its whole stream, with that code
pub serving_sent_all : {S : Type 0} (owes : S → List ℕ → Triple) (owed : List ℕ → Triple) (s : ServingState S) (sent : List ℕ) (code : ℤ) → ServingStandsFor owes owed s sent
    → s.answering.outcome ≡ Some (outcome.Done code) → HasSent owed s sent code
serving_sent_all {S} owes owed s sent code stands is = by_version a.version refl stands.read.serves.sends
  where
    a : AnsweringState S
    a = s.answering

    input : List ℕ
    input = (serving_sees s.inbox.got).input

    by_version : (v : Option ℕ) → a.version ≡ v → SendsAnswers owes owed v a input sent → HasSent owed s sent code
    by_version None v_is h = absurd (false≢true (sym h.unclosed ∙ (stands.read.done code is).0.0))
    by_version (Some v) v_is h =
        let d = stands.read.done code is in
        let w = whole_stream owes owed (min a.chunk (most v)) a input sent code h d.1 d.0.0 in
        let G : Option ℤ → Type 0 = λ c. Gives owes owed c a input h.pieces in
        let g : Gives owes owed (Some code) a input h.pieces = subst G d.1 h.gives in
        record {
          all = record {
            version = v;
            agreed = sym stands.read.serves.version ∙ v_is;
            stream = w.0;
            is_stream = w.1;
            whole = sym (append-nil sent) ∙ ap (λ r. sent ++ r) (sym d.0.1) ∙ w.2;
          };
          code_is = sym (ap (λ t. t.code) g);
        }
