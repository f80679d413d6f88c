-- What a decoder answers is the reading of all bytes that it was fed.
use Rattle.std.proofs.Common.{◌≡◌, ℕ, ◌+◌, ◌<◌, ◌≤◌, ◌%◌, ◌^◌, ◌⊎◌, inl, inr, List, [], ◌∷◌, ◌++◌, length, take, drop, Option, Some, None, Result, Ok, Err, Bool, true, false, refl, sym, ◌∙◌, ap, subst, arith, length-append, append_assoc}
use Rattle.std.proofs.lemmas.List.{length-take-le, length-drop, append-nil, take-append-drop}
use Rattle.std.proofs.lemmas.Bool.{eqb-true, cases_Bool}
use Rattle.std.specs.Prelude.{nat_le, if◌then◌else◌, find, ◌==◌, IfOk, IfSome}
use Rattle.list_laws.specs.Lists.{IsPrefixOf}
use Rattle.qrexec_frame.specs.declared.kind.Channel.{Channel}
use Rattle.qrexec_frame.specs.declared.fault.FrameFault.{FrameFault}
use Rattle.qrexec_frame.specs.declared.fault.NextError.{NextError}
use Rattle.qrexec_frame.specs.declared.fault.NextError.TheVariants as error
use Rattle.qrexec_frame.specs.declared.message.Message.{Message}
use Rattle.qrexec_frame.specs.declared.message.Message.TheVariants as message
use Rattle.qrexec_frame.specs.Kinds.{kinds_of, kind_on, number_of, least_len, most_len}
use Rattle.qrexec_frame.specs.Messages.{kind_of, Fits, IsSpellable, GoesOn}
use Rattle.qrexec_frame.specs.Grammar.{number_at, Fault, UnknownType, TooLong, BadLength, NoNul, Says, Spelled, Shows}
use Rattle.qrexec_frame.specs.Fronts.{front, reading, fault_at}
use Rattle.qrexec_frame.specs.Streams.{Front, Whole, Bad, Short, Placed, Rest, FaultAt, read_on, then_reading}
use Rattle.qrexec_frame.specs.Decoding.{DecoderState, after_message, after_feed, Answers, IsOnlySpelled, FollowsGrammar, StandsFor, Reads}
use Rattle.qrexec_frame.proofs.TextLaws.{FitsText_field, FitsText_line}
use Rattle.qrexec_frame.proofs.StreamLaws.{read_on_whole, read_on_short, read_on_bad, reads_then}
use Rattle.qrexec_frame.proofs.BegunLaws.{short_begun}
use Rattle.qrexec_frame.proofs.FrontLaws.{front_no_type, front_too_long, front_bad_length, front_no_nul, front_whole}
use Rattle.qrexec_frame.proofs.SpellingLaws.{Standing, NoHeader, NoType, Long, OffRange, NoBody, Unended, Said, standing, shown_front, front_shown}
use Rattle.qrexec_frame.proofs.GrammarLaws.{Spelled_front, front_spelled, only_spelling, is_prefix_code}

-- ---- the type and the lengths of what was read

find_passes : {A : Type 0} (p : A → Bool) (xs : List A) (x : A) → find p xs ≡ Some x → p x ≡ true
find_passes p [] x is = cc
find_passes p (y ∷ xs) x is = by_test (λ there. find_passes p xs x there) (cases_Bool (p y))
  where
    by_test : (find p xs ≡ Some x → p x ≡ true) → ((p y ≡ true) ⊎ (p y ≡ false)) → p x ≡ true
    by_test next (inl passed) = let here : Some y ≡ Some x = rw passed at is in let same : y ≡ x = cc in rw (← same) passed
    by_test next (inr failed) = let there : find p xs ≡ Some x = rw failed at is in next there

-- a spelled message's type is one of the channel
pub spelled_goes : (channel : Channel) (bytes : List ℕ) (m : Message) → Spelled channel bytes m → GoesOn channel m
spelled_goes channel bytes m spelled =
    let passes = find_passes (λ k. number_at 0 bytes == number_of k) (kinds_of channel) (kind_of m) spelled.kind in
    let same : number_at 0 bytes ≡ number_of (kind_of m) = eqb-true (number_at 0 bytes) (number_of (kind_of m)) passes in
    ap (kind_on channel) (sym same) ∙ spelled.kind

-- what a body in the range says has room in its fields
says_fits : (body : List ℕ) (m : Message) → Says body m → least_len (kind_of m) ≤ length body → length body ≤ most_len (kind_of m) → Fits m
says_fits body (message.Hello version) says least most = _
says_fits body (message.Stdin bytes) says least most = rw says most
says_fits body (message.Stdout bytes) says least most = rw says most
says_fits body (message.Stderr bytes) says least most = rw says most
says_fits body (message.ExitCode code) says least most = _
says_fits body (message.Exec domain port line) says least most = rw says.2.1 (FitsText_line 8 65527 body says.2.0 (omega (arith, least)) (omega (arith, most)))
says_fits body (message.JustExec domain port line) says least most = rw says.2.1 (FitsText_line 8 65527 body says.2.0 (omega (arith, least)) (omega (arith, most)))
says_fits body (message.Connect domain port ident) says least most = rw says.2 (FitsText_field 8 32 body)
says_fits body (message.Refused ident) says least most = rw says (FitsText_field 0 32 body)
says_fits body (message.Terminated domain port) says least most = _
says_fits body (message.Trigger3 target ident service) says least most =
    (rw says.0 (FitsText_field 0 64 body), rw says.1 (FitsText_field 64 32 body), rw says.2.1 (FitsText_line 96 65439 body says.2.0 (omega (arith, least)) (omega (arith, most))))
says_fits body (message.Trigger target ident service) says least most =
    (rw says.1 (FitsText_field 64 32 body), rw says.2 (FitsText_field 96 32 body), rw says.0 (FitsText_field 0 64 body))

pub spelled_fits : (channel : Channel) (bytes : List ℕ) (m : Message) → Spelled channel bytes m → Fits m
spelled_fits channel bytes m spelled =
    let size : length (drop 8 bytes) ≡ number_at 4 bytes = omega (arith, spelled.len, length-drop 8 bytes) in
    says_fits (drop 8 bytes) m spelled.says (rw size spelled.least) (rw size spelled.most)

-- ---- one answer by the grammar

-- what a whole message at the front leaves no room for
pub only_spelled : (channel : Channel) (bytes : List ℕ) (n : ℕ) (m : Message) → front channel bytes ≡ Whole m n → IsOnlySpelled channel bytes n m
only_spelled channel bytes n m is =
    let found = front_spelled channel bytes m n is in
    record {
      within = found.1;
      spelled = found.2;
      only = λ k other within spelled.
          let parts : take k bytes ++ drop k bytes ≡ take n bytes ++ drop n bytes = take-append-drop k bytes ∙ sym (take-append-drop n bytes) in
          let one = only_spelling channel (take k bytes) (take n bytes) (drop k bytes) (drop n bytes) other m spelled found.2 parts in
          (sym (length-take-le k bytes within) ∙ ap length one.0 ∙ length-take-le n bytes found.1, one.1);
    }

-- a spelled beginning stands at the front
spelled_begins : (channel : Channel) (bytes : List ℕ) (n : ℕ) (m : Message) → n ≤ length bytes → Spelled channel (take n bytes) m → front channel bytes ≡ Whole m n
spelled_begins channel bytes n m within spelled =
    ap (front channel) (sym (take-append-drop n bytes)) ∙ Spelled_front channel (take n bytes) (drop n bytes) m spelled ∙ ap (λ k. as_front m k) (length-take-le n bytes within)
  where
    as_front : Message → ℕ → Front Message Fault
    as_front message k = Whole message k

pub answers_grammar : (old new : DecoderState) (r : Result (Option Message) NextError) → Answers old new r → FollowsGrammar old new r
answers_grammar old new (Ok (Some m)) answer = (answer.0, only_spelled old.channel old.left answer.0 m answer.1, answer.2)
answers_grammar old new (Ok None) answer = (
  λ n m within spelled. let whole = spelled_begins old.channel old.left n m within spelled in let short = answer.0 in cc,
  λ g shows. let bad = shown_front old.channel old.left g shows in let short = answer.0 in cc,
  short_begun old.channel old.left answer.0,
)
answers_grammar old new (Err (error.Fault f)) answer = (
  answer.0,
  front_shown old.channel old.left answer.0 answer.1,
  answer.2,
  λ n m within spelled. let whole = spelled_begins old.channel old.left n m within spelled in let bad = answer.1 in cc,
)
answers_grammar old new (Err error.Memory) answer = answer.3

-- ---- all bytes fed

-- the reading of all bytes fed goes on from what was given
pub stands_reading : (d : DecoderState) (fed : List ℕ) (given : List (Placed Message)) (s : StandsFor d fed given)
    → reading d.channel fed ≡ then_reading given (read_on (front d.channel) (d.left ++ s.after) (length s.before) 0)
stands_reading d fed given s =
    let done : (read_on (front d.channel) s.before 0 0).ending ≡ Rest 0 = ap (λ r. r.ending) s.given_is in
    let placed : (read_on (front d.channel) s.before 0 0).placed ≡ given = ap (λ r. r.placed) s.given_is in
    let zero_first : 0 + length s.before ≡ length s.before = omega arith in
    let all = reads_then (front d.channel) (is_prefix_code d.channel) s.before (d.left ++ s.after) 0 0 (omega arith) done in
    ap (reading d.channel) s.fed_is ∙ all ∙ rw (placed, zero_first) refl

-- more bytes for a decoder; those for a faulted one are skipped
pub feed_stands : (d : DecoderState) (fed piece : List ℕ) (given : List (Placed Message)) → StandsFor d fed given → StandsFor (after_feed d piece) (fed ++ piece) given
feed_stands d fed piece given s = by_fault d.fault refl
  where
    Stands : DecoderState → Type 0
    Stands e = StandsFor e (fed ++ piece) given

    by_fault : (o : Option FrameFault) → d.fault ≡ o → StandsFor (after_feed d piece) (fed ++ piece) given
    by_fault None is =
        let none : s.after ≡ [] = s.none_after is in
        let state : record d { passed = if nat_le (length d.left) d.passed then 0 else d.passed; left = d.left ++ piece } ≡ after_feed d piece = rw is refl in
        let P : DecoderState → Type 0 = λ e. StandsFor e (fed ++ piece) given in
        subst P state (record {
          before = s.before;
          after = [];
          fed_is = ap (λ x. x ++ piece) s.fed_is ∙ rw none (simp (append_assoc, append-nil));
          at_is = s.at_is;
          given_is = s.given_is;
          none_after = λ _. refl;
          faulty = λ f some. cc;
        })
    by_fault (Some f) is =
        let state : d ≡ after_feed d piece = rw is refl in
        let P : DecoderState → Type 0 = λ e. StandsFor e (fed ++ piece) given in
        subst P state (record {
          before = s.before;
          after = s.after ++ piece;
          fed_is = ap (λ x. x ++ piece) s.fed_is ∙ simp append_assoc;
          at_is = s.at_is;
          given_is = s.given_is;
          none_after = λ none. cc;
          faulty = s.faulty;
        })

-- an offset counted modulo 2 ^ 64 stands for itself in a fault
fault_at_mod : (at : ℕ) (g : Fault) → fault_at (at % 2 ^ 64) g ≡ fault_at at g
fault_at_mod at g = by_fault g
  where
    twice : (at % 2 ^ 64) % 2 ^ 64 ≡ at % 2 ^ 64
    twice = omega arith

    by_fault : (g : Fault) → fault_at (at % 2 ^ 64) g ≡ fault_at at g
    by_fault (UnknownType number) = rw twice refl
    by_fault (TooLong number len) = rw twice refl
    by_fault (BadLength number len) = rw twice refl
    by_fault (NoNul number) = rw twice refl

-- if the bytes that are left show a fault, the reading of all bytes ends with it
bad_reading : (d : DecoderState) (fed : List ℕ) (given : List (Placed Message)) (s : StandsFor d fed given) (g : Fault) → front d.channel d.left ≡ Bad g
    → reading d.channel fed ≡ record { placed = given; ending = FaultAt (length s.before) g }
bad_reading d fed given s g bad =
    let stays : front d.channel (d.left ++ s.after) ≡ Bad g = (is_prefix_code d.channel).bad_stays d.left s.after g bad in
    let some : 0 < length (d.left ++ s.after) = shown_some d.channel (d.left ++ s.after) g (front_shown d.channel (d.left ++ s.after) g stays) in
    let ended = read_on_bad (front d.channel) (d.left ++ s.after) (length s.before) g some stays in
    stands_reading d fed given s ∙ rw ended (rw (append-nil given) refl)
  where
    shown_some : (channel : Channel) (bytes : List ℕ) (g : Fault) → Shows channel bytes g → 0 < length bytes
    shown_some channel bytes (UnknownType number) shows = omega (arith, shows.0)
    shown_some channel bytes (TooLong number len) shows = omega (arith, shows.1.there)
    shown_some channel bytes (BadLength number len) shows = omega (arith, shows.1.there)
    shown_some channel bytes (NoNul number) shows = omega (arith, shows.2.there)

-- a message that was given is the next of the reading
message_stands : (d : DecoderState) (fed : List ℕ) (given : List (Placed Message)) (s : StandsFor d fed given) (m : Message) (n : ℕ) → d.fault ≡ None → front d.channel d.left ≡ Whole m n
    → StandsFor (after_message d n) fed (given ++ record { at = length s.before; message = m } ∷ [])
message_stands d fed given s m n sound whole = record {
  before = s.before ++ take n d.left;
  after = [];
  fed_is = s.fed_is ∙ rw (s.none_after sound) parts;
  at_is = omega (arith, s.at_is, size, length-append s.before (take n d.left));
  given_is = joined ∙ rw (placed, zero_first) (rw one refl);
  none_after = λ _. refl;
  faulty = λ f some. cc;
}
  where
    found : (0 < n) × (n ≤ length d.left) × Spelled d.channel (take n d.left) m
    found = front_spelled d.channel d.left m n whole

    size : length (take n d.left) ≡ n
    size = length-take-le n d.left found.1

    parts : s.before ++ (d.left ++ []) ≡ (s.before ++ take n d.left) ++ (drop n d.left ++ [])
    parts = rw (append-nil d.left, append-nil (drop n d.left)) (ap (λ x. s.before ++ x) (sym (take-append-drop n d.left)) ∙ sym (append_assoc s.before (take n d.left) (drop n d.left)))

    done : (read_on (front d.channel) s.before 0 0).ending ≡ Rest 0
    done = ap (λ r. r.ending) s.given_is

    placed : (read_on (front d.channel) s.before 0 0).placed ≡ given
    placed = ap (λ r. r.placed) s.given_is

    zero_first : 0 + length s.before ≡ length s.before
    zero_first = omega arith

    joined : reading d.channel (s.before ++ take n d.left) ≡ then_reading (read_on (front d.channel) s.before 0 0).placed (read_on (front d.channel) (take n d.left) (0 + length s.before) 0)
    joined = reads_then (front d.channel) (is_prefix_code d.channel) s.before (take n d.left) 0 0 (omega arith) done

    last : read_on (front d.channel) (take n d.left ++ []) (length s.before) 0 ≡ record { placed = record { at = length s.before; message = m } ∷ []; ending = Rest 0 }
    last = read_on_whole (front d.channel) m (take n d.left) [] (length s.before) (omega (arith, size, found.0)) (Spelled_front d.channel (take n d.left) [] m found.2)

    one : read_on (front d.channel) (take n d.left) (length s.before) 0 ≡ record { placed = record { at = length s.before; message = m } ∷ []; ending = Rest 0 }
    one = ap (λ bytes. read_on (front d.channel) bytes (length s.before) 0) (sym (append-nil (take n d.left))) ∙ last

-- what was given is the beginning of the reading of all bytes fed
given_read : (d : DecoderState) (fed : List ℕ) (given : List (Placed Message)) → StandsFor d fed given → IsPrefixOf given (reading d.channel fed).placed
given_read d fed given s = (_, ap (λ r. r.placed) (sym (stands_reading d fed given s)))

-- an answer of a decoder that is not faulted tells the reading of all bytes fed
answers_reads : (old new : DecoderState) (r : Result (Option Message) NextError) → old.fault ≡ None → Answers old new r → (fed : List ℕ) (given : List (Placed Message)) → StandsFor old fed given
    → Reads old new fed given r
answers_reads old new (Ok (Some m)) sound answer fed given s =
    let P : DecoderState → Type 0 = λ d. StandsFor d fed (given ++ record { at = length s.before; message = m } ∷ []) in
    let stands = message_stands old fed given s m answer.0 sound answer.1 in
    (length s.before, s.at_is, subst P (sym answer.2) stands, given_read (after_message old answer.0) fed (given ++ record { at = length s.before; message = m } ∷ []) stands)
answers_reads old new (Ok None) sound answer fed given s =
    let P : DecoderState → Type 0 = λ d. StandsFor d fed given in
    let left : old.left ++ s.after ≡ old.left = rw (s.none_after sound) (append-nil old.left) in
    let short = read_on_short (front old.channel) old.left (length s.before) answer.0 in
    (subst P (sym answer.1) s, stands_reading old fed given s ∙ rw left (rw short (rw (append-nil given) refl)))
answers_reads old new (Err (error.Fault f)) sound answer fed given s =
    let P : DecoderState → Type 0 = λ d. StandsFor d fed given in
    let stands : StandsFor (record old { fault = Some f }) fed given = record {
      before = s.before;
      after = s.after;
      fed_is = s.fed_is;
      at_is = s.at_is;
      given_is = s.given_is;
      none_after = λ none. cc;
      faulty = λ other is. (answer.0, answer.1, (let same : f ≡ other = cc in sym same ∙ answer.2));
    } in (
      length s.before,
      answer.0,
      subst P (sym answer.3) stands,
      bad_reading old fed given s answer.0 answer.1,
      answer.2 ∙ ap (λ at. fault_at at answer.0) s.at_is ∙ fault_at_mod (length s.before) answer.0,
    )
answers_reads old new (Err error.Memory) sound answer fed given s =
    let P : DecoderState → Type 0 = λ d. StandsFor d fed given in subst P (sym answer.3) s

-- a faulted decoder answers its fault
faulted_reads : (old new : DecoderState) (f : FrameFault) → old.fault ≡ Some f → new ≡ old → (fed : List ℕ) (given : List (Placed Message)) → StandsFor old fed given
    → Reads old new fed given (Err (error.Fault f))
faulted_reads old new f is same fed given s =
    let P : DecoderState → Type 0 = λ d. StandsFor d fed given in
    let bad = s.faulty f is in
    (length s.before, bad.0, subst P (sym same) s, bad_reading old fed given s bad.0 bad.1, bad.2 ∙ ap (λ at. fault_at at bad.0) s.at_is ∙ fault_at_mod (length s.before) bad.0)

-- every answer of a decoder tells the reading of all bytes fed
pub next_reads : (old new : DecoderState) (r : Result (Option Message) NextError) → (old.fault ≡ None → Answers old new r)
    → ((f : FrameFault) → old.fault ≡ Some f → (r ≡ Err (error.Fault f)) × (new ≡ old)) → (fed : List ℕ) (given : List (Placed Message)) → StandsFor old fed given → Reads old new fed given r
next_reads old new r answer faulted fed given s = by_fault old.fault refl
  where
    by_fault : (o : Option FrameFault) → old.fault ≡ o → Reads old new fed given r
    by_fault None is = answers_reads old new r is (answer is) fed given s
    by_fault (Some f) is =
        let told = faulted f is in
        let P : Result (Option Message) NextError → Type 0 = λ q. Reads old new fed given q in
        subst P (sym told.0) (faulted_reads old new f is told.1 fed given s)

-- what a decoder gives is of its channel
pub next_goes : (old new : DecoderState) (m : Message) → (old.fault ≡ None → Answers old new (Ok (Some m)))
    → ((f : FrameFault) → old.fault ≡ Some f → (Ok (Some m) ≡ Err (error.Fault f)) × (new ≡ old)) → GoesOn old.channel m
next_goes old new m answer faulted = by_fault old.fault refl
  where
    by_fault : (o : Option FrameFault) → old.fault ≡ o → GoesOn old.channel m
    by_fault None is = let a = answer is in spelled_goes old.channel (take a.0 old.left) m (front_spelled old.channel old.left m a.0 a.1).2
    by_fault (Some f) is = let told = (faulted f is).0 in cc

-- what a decoder gives has a spelling and is of its channel
pub next_fits : (old new : DecoderState) (r : Result (Option Message) NextError) → (old.fault ≡ None → Answers old new r)
    → ((f : FrameFault) → old.fault ≡ Some f → (r ≡ Err (error.Fault f)) × (new ≡ old)) → IfOk r (λ found. IfSome found IsSpellable)
    → IfOk r (λ found. IfSome found (λ m. IsSpellable m × GoesOn old.channel m))
next_fits old new (Ok (Some m)) answer faulted fits = (fits, next_goes old new m answer faulted)
next_fits old new (Ok None) answer faulted fits = fits
next_fits old new (Err e) answer faulted fits = fits

-- less than a message is fewer bytes than the longest message has
pub short_less : (channel : Channel) (bytes : List ℕ) → front channel bytes ≡ Short → length bytes < 65544
short_less channel bytes is = by_standing (standing channel bytes)
  where
    by_standing : Standing channel bytes → length bytes < 65544
    by_standing (NoHeader less) = omega (arith, less)
    by_standing (NoType there none) = let here = front_no_type channel bytes there none in cc
    by_standing (Long kind header long) = let here = front_too_long channel bytes _ _ kind header long in cc
    by_standing (OffRange kind header short off) = let here = front_bad_length channel bytes _ _ kind header short off in cc
    by_standing (NoBody kind header range less) = omega (arith, less, range.short)
    by_standing (Unended kind header range there line last) = let here = front_no_nul channel bytes _ _ kind header range there line last in cc
    by_standing (Said kind header range there ended) = let here = front_whole channel bytes _ _ kind header range there ended in cc

-- how few bytes are left if a decoder returns no message
pub next_short : (old new : DecoderState) (r : Result (Option Message) NextError) → (old.fault ≡ None → Answers old new r)
    → ((f : FrameFault) → old.fault ≡ Some f → (r ≡ Err (error.Fault f)) × (new ≡ old)) → r ≡ Ok None → length old.left < 65544
next_short old new r answer faulted is = by_fault old.fault refl
  where
    by_fault : (o : Option FrameFault) → old.fault ≡ o → length old.left < 65544
    by_fault None none =
        let P : Result (Option Message) NextError → Type 0 = λ q. Answers old new q in
        short_less old.channel old.left (subst P is (answer none)).0
    by_fault (Some f) some = let told = (faulted f some).0 in absurd (cc)
