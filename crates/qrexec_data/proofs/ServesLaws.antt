-- A side that serves keeps what is seen of one more message, and owes the rest.
use Rattle.std.proofs.Common.{◌≡◌, ℕ, ◌<◌, ◌^◌, List, [], ◌∷◌, ◌++◌, map, refl, ap, sym, ◌∙◌, subst, append_assoc, Option, Some, None}
use Rattle.std.proofs.lemmas.List.{append-nil}
use Rattle.std.specs.Prelude.{true, false, Bool, ℤ, is_some, min}
use Rattle.std.specs.List.{flat_map}
use Rattle.list_laws.proofs.Results.{none_is}
use Rattle.qrexec_frame.specs.declared.message.Message.{Message}
use Rattle.qrexec_frame.specs.declared.message.Message.TheVariants.{Hello, Stdin}
use Rattle.qrexec_frame.specs.Messages.{written}
use Rattle.qrexec_frame.specs.Grammar.{Fault}
use Rattle.qrexec_frame.specs.Streams.{Placed, Ending, Rest}
use Rattle.qrexec_hello.specs.Greeting.{greeting}
use Rattle.service_gate.specs.Triple.{Triple, after_outputs, Feeds, Ends}
use Rattle.qrexec_data.specs.declared.outcome.SessionFault.{SessionFault}
use Rattle.qrexec_data.specs.declared.outcome.SessionFault.TheVariants as fault
use Rattle.qrexec_data.specs.declared.outcome.Outcome.{Outcome}
use Rattle.qrexec_data.specs.declared.outcome.Outcome.TheVariants as outcome
use Rattle.qrexec_data.specs.Pieces.{In, Out, Err as Errors, Piece, message_of, joined, has_ended, no_bytes}
use Rattle.qrexec_data.specs.Seeing.{Seen, Undecided, Faulty, Carries, sees_on, sees_all, decided, number, serving_use}
use Rattle.qrexec_data.specs.Sending.{agreed_by, most}
use Rattle.qrexec_data.specs.Answering.{AnsweringState, AnswersTo, Greets, Stray, Late, Fed, Ended, after_greeting, faulted}
use Rattle.qrexec_data.specs.ServingSide.{Gives, ends_if, SendsOutputs, SendsNothing, SendsAnswers, Serves}
use Rattle.qrexec_data.proofs.HearingLaws.{Greeted, Accepted, Refused, greeted_any, Follows, follows, joined_piece, ended_piece}
use Rattle.qrexec_data.proofs.RepliesLaws.{placed_at, small_offset}
use Rattle.qrexec_data.proofs.PieceLaws.{has_bytes}

-- after one more message: nothing is decided, or whatever follows it makes no difference
pub data Heard {S : Type 0} (owes : S → List ℕ → Triple) (owed : List ℕ → Triple) (sent : List ℕ) (placed : List (Placed Message)) (p : Placed Message) (a : AnsweringState S) : Type 0 where
  GoesOn : a.outcome ≡ None → a.closed ≡ false → Serves owes owed a sent (placed ++ p ∷ []) (sees_all serving_use (placed ++ p ∷ []) (Rest 0)) → Heard owes owed sent placed p a
  Decides : (f : SessionFault) → a.outcome ≡ Some (outcome.Fault f) → ((rest : List (Placed Message)) (ending : Ending Fault) → Serves owes owed a sent (placed ++ p ∷ rest) (sees_all serving_use (placed ++ p ∷ rest) ending))
      → Heard owes owed sent placed p a

not_none : {A : Type 0} (o : Option A) (x : A) → o ≡ Some x → o ≡ None → ⊥
not_none None x is none = cc
not_none (Some y) x is none = cc

-- ---- what is owed

pub gives_faulted : {S : Type 0} (owes : S → List ℕ → Triple) (owed : List ℕ → Triple) (code : Option ℤ) (a : AnsweringState S) (o : Option Outcome) (input : List ℕ) (pieces : List Piece)
    → Gives owes owed code a input pieces → Gives owes owed code (record a { outcome = o }) input pieces
gives_faulted owes owed None a o input pieces g = g
gives_faulted owes owed (Some code) a o input pieces g = g

pub sends_faulted : {S : Type 0} (owes : S → List ℕ → Triple) (owed : List ℕ → Triple) (version : Option ℕ) (a : AnsweringState S) (o : Option Outcome) (input sent : List ℕ)
    → SendsAnswers owes owed version a input sent → SendsAnswers owes owed version (record a { outcome = o }) input sent
sends_faulted owes owed None a o input sent s = record { none = s.none; waits = s.waits; unfed = s.unfed; unended = s.unended; unclosed = s.unclosed; gives = s.gives }
sends_faulted owes owed (Some version) a o input sent s = record { pieces = s.pieces; each = s.each; gives = gives_faulted owes owed a.code a o input s.pieces s.gives; stream = s.stream; done = s.done }

-- more input was fed
fed_gives : {S : Type 0} (owes : S → List ℕ → Triple) (owed : List ℕ → Triple) (a b : AnsweringState S) (input bytes : List ℕ) (pieces : List Piece) → Gives owes owed None a input pieces
    → Feeds (owes a.service) (owes b.service) bytes a.out b.out a.err b.err → Gives owes owed None b (input ++ bytes) pieces
fed_gives owes owed a b input bytes pieces g f = λ more.
    ap owed (append_assoc input bytes more) ∙ g (bytes ++ more) ∙ ap (λ t. after_outputs (joined Out pieces ++ a.out) (joined Errors pieces ++ a.err) t) (f.owed more)
    ∙ (λ i. record { stdout = both (joined Out pieces) a.out f.stdout b.out (owes b.service more).stdout f.out_grows i; stderr = both (joined Errors pieces) a.err f.stderr b.err (owes b.service more).stderr f.err_grows i; code = (owes b.service more).code })
  where
    both : (j o s n t : List ℕ) → n ≡ o ++ s → (j ++ o) ++ (s ++ t) ≡ (j ++ n) ++ t
    both j o s n t is = sym (append_assoc (j ++ o) s t) ∙ ap (λ x. x ++ t) (append_assoc j o s ∙ ap (λ x. j ++ x) (sym is))

-- the input has ended
ended_gives : {S : Type 0} (owes : S → List ℕ → Triple) (owed : List ℕ → Triple) (a b : AnsweringState S) (code : ℤ) (input : List ℕ) (pieces : List Piece) → Gives owes owed None a input pieces
    → Ends (owes a.service []) code a.out b.out a.err b.err → Gives owes owed (Some code) b (input ++ []) pieces
ended_gives owes owed a b code input pieces g e =
    g [] ∙ (λ i. record { stdout = both (joined Out pieces) a.out (owes a.service []).stdout b.out e.out_ends i; stderr = both (joined Errors pieces) a.err (owes a.service []).stderr b.err e.err_ends i; code = sym e.code_is i })
  where
    both : (j o t n : List ℕ) → n ≡ o ++ t → (j ++ o) ++ t ≡ j ++ n
    both j o t n is = append_assoc j o t ∙ ap (λ x. j ++ x) (sym is)

-- ---- the first message

hears_first : {S : Type 0} (owes : S → List ℕ → Triple) (owed : List ℕ → Triple) (sent : List ℕ) (old new : AnsweringState S) (m : Message) (at : ℕ)
    → Serves owes owed old sent [] (decided Undecided) → old.outcome ≡ None → AnswersTo owes m at old new → Heard owes owed sent [] (placed_at at m) new
hears_first {S} owes owed sent old new m at k none (Greets unversioned is) = subst Is (sym is) (by_greeted (greeted_any old.own m))
  where
    Is : AnsweringState S → Type 0
    Is x = Heard owes owed sent [] (placed_at at m) x

    version : old.version ≡ None
    version = k.version

    V : Option ℕ → Type 0
    V v = SendsAnswers owes owed v old [] sent

    n : SendsNothing owes owed old [] sent
    n = subst V version k.sends

    greets : (v : ℕ) → SendsOutputs owes owed (min old.chunk (most v)) (record old { version = Some v; waiting = old.waiting ++ written (Hello old.own) }) [] sent
    greets v =
        let G : Option ℤ → Type 0 = λ c. Gives owes owed c (record old { version = Some v; waiting = old.waiting ++ written (Hello old.own) }) [] [] in
        record {
          pieces = [];
          each = tt;
          gives = subst G (sym n.unended) n.gives;
          stream = rw (n.none, n.waits, n.unclosed) (sym (append-nil (written (Hello old.own))));
          done = λ closed. let no : false ≡ true = sym n.unclosed ∙ closed in cc;
        }

    by_greeted : Greeted old.own m → Is (after_greeting (greeting old.own m) old)
    by_greeted (Accepted v low accepts low_is) =
        let after : after_greeting (greeting old.own m) old ≡ record old { version = Some v; waiting = old.waiting ++ written (Hello old.own) } = rw accepts refl in
        let seen : sees_all serving_use (placed_at at m ∷ []) (Rest 0) ≡ decided Undecided = rw low_is refl in
        let agreed : Some v ≡ agreed_by old.own (placed_at at m ∷ []) = rw accepts refl in
        let P : Seen → Type 0 = λ x. Serves owes owed (record old { version = Some v; waiting = old.waiting ++ written (Hello old.own) }) sent (placed_at at m ∷ []) x in
        subst Is (sym after) (GoesOn none n.unclosed (subst P (sym seen) (record { outcome = rw none refl; ended = k.ended; version = agreed; sends = greets v })))
    by_greeted (Refused f refuses two) =
        let after : after_greeting (greeting old.own m) old ≡ faulted (fault.Hello f) old = rw refuses refl in
        subst Is (sym after) (Decides (fault.Hello f) refl (λ rest ending.
        let seen : sees_all serving_use (placed_at at m ∷ rest) ending ≡ decided (Faulty (fault.Hello f)) = rw two refl in
        let agreed : None ≡ agreed_by old.own (placed_at at m ∷ rest) = rw refuses refl in
        let P : Seen → Type 0 = λ x. Serves owes owed (faulted (fault.Hello f) old) sent (placed_at at m ∷ rest) x in
        subst P (sym seen) (record { outcome = refl; ended = k.ended; version = version ∙ agreed; sends = sends_faulted owes owed old.version old (Some (outcome.Fault (fault.Hello f))) [] sent k.sends })))
hears_first owes owed sent old new m at k none (Stray some stray is) = absurd (none_is old.version k.version some)
hears_first owes owed sent old new m at k none (Late some bytes m_is ended is) = absurd (none_is old.version k.version some)
hears_first owes owed sent old new m at k none (Fed some bytes m_is more unended feeds) = absurd (none_is old.version k.version some)
hears_first owes owed sent old new m at k none (Ended some m_is unended ends) = absurd (none_is old.version k.version some)

-- ---- the messages after it

record Later {S : Type 0} (owes : S → List ℕ → Triple) (owed : List ℕ → Triple) (sent : List ℕ) (old : AnsweringState S) (q : Placed Message) (placed : List (Placed Message)) (m : Message) (at : ℕ) : Type 0 where
  version : ℕ
  agreed : (rest : List (Placed Message)) → Some version ≡ agreed_by old.own (q ∷ rest)
  greeted : old.version ≡ Some version
  pieces : List Piece
  undecided : old.outcome ≡ None
  ended : is_some old.code ≡ has_ended In pieces
  sends : SendsAnswers owes owed old.version old (joined In pieces) sent
  seen : (rest : List (Placed Message)) (ending : Ending Fault) → (now : List Piece) × (has_ended In now ≡ has_ended In pieces)
      × (sees_all serving_use ((q ∷ placed) ++ placed_at at m ∷ rest) ending
      ≡ record { pieces = pieces ++ (sees_on serving_use (placed_at at m ∷ rest) ending now).pieces; verdict = (sees_on serving_use (placed_at at m ∷ rest) ending now).verdict })

later : {S : Type 0} (owes : S → List ℕ → Triple) (owed : List ℕ → Triple) (sent : List ℕ) (old : AnsweringState S) (q : Placed Message) (placed : List (Placed Message)) (m : Message) (at : ℕ)
    → Serves owes owed old sent (q ∷ placed) (sees_all serving_use (q ∷ placed) (Rest 0)) → old.outcome ≡ None → Later owes owed sent old q placed m at
later owes owed sent old q placed m at k none =
    let undecided : (sees_all serving_use (q ∷ placed) (Rest 0)).verdict ≡ Undecided = rw none at k.outcome in
    let f : Follows serving_use old.own q placed (placed_at at m) = follows serving_use old.own q placed (placed_at at m) undecided in
    record {
      version = f.version;
      agreed = λ rest. sym (f.agreed rest);
      greeted = k.version ∙ f.agreed placed;
      pieces = (sees_all serving_use (q ∷ placed) (Rest 0)).pieces;
      undecided = none;
      ended = k.ended;
      sends = k.sends;
      seen = λ rest ending. let s = f.seen rest ending in (s.0, s.1 In, s.2);
    }

-- the message decides: it is a fault
over : {S : Type 0} (owes : S → List ℕ → Triple) (owed : List ℕ → Triple) (sent : List ℕ) (old : AnsweringState S) (q : Placed Message) (placed : List (Placed Message)) (m : Message) (at : ℕ)
    → (l : Later owes owed sent old q placed m at) (f : SessionFault)
    → ((now : List Piece) (rest : List (Placed Message)) (ending : Ending Fault) → has_ended In now ≡ has_ended In l.pieces → sees_on serving_use (placed_at at m ∷ rest) ending now ≡ decided (Faulty f))
    → Heard owes owed sent (q ∷ placed) (placed_at at m) (faulted f old)
over owes owed sent old q placed m at l f decides = Decides f refl (λ rest ending.
    let s = l.seen rest ending in
    let d : sees_on serving_use (placed_at at m ∷ rest) ending s.0 ≡ decided (Faulty f) = decides s.0 rest ending s.1 in
    let all : sees_all serving_use ((q ∷ placed) ++ placed_at at m ∷ rest) ending ≡ record { pieces = l.pieces; verdict = Faulty f }
    = s.2 ∙ ap (λ x. behind l.pieces x) d ∙ (λ i. record { pieces = append-nil l.pieces i; verdict = Faulty f }) in
    let P : Seen → Type 0 = λ x. Serves owes owed (faulted f old) sent ((q ∷ placed) ++ placed_at at m ∷ rest) x in
    subst P (sym all) (record { outcome = refl; ended = l.ended; version = l.greeted ∙ l.agreed (placed ++ placed_at at m ∷ rest); sends = sends_faulted owes owed old.version old (Some (outcome.Fault f)) (joined In l.pieces) sent l.sends }))
  where
    behind : List Piece → Seen → Seen
    behind pieces x = record { pieces = pieces ++ x.pieces; verdict = x.verdict }

unclosed : {S : Type 0} (owes : S → List ℕ → Triple) (owed : List ℕ → Triple) (limit : ℕ) (a : AnsweringState S) (input sent : List ℕ) → SendsOutputs owes owed limit a input sent → a.code ≡ None → a.closed ≡ false
unclosed owes owed limit a input sent s none = by_closed a.closed refl
  where
    by_closed : (b : Bool) → a.closed ≡ b → a.closed ≡ false
    by_closed true is = absurd (none_is a.code none (s.done is).2)
    by_closed false is = is

-- the message carries input
on : {S : Type 0} (owes : S → List ℕ → Triple) (owed : List ℕ → Triple) (sent : List ℕ) (old : AnsweringState S) (q : Placed Message) (placed : List (Placed Message)) (m : Message) (at : ℕ)
    → (l : Later owes owed sent old q placed m at) (bytes : List ℕ) → m ≡ Stdin bytes → old.code ≡ None → (new : AnsweringState S)
    → new.own ≡ old.own → new.version ≡ old.version → new.outcome ≡ None → new.closed ≡ false → is_some new.code ≡ no_bytes bytes
    → SendsAnswers owes owed new.version new (joined In l.pieces ++ bytes) sent → Heard owes owed sent (q ∷ placed) (placed_at at m) new
on owes owed sent old q placed m at l bytes m_is unended new own same none shut code sends =
    let piece : Piece = record { stream = In; bytes = bytes } in
    let s = l.seen [] (Rest 0) in
    let none_ended : has_ended In l.pieces ≡ false = sym l.ended ∙ rw unended refl in
    let carries : serving_use m ≡ Carries piece = ap serving_use m_is in
    let open_now : has_ended In s.0 ≡ false = s.1 ∙ none_ended in
    let one : sees_on serving_use (placed_at at m ∷ []) (Rest 0) s.0 ≡ record { pieces = piece ∷ []; verdict = Undecided } = rw (carries, open_now) refl in
    let all : sees_all serving_use ((q ∷ placed) ++ placed_at at m ∷ []) (Rest 0) ≡ record { pieces = l.pieces ++ piece ∷ []; verdict = Undecided } = s.2 ∙ ap (λ x. behind l.pieces x) one in
    let P : Seen → Type 0 = λ x. Serves owes owed new sent ((q ∷ placed) ++ placed_at at m ∷ []) x in
    let I : List ℕ → Type 0 = λ input. SendsAnswers owes owed new.version new input sent in
    GoesOn none shut (subst P (sym all) (record {
      outcome = rw none refl;
      ended = code ∙ sym (ended_piece In l.pieces piece refl none_ended);
      version = same ∙ l.greeted ∙ l.agreed (placed ++ placed_at at m ∷ []) ∙ ap (λ n. agreed_by n ((q ∷ placed) ++ placed_at at m ∷ [])) (sym own);
      sends = subst I (sym (joined_piece In l.pieces piece refl)) sends;
    }))
  where
    behind : List Piece → Seen → Seen
    behind pieces x = record { pieces = pieces ++ x.pieces; verdict = x.verdict }

hears_later : {S : Type 0} (owes : S → List ℕ → Triple) (owed : List ℕ → Triple) (sent : List ℕ) (old new : AnsweringState S) (q : Placed Message) (placed : List (Placed Message)) (m : Message) (at : ℕ)
    → at < 2 ^ 64 → Later owes owed sent old q placed m at → AnswersTo owes m at old new → Heard owes owed sent (q ∷ placed) (placed_at at m) new
hears_later owes owed sent old new q placed m at small l (Greets unversioned is) = absurd (not_none old.version l.version l.greeted unversioned)
hears_later {S} owes owed sent old new q placed m at small l (Stray some stray is) =
    let Is : AnsweringState S → Type 0 = λ x. Heard owes owed sent (q ∷ placed) (placed_at at m) x in
    subst Is (sym is) (over owes owed sent old q placed m at l (fault.WrongSide at (number m)) (λ now rest ending same.
    rw stray (ap (λ n. decided (Faulty (fault.WrongSide n (number m)))) (small_offset at small))))
hears_later {S} owes owed sent old new q placed m at small l (Late some bytes m_is ended is) =
    let Is : AnsweringState S → Type 0 = λ x. Heard owes owed sent (q ∷ placed) (placed_at at m) x in
    let carries : serving_use m ≡ Carries (record { stream = In; bytes = bytes }) = ap serving_use m_is in
    subst Is (sym is) (over owes owed sent old q placed m at l (fault.AfterEnd at (number m)) (λ now rest ending same.
    let over_now : has_ended In now ≡ true = same ∙ sym l.ended ∙ ended in
    rw (carries, over_now) (ap (λ n. decided (Faulty (fault.AfterEnd n (number m)))) (small_offset at small))))
hears_later {S} owes owed sent old new q placed m at small l (Fed some bytes m_is more unended feeds) =
    let fed : AnsweringState S = record old { service = new.service; out = new.out; err = new.err } in
    let Is : AnsweringState S → Type 0 = λ x. Heard owes owed sent (q ∷ placed) (placed_at at m) x in
    let V : Option ℕ → Type 0 = λ v. SendsAnswers owes owed v old (joined In l.pieces) sent in
    let W : Option ℕ → Type 0 = λ v. SendsAnswers owes owed v fed (joined In l.pieces ++ bytes) sent in
    let s : SendsOutputs owes owed (min old.chunk (most l.version)) old (joined In l.pieces) sent = subst V l.greeted l.sends in
    let G : Option ℤ → Type 0 = λ c. Gives owes owed c old (joined In l.pieces) s.pieces in
    let H : Option ℤ → Type 0 = λ c. Gives owes owed c fed (joined In l.pieces ++ bytes) s.pieces in
    let shut : old.closed ≡ false = unclosed owes owed (min old.chunk (most l.version)) old (joined In l.pieces) sent s unended in
    let sends : SendsOutputs owes owed (min old.chunk (most l.version)) fed (joined In l.pieces ++ bytes) sent = record {
      pieces = s.pieces;
      each = s.each;
      gives = subst H (sym unended) (fed_gives owes owed old fed (joined In l.pieces) bytes s.pieces (subst G unended s.gives) feeds.feeds);
      stream = s.stream;
      done = λ closed. let no : false ≡ true = sym shut ∙ closed in cc;
    } in
    subst Is (sym feeds.rest) (on owes owed sent old q placed m at l bytes m_is unended fed refl refl l.undecided shut (rw unended (sym (has_bytes bytes more))) (subst W (sym l.greeted) sends))
hears_later {S} owes owed sent old new q placed m at small l (Ended some m_is unended ends) =
    let done : AnsweringState S = record old { service = new.service; code = Some ends.code; out = new.out; err = new.err } in
    let Is : AnsweringState S → Type 0 = λ x. Heard owes owed sent (q ∷ placed) (placed_at at m) x in
    let V : Option ℕ → Type 0 = λ v. SendsAnswers owes owed v old (joined In l.pieces) sent in
    let W : Option ℕ → Type 0 = λ v. SendsAnswers owes owed v done (joined In l.pieces ++ []) sent in
    let s : SendsOutputs owes owed (min old.chunk (most l.version)) old (joined In l.pieces) sent = subst V l.greeted l.sends in
    let G : Option ℤ → Type 0 = λ c. Gives owes owed c old (joined In l.pieces) s.pieces in
    let shut : old.closed ≡ false = unclosed owes owed (min old.chunk (most l.version)) old (joined In l.pieces) sent s unended in
    let before : sent ++ old.waiting ≡ flat_map written (Hello old.own ∷ (map message_of s.pieces ++ ends_if old.closed old.code)) = s.stream in
    let none_before : ends_if old.closed old.code ≡ [] = rw shut refl in
    let none_after : ends_if old.closed (Some ends.code) ≡ [] = rw shut refl in
    let sends : SendsOutputs owes owed (min old.chunk (most l.version)) done (joined In l.pieces ++ []) sent = record {
      pieces = s.pieces;
      each = s.each;
      gives = ended_gives owes owed old done ends.code (joined In l.pieces) s.pieces (subst G unended s.gives) ends.ends;
      stream = before ∙ ap (λ e. flat_map written (Hello old.own ∷ (map message_of s.pieces ++ e))) (none_before ∙ sym none_after);
      done = λ closed. let no : false ≡ true = sym shut ∙ closed in cc;
    } in
    subst Is (sym ends.rest) (on owes owed sent old q placed m at l [] m_is unended done refl refl l.undecided shut refl (subst W (sym l.greeted) sends))

pub hears : {S : Type 0} (owes : S → List ℕ → Triple) (owed : List ℕ → Triple) (sent : List ℕ) (old new : AnsweringState S) (placed : List (Placed Message)) (m : Message) (at : ℕ)
    → at < 2 ^ 64 → Serves owes owed old sent placed (sees_all serving_use placed (Rest 0)) → old.outcome ≡ None → AnswersTo owes m at old new → Heard owes owed sent placed (placed_at at m) new
hears owes owed sent old new [] m at small k none step = hears_first owes owed sent old new m at k none step
hears owes owed sent old new (q ∷ placed) m at small k none step = hears_later owes owed sent old new q placed m at small (later owes owed sent old q placed m at k none) step
