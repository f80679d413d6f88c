-- A caller keeps what is seen of the messages that it has read.
use Rattle.std.proofs.Common.{◌≡◌, ℕ, ◌<◌, ◌^◌, List, [], ◌∷◌, ◌++◌, refl, ap, sym, ◌∙◌, subst, arith, Some, None}
use Rattle.std.proofs.lemmas.List.{append-nil}
use Rattle.std.specs.Prelude.{true, false, Bool, ℤ, if◌then◌else◌}
use Rattle.qrexec_frame.specs.declared.message.Message.{Message}
use Rattle.qrexec_frame.specs.declared.message.Message.TheVariants as message
use Rattle.qrexec_frame.specs.Grammar.{Fault}
use Rattle.qrexec_frame.specs.Streams.{Placed, Ending, Rest}
use Rattle.qrexec_hello.specs.Greeting.{greeting}
use Rattle.qrexec_data.specs.declared.outcome.SessionFault.TheVariants as fault
use Rattle.qrexec_data.specs.declared.outcome.Outcome.{Outcome}
use Rattle.qrexec_data.specs.declared.outcome.Outcome.TheVariants as outcome
use Rattle.qrexec_data.specs.Pieces.{Stream, Out, Err as Errors, Piece, joined, has_ended, no_bytes}
use Rattle.qrexec_data.specs.Seeing.{Seen, Undecided, Faulty, Use, Carries, Exits, Strays, sees_on, sees_all, decided, number, offset, caller_use}
use Rattle.qrexec_data.specs.Sending.{agreed_by}
use Rattle.qrexec_data.specs.Replies.{RepliesState, faulted, after_piece, after_use, after_greeting, after_message, AgreesWith, KnowsReplies}
use Rattle.qrexec_data.proofs.HearingLaws.{Greeted, Accepted, Refused, greeted_any, Follows, follows, joined_piece, joined_other, ended_piece, ended_other}

abbrev pub placed_at : ℕ → Message → Placed Message
placed_at at m = record { at = at; message = m }

-- after one more message: nothing is decided, or whatever follows it makes no difference
pub data Heard (r : RepliesState) (placed : List (Placed Message)) (p : Placed Message) : Type 0 where
  GoesOn : r.outcome ≡ None → KnowsReplies r (placed ++ p ∷ []) (sees_all caller_use (placed ++ p ∷ []) (Rest 0)) → Heard r placed p
  Decides : (o : Outcome) → r.outcome ≡ Some o → ((rest : List (Placed Message)) (ending : Ending Fault) → KnowsReplies r (placed ++ p ∷ rest) (sees_all caller_use (placed ++ p ∷ rest) ending)) → Heard r placed p

after_first : (m : Message) (at : ℕ) (r : RepliesState) → r.version ≡ None → after_message m at r ≡ after_greeting (greeting r.own m) r
after_first m at r is = rw is refl

after_later : (m : Message) (at version : ℕ) (r : RepliesState) → r.version ≡ Some version → after_message m at r ≡ after_use (caller_use m) at (number m) r
after_later m at version r is = rw is refl

hears_first : (r : RepliesState) (m : Message) (at : ℕ) → KnowsReplies r [] (decided Undecided) → r.outcome ≡ None → Heard (after_message m at r) [] (placed_at at m)
hears_first r m at k none = subst Is (sym (after_first m at r k.version)) (by_greeted (greeted_any r.own m))
  where
    Is : RepliesState → Type 0
    Is now = Heard now [] (placed_at at m)

    by_greeted : Greeted r.own m → Heard (after_greeting (greeting r.own m) r) [] (placed_at at m)
    by_greeted (Accepted version low is low_is) = rw is (GoesOn none (rw low_is (record {
      outcome = rw none refl;
      stdout = k.stdout;
      stderr = k.stderr;
      stdout_ended = k.stdout_ended;
      stderr_ended = k.stderr_ended;
      version = rw is refl;
    })))
    by_greeted (Refused f is is2) = rw is (Decides (outcome.Fault (fault.Hello f)) refl (λ rest ending. rw is2 (record {
      outcome = refl;
      stdout = k.stdout;
      stderr = k.stderr;
      stdout_ended = k.stdout_ended;
      stderr_ended = k.stderr_ended;
      version = k.version ∙ rw is refl;
    })))

-- what a message after the greeting is to a caller
data CallerUse (m : Message) : Type 0 where
  Output : (bytes : List ℕ) → caller_use m ≡ Carries (record { stream = Out; bytes = bytes }) → CallerUse m
  Error : (bytes : List ℕ) → caller_use m ≡ Carries (record { stream = Errors; bytes = bytes }) → CallerUse m
  Exit : (code : ℤ) → caller_use m ≡ Exits code → CallerUse m
  Stray : caller_use m ≡ Strays → CallerUse m

caller_view : (m : Message) → CallerUse m
caller_view (message.Hello v) = Stray refl
caller_view (message.Stdin bytes) = Stray refl
caller_view (message.Stdout bytes) = Output bytes refl
caller_view (message.Stderr bytes) = Error bytes refl
caller_view (message.ExitCode code) = Exit code refl
caller_view (message.Exec domain port line) = Stray refl
caller_view (message.JustExec domain port line) = Stray refl
caller_view (message.Connect domain port ident) = Stray refl
caller_view (message.Refused ident) = Stray refl
caller_view (message.Terminated domain port) = Stray refl
caller_view (message.Trigger3 target ident service) = Stray refl
caller_view (message.Trigger target ident service) = Stray refl

-- a message that decides, seen after pieces
decides : (r : RepliesState) (o : Outcome) (version : ℕ) (pieces : List Piece) (placed : List (Placed Message)) (seen : Seen)
    → r.stdout ≡ joined Out pieces → r.stderr ≡ joined Errors pieces → r.stdout_ended ≡ has_ended Out pieces → r.stderr_ended ≡ has_ended Errors pieces
    → r.version ≡ agreed_by r.own placed → AgreesWith (Some o) seen.verdict → seen.pieces ≡ pieces ++ []
    → KnowsReplies (record r { outcome = Some o }) placed seen
decides r o version pieces placed seen out err out_ended err_ended agreed verdict are =
    let same : seen.pieces ≡ pieces = are ∙ append-nil pieces in
    record {
      outcome = verdict;
      stdout = out ∙ ap (joined Out) (sym same);
      stderr = err ∙ ap (joined Errors) (sym same);
      stdout_ended = out_ended ∙ ap (has_ended Out) (sym same);
      stderr_ended = err_ended ∙ ap (has_ended Errors) (sym same);
      version = agreed;
    }

pub small_offset : (at : ℕ) → at < 2 ^ 64 → offset at ≡ at
small_offset at small = omega arith

pub if_true : {A : Type 0} (b : Bool) (x y : A) → b ≡ true → (if b then x else y) ≡ x
if_true true x y is = refl
if_true false x y is = cc

pub if_false : {A : Type 0} (b : Bool) (x y : A) → b ≡ false → (if b then x else y) ≡ y
if_false true x y is = cc
if_false false x y is = refl

hears_later : (r : RepliesState) (q : Placed Message) (placed : List (Placed Message)) (m : Message) (at : ℕ) → at < 2 ^ 64
    → KnowsReplies r (q ∷ placed) (sees_all caller_use (q ∷ placed) (Rest 0)) → r.outcome ≡ None → Heard (after_message m at r) (q ∷ placed) (placed_at at m)
hears_later r q placed m at small k none = subst Is (sym (after_later m at f.version r version)) (by_view (caller_view m))
  where
    Is : RepliesState → Type 0
    Is now = Heard now (q ∷ placed) (placed_at at m)

    undecided : (sees_all caller_use (q ∷ placed) (Rest 0)).verdict ≡ Undecided
    undecided = rw none at k.outcome

    f : Follows caller_use r.own q placed (placed_at at m)
    f = follows caller_use r.own q placed (placed_at at m) undecided

    version : r.version ≡ Some f.version
    version = k.version ∙ f.agreed placed

    pieces : List Piece
    pieces = (sees_all caller_use (q ∷ placed) (Rest 0)).pieces

    -- the message decides
    over : (o : Outcome) → ((now : List Piece) (rest : List (Placed Message)) (ending : Ending Fault) → ((s : Stream) → has_ended s now ≡ has_ended s pieces)
        → (AgreesWith (Some o) (sees_on caller_use (placed_at at m ∷ rest) ending now).verdict × ((sees_on caller_use (placed_at at m ∷ rest) ending now).pieces ≡ [])))
        → Heard (record r { outcome = Some o }) (q ∷ placed) (placed_at at m)
    over o is = Decides o refl (λ rest ending.
        let s = f.seen rest ending in
        let d = is s.0 rest ending s.1 in
        let V : Seen → Type 0 = λ x. AgreesWith (Some o) x.verdict in
        decides r o f.version pieces ((q ∷ placed) ++ placed_at at m ∷ rest) (sees_all caller_use ((q ∷ placed) ++ placed_at at m ∷ rest) ending)
        k.stdout k.stderr k.stdout_ended k.stderr_ended (version ∙ sym (f.agreed (placed ++ placed_at at m ∷ rest)))
        (subst V (sym s.2) d.0) (ap (λ x. x.pieces) s.2 ∙ ap (λ x. pieces ++ x) d.1))

    -- the message carries a piece of a stream that has not ended
    on : (now : RepliesState) (piece : Piece) → caller_use m ≡ Carries piece → has_ended piece.stream pieces ≡ false → now.outcome ≡ None → now.own ≡ r.own → now.version ≡ r.version
        → now.stdout ≡ joined Out (pieces ++ piece ∷ []) → now.stderr ≡ joined Errors (pieces ++ piece ∷ [])
        → now.stdout_ended ≡ has_ended Out (pieces ++ piece ∷ []) → now.stderr_ended ≡ has_ended Errors (pieces ++ piece ∷ [])
        → Heard now (q ∷ placed) (placed_at at m)
    on now piece is unended going own same out err out_ended err_ended =
        let s = f.seen [] (Rest 0) in
        let ended : has_ended piece.stream s.0 ≡ false = s.1 piece.stream ∙ unended in
        let seen : sees_all caller_use ((q ∷ placed) ++ placed_at at m ∷ []) (Rest 0) ≡ record { pieces = pieces ++ piece ∷ []; verdict = Undecided } = s.2 ∙ rw (is, ended) refl in
        GoesOn going (rw seen (record {
          outcome = rw going refl;
          stdout = out;
          stderr = err;
          stdout_ended = out_ended;
          stderr_ended = err_ended;
          version = same ∙ version ∙ sym (f.agreed (placed ++ placed_at at m ∷ [])) ∙ ap (λ n. agreed_by n ((q ∷ placed) ++ placed_at at m ∷ [])) (sym own);
        }))

    after_end : (piece : Piece) → caller_use m ≡ Carries piece → has_ended piece.stream pieces ≡ true → Heard (faulted (fault.AfterEnd at (number m)) r) (q ∷ placed) (placed_at at m)
    after_end piece is ended = over (outcome.Fault (fault.AfterEnd at (number m))) (λ now rest ending same.
        let there : has_ended piece.stream now ≡ true = same piece.stream ∙ ended in
        rw (is, there) (ap (λ n. Faulty (fault.AfterEnd n (number m))) (small_offset at small), refl))

    output : (bytes : List ℕ) → caller_use m ≡ Carries (record { stream = Out; bytes = bytes }) → (b : Bool) → r.stdout_ended ≡ b
        → Heard (after_piece Out bytes at (number m) r) (q ∷ placed) (placed_at at m)
    output bytes is true ended = subst Is (sym (if_true r.stdout_ended _ _ ended)) (after_end (record { stream = Out; bytes = bytes }) is (sym k.stdout_ended ∙ ended))
    output bytes is false ended =
        let piece : Piece = record { stream = Out; bytes = bytes } in
        let unended : has_ended Out pieces ≡ false = sym k.stdout_ended ∙ ended in
        subst Is (sym (if_false r.stdout_ended _ _ ended)) (on (record r { stdout = r.stdout ++ bytes; stdout_ended = no_bytes bytes }) piece is unended none refl refl
        (ap (λ x. x ++ bytes) k.stdout ∙ sym (joined_piece Out pieces piece refl)) (k.stderr ∙ sym (joined_other Errors pieces piece refl))
        (sym (ended_piece Out pieces piece refl unended)) (k.stderr_ended ∙ sym (ended_other Errors pieces piece refl)))

    error : (bytes : List ℕ) → caller_use m ≡ Carries (record { stream = Errors; bytes = bytes }) → (b : Bool) → r.stderr_ended ≡ b
        → Heard (after_piece Errors bytes at (number m) r) (q ∷ placed) (placed_at at m)
    error bytes is true ended = subst Is (sym (if_true r.stderr_ended _ _ ended)) (after_end (record { stream = Errors; bytes = bytes }) is (sym k.stderr_ended ∙ ended))
    error bytes is false ended =
        let piece : Piece = record { stream = Errors; bytes = bytes } in
        let unended : has_ended Errors pieces ≡ false = sym k.stderr_ended ∙ ended in
        subst Is (sym (if_false r.stderr_ended _ _ ended)) (on (record r { stderr = r.stderr ++ bytes; stderr_ended = no_bytes bytes }) piece is unended none refl refl
        (k.stdout ∙ sym (joined_other Out pieces piece refl)) (ap (λ x. x ++ bytes) k.stderr ∙ sym (joined_piece Errors pieces piece refl))
        (k.stdout_ended ∙ sym (ended_other Out pieces piece refl)) (sym (ended_piece Errors pieces piece refl unended)))

    by_view : CallerUse m → Heard (after_use (caller_use m) at (number m) r) (q ∷ placed) (placed_at at m)
    by_view (Output bytes is) = let P : Use → Type 0 = λ u. Heard (after_use u at (number m) r) (q ∷ placed) (placed_at at m) in subst P (sym is) (output bytes is r.stdout_ended refl)
    by_view (Error bytes is) = let P : Use → Type 0 = λ u. Heard (after_use u at (number m) r) (q ∷ placed) (placed_at at m) in subst P (sym is) (error bytes is r.stderr_ended refl)
    by_view (Exit code is) = let P : Use → Type 0 = λ u. Heard (after_use u at (number m) r) (q ∷ placed) (placed_at at m) in
        subst P (sym is) (over (outcome.Done code) (λ now rest ending same. rw is (refl, refl)))
    by_view (Stray is) = let P : Use → Type 0 = λ u. Heard (after_use u at (number m) r) (q ∷ placed) (placed_at at m) in
        subst P (sym is) (over (outcome.Fault (fault.WrongSide at (number m))) (λ now rest ending same. rw is (ap (λ n. Faulty (fault.WrongSide n (number m))) (small_offset at small), refl)))

pub hears : (r : RepliesState) (placed : List (Placed Message)) (m : Message) (at : ℕ) → at < 2 ^ 64
    → KnowsReplies r placed (sees_all caller_use placed (Rest 0)) → r.outcome ≡ None → Heard (after_message m at r) placed (placed_at at m)
hears r [] m at small k none = hears_first r m at k none
hears r (q ∷ placed) m at small k none = hears_later r q placed m at small k none
