-- What each side sees of a beginning of what the other may send.
use Rattle.std.proofs.Common.{◌≡◌, ℕ, ◌<◌, ◌≤◌, ◌^◌, suc, zero, List, [], ◌∷◌, ◌++◌, length, take, map, refl, ap, sym, ◌∙◌, arith, ◌⊎◌, inl, inr, None}
use Rattle.std.specs.Prelude.{true, false, Bool, nat_lt, ℤ}
use Rattle.std.specs.Int.{w32}
use Rattle.std.specs.Int.RustNames.{FitsSigned}
use Rattle.std.proofs.lemmas.Bool.Decides.{nat_tests}
use Rattle.std.proofs.lemmas.List.{append-nil}
use Rattle.std.specs.List.{flat_map, AllByRecursion as Each}
use Rattle.list_laws.specs.Lists.{IsPrefixOf}
use Rattle.qrexec_frame.specs.declared.kind.Channel.TheVariants.{Data}
use Rattle.qrexec_frame.specs.declared.message.Message.{Message}
use Rattle.qrexec_frame.specs.declared.message.Message.TheVariants.{Hello, ExitCode}
use Rattle.qrexec_frame.specs.Messages.{written}
use Rattle.qrexec_frame.specs.Grammar.{Fault}
use Rattle.qrexec_frame.specs.Fronts.{front, reading}
use Rattle.qrexec_frame.specs.Laws.{IsGood}
use Rattle.qrexec_frame.specs.Streams.{Placed, Ending, Rest, Begins}
use Rattle.qrexec_frame.proofs.StreamLaws.{begins, reads_all}
use Rattle.qrexec_frame.proofs.GrammarLaws.{is_prefix_code}
use Rattle.qrexec_frame.proofs.WrittenLaws.{is_read_again}
use Rattle.service_gate.specs.Triple.{Triple}
use Rattle.qrexec_data.specs.Pieces.{Stream, In, Out, Err as Errors, Piece, message_of, end_of, joined, has_ended, ArePieces, is_input, is_output}
use Rattle.qrexec_data.specs.Seeing.{Seen, Carries, Undecided, Exited, sees_on, sees_all, seen_by, caller_use, serving_use, caller_sees, serving_sees, fault_of}
use Rattle.qrexec_data.specs.Sending.{IsCallerStream, IsServingStream}
use Rattle.qrexec_data.specs.Laws.{FitsTriple, ReadsInput, CallersSeeTriples, CallersAreDone, CallersWait, InputsAreRead, GreetingsAreNoFault}
use Rattle.qrexec_data.proofs.PieceLaws.{the_messages, NoneEnded, none_more, all_first, Within, Beyond, on_pieces, caller_carries, serving_carries, joined_append, ended_append, none_in, take_pieces}

-- ---- what is written is read again

abbrev Good : Message → Type 0
Good m = IsGood Data m

good_piece : (p : Piece) → length p.bytes ≤ 65536 → Good (message_of p)
good_piece p least = by_stream p.stream
  where
    by_stream : (s : Stream) → Good (message_of (record { stream = s; bytes = p.bytes }))
    by_stream In = ((least, tt), refl)
    by_stream Out = ((least, tt), refl)
    by_stream Errors = ((least, tt), refl)

good_pieces : (reads : Stream → Bool) (limit : ℕ) → limit ≤ 65536 → (tail : List Message) → Each Good tail → (pieces : List Piece) → ArePieces reads limit pieces → Each Good (map message_of pieces ++ tail)
good_pieces reads limit least tail good [] each = good
good_pieces reads limit least tail good (p ∷ pieces) each = (good_piece p (omega (arith, each.0.2, least)), good_pieces reads limit least tail good pieces each.1)

-- ---- the tail of a serving stream, and of a caller's

abbrev serving_tail : ℤ → List Message
serving_tail code = message_of (end_of Out) ∷ message_of (end_of Errors) ∷ ExitCode code ∷ []

abbrev caller_tail : List Message
caller_tail = message_of (end_of In) ∷ []

-- what a caller has seen: nothing that decides, or all pieces and the code
abbrev pub SeesCall : List Piece → ℤ → Seen → Type 0
SeesCall pieces code seen = (seen.verdict ≡ Undecided) ⊎ ((seen.verdict ≡ Exited code) × (seen.pieces ≡ pieces ++ end_of Out ∷ end_of Errors ∷ []))

on_tail : (code : ℤ) (before : List Piece) → NoneEnded before → (placed : List (Placed Message)) (k left : ℕ) → the_messages placed ≡ take k (serving_tail code)
    → SeesCall [] code (sees_on caller_use placed (Rest left) before)
on_tail code before none [] k left is = inl refl
on_tail code before none (p ∷ []) (suc k) left is = let a : p.message ≡ message_of (end_of Out) = cc in rw (a, none Out) (inl refl)
on_tail code before none (p ∷ q ∷ []) (suc (suc k)) left is =
    let a : p.message ≡ message_of (end_of Out) = cc in let b : q.message ≡ message_of (end_of Errors) = cc in rw (a, none Out, b, none Errors) (inl refl)
on_tail code before none (p ∷ q ∷ r ∷ placed) (suc (suc (suc k))) left is =
    let a : p.message ≡ message_of (end_of Out) = cc in let b : q.message ≡ message_of (end_of Errors) = cc in let c : r.message ≡ ExitCode code = cc in
    rw (a, none Out, b, none Errors, c) (inr (refl, refl))
on_tail code before none (p ∷ placed) zero left is = cc
on_tail code before none (p ∷ q ∷ placed) (suc zero) left is = cc
on_tail code before none (p ∷ q ∷ r ∷ placed) (suc (suc zero)) left is = cc

caller_sees_on : (limit : ℕ) (code : ℤ) (pieces : List Piece) → ArePieces is_output limit pieces → (placed : List (Placed Message)) (k left : ℕ)
    → the_messages placed ≡ take k (map message_of pieces ++ serving_tail code) → SeesCall pieces code (sees_on caller_use placed (Rest left) [])
caller_sees_on limit code pieces each placed k left is = by_rest (on_pieces caller_use is_output caller_carries limit (serving_tail code) pieces each [] (λ s. refl) placed k (Rest left) is)
  where
    by_tail : (seen rest : Seen) → seen ≡ all_first pieces rest → SeesCall [] code rest → SeesCall pieces code seen
    by_tail seen rest is (inl h) = inl (ap (λ x. x.verdict) is ∙ h)
    by_tail seen rest is (inr h) = inr (ap (λ x. x.verdict) is ∙ h.0, ap (λ x. x.pieces) is ∙ ap (λ r. pieces ++ r) h.1)

    by_rest : Within pieces (Rest left) (sees_on caller_use placed (Rest left) []) ⊎ Beyond caller_use pieces (serving_tail code) (Rest left) (sees_on caller_use placed (Rest left) [])
        → SeesCall pieces code (sees_on caller_use placed (Rest left) [])
    by_rest (inl w) = inl (ap (λ x. x.verdict) w.seen_is)
    by_rest (inr b) = by_tail _ _ b.seen_is (on_tail code b.before b.none b.rest b.count left b.messages_are)

caller_first : (own limit : ℕ) (code : ℤ) (pieces : List Piece) → 2 ≤ own → ArePieces is_output limit pieces → (placed : List (Placed Message)) (e : Ending Fault) (k left : ℕ)
    → the_messages placed ≡ take k (Hello own ∷ (map message_of pieces ++ serving_tail code)) → e ≡ Rest left → SeesCall pieces code (sees_all caller_use placed e)
caller_first own limit code pieces two each [] e k left is rest = rw rest (inl refl)
caller_first own limit code pieces two each (p ∷ placed) e zero left is rest = cc
caller_first own limit code pieces two each (p ∷ placed) e (suc k) left is rest =
    let a : p.message ≡ Hello own = cc in
    let more : the_messages placed ≡ take k (map message_of pieces ++ serving_tail code) = cc in
    let big : nat_lt own 2 ≡ false = grind (arith, nat_tests) in
    rw (a, big, rest) (caller_sees_on limit code pieces each placed k left more)

good_hello : (own : ℕ) → own < 2 ^ 32 → Good (Hello own)
good_hello own small = ((tt, small), refl)

serving_good : (own limit : ℕ) (code : ℤ) (pieces : List Piece) → own < 2 ^ 32 → limit ≤ 65536 → FitsSigned w32 code → ArePieces is_output limit pieces
    → Each Good (Hello own ∷ (map message_of pieces ++ serving_tail code))
serving_good own limit code pieces small least fits each =
    (good_hello own small, good_pieces is_output limit least (serving_tail code) (good_piece (end_of Out) (omega arith), (good_piece (end_of Errors) (omega arith), (((tt, fits), refl), tt))) pieces each)

-- the ends of a serving stream, as messages
ends_join : (pieces : List Piece) (code : ℤ) → map message_of (pieces ++ end_of Out ∷ end_of Errors ∷ []) ++ ExitCode code ∷ [] ≡ map message_of pieces ++ serving_tail code
ends_join [] code = refl
ends_join (p ∷ pieces) code = ap (λ r. message_of p ∷ r) (ends_join pieces code)

end_joins : (pieces : List Piece) → map message_of (pieces ++ end_of In ∷ []) ≡ map message_of pieces ++ caller_tail
end_joins [] = refl
end_joins (p ∷ pieces) = ap (λ r. message_of p ∷ r) (end_joins pieces)

pub caller_fits : (own limit : ℕ) (t : Triple) (stream : List Message) (got : List ℕ) → 2 ≤ own → own < 2 ^ 32 → limit ≤ 65536 → FitsSigned w32 t.code
    → IsServingStream own limit t stream → IsPrefixOf got (flat_map written stream) → FitsTriple t (caller_sees got)
caller_fits own limit t stream got two small least fits h prefix = by_seen (caller_first own limit t.code h.pieces two h.each (reading Data got).placed (reading Data got).ending b.count (length b.over) read b.ending)
  where
    is : stream ≡ Hello own ∷ (map message_of h.pieces ++ serving_tail t.code)
    is = h.is ∙ ap (λ r. Hello own ∷ r) (ends_join h.pieces t.code)

    b : Begins (front Data) written stream got 0
    b = begins (front Data) written Good (is_prefix_code Data) (is_read_again Data) stream (rw is (serving_good own limit t.code h.pieces small least fits h.each)) got prefix.0 0 prefix.1

    read : the_messages (reading Data got).placed ≡ take b.count (Hello own ∷ (map message_of h.pieces ++ serving_tail t.code))
    read = b.read ∙ ap (take b.count) is

    all : (s : Stream) → joined s (h.pieces ++ end_of Out ∷ end_of Errors ∷ []) ≡ joined s h.pieces
    all s = joined_append s h.pieces (end_of Out ∷ end_of Errors ∷ []) ∙ ap (λ r. joined s h.pieces ++ r) (no_more s) ∙ append-nil (joined s h.pieces)
      where
        no_more : (s : Stream) → joined s (end_of Out ∷ end_of Errors ∷ []) ≡ []
        no_more In = refl
        no_more Out = refl
        no_more Errors = refl

    by_seen : SeesCall h.pieces t.code (seen_by caller_use got) → FitsTriple t (caller_sees got)
    by_seen (inl u) = inl u
    by_seen (inr d) =
        let out : joined Out (seen_by caller_use got).pieces ≡ t.stdout = ap (joined Out) d.1 ∙ all Out ∙ h.stdout in
        let err : joined Errors (seen_by caller_use got).pieces ≡ t.stderr = ap (joined Errors) d.1 ∙ all Errors ∙ h.stderr in
        inr (rw (d.0, out, err) refl)

-- ---- the side that serves

pub record SeesInput (pieces : List Piece) (seen : Seen) : Type 0 where
  pub undecided : seen.verdict ≡ Undecided
  pub whole : has_ended In seen.pieces ≡ true → seen.pieces ≡ pieces ++ end_of In ∷ []

on_input_tail : (before : List Piece) → NoneEnded before → (placed : List (Placed Message)) (k left : ℕ) → the_messages placed ≡ take k caller_tail
    → SeesInput [] (sees_on serving_use placed (Rest left) before)
on_input_tail before none [] k left is = record { undecided = refl; whole = λ e. cc }
on_input_tail before none (p ∷ []) (suc k) left is = let a : p.message ≡ message_of (end_of In) = cc in rw (a, none In) (record { undecided = refl; whole = λ e. refl })
on_input_tail before none (p ∷ placed) zero left is = cc
on_input_tail before none (p ∷ q ∷ placed) (suc zero) left is = cc
on_input_tail before none (p ∷ q ∷ placed) (suc (suc k)) left is = cc

serving_sees_on : (limit : ℕ) (pieces : List Piece) → ArePieces is_input limit pieces → (placed : List (Placed Message)) (k left : ℕ)
    → the_messages placed ≡ take k (map message_of pieces ++ caller_tail) → SeesInput pieces (sees_on serving_use placed (Rest left) [])
serving_sees_on limit pieces each placed k left is = by_rest (on_pieces serving_use is_input serving_carries limit caller_tail pieces each [] (λ s. refl) placed k (Rest left) is)
  where
    by_tail : (seen rest : Seen) → seen ≡ all_first pieces rest → SeesInput [] rest → SeesInput pieces seen
    by_tail seen rest is h =
        let same : has_ended In seen.pieces ≡ has_ended In rest.pieces = ap (λ x. has_ended In x.pieces) is ∙ ended_append In pieces rest.pieces (none_in is_input limit pieces each In) in
        record { undecided = ap (λ x. x.verdict) is ∙ h.undecided; whole = λ e. ap (λ x. x.pieces) is ∙ ap (λ r. pieces ++ r) (h.whole (sym same ∙ e)) }

    by_rest : Within pieces (Rest left) (sees_on serving_use placed (Rest left) []) ⊎ Beyond serving_use pieces caller_tail (Rest left) (sees_on serving_use placed (Rest left) [])
        → SeesInput pieces (sees_on serving_use placed (Rest left) [])
    by_rest (inl w) =
        let none = none_in is_input limit (take w.count pieces) (take_pieces is_input limit w.count pieces each) In in
        let not_over : has_ended In (sees_on serving_use placed (Rest left) []).pieces ≡ false = ap (λ x. has_ended In x.pieces) w.seen_is ∙ none in
        record { undecided = ap (λ x. x.verdict) w.seen_is; whole = λ e. cc }
    by_rest (inr b) = by_tail _ _ b.seen_is (on_input_tail b.before b.none b.rest b.count left b.messages_are)

serving_first : (own limit : ℕ) (pieces : List Piece) → 2 ≤ own → ArePieces is_input limit pieces → (placed : List (Placed Message)) (e : Ending Fault) (k left : ℕ)
    → the_messages placed ≡ take k (Hello own ∷ (map message_of pieces ++ caller_tail)) → e ≡ Rest left → SeesInput pieces (sees_all serving_use placed e)
serving_first own limit pieces two each [] e k left is rest = rw rest (record { undecided = refl; whole = λ e. cc })
serving_first own limit pieces two each (p ∷ placed) e zero left is rest = cc
serving_first own limit pieces two each (p ∷ placed) e (suc k) left is rest =
    let a : p.message ≡ Hello own = cc in
    let more : the_messages placed ≡ take k (map message_of pieces ++ caller_tail) = cc in
    let big : nat_lt own 2 ≡ false = grind (arith, nat_tests) in
    rw (a, big, rest) (serving_sees_on limit pieces each placed k left more)

caller_good : (own limit : ℕ) (pieces : List Piece) → own < 2 ^ 32 → limit ≤ 65536 → ArePieces is_input limit pieces → Each Good (Hello own ∷ (map message_of pieces ++ caller_tail))
caller_good own limit pieces small least each = (good_hello own small, good_pieces is_input limit least caller_tail (good_piece (end_of In) (omega arith), tt) pieces each)

pub serving_reads : (own limit : ℕ) (input : List ℕ) (stream : List Message) (got : List ℕ) → 2 ≤ own → own < 2 ^ 32 → limit ≤ 65536
    → IsCallerStream own limit input stream → IsPrefixOf got (flat_map written stream) → ReadsInput input (serving_sees got)
serving_reads own limit input stream got two small least h prefix =
    record { fault = ap fault_of seen.undecided; whole = λ e. ap (joined In) (seen.whole e) ∙ joined_append In h.pieces (end_of In ∷ []) ∙ append-nil (joined In h.pieces) ∙ h.all }
  where
    is : stream ≡ Hello own ∷ (map message_of h.pieces ++ caller_tail)
    is = h.is ∙ ap (λ r. Hello own ∷ r) (end_joins h.pieces)

    b : Begins (front Data) written stream got 0
    b = begins (front Data) written Good (is_prefix_code Data) (is_read_again Data) stream (rw is (caller_good own limit h.pieces small least h.each)) got prefix.0 0 prefix.1

    read : the_messages (reading Data got).placed ≡ take b.count (Hello own ∷ (map message_of h.pieces ++ caller_tail))
    read = b.read ∙ ap (take b.count) is

    seen : SeesInput h.pieces (seen_by serving_use got)
    seen = serving_first own limit h.pieces two h.each (reading Data got).placed (reading Data got).ending b.count (length b.over) read b.ending

-- ---- a caller that got all

all_tail : (code : ℤ) (before : List Piece) → NoneEnded before → (placed : List (Placed Message)) (left : ℕ) → the_messages placed ≡ serving_tail code
    → (sees_on caller_use placed (Rest left) before).verdict ≡ Exited code
all_tail code before none [] left is = cc
all_tail code before none (p ∷ []) left is = cc
all_tail code before none (p ∷ q ∷ []) left is = cc
all_tail code before none (p ∷ q ∷ r ∷ placed) left is =
    let a : p.message ≡ message_of (end_of Out) = cc in let b : q.message ≡ message_of (end_of Errors) = cc in let c : r.message ≡ ExitCode code = cc in
    rw (a, none Out, b, none Errors, c) refl

all_pieces : (limit : ℕ) (code : ℤ) (pieces : List Piece) → ArePieces is_output limit pieces → (before : List Piece) → NoneEnded before → (placed : List (Placed Message)) (left : ℕ)
    → the_messages placed ≡ map message_of pieces ++ serving_tail code → (sees_on caller_use placed (Rest left) before).verdict ≡ Exited code
all_pieces limit code [] each before none placed left is = all_tail code before none placed left is
all_pieces limit code (p ∷ pieces) each before none [] left is = cc
all_pieces limit code (p ∷ pieces) each before none (q ∷ placed) left is =
    let this : q.message ≡ message_of p = cc in
    let more : the_messages placed ≡ map message_of pieces ++ serving_tail code = cc in
    let taken : caller_use q.message ≡ Carries p = ap caller_use this ∙ caller_carries p each.0.0 in
    rw (taken, none p.stream) (all_pieces limit code pieces each.1 (p ∷ before) (none_more p before each.0.1 none) placed left more)

all_first_lem : (own limit : ℕ) (code : ℤ) (pieces : List Piece) → 2 ≤ own → ArePieces is_output limit pieces → (placed : List (Placed Message)) (e : Ending Fault)
    → the_messages placed ≡ Hello own ∷ (map message_of pieces ++ serving_tail code) → e ≡ Rest 0 → (sees_all caller_use placed e).verdict ≡ Exited code
all_first_lem own limit code pieces two each [] e is rest = cc
all_first_lem own limit code pieces two each (p ∷ placed) e is rest =
    let a : p.message ≡ Hello own = cc in
    let more : the_messages placed ≡ map message_of pieces ++ serving_tail code = cc in
    let big : nat_lt own 2 ≡ false = grind (arith, nat_tests) in
    rw (a, big, rest) (all_pieces limit code pieces each [] (λ s. refl) placed 0 more)

pub caller_done : (own limit : ℕ) (t : Triple) (stream : List Message) → 2 ≤ own → own < 2 ^ 32 → limit ≤ 65536 → FitsSigned w32 t.code
    → IsServingStream own limit t stream → (caller_sees (flat_map written stream)).verdict ≡ Exited t.code
caller_done own limit t stream two small least fits h =
    let is : stream ≡ Hello own ∷ (map message_of h.pieces ++ serving_tail t.code) = h.is ∙ ap (λ r. Hello own ∷ r) (ends_join h.pieces t.code) in
    let all = reads_all (front Data) written Good (is_prefix_code Data) (is_read_again Data) stream (rw is (serving_good own limit t.code h.pieces small least fits h.each)) 0 in
    let read : the_messages (reading Data (flat_map written stream)).placed ≡ Hello own ∷ (map message_of h.pieces ++ serving_tail t.code) = all.0 ∙ is in
    all_first_lem own limit t.code h.pieces two h.each (reading Data (flat_map written stream)).placed (reading Data (flat_map written stream)).ending read all.1

-- ---- before the input has ended, and before a greeting came

begun_on : (limit : ℕ) (pieces : List Piece) → ArePieces is_output limit pieces → (before : List Piece) → NoneEnded before → (placed : List (Placed Message)) (k left : ℕ)
    → the_messages placed ≡ take k (map message_of pieces) → (sees_on caller_use placed (Rest left) before).verdict ≡ Undecided
begun_on limit pieces each before none [] k left is = refl
begun_on limit pieces each before none (q ∷ placed) zero left is = cc
begun_on limit [] each before none (q ∷ placed) (suc k) left is = cc
begun_on limit (p ∷ pieces) each before none (q ∷ placed) (suc k) left is =
    let this : q.message ≡ message_of p = cc in
    let more : the_messages placed ≡ take k (map message_of pieces) = cc in
    let taken : caller_use q.message ≡ Carries p = ap caller_use this ∙ caller_carries p each.0.0 in
    rw (taken, none p.stream) (begun_on limit pieces each.1 (p ∷ before) (none_more p before each.0.1 none) placed k left more)

begun_first : (own limit : ℕ) (pieces : List Piece) → 2 ≤ own → ArePieces is_output limit pieces → (placed : List (Placed Message)) (e : Ending Fault) (k left : ℕ)
    → the_messages placed ≡ take k (Hello own ∷ map message_of pieces) → e ≡ Rest left → (sees_all caller_use placed e).verdict ≡ Undecided
begun_first own limit pieces two each [] e k left is rest = rw rest refl
begun_first own limit pieces two each (p ∷ placed) e zero left is rest = cc
begun_first own limit pieces two each (p ∷ placed) e (suc k) left is rest =
    let a : p.message ≡ Hello own = cc in
    let more : the_messages placed ≡ take k (map message_of pieces) = cc in
    let big : nat_lt own 2 ≡ false = grind (arith, nat_tests) in
    rw (a, big, rest) (begun_on limit pieces each [] (λ s. refl) placed k left more)

pub caller_undecided : (own limit : ℕ) (pieces : List Piece) (got : List ℕ) → 2 ≤ own → own < 2 ^ 32 → limit ≤ 65536 → ArePieces is_output limit pieces
    → IsPrefixOf got (flat_map written (Hello own ∷ map message_of pieces)) → (caller_sees got).verdict ≡ Undecided
caller_undecided own limit pieces got two small least each prefix =
    let some = good_pieces is_output limit least [] tt pieces each in
    let same : map message_of pieces ++ [] ≡ map message_of pieces = append-nil (map message_of pieces) in
    let good : Each Good (Hello own ∷ map message_of pieces) = (good_hello own small, rw (← same) some) in
    let b = begins (front Data) written Good (is_prefix_code Data) (is_read_again Data) (Hello own ∷ map message_of pieces) good got prefix.0 0 prefix.1 in
    begun_first own limit pieces two each (reading Data got).placed (reading Data got).ending b.count (length b.over) b.read b.ending

on_hello : (own : ℕ) → 2 ≤ own → (placed : List (Placed Message)) (e : Ending Fault) (k left : ℕ) → the_messages placed ≡ take k (Hello own ∷ []) → e ≡ Rest left
    → ((sees_all serving_use placed e).verdict ≡ Undecided) × ((sees_all serving_use placed e).pieces ≡ [])
on_hello own two [] e k left is rest = rw rest (refl, refl)
on_hello own two (p ∷ placed) e zero left is rest = cc
on_hello own two (p ∷ []) e (suc k) left is rest =
    let a : p.message ≡ Hello own = cc in
    let big : nat_lt own 2 ≡ false = grind (arith, nat_tests) in
    rw (a, big, rest) (refl, refl)
on_hello own two (p ∷ q ∷ placed) e (suc zero) left is rest = cc
on_hello own two (p ∷ q ∷ placed) e (suc (suc k)) left is rest = cc

pub serving_waits : (own : ℕ) (got : List ℕ) → 2 ≤ own → own < 2 ^ 32 → IsPrefixOf got (written (Hello own))
    → ((serving_sees got).fault ≡ None) × ((serving_sees got).ended ≡ false)
serving_waits own got two small prefix =
    let good : Each Good (Hello own ∷ []) = (good_hello own small, tt) in
    let whole : flat_map written (Hello own ∷ []) ≡ written (Hello own) = append-nil (written (Hello own)) in
    let b = begins (front Data) written Good (is_prefix_code Data) (is_read_again Data) (Hello own ∷ []) good got prefix.0 0 (prefix.1 ∙ sym whole) in
    let h = on_hello own two (reading Data got).placed (reading Data got).ending b.count (length b.over) b.read b.ending in
    (ap fault_of h.0, ap (has_ended In) h.1)

-- ---- the laws as they are stated

pub callers_see_triples : CallersSeeTriples
callers_see_triples own limit t stream got version least fits is prefix = caller_fits own limit t stream got version.least version.small least fits is prefix

pub callers_are_done : CallersAreDone
callers_are_done own limit t stream version least fits is = caller_done own limit t stream version.least version.small least fits is

pub callers_wait : CallersWait
callers_wait own limit pieces got version least each prefix = caller_undecided own limit pieces got version.least version.small least each prefix

pub inputs_are_read : InputsAreRead
inputs_are_read own limit input stream got version least is prefix = serving_reads own limit input stream got version.least version.small least is prefix

pub greetings_are_no_fault : GreetingsAreNoFault
greetings_are_no_fault own got version prefix = serving_waits own got version.least version.small prefix
