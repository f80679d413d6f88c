-- How much the two sides of a session send at most.
use Rattle.std.proofs.Common.{◌≡◌, ℕ, ◌+◌, ◌*◌, ◌<◌, ◌≤◌, zero, suc, Bool, true, false, List, [], ◌∷◌, ◌++◌, length, length-append, append-nil, map, take, if◌then◌else◌, Option, Some, None, refl, sym, ap, ◌∙◌, arith, lit<}
use Rattle.std.specs.Prelude.{◌%◌, ◌^◌, decimal, min, filter, nat_lt, not, MatchBool, MatchOption}
use Rattle.std.specs.Char.{to_ascii_uppercase}
use Rattle.std.proofs.lemmas.Fmt.{length-decimal-le}
use Rattle.std.proofs.lemmas.List.{length-map, length-take, map-append}
use Rattle.std.proofs.lemmas.Bool.Decides.{nat_tests}
use Rattle.std.specs.List.{flat_map, AllByRecursion as Each}
use Rattle.list_laws.specs.Lists.{IsPrefixOf}
use Rattle.list_laws.proofs.Prefixes.{prefix_length, prefix_trans}
use Rattle.qrexec_frame.specs.declared.message.Message.{Message}
use Rattle.qrexec_frame.specs.declared.message.Message.TheVariants.{Hello, Stdin, ExitCode}
use Rattle.qrexec_frame.specs.declared.kind.Channel.TheVariants.{Data}
use Rattle.qrexec_frame.specs.Grammar.{Fault}
use Rattle.qrexec_frame.specs.Fronts.{front, reading}
use Rattle.qrexec_frame.specs.Laws.{IsGood}
use Rattle.qrexec_frame.specs.Streams.{Placed, Ending, Begins as BeginsWith}
use Rattle.qrexec_frame.proofs.StreamLaws.{begins}
use Rattle.qrexec_frame.proofs.GrammarLaws.{is_prefix_code}
use Rattle.qrexec_frame.proofs.WrittenLaws.{is_read_again}
use Rattle.qrexec_frame.specs.Messages.{written}
use Rattle.service_gate.specs.Triple.{Triple}
use Rattle.service_gate.specs.ServiceResult.{count_line, every_other}
use Rattle.service_gate.specs.Owing.{state_owes, builtin_owes}
use Rattle.service_gate.specs.declared.builtin.Builtin.{Builtin}
use Rattle.service_gate.specs.declared.builtin.State.{State}
use Rattle.service_gate.specs.declared.builtin.State.TheVariants.{Upper, Count, First, Split}
use Rattle.qrexec_data.specs.declared.outcome.SessionFault.TheVariants.{AfterEnd}
use Rattle.qrexec_data.specs.Pieces.{Stream, In, Out, Err, Piece, message_of, end_of, joined, has_ended, is_stream, ArePieces, is_input, is_output}
use Rattle.qrexec_data.specs.Seeing.{Seen, Faulty, decided, offset, piece_first, sees_one, sees_on, sees_all, serving_sees, serving_use, number}
use Rattle.qrexec_data.specs.Sending.{agreed, most, Begins, IsCallerStream, IsServingStream, IsServingBegun, CallerMaySend, ServingMaySend}
use Rattle.qrexec_data.specs.Session.{most_requested, most_answered, SessionsSendLittle}
use Rattle.qrexec_data.specs.Laws.{IsVersion}
use Rattle.qrexec_data.proofs.MaySendLaws.{flat_more}
use Rattle.qrexec_data.proofs.PieceLaws.{the_messages}
use Rattle.qrexec_data.proofs.GoingLaws.{good_hello, input_good, most_fits}

-- ---- messages

hello_len : (own : ℕ) → length (written (Hello own)) ≡ 12
hello_len own = omega arith

exit_len : (code : _) → length (written (ExitCode code)) ≡ 12
exit_len code = omega arith

piece_len : (p : Piece) → length (written (message_of p)) ≡ 8 + length p.bytes
piece_len p = by p.stream p.bytes
  where
    by : (stream : Stream) (bytes : List ℕ) → length (written (message_of (record { stream = stream; bytes = bytes }))) ≡ 8 + length bytes
    by In bytes = omega arith
    by _ bytes = omega arith

-- ---- pieces

-- the bytes of a piece, if it is of this stream
abbrev of_stream : Stream → Piece → ℕ
of_stream stream p = if is_stream p.stream stream then length p.bytes else 0

joined_len : (stream : Stream) (p : Piece) (pieces : List Piece) → length (joined stream (p ∷ pieces)) ≡ of_stream stream p + length (joined stream pieces)
joined_len stream p pieces = by (is_stream p.stream stream)
  where
    rest : List Piece
    rest = filter (λ q. is_stream q.stream stream) pieces

    by : (b : Bool) → length (flat_map (λ q. q.bytes) (if b then p ∷ rest else rest)) ≡ (if b then length p.bytes else 0) + length (flat_map (λ q. q.bytes) rest)
    by true = length-append p.bytes (flat_map (λ q. q.bytes) rest)
    by false = omega arith

of_input : (stream : Stream) (n : ℕ) → is_input stream ≡ true → (if is_stream stream In then n else 0) ≡ n
of_input In n is = cc
of_input _ n is = cc

-- messages of a header and a piece each take nine times the pieces' bytes at most
in_little : (limit : ℕ) (pieces : List Piece) → ArePieces is_input limit pieces → length (flat_map written (map message_of pieces)) ≤ 9 * length (joined In pieces)
in_little limit [] each = omega arith
in_little limit (p ∷ pieces) each =
    let here = piece_len p in
    let both = length-append (written (message_of p)) (flat_map written (map message_of pieces)) in
    let bytes = joined_len In p pieces in
    let own = of_input p.stream (length p.bytes) each.0.0 in
    let rest = in_little limit pieces each.1 in
    let some = each.0.1 in
    omega (arith, here, both, bytes, own, rest, some)

out_little : (limit : ℕ) (pieces : List Piece) → ArePieces is_output limit pieces → length (flat_map written (map message_of pieces)) ≤ 9 * (length (joined Out pieces) + length (joined Err pieces))
out_little limit [] each = omega arith
out_little limit (p ∷ pieces) each =
    let here = piece_len p in
    let both = length-append (written (message_of p)) (flat_map written (map message_of pieces)) in
    let out = joined_len Out p pieces in
    let err = joined_len Err p pieces in
    let own = one p.stream (length p.bytes) each.0.0 in
    let rest = out_little limit pieces each.1 in
    let some = each.0.1 in
    omega (arith, here, both, out, err, own, rest, some)
  where
    one : (stream : Stream) (n : ℕ) → is_output stream ≡ true → (if is_stream stream Out then n else 0) + (if is_stream stream Err then n else 0) ≡ n
    one In n is = cc
    one _ n is = omega arith

-- ---- streams

tail_len : (pieces : List Piece) (tail : List Piece) → length (flat_map written (map message_of (pieces ++ tail))) ≡ length (flat_map written (map message_of pieces)) + length (flat_map written (map message_of tail))
tail_len pieces tail =
    ap (λ (ms : List Message). length (flat_map written ms)) (map-append message_of pieces tail)
    ∙ ap (λ (bytes : List ℕ). length bytes) (flat_more (map message_of pieces) (map message_of tail))
    ∙ length-append (flat_map written (map message_of pieces)) (flat_map written (map message_of tail))

caller_stream : (own limit : ℕ) (input : List ℕ) (stream : List Message) → IsCallerStream own limit input stream → length (flat_map written stream) ≤ most_requested input
caller_stream own limit input stream h =
    let is = ap (λ (ms : List Message). length (flat_map written ms)) h.is in
    let hello = hello_len own in
    let all = length-append (written (Hello own)) (flat_map written (map message_of (h.pieces ++ end_of In ∷ []))) in
    let both = tail_len h.pieces (end_of In ∷ []) in
    let end : length (flat_map written (map message_of (end_of In ∷ []))) ≡ 8 = omega arith in
    let pieces = in_little limit h.pieces h.each in
    let bytes = ap (λ (xs : List ℕ). length xs) h.all in
    omega (arith, is, hello, all, both, end, pieces, bytes)

serving_stream : (own limit : ℕ) (t : Triple) (stream : List Message) → IsServingStream own limit t stream → length (flat_map written stream) ≤ most_answered t
serving_stream own limit t stream h =
    let is = ap (λ (ms : List Message). length (flat_map written ms)) h.is in
    let tail : List Piece = end_of Out ∷ end_of Err ∷ [] in
    let body : List Message = map message_of (h.pieces ++ tail) in
    let hello = hello_len own in
    let exit = exit_len t.code in
    let all = length-append (written (Hello own)) (flat_map written (body ++ ExitCode t.code ∷ [])) in
    let parts = ap (λ (xs : List ℕ). length xs) (flat_more body (ExitCode t.code ∷ [])) ∙ length-append (flat_map written body) (flat_map written (ExitCode t.code ∷ [])) in
    let last = length-append (written (ExitCode t.code)) [] in
    let both = tail_len h.pieces tail in
    let ends : length (flat_map written (map message_of tail)) ≡ 16 = omega arith in
    let pieces = out_little limit h.pieces h.each in
    let out = ap (λ (xs : List ℕ). length xs) h.stdout in
    let err = ap (λ (xs : List ℕ). length xs) h.stderr in
    omega (arith, is, hello, exit, all, parts, last, both, ends, pieces, out, err)

serving_begun : (own limit : ℕ) (owed : List ℕ → Triple) (input : List ℕ) (stream : List Message) → IsServingBegun own limit owed input stream → length (flat_map written stream) ≤ most_answered (owed input)
serving_begun own limit owed input stream h =
    let is = ap (λ (ms : List Message). length (flat_map written ms)) h.is in
    let hello = hello_len own in
    let all = length-append (written (Hello own)) (flat_map written (map message_of h.pieces)) in
    let pieces = out_little limit h.pieces h.each in
    let same = ap owed (append-nil input) in
    let out = prefix_length (joined Out h.pieces) (owed (input ++ [])).stdout (h.stdout []) in
    let err = prefix_length (joined Err h.pieces) (owed (input ++ [])).stderr (h.stderr []) in
    let out_is = ap (λ (t : Triple). length t.stdout) same in
    let err_is = ap (λ (t : Triple). length t.stderr) same in
    omega (arith, is, hello, all, pieces, out, err, out_is, err_is)

-- ---- what may be sent

caller_little : (own chunk : ℕ) (input got sent : List ℕ) → CallerMaySend own chunk input got sent → length sent ≤ most_requested input
caller_little own chunk input got sent may = by (agreed own got) may
  where
    by : (version : Option ℕ) → MatchOption version (IsPrefixOf sent (written (Hello own))) (λ v. Begins (IsCallerStream own (min chunk (most v)) input) sent) → length sent ≤ most_requested input
    by None prefix = let few = prefix_length sent (written (Hello own)) prefix in let hello = hello_len own in omega (arith, few, hello)
    by (Some v) begins =
        let few = prefix_length sent (flat_map written begins.0) begins.2 in
        let all = caller_stream own (min chunk (most v)) input begins.0 begins.1 in
        omega (arith, few, all)

serving_little : (own chunk : ℕ) (owed : List ℕ → Triple) (got sent : List ℕ) → ServingMaySend own chunk owed got sent → length sent ≤ most_answered (owed (serving_sees got).input)
serving_little own chunk owed got sent may = by (agreed own got) may
  where
    input : List ℕ
    input = (serving_sees got).input

    by_end : (limit : ℕ) (b : Bool) → MatchBool b (Begins (IsServingStream own limit (owed input)) sent) (Begins (IsServingBegun own limit owed input) sent) → length sent ≤ most_answered (owed input)
    by_end limit true begins =
        let few = prefix_length sent (flat_map written begins.0) begins.2 in
        let all = serving_stream own limit (owed input) begins.0 begins.1 in
        omega (arith, few, all)
    by_end limit false begins =
        let few = prefix_length sent (flat_map written begins.0) begins.2 in
        let all = serving_begun own limit owed input begins.0 begins.1 in
        omega (arith, few, all)

    by : (version : Option ℕ) → MatchOption version (sent ≡ []) (λ v. MatchBool (serving_sees got).ended (Begins (IsServingStream own (min chunk (most v)) (owed input)) sent) (Begins (IsServingBegun own (min chunk (most v)) owed input) sent)) → length sent ≤ most_answered (owed input)
    by None none = let few = ap (λ (xs : List ℕ). length xs) none in omega (arith, few)
    by (Some v) m = by_end (min chunk (most v)) (serving_sees got).ended m

pub sessions_send_little_lem : SessionsSendLittle
sessions_send_little_lem = (caller_little, serving_little)

-- ---- what a side that serves sees of a caller's input

-- the bytes of input in messages
abbrev pub input_in : Message → ℕ
input_in (Stdin bytes) = length bytes
input_in message = 0

abbrev pub inputs_in : List Message → ℕ
inputs_in [] = 0
inputs_in (m ∷ messages) = input_in m + inputs_in messages

pub sees_little : (placed : List (Placed Message)) (e : Ending Fault) (before : List Piece) → length (joined In (sees_on serving_use placed e before).pieces) ≤ inputs_in (the_messages placed)
sees_little [] e before = omega arith
sees_little (p ∷ placed) e before = by p.message (λ now. sees_little placed e now)
  where
    next : List Piece → Seen
    next now = sees_on serving_use placed e now

    by : (m : Message) → ((now : List Piece) → length (joined In (next now).pieces) ≤ inputs_in (the_messages placed))
        → length (joined In (sees_one (serving_use m) p.at (number m) before next).pieces) ≤ input_in m + inputs_in (the_messages placed)
    by (Stdin bytes) rest = input (has_ended In before)
      where
        piece : Piece
        piece = record { stream = In; bytes = bytes }

        input : (b : Bool) → length (joined In (if b then decided (Faulty (AfterEnd (offset p.at) (number (Stdin bytes)))) else piece_first piece (next (piece ∷ before))).pieces) ≤ length bytes + inputs_in (the_messages placed)
        input true = omega arith
        input false = let here = joined_len In piece (next (piece ∷ before)).pieces in omega (arith, here, rest (piece ∷ before))
    by _ rest = omega arith

take_little : (k : ℕ) (messages : List Message) → inputs_in (take k messages) ≤ inputs_in messages
take_little (suc k) (m ∷ messages) = let rest = take_little k messages in omega (arith, rest)
take_little _ _ = omega arith

input_len : (limit : ℕ) (pieces : List Piece) → ArePieces is_input limit pieces → inputs_in (map message_of (pieces ++ end_of In ∷ [])) ≡ length (joined In pieces)
input_len limit [] each = refl
input_len limit (p ∷ pieces) each =
    let here = one p.stream p.bytes each.0.0 in
    let front = joined_len In p pieces in
    let own = of_input p.stream (length p.bytes) each.0.0 in
    let rest = input_len limit pieces each.1 in
    omega (arith, here, front, own, rest)
  where
    one : (stream : Stream) (bytes : List ℕ) → is_input stream ≡ true → input_in (message_of (record { stream = stream; bytes = bytes })) ≡ length bytes
    one In bytes is = cc
    one _ bytes is = cc

-- of a stream that begins with a greeting it sees no more than the input in the stream
stream_little : (own : ℕ) (tail : List Message) (got : List ℕ) → IsVersion own → Each (IsGood Data) tail → IsPrefixOf got (flat_map written (Hello own ∷ tail)) → length (serving_sees got).input ≤ inputs_in tail
stream_little own tail got version good prefix = by_placed (reading Data got).placed (reading Data got).ending b.count b.read
  where
    b : BeginsWith (front Data) written (Hello own ∷ tail) got 0
    b = begins (front Data) written (IsGood Data) (is_prefix_code Data) (is_read_again Data) (Hello own ∷ tail) (good_hello own version.small, good) got prefix.0 0 prefix.1

    by_placed : (placed : List (Placed Message)) (e : Ending Fault) (k : ℕ) → the_messages placed ≡ take k (Hello own ∷ tail) → length (joined In (sees_all serving_use placed e).pieces) ≤ inputs_in tail
    by_placed [] e k read = omega arith
    by_placed (p ∷ placed) e zero read = cc
    by_placed (p ∷ placed) e (suc k) read =
        let hello : p.message ≡ Hello own = cc in
        let more : the_messages placed ≡ take k tail = cc in
        let two = version.least in
        let big : nat_lt own 2 ≡ false = grind (arith, nat_tests) in
        let few = sees_little placed e [] in
        let same = ap inputs_in more in
        let within = take_little k tail in
        let all : length (joined In (sees_on serving_use placed e []).pieces) ≤ inputs_in tail = omega (arith, few, same, within) in
        rw (hello, big) all

input_little : (own chunk : ℕ) (input got sent heard : List ℕ) → IsVersion own → CallerMaySend own chunk input got sent → IsPrefixOf heard sent → length (serving_sees heard).input ≤ length input
input_little own chunk input got sent heard version may prefix = by (agreed own got) may
  where
    by : (v : Option ℕ) → MatchOption v (IsPrefixOf sent (written (Hello own))) (λ n. Begins (IsCallerStream own (min chunk (most n)) input) sent) → length (serving_sees heard).input ≤ length input
    by None greets =
        let front = prefix_trans heard sent (written (Hello own)) prefix greets in
        let few = stream_little own [] heard version tt (front.0, front.1 ∙ sym (append-nil (written (Hello own)))) in
        omega (arith, few)
    by (Some n) streams =
        let h = streams.1 in
        let front = prefix_trans heard sent (flat_map written streams.0) prefix streams.2 in
        let few = stream_little own (map message_of (h.pieces ++ end_of In ∷ [])) heard version (input_good (min chunk (most n)) (most_fits chunk n) h.pieces h.each) (front.0, front.1 ∙ ap (λ (ms : List Message). flat_map written ms) h.is) in
        let all = input_len (min chunk (most n)) h.pieces h.each in
        let bytes = ap (λ (xs : List ℕ). length xs) h.all in
        omega (arith, few, all, bytes)

-- ---- what a service owes for its input

split_len : (first : Bool) (input : List ℕ) → length (every_other first input) + length (every_other (not first) input) ≡ length input
split_len first [] = omega arith
split_len true (x ∷ input) = let rest = split_len false input in omega (arith, rest)
split_len false (x ∷ input) = let rest = split_len true input in omega (arith, rest)

count_len : (n : ℕ) → length (count_line n) ≤ 21
count_len n =
    let small : n % 2 ^ 64 < 2 ^ 64 = omega arith in
    let digits = length-decimal-le 20 (n % 2 ^ 64) (lit< tt) (omega (arith, small)) (omega (arith, small)) in
    omega (arith, digits, length-append (decimal (n % 2 ^ 64)) (10 ∷ []))

pub owed_little : (state : State) (input : List ℕ) → length (state_owes state input).stdout + length (state_owes state input).stderr ≤ length input + 21
owed_little Upper input = omega (arith, length-map input to_ascii_uppercase)
owed_little (Count taken) input = omega (arith, count_len (taken + length input))
owed_little (First left) input = omega (arith, length-take left input)
owed_little (Split to_stderr) input = omega (arith, split_len (not to_stderr) input)
owed_little _ input = omega arith

-- ---- both sides of a session

-- what a caller and a side that serves may have sent, if the one that serves got a part of the caller's bytes
pub sides_send_little : (own asked other answered : ℕ) (input replies up got down : List ℕ) (service : Builtin) → IsVersion own → CallerMaySend own asked input replies up → IsPrefixOf got up
    → ServingMaySend other answered (builtin_owes service) got down → length up + length down ≤ 249 + 18 * length input
sides_send_little own asked other answered input replies up got down service version asks prefix answers =
    let requested = caller_little own asked input replies up asks in
    let replied = serving_little other answered (builtin_owes service) got down answers in
    let seen = input_little own asked input replies up got version asks prefix in
    let outputs = owed_little service.state (serving_sees got).input in
    omega (arith, requested, replied, seen, outputs)
