-- The spelled messages are those at the front, and more bytes change nothing of them.
use Rattle.std.proofs.Common.{◌≡◌, ℕ, ◌+◌, ◌<◌, ◌≤◌, List, [], ◌∷◌, ◌++◌, length, take, drop, refl, sym, ◌∙◌, ap, arith, length-append, append_assoc}
use Rattle.std.proofs.lemmas.List.{length-take-le, length-drop, drop-append-le, take-append-le, take-append-drop, take_all, take_at, drop-take}
use Rattle.std.specs.Int.{w32, from_le_bytes}
use Rattle.qrexec_frame.specs.declared.kind.Channel.{Channel}
use Rattle.qrexec_frame.specs.declared.message.Message.{Message}
use Rattle.qrexec_frame.specs.declared.kind.Kind.{Kind}
use Rattle.qrexec_frame.specs.declared.kind.Kind.TheVariants as kind
use Rattle.qrexec_frame.specs.Kinds.{most_len}
use Rattle.qrexec_frame.specs.Messages.{kind_of}
use Rattle.qrexec_frame.specs.Grammar.{number_at, Spelled, Fault, UnknownType, TooLong, BadLength, NoNul, HasHeader, IsInRange, Shows}
use Rattle.qrexec_frame.specs.Fronts.{front, made}
use Rattle.qrexec_frame.specs.Streams.{Front, Whole, IsPrefixCode}
use Rattle.qrexec_frame.proofs.FrontLaws.{IsEnded, front_no_header, front_no_type, front_too_long, front_bad_length, front_no_body, front_no_nul, front_whole}
use Rattle.qrexec_frame.proofs.SpellingLaws.{Standing, NoHeader, NoType, Long, OffRange, NoBody, Unended, Said, standing, shown_front, front_shown, says_made, says_ended, made_says, kind_of_made}

-- a number of four bytes doesn't depend on what follows
four_append : (a b : List ℕ) → 4 ≤ length a → from_le_bytes w32 (a ++ b) ≡ from_le_bytes w32 a
four_append [] b long = absurd (omega arith)
four_append (p ∷ []) b long = absurd (omega arith)
four_append (p ∷ q ∷ []) b long = absurd (omega arith)
four_append (p ∷ q ∷ r ∷ []) b long = absurd (omega arith)
four_append (p ∷ q ∷ r ∷ s ∷ a) b long = refl

pub number_at_append : (start : ℕ) (a b : List ℕ) → start + 4 ≤ length a → number_at start (a ++ b) ≡ number_at start a
number_at_append start a b long =
    let within : start ≤ length a = omega (arith, long) in
    let rest : 4 ≤ length (drop start a) = omega (arith, long, length-drop start a) in
    rw (drop-append-le start a b within) (four_append (drop start a) b rest)

-- a whole body doesn't depend on what follows
pub body_append : (len : ℕ) (a b : List ℕ) → 8 + len ≤ length a → take len (drop 8 (a ++ b)) ≡ take len (drop 8 a)
body_append len a b long =
    let eight : 8 ≤ length a = omega (arith, long) in
    let rest : len ≤ length (drop 8 a) = omega (arith, long, length-drop 8 a) in
    rw (drop-append-le 8 a b eight) (take-append-le len (drop 8 a) b rest)

pub HasHeader_append : (channel : Channel) (a b : List ℕ) (number len : ℕ) (kind : Kind) → HasHeader channel a number len kind → HasHeader channel (a ++ b) number len kind
HasHeader_append channel a b number len kind header = record {
  there = omega (arith, header.there, length-append a b);
  number_is = header.number_is ∙ sym (number_at_append 0 a b (omega (arith, header.there)));
  len_is = header.len_is ∙ sym (number_at_append 4 a b (omega (arith, header.there)));
  kind_is = header.kind_is;
}

-- a fault that shows stays
pub Shows_append : (channel : Channel) (a b : List ℕ) (f : Fault) → Shows channel a f → Shows channel (a ++ b) f
Shows_append channel a b (UnknownType number) shows =
    (omega (arith, shows.0, length-append a b), shows.1 ∙ sym (number_at_append 0 a b (omega (arith, shows.0))), shows.2)
Shows_append channel a b (TooLong number len) shows = (shows.0, HasHeader_append channel a b number len shows.0 shows.1, shows.2)
Shows_append channel a b (BadLength number len) shows = (shows.0, HasHeader_append channel a b number len shows.0 shows.1, shows.2, shows.3)
Shows_append channel a b (NoNul number) shows =
    let same = body_append shows.1 a b shows.4 in
    (shows.0, shows.1, HasHeader_append channel a b number shows.1 shows.0 shows.2, shows.3, omega (arith, shows.4, length-append a b), shows.5, rw same shows.6)

-- no type has a longer body
pub most_len_le : (k : Kind) → most_len k ≤ 65536
most_len_le kind.Hello = omega arith
most_len_le kind.Stdin = omega arith
most_len_le kind.Stdout = omega arith
most_len_le kind.Stderr = omega arith
most_len_le kind.ExitCode = omega arith
most_len_le kind.Exec = omega arith
most_len_le kind.JustExec = omega arith
most_len_le kind.Connect = omega arith
most_len_le kind.Refused = omega arith
most_len_le kind.Terminated = omega arith
most_len_le kind.Trigger3 = omega arith
most_len_le kind.Trigger = omega arith

-- a spelled message stands at the front, whatever follows it
pub Spelled_front : (channel : Channel) (bytes more : List ℕ) (m : Message) → Spelled channel bytes m → front channel (bytes ++ more) ≡ Whole m (length bytes)
Spelled_front channel bytes more m spelled =
    front_whole channel (bytes ++ more) (number_at 0 bytes) (number_at 4 bytes) (kind_of m) header range there ended ∙ whole
  where
    eight : 8 ≤ length bytes
    eight = omega (arith, spelled.len)

    header : HasHeader channel (bytes ++ more) (number_at 0 bytes) (number_at 4 bytes) (kind_of m)
    header = HasHeader_append channel bytes more (number_at 0 bytes) (number_at 4 bytes) (kind_of m) (record { there = eight; number_is = refl; len_is = refl; kind_is = spelled.kind })

    range : IsInRange (kind_of m) (number_at 4 bytes)
    range = record { short = omega (arith, spelled.most, most_len_le (kind_of m)); least = spelled.least; most = spelled.most }

    there : 8 + number_at 4 bytes ≤ length (bytes ++ more)
    there = omega (arith, spelled.len, length-append bytes more)

    body : take (number_at 4 bytes) (drop 8 (bytes ++ more)) ≡ drop 8 bytes
    body = body_append (number_at 4 bytes) bytes more (omega (arith, spelled.len)) ∙ take_all (number_at 4 bytes) (drop 8 bytes) (omega (arith, spelled.len, length-drop 8 bytes))

    ended : IsEnded (kind_of m) (take (number_at 4 bytes) (drop 8 (bytes ++ more)))
    ended = rw body (says_ended (drop 8 bytes) m spelled.says)

    as_front : Message → ℕ → Front Message Fault
    as_front message n = Whole message n

    whole : as_front (made (kind_of m) (take (number_at 4 bytes) (drop 8 (bytes ++ more)))) (8 + number_at 4 bytes) ≡ as_front m (length bytes)
    whole = let made_is = says_made (drop 8 bytes) m spelled.says in let size = spelled.len in rw body cc

-- what stands at the front as a whole message is spelled
pub front_spelled : (channel : Channel) (bytes : List ℕ) (m : Message) (n : ℕ) → front channel bytes ≡ Whole m n → (0 < n) × (n ≤ length bytes) × Spelled channel (take n bytes) m
front_spelled channel bytes m n is = by_standing (standing channel bytes)
  where
    by_standing : Standing channel bytes → (0 < n) × (n ≤ length bytes) × Spelled channel (take n bytes) m
    by_standing (NoHeader less) = let here = front_no_header channel bytes less in cc
    by_standing (NoType there none) = let here = front_no_type channel bytes there none in cc
    by_standing (Long kind header long) = let here = front_too_long channel bytes _ _ kind header long in cc
    by_standing (OffRange kind header short off) = let here = front_bad_length channel bytes _ _ kind header short off in cc
    by_standing (NoBody kind header range less) = let here = front_no_body channel bytes _ _ kind header range less in cc
    by_standing (Unended kind header range there line last) = let here = front_no_nul channel bytes _ _ kind header range there line last in cc
    by_standing (Said kind header range there ended) =
        let here = front_whole channel bytes _ _ kind header range there ended in
        let size : n ≡ 8 + number_at 4 bytes = cc in
        let said : m ≡ made kind (take (number_at 4 bytes) (drop 8 bytes)) = cc in
        (omega (arith, size), omega (arith, size, there), rw (size, said) spelled)
      where
        len : ℕ
        len = number_at 4 bytes

        front_len : length (take (8 + number_at 4 bytes) bytes) ≡ 8 + number_at 4 bytes
        front_len = length-take-le (8 + number_at 4 bytes) bytes there

        parts : take (8 + number_at 4 bytes) bytes ++ drop (8 + number_at 4 bytes) bytes ≡ bytes
        parts = take-append-drop (8 + number_at 4 bytes) bytes

        same_at : (start : ℕ) → start ≤ 4 → number_at start (take (8 + number_at 4 bytes) bytes) ≡ number_at start bytes
        same_at start low =
            sym (number_at_append start (take (8 + number_at 4 bytes) bytes) (drop (8 + number_at 4 bytes) bytes) (omega (arith, front_len, low))) ∙ ap (number_at start) parts

        body : drop 8 (take (8 + number_at 4 bytes) bytes) ≡ take (number_at 4 bytes) (drop 8 bytes)
        body = drop-take 8 (number_at 4 bytes) bytes

        type : kind_of (made kind (take (number_at 4 bytes) (drop 8 bytes))) ≡ kind
        type = kind_of_made kind (take (number_at 4 bytes) (drop 8 bytes))

        spelled : Spelled channel (take (8 + number_at 4 bytes) bytes) (made kind (take (number_at 4 bytes) (drop 8 bytes)))
        spelled = record {
          kind = rw (same_at 0 (omega arith), type) header.kind_is;
          len = front_len ∙ ap (λ k. 8 + k) (sym (same_at 4 (omega arith)));
          least = rw (same_at 4 (omega arith), type) range.least;
          most = rw (same_at 4 (omega arith), type) range.most;
          says = rw body (made_says kind (take (number_at 4 bytes) (drop 8 bytes)) ended);
        }

-- of two spellings at the front of the same bytes neither is longer, and both spell one message
pub only_spelling : (channel : Channel) (a b x y : List ℕ) (m n : Message) → Spelled channel a m → Spelled channel b n → a ++ x ≡ b ++ y → (a ≡ b) × (m ≡ n)
only_spelling channel a b x y m n first second same =
    let one = Spelled_front channel a x m first in
    let two = Spelled_front channel b y n second in
    let both : as_front m (length a) ≡ as_front n (length b) = sym one ∙ ap (front channel) same ∙ two in
    let size : length a ≡ length b = cc in
    let message : m ≡ n = cc in
    (sym (take_at a x (length a) refl) ∙ ap (take (length a)) same ∙ take_at b y (length a) (sym size), message)
  where
    as_front : Message → ℕ → Front Message Fault
    as_front message k = Whole message k

-- no message or fault at the front is another once more bytes come
pub is_prefix_code : (channel : Channel) → IsPrefixCode (front channel)
is_prefix_code channel = record {
  sized = λ bytes m n is. let found = front_spelled channel bytes m n is in (found.0, found.1);
  whole_stays = λ a b m n is.
      let found = front_spelled channel a m n is in
      let size : length (take n a) ≡ n = length-take-le n a found.1 in
      let parts : take n a ++ (drop n a ++ b) ≡ a ++ b = sym (append_assoc (take n a) (drop n a) b) ∙ ap (λ c. c ++ b) (take-append-drop n a) in
      ap (front channel) (sym parts) ∙ Spelled_front channel (take n a) (drop n a ++ b) m found.2 ∙ ap (λ k. Whole m k) size;
  bad_stays = λ a b f is. shown_front channel (a ++ b) f (Shows_append channel a b f (front_shown channel a f is));
}
