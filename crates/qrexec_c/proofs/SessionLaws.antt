-- A session's numbers follow the messages that come and go.
use Rattle.std.proofs.Common.{◌≡◌, ◌≢◌, ℕ, ◌+◌, ◌<◌, ◌≤◌, ◌⊎◌, inl, inr, List, [], ◌∷◌, ◌++◌, length, Result, Some, Ok, Err, refl, sym, ◌∙◌, ap, subst, arith}
use Rattle.std.proofs.lemmas.List.{append-nil}
use Rattle.std.proofs.lemmas.Bool.{cases_lt, lt-ltb, le-ltb, eqb-true, ne_eqb}
use Rattle.std.specs.Prelude.{true, false, Bool, ℤ, ◌==◌, min, nat_lt}
use Rattle.std.specs.Int.{w32, cast_signed}
use Rattle.qrexec_frame.specs.declared.message.Message.{Message}
use Rattle.qrexec_frame.specs.declared.message.Message.TheVariants as message
use Rattle.qrexec_frame.specs.Kinds.{number_of}
use Rattle.qrexec_frame.specs.Messages.{kind_of}
use Rattle.qrexec_frame.specs.Grammar.{Fault}
use Rattle.qrexec_frame.specs.Streams.{Placed, Ending, Rest}
use Rattle.qrexec_hello.specs.Greeting.{greeting}
use Rattle.qrexec_hello.specs.declared.hello.HelloFault.{HelloFault}
use Rattle.qrexec_hello.specs.declared.hello.HelloFault.TheVariants as hello
use Rattle.qrexec_data.specs.declared.outcome.SessionFault.{SessionFault}
use Rattle.qrexec_data.specs.declared.outcome.SessionFault.TheVariants as fault
use Rattle.qrexec_data.specs.Pieces.{Stream, In, Out, Err as Errors, Piece, piece_of, has_ended, no_bytes}
use Rattle.qrexec_data.specs.Seeing.{Seen, Undecided, Exited, Faulty, Use, Carries, Exits, Strays, sees_all, number, offset}
use Rattle.qrexec_data.specs.Sending.{agreed_by}
use Rattle.qrexec_data.proofs.HearingLaws.{Greeted, Accepted, Refused, greeted_any, follows, ended_piece, ended_other}
use Rattle.qrexec_c.specs.declared.session.Session.{Session}
use Rattle.qrexec_c.specs.declared.session.Part.{Part}
use Rattle.qrexec_c.specs.declared.session.Part.TheVariants as part
use Rattle.qrexec_c.specs.Sessions.{takes, reads, flag, version_number, is_over, held_fault, ended_of, HasHeard, listed, part_of, at_fault, with_piece, with_greeting, after_message}

abbrev pub placed_at : ℕ → Message → Placed Message
placed_at at m = record { at = at; message = m }

abbrev pub sees : ℕ → List (Placed Message) → Seen
sees side placed = sees_all (takes side) placed (Rest 0)

-- ---- what is seen of one more message

pub carries : (uses : Message → Use) (q : Placed Message) (placed : List (Placed Message)) (p : Placed Message) (piece : Piece)
    → (sees_all uses (q ∷ placed) (Rest 0)).verdict ≡ Undecided → uses p.message ≡ Carries piece → has_ended piece.stream (sees_all uses (q ∷ placed) (Rest 0)).pieces ≡ false
    → sees_all uses ((q ∷ placed) ++ p ∷ []) (Rest 0) ≡ record { pieces = (sees_all uses (q ∷ placed) (Rest 0)).pieces ++ piece ∷ []; verdict = Undecided }
carries uses q placed p piece none is unended =
    let s = (follows uses 2 q placed p none).seen [] (Rest 0) in
    let ended : has_ended piece.stream s.0 ≡ false = s.1 piece.stream ∙ unended in
    s.2 ∙ rw (is, ended) refl

pub after_end : (uses : Message → Use) (q : Placed Message) (placed : List (Placed Message)) (p : Placed Message) (piece : Piece)
    → (sees_all uses (q ∷ placed) (Rest 0)).verdict ≡ Undecided → uses p.message ≡ Carries piece → has_ended piece.stream (sees_all uses (q ∷ placed) (Rest 0)).pieces ≡ true
    → (rest : List (Placed Message)) (ending : Ending Fault) → (sees_all uses ((q ∷ placed) ++ p ∷ rest) ending).verdict ≡ Faulty (fault.AfterEnd (offset p.at) (number p.message))
after_end uses q placed p piece none is ended rest ending =
    let s = (follows uses 2 q placed p none).seen rest ending in
    let there : has_ended piece.stream s.0 ≡ true = s.1 piece.stream ∙ ended in
    ap (λ x. x.verdict) s.2 ∙ rw (is, there) refl

pub strays : (uses : Message → Use) (q : Placed Message) (placed : List (Placed Message)) (p : Placed Message)
    → (sees_all uses (q ∷ placed) (Rest 0)).verdict ≡ Undecided → uses p.message ≡ Strays
    → (rest : List (Placed Message)) (ending : Ending Fault) → (sees_all uses ((q ∷ placed) ++ p ∷ rest) ending).verdict ≡ Faulty (fault.WrongSide (offset p.at) (number p.message))
strays uses q placed p none is rest ending =
    let s = (follows uses 2 q placed p none).seen rest ending in
    ap (λ x. x.verdict) s.2 ∙ rw is refl

pub exits : (uses : Message → Use) (q : Placed Message) (placed : List (Placed Message)) (p : Placed Message) (code : ℤ)
    → (sees_all uses (q ∷ placed) (Rest 0)).verdict ≡ Undecided → uses p.message ≡ Exits code
    → (rest : List (Placed Message)) (ending : Ending Fault) → sees_all uses ((q ∷ placed) ++ p ∷ rest) ending ≡ record { pieces = (sees_all uses (q ∷ placed) (Rest 0)).pieces; verdict = Exited code }
exits uses q placed p code none is rest ending =
    let s = (follows uses 2 q placed p none).seen rest ending in
    let end : Seen = record { pieces = (sees_all uses (q ∷ placed) (Rest 0)).pieces ++ []; verdict = Exited code } in
    let here : sees_all uses ((q ∷ placed) ++ p ∷ rest) ending ≡ end = s.2 ∙ rw is refl in
    here ∙ rw (append-nil (sees_all uses (q ∷ placed) (Rest 0)).pieces) refl

pub accepted : (uses : Message → Use) (own v : ℕ) (p : Placed Message) → greeting own p.message ≡ Ok v → sees_all uses (p ∷ []) (Rest 0) ≡ record { pieces = []; verdict = Undecided }
accepted uses own v p is = by_greeted (greeted_any own p.message)
  where
    by_greeted : Greeted own p.message → sees_all uses (p ∷ []) (Rest 0) ≡ record { pieces = []; verdict = Undecided }
    by_greeted (Accepted version low same low_is) = rw low_is refl
    by_greeted (Refused f same low_is) = absurd (cc)

pub refused : (uses : Message → Use) (own : ℕ) (p : Placed Message) (f : HelloFault) → greeting own p.message ≡ Err f
    → (rest : List (Placed Message)) (ending : Ending Fault) → (sees_all uses (p ∷ rest) ending).verdict ≡ Faulty (fault.Hello f)
refused uses own p f is rest ending = by_greeted (greeted_any own p.message)
  where
    by_greeted : Greeted own p.message → (sees_all uses (p ∷ rest) ending).verdict ≡ Faulty (fault.Hello f)
    by_greeted (Accepted version low same low_is) = absurd (cc)
    by_greeted (Refused g same low_is) = let one : g ≡ f = cc in rw low_is (ap (λ h. Faulty (fault.Hello h)) one)

-- no version agreed on is 0
not_zero : (own : ℕ) (m : Message) → 2 ≤ own → greeting own m ≡ Ok 0 → ⊥
not_zero own (message.Hello v) two is = by_low (cases_lt v 2) is
  where
    by_low : ((v < 2) ⊎ (2 ≤ v)) → greeting own (message.Hello v) ≡ Ok 0 → ⊥
    by_low (inl low) answer = let here = rw (lt-ltb v 2 low) at answer in cc
    by_low (inr high) answer = let here = rw (le-ltb v 2 high) at answer in let zero : min own v ≡ 0 = cc in omega (arith, zero, two, high)
not_zero own m two is = cc

-- a version was agreed on if and only if there is a first message
pub none_yet : (own : ℕ) (uses : Message → Use) (given : List (Placed Message)) → 2 ≤ own → (sees_all uses given (Rest 0)).verdict ≡ Undecided → version_number (agreed_by own given) ≡ 0 → given ≡ []
none_yet own uses [] two none zero = refl
none_yet own uses (q ∷ placed) two none zero = absurd (by_greeted (greeted_any own q.message))
  where
    okay : ℕ → Result ℕ HelloFault
    okay n = Ok n

    by_greeted : Greeted own q.message → ⊥
    by_greeted (Accepted version low is low_is) =
        let here : version_number (agreed_by own (q ∷ placed)) ≡ version = rw is refl in
        not_zero own q.message two (is ∙ ap okay (sym here ∙ zero))
    by_greeted (Refused f is low_is) = let seen = refused uses own q f is placed (Rest 0) in cc

-- ---- what the numbers of a message say

-- the body of a data message has this length
abbrev pub HasLen : ℕ → Message → Type 0
HasLen len (message.Stdin bytes) = length bytes ≡ len
HasLen len (message.Stdout bytes) = length bytes ≡ len
HasLen len (message.Stderr bytes) = length bytes ≡ len
HasLen len _ = Unit {0}

abbrev pub HasFirst : ℕ → Message → Type 0
HasFirst first (message.Hello version) = first ≡ version
HasFirst first (message.ExitCode code) = cast_signed w32 first ≡ code
HasFirst first _ = Unit {0}

abbrev pub part_at : Stream → Part
part_at In = part.Stdin
part_at Out = part.Stdout
part_at Errors = part.Stderr

abbrev pub carried : Stream → List ℕ → Piece
carried x bytes = record { stream = x; bytes = bytes }

pub data PartView (side kind len : ℕ) (m : Message) : Type 0 where
  Carry : (x : Stream) (bytes : List ℕ) → reads side x ≡ true → part_of side kind ≡ part_at x → takes side m ≡ Carries (carried x bytes) → piece_of m ≡ Some (carried x bytes) → length bytes ≡ len → PartView side kind len m
  Exit : (code : ℤ) → (side == 0) ≡ true → part_of side kind ≡ part.ExitCode → takes side m ≡ Exits code → m ≡ message.ExitCode code → PartView side kind len m
  Stray : part_of side kind ≡ part.Stray → takes side m ≡ Strays → PartView side kind len m

view_by : (side kind len : ℕ) (b : Bool) (m : Message) → (side == 0) ≡ b → kind ≡ number_of (kind_of m) → HasLen len m → PartView side kind len m
view_by side kind len true (message.Stdout bytes) is k h = Carry Out bytes (rw is refl) (rw (is, k) refl) (rw is refl) refl h
view_by side kind len true (message.Stderr bytes) is k h = Carry Errors bytes (rw is refl) (rw (is, k) refl) (rw is refl) refl h
view_by side kind len true (message.ExitCode code) is k h = Exit code is (rw (is, k) refl) (rw is refl) refl
view_by side kind len false (message.Stdin bytes) is k h = Carry In bytes (rw is refl) (rw (is, k) refl) (rw is refl) refl h
view_by side kind len b m is k h = Stray (rw (is, k) refl) (rw is refl)

pub part_view : (side kind len : ℕ) (m : Message) → kind ≡ number_of (kind_of m) → HasLen len m → PartView side kind len m
part_view side kind len m k h = view_by side kind len (side == 0) m refl k h

pub data GreetView (kind first own : ℕ) (m : Message) : Type 0 where
  NoHello : (kind == 0x300) ≡ false → greeting own m ≡ Err (hello.NotHello kind) → GreetView kind first own m
  Low : (kind == 0x300) ≡ true → nat_lt first 2 ≡ true → greeting own m ≡ Err (hello.Version first) → GreetView kind first own m
  High : (kind == 0x300) ≡ true → nat_lt first 2 ≡ false → greeting own m ≡ Ok (min own first) → GreetView kind first own m

pub greet_view : (kind first own : ℕ) (m : Message) → kind ≡ number_of (kind_of m) → HasFirst first m → GreetView kind first own m
greet_view kind first own (message.Hello v) k h = by_low (nat_lt first 2) refl
  where
    by_low : (b : Bool) → nat_lt first 2 ≡ b → GreetView kind first own (message.Hello v)
    by_low true low = Low (rw k refl) low (rw (← h, low) refl)
    by_low false high = High (rw k refl) high (rw (← h, high) refl)
greet_view kind first own m k h = NoHello (rw k refl) (rw k refl)

-- ---- the ends of streams

-- a stream that takes a piece of this length
abbrev pub with_end : Stream → ℕ → Session → Session
with_end In len s = record s { stdin_ended = flag (len == 0) }
with_end Out len s = record s { stdout_ended = flag (len == 0) }
with_end Errors len s = record s { stderr_ended = flag (len == 0) }

pub piece_goes : (x : Stream) (len at kind : ℕ) (s : Session) → ended_of s x ≡ 0 → with_piece (part_at x) len at kind s ≡ with_end x len s
piece_goes In len at kind s is = rw is refl
piece_goes Out len at kind s is = rw is refl
piece_goes Errors len at kind s is = rw is refl

pub piece_late : (x : Stream) (len at kind : ℕ) (s : Session) → ended_of s x ≡ 1 → with_piece (part_at x) len at kind s ≡ at_fault 2 at kind s
piece_late In len at kind s is = rw is refl
piece_late Out len at kind s is = rw is refl
piece_late Errors len at kind s is = rw is refl

no_len : (bytes : List ℕ) (len : ℕ) → length bytes ≡ len → (len == 0) ≡ no_bytes bytes
no_len [] len is = rw (← is) refl
no_len (b ∷ bytes) len is = ne_eqb len 0 (λ zero. absurd (omega (arith, is, zero)))

pub end_after : (x y : Stream) (bytes : List ℕ) (len : ℕ) (s : Session) (pieces : List Piece) → length bytes ≡ len → has_ended x pieces ≡ false
    → ended_of s y ≡ flag (has_ended y pieces) → ended_of (with_end x len s) y ≡ flag (has_ended y (pieces ++ carried x bytes ∷ []))
end_after In In bytes len s pieces is none old = ap flag (no_len bytes len is ∙ sym (ended_piece In pieces (carried In bytes) refl none))
end_after Out Out bytes len s pieces is none old = ap flag (no_len bytes len is ∙ sym (ended_piece Out pieces (carried Out bytes) refl none))
end_after Errors Errors bytes len s pieces is none old = ap flag (no_len bytes len is ∙ sym (ended_piece Errors pieces (carried Errors bytes) refl none))
end_after In Out bytes len s pieces is none old = old ∙ ap flag (sym (ended_other Out pieces (carried In bytes) refl))
end_after In Errors bytes len s pieces is none old = old ∙ ap flag (sym (ended_other Errors pieces (carried In bytes) refl))
end_after Out In bytes len s pieces is none old = old ∙ ap flag (sym (ended_other In pieces (carried Out bytes) refl))
end_after Out Errors bytes len s pieces is none old = old ∙ ap flag (sym (ended_other Errors pieces (carried Out bytes) refl))
end_after Errors In bytes len s pieces is none old = old ∙ ap flag (sym (ended_other In pieces (carried Errors bytes) refl))
end_after Errors Out bytes len s pieces is none old = old ∙ ap flag (sym (ended_other Out pieces (carried Errors bytes) refl))

-- what a stream that takes a piece leaves
pub record Same (s new : Session) : Type 0 where
  pub reader : new.reader ≡ s.reader
  pub side : new.side ≡ s.side
  pub own : new.own ≡ s.own
  pub version : new.version ≡ s.version
  pub greeted : new.greeted ≡ s.greeted
  pub exited : new.exited ≡ s.exited
  pub fault : new.fault ≡ s.fault

pub same_end : (x : Stream) (len : ℕ) (s : Session) → Same s (with_end x len s)
same_end In len s = record { reader = refl; side = refl; own = refl; version = refl; greeted = refl; exited = refl; fault = refl }
same_end Out len s = record { reader = refl; side = refl; own = refl; version = refl; greeted = refl; exited = refl; fault = refl }
same_end Errors len s = record { reader = refl; side = refl; own = refl; version = refl; greeted = refl; exited = refl; fault = refl }

-- ---- a message that comes

-- after a message: nothing is decided, or whatever follows makes no difference
pub data Heard (s new : Session) (given : List (Placed Message)) (p : Placed Message) : Type 0 where
  Goes : new.fault ≡ 0 → new.reader ≡ s.reader → is_over new ≡ false → HasHeard new (given ++ p ∷ []) → (sees new.side (given ++ p ∷ [])).pieces ≡ (sees new.side given).pieces ++ listed (piece_of p.message) → Heard s new given p
  Ends : new.fault ≡ 0 → is_over new ≡ true → ((rest : List (Placed Message)) (ending : Ending Fault) → (sees_all (takes new.side) (given ++ p ∷ rest) ending).verdict ≡ Exited new.code) → Heard s new given p
  Fails : (f : SessionFault) → new.fault ≢ 0 → held_fault new ≡ Some f → ((rest : List (Placed Message)) (ending : Ending Fault) → (sees_all (takes new.side) (given ++ p ∷ rest) ending).verdict ≡ Faulty f) → Heard s new given p

-- a session that holds nothing yet
pub record IsGoing (s : Session) : Type 0 where
  pub own : 2 ≤ s.own
  pub sound : s.reader.fault ≡ 0
  pub none : s.fault ≡ 0
  pub on : is_over s ≡ false

hears_first : (kind first at n : ℕ) (s : Session) (m : Message) → at ≡ offset n → kind ≡ number_of (kind_of m) → HasFirst first m → IsGoing s → HasHeard s []
    → Heard s (with_greeting kind first at s) [] (placed_at n m)
hears_first kind first at n s m at_is k h going heard = by_view (greet_view kind first s.own m k h)
  where
    Is : Session → Type 0
    Is now = Heard s now [] (placed_at n m)

    by_view : GreetView kind first s.own m → Heard s (with_greeting kind first at s) [] (placed_at n m)
    by_view (NoHello is err) =
        let new : with_greeting kind first at s ≡ at_fault 3 at kind s = rw is refl in
        subst Is (sym new) (Fails (fault.Hello (hello.NotHello kind)) (λ no. cc) (rw going.sound refl) (λ rest ending. refused (takes s.side) s.own (placed_at n m) (hello.NotHello kind) err rest ending))
    by_view (Low is low err) =
        let new : with_greeting kind first at s ≡ record (at_fault 4 at kind s) { version = first } = rw (is, low) refl in
        subst Is (sym new) (Fails (fault.Hello (hello.Version first)) (λ no. cc) (rw going.sound refl) (λ rest ending. refused (takes s.side) s.own (placed_at n m) (hello.Version first) err rest ending))
    by_view (High is high ok) =
        let new : with_greeting kind first at s ≡ record s { version = min s.own first } = rw (is, high) refl in
        let seen = accepted (takes s.side) s.own (min s.own first) (placed_at n m) ok in
        let none : listed (piece_of m) ≡ [] = greeting_only m ok in
        subst Is (sym new) (Goes going.none refl going.on (record {
          sound = going.none;
          on = going.on;
          verdict = ap (λ x. x.verdict) seen;
          version = rw ok refl;
          ends = λ stream among. heard.ends stream among ∙ ap (λ x. flag (has_ended stream x.pieces)) (sym seen);
        }) (ap (λ x. x.pieces) seen ∙ sym none))
      where
        greeting_only : (m : Message) → greeting s.own m ≡ Ok (min s.own first) → listed (piece_of m) ≡ []
        greeting_only (message.Stdin bytes) is = absurd (cc)
        greeting_only (message.Stdout bytes) is = absurd (cc)
        greeting_only (message.Stderr bytes) is = absurd (cc)
        greeting_only m is = refl

hears_later : (kind len first at n : ℕ) (s : Session) (q : Placed Message) (placed : List (Placed Message)) (m : Message) → at ≡ offset n → kind ≡ number_of (kind_of m) → HasLen len m → HasFirst first m
    → IsGoing s → (s.version == 0) ≡ false → HasHeard s (q ∷ placed) → Heard s (after_message kind len first at s) (q ∷ placed) (placed_at n m)
hears_later kind len first at n s q placed m at_is k has_len has_first going version heard = by_view (part_view s.side kind len m k has_len)
  where
    Is : Session → Type 0
    Is now = Heard s now (q ∷ placed) (placed_at n m)

    pieces : List Piece
    pieces = (sees s.side (q ∷ placed)).pieces

    agreed_still : version_number (agreed_by s.own ((q ∷ placed) ++ placed_at n m ∷ [])) ≡ version_number (agreed_by s.own (q ∷ placed))
    agreed_still = let f = follows (takes s.side) s.own q placed (placed_at n m) heard.verdict in ap version_number (f.agreed (placed ++ placed_at n m ∷ []) ∙ sym (f.agreed placed))

    by_end : (x : Stream) (bytes : List ℕ) → reads s.side x ≡ true → takes s.side m ≡ Carries (carried x bytes) → piece_of m ≡ Some (carried x bytes) → length bytes ≡ len → (b : Bool) → has_ended x pieces ≡ b
        → Heard s (with_piece (part_at x) len at kind s) (q ∷ placed) (placed_at n m)
    by_end x bytes among is piece has true ended =
        let one : ended_of s x ≡ 1 = heard.ends x among ∙ ap flag ended in
        subst Is (sym (piece_late x len at kind s one)) (Fails (fault.AfterEnd at kind) (λ no. cc) (rw going.sound refl)
        (λ rest ending. after_end (takes s.side) q placed (placed_at n m) (carried x bytes) heard.verdict is ended rest ending ∙ rw (at_is, k) refl))
    by_end x bytes among is piece has false ended =
        let none : ended_of s x ≡ 0 = heard.ends x among ∙ ap flag ended in
        let seen = carries (takes s.side) q placed (placed_at n m) (carried x bytes) heard.verdict is ended in
        let same = same_end x len s in
        subst Is (sym (piece_goes x len at kind s none)) (Goes (same.fault ∙ going.none) same.reader (rw (same.side, same.exited) going.on) (record {
          sound = same.fault ∙ going.none;
          on = rw (same.side, same.exited) going.on;
          verdict = rw same.side (ap (λ z. z.verdict) seen);
          version = rw (same.version, same.own) (heard.version ∙ sym agreed_still);
          ends = λ y read. rw same.side (end_after x y bytes len s pieces has ended (heard.ends y (sym (ap (λ z. reads z y) same.side) ∙ read)) ∙ ap (λ z. flag (has_ended y z.pieces)) (sym seen));
        }) (rw same.side (ap (λ z. z.pieces) seen ∙ ap (λ z. pieces ++ listed z) (sym piece))))

    by_view : PartView s.side kind len m → Heard s (after_message kind len first at s) (q ∷ placed) (placed_at n m)
    by_view (Carry x bytes among part is piece has) = subst Is (sym (after_piece x version part)) (by_end x bytes among is piece has (has_ended x pieces) refl)
      where
        after_piece : (x : Stream) → (s.version == 0) ≡ false → part_of s.side kind ≡ part_at x → after_message kind len first at s ≡ with_piece (part_at x) len at kind s
        after_piece In version part = rw (version, part) refl
        after_piece Out version part = rw (version, part) refl
        after_piece Errors version part = rw (version, part) refl
    by_view (Exit code side part is exit) =
        let new : after_message kind len first at s ≡ record s { exited = 1; code = cast_signed w32 first } = rw (version, part) refl in
        let told : cast_signed w32 first ≡ code = (let P : Message → Type 0 = λ w. HasFirst first w in subst P exit has_first) in
        subst Is (sym new) (Ends going.none (rw side refl) (λ rest ending. ap (λ z. z.verdict) (exits (takes s.side) q placed (placed_at n m) code heard.verdict is rest ending) ∙ ap (λ z. Exited z) (sym told)))
    by_view (Stray part is) =
        let new : after_message kind len first at s ≡ at_fault 1 at kind s = rw (version, part) refl in
        subst Is (sym new) (Fails (fault.WrongSide at kind) (λ no. cc) (rw going.sound refl)
        (λ rest ending. strays (takes s.side) q placed (placed_at n m) heard.verdict is rest ending ∙ rw (at_is, k) refl))

pub hears : (kind len first at n : ℕ) (s : Session) (given : List (Placed Message)) (m : Message) → at ≡ offset n → kind ≡ number_of (kind_of m) → HasLen len m → HasFirst first m
    → IsGoing s → HasHeard s given → Heard s (after_message kind len first at s) given (placed_at n m)
hears kind len first at n s given m at_is k has_len has_first going heard = by_version (s.version == 0) refl
  where
    Is : Session → Type 0
    Is now = Heard s now given (placed_at n m)

    by_given : (given : List (Placed Message)) → (s.version == 0) ≡ false → HasHeard s given → Heard s (after_message kind len first at s) given (placed_at n m)
    by_given [] version heard = absurd (let zero : s.version ≡ 0 = heard.version in let no : (s.version == 0) ≡ true = rw zero refl in cc)
    by_given (q ∷ placed) version heard = hears_later kind len first at n s q placed m at_is k has_len has_first going version heard

    by_version : (b : Bool) → (s.version == 0) ≡ b → Heard s (after_message kind len first at s) given (placed_at n m)
    by_version false later = by_given given later heard
    by_version true first_one =
        let zero : s.version ≡ 0 = eqb-true s.version 0 first_one in
        let empty : given ≡ [] = none_yet s.own (takes s.side) given going.own heard.verdict (sym heard.version ∙ zero) in
        let new : after_message kind len first at s ≡ with_greeting kind first at s = rw first_one refl in
        let L : List (Placed Message) → Type 0 = λ g. Heard s (after_message kind len first at s) g (placed_at n m) in
        let H : List (Placed Message) → Type 0 = λ g. HasHeard s g in
        let I : Session → Type 0 = λ t. Heard s t [] (placed_at n m) in
        subst L (sym empty) (subst I (sym new) (hears_first kind first at n s m at_is k has_first going (subst H empty heard)))
