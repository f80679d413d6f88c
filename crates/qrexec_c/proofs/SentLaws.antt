-- What a session has sent follows the messages that go, and stays where messages come.
use Rattle.std.proofs.Common.{◌≡◌, ◌≢◌, ℕ, ◌+◌, ◌≤◌, ◌⊎◌, inl, inr, List, [], ◌∷◌, ◌++◌, length, refl, sym, ◌∙◌, ap, subst, arith}
use Rattle.std.proofs.lemmas.Bool.{cases_eq, eqb-true, ne_eqb, leb-true}
use Rattle.list_laws.proofs.Each.{each_push}
use Rattle.std.specs.Prelude.{true, false, Bool, ◌==◌, ◌&&◌, not, nat_le, nat_lt, min, if◌then◌else◌}
use Rattle.std.specs.Int.{w32, cast_signed}
use Rattle.std.specs.List.{AllByRecursion as Each}
use Rattle.qrexec_frame.specs.declared.message.Message.{Message}
use Rattle.qrexec_frame.specs.declared.message.Message.TheVariants as message
use Rattle.qrexec_frame.specs.Kinds.{number_of}
use Rattle.qrexec_frame.specs.Messages.{kind_of}
use Rattle.qrexec_frame.specs.Streams.{Placed, Rest}
use Rattle.qrexec_data.specs.Pieces.{Stream, In, Out, Err as Errors, Piece, has_ended}
use Rattle.qrexec_data.specs.Seeing.{Undecided, Exited, Carries}
use Rattle.qrexec_data.specs.Sending.{most}
use Rattle.qrexec_c.specs.declared.reader.Reader.{Reader}
use Rattle.qrexec_c.specs.declared.session.Session.{Session}
use Rattle.qrexec_c.specs.declared.session.Part.{Part}
use Rattle.qrexec_c.specs.declared.session.Part.TheVariants as part
use Rattle.qrexec_c.specs.Sessions.{takes, reads, other, flag, ended_of, HasHeard, HasSent, Sends, seen_of, part_of, part_may_go, may_go, is_going, is_over, at_fault, with_piece, with_greeting, after_message}
use Rattle.qrexec_c.proofs.SessionLaws.{HasLen, PartView, Carry, Exit, Stray, part_view, part_at, carried, carries, exits, with_end, piece_goes, end_after, same_end}

-- ---- the type of a message

pub data KindView (side kind : ℕ) : Type 0 where
  OfStream : (x : Stream) → reads side x ≡ true → part_of side kind ≡ part_at x → KindView side kind
  OfCode : (side == 0) ≡ true → part_of side kind ≡ part.ExitCode → KindView side kind
  OfNone : part_of side kind ≡ part.Stray → KindView side kind

kind_by : (side kind : ℕ) (b i o e x : Bool) → (side == 0) ≡ b → (kind == 0x190) ≡ i → (kind == 0x191) ≡ o → (kind == 0x192) ≡ e → (kind == 0x193) ≡ x → KindView side kind
kind_by side kind true i true e x is i_is o_is e_is x_is = OfStream Out (rw is refl) (rw (is, o_is) refl)
kind_by side kind true i false true x is i_is o_is e_is x_is = OfStream Errors (rw is refl) (rw (is, o_is, e_is) refl)
kind_by side kind true i false false true is i_is o_is e_is x_is = OfCode is (rw (is, o_is, e_is, x_is) refl)
kind_by side kind true i false false false is i_is o_is e_is x_is = OfNone (rw (is, o_is, e_is, x_is) refl)
kind_by side kind false true o e x is i_is o_is e_is x_is = OfStream In (rw is refl) (rw (is, i_is) refl)
kind_by side kind false false o e x is i_is o_is e_is x_is = OfNone (rw (is, i_is) refl)

pub kind_view : (side kind : ℕ) → KindView side kind
kind_view side kind = kind_by side kind (side == 0) (kind == 0x190) (kind == 0x191) (kind == 0x192) (kind == 0x193) refl refl refl refl refl

-- no stream is read by both sides
pub apart : (side len : ℕ) (s : Session) (x y : Stream) → reads side x ≡ true → reads (other side) y ≡ true → ended_of (with_end x len s) y ≡ ended_of s y
apart side len s In Out a b = refl
apart side len s In Errors a b = refl
apart side len s Out In a b = refl
apart side len s Out Errors a b = refl
apart side len s Errors In a b = refl
apart side len s Errors Out a b = refl
apart side len s In In a b = absurd (by_side (side == 0) refl)
  where
    by_side : (c : Bool) → (side == 0) ≡ c → ⊥
    by_side true is = let no = rw is at a in cc
    by_side false is = let no = rw is at b in cc
apart side len s Out Out a b = absurd (by_side (side == 0) refl)
  where
    by_side : (c : Bool) → (side == 0) ≡ c → ⊥
    by_side true is = let no = rw is at b in cc
    by_side false is = let no = rw is at a in cc
apart side len s Errors Errors a b = absurd (by_side (side == 0) refl)
  where
    by_side : (c : Bool) → (side == 0) ≡ c → ⊥
    by_side true is = let no = rw is at b in cc
    by_side false is = let no = rw is at a in cc

-- ---- what messages that come leave

-- what was sent is still so
pub record Kept (s new : Session) : Type 0 where
  pub side : new.side ≡ s.side
  pub own : new.own ≡ s.own
  pub greeted : new.greeted ≡ s.greeted
  pub version : (new.version ≡ s.version) ⊎ (s.version ≡ 0)
  pub exited : s.side ≢ 0 → new.exited ≡ s.exited
  pub ends : (y : Stream) → reads (other s.side) y ≡ true → ended_of new y ≡ ended_of s y

pub sent_kept : (s new : Session) (sent : List (Placed Message)) → Kept s new → HasSent s sent → HasSent new sent
sent_kept s new sent kept has = record {
  none = λ zero. has.none (sym kept.greeted ∙ zero);
  first = λ some. let f = has.first (λ zero. some (kept.greeted ∙ zero)) in (f.0, f.1, rw kept.own f.2);
  early = λ zero. rw kept.side (has.early (before zero kept.version));
  ends = λ y read. let reads_it : reads (other s.side) y ≡ true = ap (λ z. reads (other z) y) (sym kept.side) ∙ read in rw kept.side (kept.ends y reads_it ∙ has.ends y reads_it);
  short = rw kept.side (by_version kept.version);
  goes_on = λ all. rw kept.side (has.goes_on (λ some. sym (kept.exited some) ∙ all (λ zero. some (sym kept.side ∙ zero))));
  exits = λ some out. let some' : s.side ≢ 0 = (λ zero. some (kept.side ∙ zero)) in rw kept.side (has.exits some' (λ zero. out (kept.exited some' ∙ zero)));
}
  where
    before : new.version ≡ 0 → ((new.version ≡ s.version) ⊎ (s.version ≡ 0)) → s.version ≡ 0
    before zero (inl same) = sym same ∙ zero
    before zero (inr none) = none

    by_version : ((new.version ≡ s.version) ⊎ (s.version ≡ 0)) → Each (λ p. length p.bytes ≤ most new.version) (seen_of s.side sent).pieces
    by_version (inl same) = rw same has.short
    by_version (inr none) = let P : List Piece → Type 0 = λ ps. Each (λ p. length p.bytes ≤ most new.version) ps in subst P (sym (has.early none)) tt

pub same_ends : (s new : Session) → new.stdin_ended ≡ s.stdin_ended → new.stdout_ended ≡ s.stdout_ended → new.stderr_ended ≡ s.stderr_ended → (y : Stream) → ended_of new y ≡ ended_of s y
same_ends s new i o e In = i
same_ends s new i o e Out = o
same_ends s new i o e Errors = e

-- a message that tells no stream's end, and no version
plain_kept : (s new : Session) → new.side ≡ s.side → new.own ≡ s.own → new.greeted ≡ s.greeted → ((new.version ≡ s.version) ⊎ (s.version ≡ 0)) → (s.side ≢ 0 → new.exited ≡ s.exited)
    → new.stdin_ended ≡ s.stdin_ended → new.stdout_ended ≡ s.stdout_ended → new.stderr_ended ≡ s.stderr_ended → Kept s new
plain_kept s new side own greeted version exited i o e = record { side = side; own = own; greeted = greeted; version = version; exited = exited; ends = λ y _. same_ends s new i o e y }

fault_kept : (number at kind : ℕ) (s : Session) → Kept s (at_fault number at kind s)
fault_kept number at kind s = plain_kept s (at_fault number at kind s) refl refl refl (inl refl) (λ _. refl) refl refl refl

took : (x : Stream) (len at kind : ℕ) (s : Session) (b : Bool) → (ended_of s x == 0) ≡ b → with_piece (part_at x) len at kind s ≡ (if b then with_end x len s else at_fault 2 at kind s)
took In len at kind s b is = rw is refl
took Out len at kind s b is = rw is refl
took Errors len at kind s b is = rw is refl

piece_kept : (x : Stream) (len at kind : ℕ) (s : Session) → reads s.side x ≡ true → Kept s (with_piece (part_at x) len at kind s)
piece_kept x len at kind s among = by_end (ended_of s x == 0) refl
  where
    Is : Session → Type 0
    Is new = Kept s new

    by_end : (b : Bool) → (ended_of s x == 0) ≡ b → Kept s (with_piece (part_at x) len at kind s)
    by_end true is =
        let same = same_end x len s in
        subst Is (sym (took x len at kind s true is)) (record {
          side = same.side;
          own = same.own;
          greeted = same.greeted;
          version = inl same.version;
          exited = λ _. same.exited;
          ends = λ y read. apart s.side len s x y among read;
        })
    by_end false is = subst Is (sym (took x len at kind s false is)) (fault_kept 2 at kind s)

pub comes_kept : (kind len first at : ℕ) (s : Session) → Kept s (after_message kind len first at s)
comes_kept kind len first at s = by_version (s.version == 0) refl
  where
    Is : Session → Type 0
    Is new = Kept s new

    greeted : (b c : Bool) → (kind == 0x300) ≡ b → nat_lt first 2 ≡ c → s.version ≡ 0 → Kept s (with_greeting kind first at s)
    greeted false c is low none = let new : with_greeting kind first at s ≡ at_fault 3 at kind s = rw is refl in subst Is (sym new) (fault_kept 3 at kind s)
    greeted true true is low none =
        let last : Session = record (at_fault 4 at kind s) { version = first } in
        let new : with_greeting kind first at s ≡ last = rw (is, low) refl in
        subst Is (sym new) (plain_kept s last refl refl refl (inr none) (λ _. refl) refl refl refl)
    greeted true false is low none =
        let last : Session = record s { version = min s.own first } in
        let new : with_greeting kind first at s ≡ last = rw (is, low) refl in
        subst Is (sym new) (plain_kept s last refl refl refl (inr none) (λ _. refl) refl refl refl)

    by_view : (s.version == 0) ≡ false → KindView s.side kind → Kept s (after_message kind len first at s)
    by_view later (OfStream x among part) = subst Is (sym (after_piece x later part)) (piece_kept x len at kind s among)
      where
        after_piece : (x : Stream) → (s.version == 0) ≡ false → part_of s.side kind ≡ part_at x → after_message kind len first at s ≡ with_piece (part_at x) len at kind s
        after_piece In later part = rw (later, part) refl
        after_piece Out later part = rw (later, part) refl
        after_piece Errors later part = rw (later, part) refl
    by_view later (OfCode side part) =
        let last : Session = record s { exited = 1; code = cast_signed w32 first } in
        let new : after_message kind len first at s ≡ last = rw (later, part) refl in
        subst Is (sym new) (plain_kept s last refl refl refl (inl refl) (λ some. absurd (some (eqb-true s.side 0 side))) refl refl refl)
    by_view later (OfNone part) = let new : after_message kind len first at s ≡ at_fault 1 at kind s = rw (later, part) refl in subst Is (sym new) (fault_kept 1 at kind s)

    by_version : (b : Bool) → (s.version == 0) ≡ b → Kept s (after_message kind len first at s)
    by_version true is = let new : after_message kind len first at s ≡ with_greeting kind first at s = rw is refl in
        subst Is (sym new) (greeted (kind == 0x300) (nat_lt first 2) refl refl (eqb-true s.version 0 is))
    by_version false is = by_view is (kind_view s.side kind)

-- the reader's numbers don't matter
pub reader_kept : (s : Session) (r : Reader) → Kept s (record s { reader = r })
reader_kept s r = plain_kept s (record s { reader = r }) refl refl refl (inl refl) (λ _. refl) refl refl refl

pub next_kept : (kind len first at : ℕ) (s new : Session) (r : Reader) (sent : List (Placed Message)) → new ≡ after_message kind len first at (record s { reader = r }) → HasSent s sent → HasSent new sent
next_kept kind len first at s new r sent is has =
    let now : Session = record s { reader = r } in
    let P : Session → Type 0 = λ t. HasSent t sent in
    subst P (sym is) (sent_kept now (after_message kind len first at now) sent (comes_kept kind len first at now) (sent_kept s now sent (reader_kept s r) has))

pub next_keeps : (kind len first at : ℕ) (s new : Session) (r : Reader) → new ≡ after_message kind len first at (record s { reader = r }) → (new.side ≡ s.side) × (new.own ≡ s.own) × (new.greeted ≡ s.greeted)
next_keeps kind len first at s new r is =
    let kept = comes_kept kind len first at (record s { reader = r }) in
    (ap (λ z. z.side) is ∙ kept.side, ap (λ z. z.own) is ∙ kept.own, ap (λ z. z.greeted) is ∙ kept.greeted)

-- ---- a message that goes

both : (a b : Bool) → (a && b) ≡ true → (a ≡ true) × (b ≡ true)
both true b is = (refl, is)
both false b is = absurd (cc)

not_true : (a : Bool) → not a ≡ true → a ≡ false
not_true true is = absurd (cc)
not_true false is = refl

-- what may go after the greeting
pub later_goes : (s : Session) (kind len : ℕ) → s.greeted ≢ 0 → may_go s kind len ≡ true → (s.version ≢ 0) × (part_may_go s (part_of (other s.side) kind) len ≡ true)
later_goes s kind len greeted may =
    let h : (not (s.version == 0) && part_may_go s (part_of (other s.side) kind) len) ≡ true = rw (ne_eqb s.greeted 0 greeted) at may in
    let b = both (not (s.version == 0)) _ h in
    (λ zero. let no = not_true (s.version == 0) b.0 in let yes : (s.version == 0) ≡ true = rw zero refl in cc, b.1)

piece_may : (x : Stream) (s : Session) (len : ℕ) → part_may_go s (part_at x) len ≡ true → (ended_of s x ≡ 0) × (len ≤ most s.version)
piece_may In s len is = let b = both (s.stdin_ended == 0) (nat_le len (most s.version)) is in (eqb-true s.stdin_ended 0 b.0, leb-true len (most s.version) b.1)
piece_may Out s len is = let b = both (s.stdout_ended == 0) (nat_le len (most s.version)) is in (eqb-true s.stdout_ended 0 b.0, leb-true len (most s.version) b.1)
piece_may Errors s len is = let b = both (s.stderr_ended == 0) (nat_le len (most s.version)) is in (eqb-true s.stderr_ended 0 b.0, leb-true len (most s.version) b.1)

record CodeMay (s : Session) : Type 0 where
  stdout : s.stdout_ended ≡ 1
  stderr : s.stderr_ended ≡ 1
  exited : s.exited ≡ 0

code_may : (s : Session) (len : ℕ) → part_may_go s part.ExitCode len ≡ true → CodeMay s
code_may s len is =
    let one = both (len == 4) _ is in
    let two = both (s.stdout_ended == 1) _ one.1 in
    let three = both (s.stderr_ended == 1) (s.exited == 0) two.1 in
    record { stdout = eqb-true s.stdout_ended 1 two.0; stderr = eqb-true s.stderr_ended 1 three.0; exited = eqb-true s.exited 0 three.1 }

reads_twice : (side : ℕ) (b : Bool) → (side == 0) ≡ b → (y : Stream) → reads (other (other side)) y ≡ reads side y
reads_twice side true is y = rw is refl
reads_twice side false is y = rw is refl

-- what was heard is still so
pub heard_kept : (s new : Session) (given : List (Placed Message)) → new.side ≡ s.side → new.own ≡ s.own → new.version ≡ s.version → new.fault ≡ s.fault → (is_over s ≡ false → is_over new ≡ false)
    → ((y : Stream) → reads s.side y ≡ true → ended_of new y ≡ ended_of s y) → HasHeard s given → HasHeard new given
heard_kept s new given side own version sound on ends heard = record {
  sound = sound ∙ heard.sound;
  on = on heard.on;
  verdict = rw side heard.verdict;
  version = rw own (version ∙ heard.version);
  ends = λ y read. let reads_it : reads s.side y ≡ true = ap (λ z. reads z y) (sym side) ∙ read in rw side (ends y reads_it ∙ heard.ends y reads_it);
}

-- who sends an exit code is no caller
serving : (s : Session) → (other s.side == 0) ≡ true → is_over (record s { exited = 1 }) ≡ false
serving s side = by_side (s.side == 0) refl
  where
    by_side : (b : Bool) → (s.side == 0) ≡ b → is_over (record s { exited = 1 }) ≡ false
    by_side true is = absurd (let no = rw is at side in cc)
    by_side false is = rw is refl

pub goes_heard : (kind len : ℕ) (s : Session) (given : List (Placed Message)) → part_may_go s (part_of (other s.side) kind) len ≡ true → HasHeard s given
    → HasHeard (with_piece (part_of (other s.side) kind) len 0 kind s) given
goes_heard kind len s given may heard = by_view (kind_view (other s.side) kind)
  where
    Is : Session → Type 0
    Is new = HasHeard new given

    by_view : KindView (other s.side) kind → HasHeard (with_piece (part_of (other s.side) kind) len 0 kind s) given
    by_view (OfStream x among part) =
        let here : part_may_go s (part_at x) len ≡ true = rw part at may in
        let same = same_end x len s in
        let new : with_piece (part_of (other s.side) kind) len 0 kind s ≡ with_end x len s = ap (λ z. with_piece z len 0 kind s) part ∙ piece_goes x len 0 kind s (piece_may x s len here).0 in
        subst Is (sym new) (heard_kept s (with_end x len s) given same.side same.own same.version same.fault (λ on. rw (same.side, same.exited) on)
        (λ y read. apart (other s.side) len s x y among (reads_twice s.side (s.side == 0) refl y ∙ read)) heard)
    by_view (OfCode side part) =
        let new : with_piece (part_of (other s.side) kind) len 0 kind s ≡ record s { exited = 1 } = rw part refl in
        subst Is (sym new) (heard_kept s (record s { exited = 1 }) given refl refl refl refl (λ _. serving s side) (λ y _. same_ends s (record s { exited = 1 }) refl refl refl y) heard)
    by_view (OfNone part) = absurd (let no = rw part at may in cc)

len_of : (own len : ℕ) (m : Message) → Sends own len m → HasLen len m
len_of own len (message.Stdin bytes) h = h
len_of own len (message.Stdout bytes) h = h
len_of own len (message.Stderr bytes) h = h
len_of own len m h = tt

flag_true : (b : Bool) → flag b ≡ 1 → b ≡ true
flag_true true is = refl
flag_true false is = absurd (omega (arith, is))

pub goes_later : (kind len : ℕ) (s : Session) (sent : List (Placed Message)) (p : Placed Message) → s.greeted ≢ 0 → s.version ≢ 0 → part_may_go s (part_of (other s.side) kind) len ≡ true
    → kind ≡ number_of (kind_of p.message) → Sends s.own len p.message → HasSent s sent → HasSent (with_piece (part_of (other s.side) kind) len 0 kind s) (sent ++ p ∷ [])
goes_later kind len s sent p greeted version may k sends has = by_view (part_view (other s.side) kind len p.message k (len_of s.own len p.message sends))
  where
    Is : Session → Type 0
    Is new = HasSent new (sent ++ p ∷ [])

    pieces : List Piece
    pieces = (seen_of s.side sent).pieces

    begun : (at : ℕ) × (rest : List (Placed Message)) × (sent ++ p ∷ [] ≡ record { at = at; message = message.Hello s.own } ∷ rest)
    begun = let f = has.first greeted in (f.0, f.1 ++ p ∷ [], ap (λ z. z ++ p ∷ []) f.2)

    -- what the other side sees of one message more
    one_more : (x : Stream) (bytes : List ℕ) → takes (other s.side) p.message ≡ Carries (carried x bytes) → has_ended x pieces ≡ false → (seen_of s.side sent).verdict ≡ Undecided
        → seen_of s.side (sent ++ p ∷ []) ≡ record { pieces = pieces ++ carried x bytes ∷ []; verdict = Undecided }
    one_more x bytes is none undecided =
        let f = has.first greeted in
        let T : List (Placed Message) → Type 0 = λ z. has_ended x (seen_of s.side z).pieces ≡ false → (seen_of s.side z).verdict ≡ Undecided
        → seen_of s.side (z ++ p ∷ []) ≡ record { pieces = (seen_of s.side z).pieces ++ carried x bytes ∷ []; verdict = Undecided } in
        subst T (sym f.2) (λ none undecided. carries (takes (other s.side)) (record { at = f.0; message = message.Hello s.own }) f.1 p (carried x bytes) undecided is none) none undecided

    -- an exit code has gone only after both outputs ended
    unexited : (x : Stream) → reads (other s.side) x ≡ true → ended_of s x ≡ 0 → s.side ≢ 0 → s.exited ≡ 0
    unexited x among open_yet some = by_exited (cases_eq s.exited 0)
      where
        ended : (x : Stream) → reads (other s.side) x ≡ true → has_ended Out pieces ≡ true → has_ended Errors pieces ≡ true → ended_of s x ≡ 0 → ⊥
        ended In among o e open_yet = let no = rw (ne_eqb s.side 0 some) at among in cc
        ended Out among o e open_yet = let one : ended_of s Out ≡ 1 = has.ends Out among ∙ ap flag o in omega (arith, one, open_yet)
        ended Errors among o e open_yet = let one : ended_of s Errors ≡ 1 = has.ends Errors among ∙ ap flag e in omega (arith, one, open_yet)

        by_exited : ((s.exited ≡ 0) ⊎ (s.exited ≡ 0 → ⊥)) → s.exited ≡ 0
        by_exited (inl zero) = zero
        by_exited (inr out) = absurd (let e = has.exits some out in ended x among e.2 e.3 open_yet)

    carry : (x : Stream) (bytes : List ℕ) → reads (other s.side) x ≡ true → takes (other s.side) p.message ≡ Carries (carried x bytes) → length bytes ≡ len → (ended_of s x ≡ 0) × (len ≤ most s.version)
        → HasSent (with_end x len s) (sent ++ p ∷ [])
    carry x bytes among is sized may =
        let same = same_end x len s in
        let open_flag : has_ended x pieces ≡ false = flag_false (has_ended x pieces) (sym (has.ends x among) ∙ may.0) in
        let unsent = unexited x among may.0 in
        let seen = one_more x bytes is open_flag (has.goes_on unsent) in
        let short : length bytes ≤ most s.version = omega (arith, sized, may.1) in
        let P : Piece → Type 0 = λ q. length q.bytes ≤ most s.version in
        record {
          none = λ zero. absurd (greeted (sym same.greeted ∙ zero));
          first = λ _. rw same.own begun;
          early = λ zero. absurd (version (sym same.version ∙ zero));
          ends = λ y read. rw same.side (end_after x y bytes len s pieces sized open_flag (has.ends y (ap (λ z. reads (other z) y) (sym same.side) ∙ read)) ∙ ap (λ z. flag (has_ended y z.pieces)) (sym seen));
          short = rw (same.side, same.version, seen) (each_push P pieces (carried x bytes) has.short short);
          goes_on = λ _. rw same.side (ap (λ z. z.verdict) seen);
          exits = λ some out. absurd (out (same.exited ∙ unsent (λ zero. some (same.side ∙ zero))));
        }
      where
        flag_false : (b : Bool) → flag b ≡ 0 → b ≡ false
        flag_false true is = absurd (omega (arith, is))
        flag_false false is = refl

    by_view : PartView (other s.side) kind len p.message → HasSent (with_piece (part_of (other s.side) kind) len 0 kind s) (sent ++ p ∷ [])
    by_view (Carry x bytes among part is piece sized) =
        let here : part_may_go s (part_at x) len ≡ true = rw part at may in
        let goes = piece_may x s len here in
        let new : with_piece (part_of (other s.side) kind) len 0 kind s ≡ with_end x len s = ap (λ z. with_piece z len 0 kind s) part ∙ piece_goes x len 0 kind s goes.0 in
        subst Is (sym new) (carry x bytes among is sized goes)
    by_view (Exit code side type is exit) =
        let here : part_may_go s part.ExitCode len ≡ true = rw type at may in
        let last = code_may s len here in
        let undecided : (seen_of s.side sent).verdict ≡ Undecided = has.goes_on (λ _. last.exited) in
        let f = has.first greeted in
        let T : List (Placed Message) → Type 0 = λ z. (seen_of s.side z).verdict ≡ Undecided → seen_of s.side (z ++ p ∷ []) ≡ record { pieces = (seen_of s.side z).pieces; verdict = Exited code } in
        let seen : seen_of s.side (sent ++ p ∷ []) ≡ record { pieces = pieces; verdict = Exited code } =
        subst T (sym f.2) (λ undecided. exits (takes (other s.side)) (record { at = f.0; message = message.Hello s.own }) f.1 p code undecided is [] (Rest 0)) undecided in
        let serving : s.side ≢ 0 = (λ zero. let no = rw zero at side in cc) in
        let out : has_ended Out pieces ≡ true = flag_true (has_ended Out pieces) (sym (has.ends Out (rw side refl)) ∙ last.stdout) in
        let err : has_ended Errors pieces ≡ true = flag_true (has_ended Errors pieces) (sym (has.ends Errors (rw side refl)) ∙ last.stderr) in
        let new : with_piece (part_of (other s.side) kind) len 0 kind s ≡ record s { exited = 1 } = rw type refl in
        subst Is (sym new) (record {
          none = λ zero. absurd (greeted zero);
          first = λ _. begun;
          early = λ zero. absurd (version zero);
          ends = λ y read. same_ends s (record s { exited = 1 }) refl refl refl y ∙ has.ends y read ∙ ap (λ z. flag (has_ended y z.pieces)) (sym seen);
          short = rw seen has.short;
          goes_on = λ all. absurd (omega (arith, all serving));
          exits = λ _ _. (code, ap (λ z. z.verdict) seen, rw seen out, rw seen err);
        })
    by_view (Stray part is) = absurd (let no = rw part at may in cc)

-- ---- the same of the code's values

pub record Went (s new : Session) (kind len : ℕ) : Type 0 where
  pub greeted : s.greeted ≢ 0
  pub may : (is_going s && may_go s kind len) ≡ true
  pub new_is : new ≡ with_piece (part_of (other s.side) kind) len 0 kind s

pub went : (kind len side : ℕ) (s new : Session) (p : Part) → s.greeted ≢ 0 → (is_going s && may_go s kind len) ≡ true → side ≡ other s.side → p ≡ part_of side kind → new ≡ with_piece p len 0 kind s → Went s new kind len
went kind len side s new p greeted may other_is part_is is = record {
  greeted = greeted;
  may = may;
  new_is = is ∙ ap (λ z. with_piece z len 0 kind s) (part_is ∙ ap (λ z. part_of z kind) other_is);
}

pub went_sent : (s new : Session) (kind len : ℕ) → Went s new kind len → (sent : List (Placed Message)) (p : Placed Message) → kind ≡ number_of (kind_of p.message) → Sends s.own len p.message
    → HasSent s sent → HasSent new (sent ++ p ∷ [])
went_sent s new kind len w sent p k sends has =
    let goes = later_goes s kind len w.greeted (both (is_going s) (may_go s kind len) w.may).1 in
    let P : Session → Type 0 = λ z. HasSent z (sent ++ p ∷ []) in
    subst P (sym w.new_is) (goes_later kind len s sent p w.greeted goes.0 goes.1 k sends has)

pub record Keeps (s new : Session) : Type 0 where
  pub reader : new.reader ≡ s.reader
  pub side : new.side ≡ s.side
  pub own : new.own ≡ s.own
  pub version : new.version ≡ s.version

pub went_keeps : (s new : Session) (kind len : ℕ) → Went s new kind len → Keeps s new
went_keeps s new kind len w =
    let goes = later_goes s kind len w.greeted (both (is_going s) (may_go s kind len) w.may).1 in
    let P : Session → Type 0 = λ z. Keeps s z in
    subst P (sym w.new_is) (by_view goes.1 (kind_view (other s.side) kind))
  where
    Is : Session → Type 0
    Is z = Keeps s z

    by_view : part_may_go s (part_of (other s.side) kind) len ≡ true → KindView (other s.side) kind → Keeps s (with_piece (part_of (other s.side) kind) len 0 kind s)
    by_view may (OfStream x among type) =
        let here : part_may_go s (part_at x) len ≡ true = rw type at may in
        let same = same_end x len s in
        let new : with_piece (part_of (other s.side) kind) len 0 kind s ≡ with_end x len s = ap (λ z. with_piece z len 0 kind s) type ∙ piece_goes x len 0 kind s (piece_may x s len here).0 in
        subst Is (sym new) (record { reader = same.reader; side = same.side; own = same.own; version = same.version })
    by_view may (OfCode side type) =
        let new : with_piece (part_of (other s.side) kind) len 0 kind s ≡ record s { exited = 1 } = rw type refl in
        subst Is (sym new) (record { reader = refl; side = refl; own = refl; version = refl })
    by_view may (OfNone type) = absurd (let no = rw type at may in cc)

pub went_heard : (s new : Session) (kind len : ℕ) → Went s new kind len → (given : List (Placed Message)) → HasHeard s given → HasHeard new given
went_heard s new kind len w given heard =
    let goes = later_goes s kind len w.greeted (both (is_going s) (may_go s kind len) w.may).1 in
    let P : Session → Type 0 = λ z. HasHeard z given in
    subst P (sym w.new_is) (goes_heard kind len s given goes.1 heard)
