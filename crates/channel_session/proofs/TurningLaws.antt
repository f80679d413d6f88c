-- A turn of a session, by its parts: the look for a signal, the drain and the write.
use Rattle.std.proofs.Common.{◌≡◌, ℕ, ◌<◌, ◌≤◌, List, length, Option, Some, None, refl, sym, ap, ◌∙◌, inl, inr, subst, arith}
use Rattle.std.specs.Prelude.{◌↔◌, ◌⊎◌, Bool, true, false, not, ◌||◌, IsSome, is_some, IfOk, Result, Ok}
use Rattle.vchan_protocol.specs.declared.call.Call.TheVariants.{Write, Drain}
use Rattle.vchan_protocol.specs.declared.call.Answer.TheVariants.{Full, PeerClosed, NotYet}
use Rattle.vchan_protocol.specs.Table.Calls.{Trace}
use Rattle.vchan_protocol.specs.History.Core.{standing_of}
use Rattle.vchan_protocol.specs.Answering.Causes.{DrainCause, WriteCause}
use Rattle.vchan_protocol.specs.Answering.Loads.{loads_of}
use Rattle.vchan_lifecycle.specs.declared.DrainAnswer.{DrainAnswer}
use Rattle.vchan_lifecycle.specs.declared.DrainAnswer.TheVariants.{NotYet as IsNotYet}
use Rattle.vchan_lifecycle.specs.Lifecycle.{drain_told, FindsNotYet}
use Rattle.vchan_stream.specs.declared.WriteAnswer.{WriteAnswer}
use Rattle.vchan_stream.specs.declared.WriteAnswer.TheVariants.{Full as IsFull, PeerClosed as IsShut}
use Rattle.vchan_stream.specs.Stream.{write_told}
use Rattle.qrexec_data.specs.declared.outcome.Outcome.{Outcome}
use Rattle.qrexec_data.specs.Half.{HalfOf}
use Rattle.end_view.specs.EndView.{EndView}
use Rattle.vchan_rule.specs.Seated.{SeatedEnd, view}
use Rattle.vchan_rule.specs.Ends.{IsSameEnd}
use Rattle.vchan_rule.specs.Called.{most_asked as asked_most, most_asked}
use Rattle.vchan_rule.proofs.EndLaws.{same_end_then}
use Rattle.channel_session.specs.Session.{SessionAt, Turns, Reads, Writes, HasNothing}
use Rattle.channel_session.specs.Turning.{Pace, IsMade, KeepsBytes, HasMoved, FindsFull, FindsShut, SendsNone, NothingWaits, WasShut, RingIsFull, PeerIsShut, IsQuiet, KeepsShut, turned_by}

-- ---- what one call found

pub finds_not_yet : (before at now : SeatedEnd) (buf : List ℕ) (prod cons : ℕ) → at ≡ before → 0 < length buf → Trace (standing_of at.side) (Drain (asked_most buf)) now.side.trail (NotYet prod cons)
    → ((other : DrainAnswer) → (IsNotYet prod cons ≡ other) ↔ DrainCause (standing_of at.side) (asked_most buf) (loads_of (standing_of at.side) now.side.trail) (drain_told other)) → FindsNotYet before now
finds_not_yet before at now buf prod cons same some trail cause = subst (λ e. FindsNotYet e now) same (record {
  most = asked_most buf;
  some = omega (arith, some);
  prod = prod;
  cons = cons;
  trail = trail;
  cause = (cause (IsNotYet prod cons)).0 refl;
})

pub finds_full : (before at now : SeatedEnd) (piece waiting : List ℕ) (prod cons : ℕ) → at ≡ before → waiting ≡ piece → Trace (standing_of at.side) (Write (most_asked piece)) now.side.trail (Full prod cons)
    → ((other : WriteAnswer) → (IsFull prod cons ≡ other) ↔ WriteCause (standing_of at.side) (most_asked piece) (loads_of (standing_of at.side) now.side.trail) (write_told other)) → FindsFull before now (most_asked waiting)
finds_full before at now piece waiting prod cons same waits trail cause = subst (λ w. FindsFull before now (most_asked w)) (sym waits) (subst (λ e. FindsFull e now (most_asked piece)) same (record {
  prod = prod;
  cons = cons;
  trail = trail;
  cause = (cause (IsFull prod cons)).0 refl;
}))

pub finds_shut : (at now : SeatedEnd) (piece : List ℕ) → Trace (standing_of at.side) (Write (most_asked piece)) now.side.trail PeerClosed
    → ((other : WriteAnswer) → (IsShut ≡ other) ↔ WriteCause (standing_of at.side) (most_asked piece) (loads_of (standing_of at.side) now.side.trail) (write_told other)) → FindsShut at now (most_asked piece)
finds_shut at now piece trail cause = record { trail = trail; cause = (cause IsShut).0 refl }

-- what a call's result tells, where it is this one
pub told_ok : {B E : Type 0} (P : B → Type 0) (r : Result B E) (b : B) → r ≡ Ok b → IfOk r P → P b
told_ok P r b is h = subst (λ x. IfOk x P) is h

pub none_from : {A : Type 0} (o : Option A) → is_some o ≡ false → o ≡ None
none_from None is = refl
none_from (Some a) is = cc

-- ---- the parts of a turn

sends_as : (P Q : Type 0) (waiting : List ℕ) (shut shut' : Bool) (before now : SeatedEnd) → (P → Q) → shut ≡ shut' → SendsNone P waiting shut before now → SendsNone Q waiting shut' before now
sends_as P Q waiting shut shut' before now f same (NothingWaits still is) = NothingWaits (f still) is
sends_as P Q waiting shut shut' before now f same (WasShut was saw is) = WasShut (sym same ∙ was) saw is
sends_as P Q waiting shut shut' before now f same (RingIsFull some full) = RingIsFull some full
sends_as P Q waiting shut shut' before now f same (PeerIsShut some found) = PeerIsShut some found

-- the bytes of an end after both halves of a turn that moved something
turn_keeps : (v a b c : EndView) → a ≡ v → length a.got ≤ length b.got → b.sent ≡ a.sent → c.got ≡ b.got → length b.sent ≤ length c.sent → KeepsBytes v c
turn_keeps v a b c is came sent got went = subst (λ (e : EndView). KeepsBytes e c) is (record {
  got = let same = ap (λ (l : List ℕ). length l) got in omega (arith, came, same);
  sent = let same = ap (λ (l : List ℕ). length l) sent in omega (arith, went, same);
})

-- as many bytes as before
as_long : (xs ys : List ℕ) → ys ≡ xs → length xs ≤ length ys
as_long xs ys same = let long = ap (λ (l : List ℕ). length l) same in omega (arith, long)

-- a turn whose first half moved something
by_read : (v a b c : EndView) (over over' : Option Outcome) → a ≡ v → length a.got ≤ length b.got → (length a.got < length b.got) ⊎ IsSome over → b.sent ≡ a.sent → c.got ≡ b.got → length b.sent ≤ length c.sent
    → (IsSome over → IsSome over') → HasMoved v c over'
by_read v a b c over over' is came more sent got went stays = record { kept = turn_keeps v a b c is came sent got went; more = by_more more }
  where
    by_more : (length a.got < length b.got) ⊎ IsSome over → (length v.got < length c.got) ⊎ (length v.sent < length c.sent) ⊎ IsSome over'
    by_more (inl more) = inl (subst (λ e. length e.got < length c.got) is (subst (λ g. length a.got < length g) (sym got) more))
    by_more (inr some) = inr (inr (stays some))

-- one whose second half alone did
by_write : (v a b c : EndView) (over : Option Outcome) → a ≡ v → b.got ≡ a.got → b.sent ≡ a.sent → c.got ≡ b.got → length b.sent < length c.sent → HasMoved v c over
by_write v a b c over is read sent got more = record {
  kept = turn_keeps v a b c is (as_long a.got b.got read) sent got (omega (arith, more));
  more = inr (inl (subst (λ s. length s < length c.sent) (sent ∙ ap (λ e. e.sent) is) more));
}

-- and one in which neither did
by_none : (P Q : Type 0) (waiting : List ℕ) (shut shut' : Bool) (old found left now : SeatedEnd) → IsSameEnd old found → IsSameEnd found left → IsSameEnd left now → view found ≡ view old → FindsNotYet found left
    → (P → Q) → shut ≡ shut' → SendsNone P waiting shut left now → IsQuiet Q waiting shut' old now
by_none P Q waiting shut shut' old found left now one two three is not_yet f same sends = record {
  found = found;
  left = left;
  same = one;
  same_left = two;
  same_now = three;
  view_is = is;
  not_yet = not_yet;
  sends = sends_as P Q waiting shut shut' left now f same sends;
}

same_through : (a b c d : SeatedEnd) → IsSameEnd a b → IsSameEnd b c → IsSameEnd c d → IsSameEnd a d
same_through a b c d one two three = same_end_then a b d one (same_end_then b c d two three)

went_on : {S : Type 0} (h : HalfOf S) (went : Bool) (b c : SessionAt S) → Writes h went b c → length (view b.end).sent ≤ length (view c.end).sent
went_on h true b c more = omega (arith, more)
went_on h false b c rests = as_long (view b.end).sent (view c.end).sent rests.0

still_nothing : {S : Type 0} (h : HalfOf S) (old b : SessionAt S) → b.half ≡ old.half → (view b.end).got ≡ (view old.end).got → (view b.end).sent ≡ (view old.end).sent → HasNothing h b → HasNothing h old
still_nothing h old b half got sent nothing owed on =
    subst h.IsStill half (nothing owed (record {
      got = ap h.got half ∙ (on.got ∙ sym got);
      stands = subst (λ s. h.StandsFor owed s (view b.end).sent) (sym half) (subst (λ l. h.StandsFor owed old.half l) (sym sent) on.stands);
    }))

pub turns : {S : Type 0} (h : HalfOf S) (came went : Bool) (old a b c : SessionAt S) (pace : Pace) → IsSameEnd old.end a.end → IsSameEnd a.end b.end → IsSameEnd b.end c.end → view a.end ≡ view old.end → a.half ≡ old.half → a.pace ≡ old.pace → h.outcome old.half ≡ None
    → Reads h came a b → b.pace ≡ a.pace → (view b.end).sent ≡ (view a.end).sent
    → Writes h went b c → (view c.end).got ≡ (view b.end).got → (IsSome (h.outcome b.half) → IsSome (h.outcome c.half))
    → IsMade (not (came || went)) pace → Turns h (turned_by (came || went)) old (record { half = c.half; end = c.end; pace = pace })
turns h true went old a b c pace same same' same'' is half was none reads paced sent writes got outcome made =
    (by_read (view old.end) (view a.end) (view b.end) (view c.end) (h.outcome b.half) (h.outcome c.half) is reads.0 reads.1 sent got (went_on h went b c writes) outcome, made, same_through old.end a.end b.end c.end same same' same'')
turns h false true old a b c pace same same' same'' is half was none reads paced sent more got outcome made =
    (by_write (view old.end) (view a.end) (view b.end) (view c.end) (h.outcome c.half) is reads.1 sent got more, made, same_through old.end a.end b.end c.end same same' same'')
turns h false false old a b c pace same same' same'' is half was none reads paced sent rests got outcome made =
    let kept = reads.0 ∙ half in
    let got_is = reads.1 ∙ ap (λ v. v.got) is in
    let sent_is = sent ∙ ap (λ v. v.sent) is in (
      (got ∙ got_is, rests.0 ∙ sent_is, rests.1 ∙ (ap h.outcome kept ∙ none)),
      made,
      by_none (HasNothing h b) (HasNothing h old) (h.waiting c.half) b.pace.peer_shut old.pace.peer_shut old.end a.end b.end c.end same same' same'' is reads.2 (still_nothing h old b kept got_is sent_is)
          (ap (λ p. p.peer_shut) (paced ∙ was)) rests.2,
    )

-- ---- the peer

-- what is kept of the peer, after the look and the drain
pub keeps_shut : (old mid new : Pace) (before at left now : SeatedEnd) → mid ≡ old → IsSameEnd before at → IsSameEnd at left → KeepsShut mid new left now → KeepsShut old new before now
keeps_shut old mid new before at left now same one two keeps = subst (λ p. KeepsShut p new before now) same (keeps.0, λ shut. by_found (keeps.1 shut))
  where
    by_found : (mid.peer_shut ≡ true) ⊎ ((end : SeatedEnd) × (count : ℕ) × IsSameEnd left end × FindsShut end now count)
        → (mid.peer_shut ≡ true) ⊎ ((end : SeatedEnd) × (count : ℕ) × IsSameEnd before end × FindsShut end now count)
    by_found (inl was) = inl was
    by_found (inr found) = inr (found.0, found.1, same_end_then before left found.0 (same_end_then before at left one two) found.2, found.3)
