-- The session of an end through a turn, and those of all ends.
use Rattle.std.proofs.Common.{◌≡◌, ℕ, ◌+◌, ◌<◌, ◌≤◌, zero, suc, List, [], ◌∷◌, length, get_or, set, drop, take, replicate, refl, ap, sym, ◌∙◌, subst, arith, add-one, inl, inr, Option, Some, None}
use Rattle.std.specs.Prelude.{true, false, Bool, ◌==◌, ◌-◌, Result, Ok, Err, IfOk, IfNone, slice_get, unwrap_or, if◌then◌else◌}
use Rattle.std.specs.List.{swap_remove}
use Rattle.std.proofs.lemmas.List.{map-set, take-set}
use Rattle.std.proofs.lemmas.List.Sums.{sum_by-cons, sum_by-swap_remove, sum_by-take-drop}
use Rattle.std.proofs.lemmas.Bool.{false≢true}
use Rattle.list_laws.proofs.Places.{get_map, get_set_same, get_set_other}
use Rattle.list_laws.proofs.Tests.{same_number}
use Rattle.qrexec_data.specs.declared.outcome.Outcome.{Outcome}
use Rattle.end_view.specs.EndView.{EndView}
use Rattle.vchan_rule.specs.Seated.{view}
use Rattle.channel_session.specs.declared.pause.Turned.{Turned}
use Rattle.qrexec_data.specs.CallerSide.{caller_half}
use Rattle.channel_session.specs.Session.{CallerAt, ServingAt, Turns, IsRetired, builtin_half}
use Rattle.channel_session.specs.Turning.{KeepsBytes}
use Rattle.channel_session.proofs.KeepingLaws.{keeps_all, keeps_then, retired_keeps}
use Rattle.task_duties.specs.declared.ends.DataEnd.{DataEnd}
use Rattle.task_duties.specs.declared.ends.DoneEnd.{DoneEnd}
use Rattle.task_duties.specs.GivenEnds.{done_view}
use Rattle.agent_slots.specs.declared.side.PageSide.{PageSide}
use Rattle.agent_slots.specs.declared.side.PageSide.TheVariants as side
use Rattle.agent_slots.specs.declared.slot.Slot.{Slot}
use Rattle.agent_slots.specs.declared.stage.Stage.{Stage}
use Rattle.agent_slots.specs.declared.stage.Stage.TheVariants.{Unused, Calls, Awaits, Serves, CallIsOver, ServingIsOver, Taken}
use Rattle.agent_slots.specs.Sides.{seen_under}
use Rattle.agent_slots.specs.Stages.{ForNothing, use_of, is_session, CanTurn}
use Rattle.agent_slots.specs.Given.{unused_slots}
use Rattle.agent_slots.specs.Whole.{sessions, times, AreOpen, TakesFrom}
use Rattle.agent_slots.specs.Sessions.{Session, NotBegun, CallsWith, AwaitsPage, ServesWith, EndedWith, session_of, sessions_in, session_at, is_open, got_in, sent_in, LosesNothing, ComesToItsEnd, TakesTurn, HadNotBegun, CallMade, ServingMade, PageCame, PageAwaited, WasOver, AllTakeTurns, KeepsSessions, Begins, OneTakesTurn}
use Rattle.agent_slots.proofs.OpenLaws.{other_number}
use Rattle.agent_slots.proofs.BeginLaws.{call_used, serving_used}

-- ---- one session

pub call_takes : (old : Session) (before now : CallerAt) → Begins old (CallsWith before) → now.half.replies.outcome ≡ None → ((turned : Turned) × Turns caller_half turned before now) → TakesTurn old (CallsWith now)
call_takes old before now (inl same) none did = CallMade before now did.0 (sym same) refl did.1 none
call_takes old before now (inr began) none did = never began.1.1
  where
    never : CallsWith before ≡ ServesWith began.1.0 → TakesTurn old (CallsWith now)
    never e = cc

pub serving_takes : (old : Session) (before now : ServingAt) → Begins old (ServesWith before) → now.half.answering.outcome ≡ None → ((turned : Turned) × Turns builtin_half turned before now)
    → TakesTurn old (ServesWith now)
serving_takes old before now (inl same) none did = ServingMade before now did.0 (sym same) refl did.1 none
serving_takes old before now (inr began) none did = PageCame before now did.0 began.0 (ap (λ (s : ServingAt). s.pace) (served before began.1.0 began.1.1) ∙ began.1.2) refl did.1 none
  where
    served : (a b : ServingAt) → ServesWith a ≡ ServesWith b → a ≡ b
    served a b e = cc

pub page_takes : (old : Session) → Begins old AwaitsPage → TakesTurn old AwaitsPage
page_takes old (inl same) = PageAwaited (sym same) refl
page_takes old (inr began) = never began.1.1
  where
    never : AwaitsPage ≡ ServesWith began.1.0 → TakesTurn old AwaitsPage
    never e = cc

-- it is said of calls that aren't over
pub said_of : (outcome : Option Outcome) (P : Type 0) → P → IfNone outcome P
said_of (Some outcome) P h = tt
said_of None P h = h

pub told_then : {E : Type 0} (r : Result (Option Outcome) E) (outcome : Option Outcome) (P Q : Type 0) → (outcome ≡ None → P → Q) → IfOk r (λ o. o ≡ outcome) → IfOk r (λ o. IfNone o P) → IfOk r (λ o. IfNone o Q)
told_then (Ok o) outcome P Q f is h = by_outcome o is h
  where
    by_outcome : (o : Option Outcome) → o ≡ outcome → IfNone o P → IfNone o Q
    by_outcome (Some found) is h = tt
    by_outcome None is h = f (sym is) h
told_then (Err e) outcome P Q f is h = tt

pub turn_open : (stage : Stage) → CanTurn stage → is_open (session_of stage) ≡ true
turn_open (Calls number input side session) can = refl
turn_open (Awaits number service serving side) can = refl
turn_open (Serves number service side session) can = refl
turn_open (Unused end) can = absurd can
turn_open (CallIsOver number input done end) can = absurd can
turn_open (ServingIsOver number service outcome got end) can = absurd can
turn_open Taken can = absurd can

-- an end whose session isn't open stays as it is
shut_stays : (stage : Stage) → is_session stage ≡ false → TakesTurn (session_of stage) (session_of stage)
shut_stays (Unused end) is = HadNotBegun refl refl
shut_stays (Calls number input side session) is = absurd (false≢true (sym is))
shut_stays (Awaits number service serving side) is = absurd (false≢true (sym is))
shut_stays (Serves number service side session) is = absurd (false≢true (sym is))
shut_stays (CallIsOver number input done end) is = WasOver (done_view end) refl refl
shut_stays (ServingIsOver number service outcome got end) is = WasOver (done_view end) refl refl
shut_stays Taken is = HadNotBegun refl refl

-- an end that is used for nothing has no session
not_begun : (stage : Stage) → use_of stage ≡ ForNothing → session_of stage ≡ NotBegun
not_begun (Unused end) h = refl
not_begun (Calls number input side session) h = absurd (call_used number input.value.items h)
not_begun (Awaits number service serving side) h = absurd (serving_used number service.value h)
not_begun (Serves number service side session) h = absurd (serving_used number service.value h)
not_begun (CallIsOver number input done end) h = absurd (call_used number input.value.items h)
not_begun (ServingIsOver number service outcome got end) h = absurd (serving_used number service.value h)
not_begun Taken h = refl

-- ---- its bytes

none_less : (n : ℕ) → 0 ≤ n
none_less n = omega arith

not_less : (n : ℕ) → n ≤ n
not_less n = omega arith

loses_then : (a b c : Session) → LosesNothing a b → LosesNothing b c → LosesNothing a c
loses_then a b c one two = record { got = omega (arith, one.got, two.got); sent = omega (arith, one.sent, two.sent) }

pub begins_keeps : (old new : Session) → Begins old new → LosesNothing old new
begins_keeps old new (inl same) = subst (λ (s : Session). LosesNothing old s) (sym same) (record { got = not_less (length (got_in old)); sent = not_less (length (sent_in old)) })
begins_keeps old new (inr came) = subst (λ (s : Session). LosesNothing s new) (sym came.0) (record { got = none_less (length (got_in new)); sent = none_less (length (sent_in new)) })

pub call_keeps : (old : Session) (before now : CallerAt) → Begins old (CallsWith before) → KeepsBytes (view before.end) (view now.end) → LosesNothing old (CallsWith now)
call_keeps old before now began keeps = loses_then old (CallsWith before) (CallsWith now) (begins_keeps old (CallsWith before) began) (record { got = keeps.got; sent = keeps.sent })

pub serving_keeps_on : (old : Session) (before now : ServingAt) → Begins old (ServesWith before) → KeepsBytes (view before.end) (view now.end) → LosesNothing old (ServesWith now)
serving_keeps_on old before now began keeps = loses_then old (ServesWith before) (ServesWith now) (begins_keeps old (ServesWith before) began) (record { got = keeps.got; sent = keeps.sent })

-- an end has the same bytes under its page's name
seen_keeps : (s : PageSide) (end : EndView) → KeepsBytes end (seen_under s end)
seen_keeps side.Laid end = keeps_all end
seen_keeps (side.Server s) end = record { got = not_less (length end.got); sent = not_less (length end.sent) }
seen_keeps (side.Client c) end = record { got = not_less (length end.got); sent = not_less (length end.sent) }

done_keeps : (s : PageSide) (before last : EndView) (end : DoneEnd) → IsRetired before last → done_view end ≡ seen_under s last → KeepsBytes before (done_view end)
done_keeps s before last end retired seen =
    subst (λ (e : EndView). KeepsBytes before e) (sym seen) (keeps_then before last (seen_under s last) (retired_keeps before last retired) (seen_keeps s last))

-- a session that is over came to its end
pub call_ends : (at : CallerAt) (s : PageSide) (last : EndView) (end : DoneEnd) → IsRetired (view at.end) last → done_view end ≡ seen_under s last → ComesToItsEnd (CallsWith at) (EndedWith (done_view end))
call_ends at s last end retired seen =
    let keeps = done_keeps s (view at.end) last end retired seen in record { end = done_view end; was_open = refl; is = refl; keeps = record { got = keeps.got; sent = keeps.sent } }

pub serving_ends : (at : ServingAt) (s : PageSide) (last : EndView) (end : DoneEnd) → IsRetired (view at.end) last → done_view end ≡ seen_under s last → ComesToItsEnd (ServesWith at) (EndedWith (done_view end))
serving_ends at s last end retired seen =
    let keeps = done_keeps s (view at.end) last end retired seen in record { end = done_view end; was_open = refl; is = refl; keeps = record { got = keeps.got; sent = keeps.sent } }

pub ends_after : (old mid new : Session) → is_open old ≡ true → LosesNothing old mid → ComesToItsEnd mid new → ComesToItsEnd old new
ends_after old mid new was_open kept ends = record { end = ends.end; was_open = was_open; is = ends.is; keeps = loses_then old mid new kept ends.keeps }

-- ---- all sessions

pub given_sessions : (ends : List DataEnd) → sessions_in (unused_slots ends) ≡ replicate (length ends) NotBegun
given_sessions [] = refl
given_sessions (e ∷ ends) = ap (λ l. NotBegun ∷ l) (given_sessions ends)

-- a slot took its turn
pub one_takes : (slots : List Slot) (at : ℕ) (slot slot' : Slot) → slice_get slots at ≡ Some slot → TakesTurn (session_of slot.stage) (session_of slot'.stage) → OneTakesTurn at (sessions_in slots) (sessions_in (set slots at slot'))
one_takes slots at slot slot' here takes =
    let was : slice_get (sessions_in slots) at ≡ Some (session_of slot.stage) = get_map (λ (s : Slot). session_of s.stage) slots at slot here in
    subst (λ l. OneTakesTurn at (sessions_in slots) l) (sym (map-set (λ (s : Slot). session_of s.stage) slots at slot')) (record {
      here = subst (λ o. TakesTurn o (session_at (set (sessions_in slots) at (session_of slot'.stage)) at)) (sym (ap (λ o. unwrap_or o NotBegun) was))
          (subst (λ n. TakesTurn (session_of slot.stage) n) (sym (ap (λ o. unwrap_or o NotBegun) (get_set_same (sessions_in slots) at (session_of slot.stage) (session_of slot'.stage) was))) takes);
      others = λ i apart. ap (λ o. unwrap_or o NotBegun) (get_set_other (sessions_in slots) at i (session_of slot'.stage) apart);
    })

-- an end that had no session was put to use
pub keeps_sessions : (slots : List Slot) (at : ℕ) (slot slot' : Slot) → slice_get slots at ≡ Some slot → use_of slot.stage ≡ ForNothing → KeepsSessions (sessions_in slots) (sessions_in (set slots at slot'))
keeps_sessions slots at slot slot' here unused i begun = by_place (at == i) refl
  where
    was : session_at (sessions_in slots) at ≡ NotBegun
    was = ap (λ o. unwrap_or o NotBegun) (get_map (λ (s : Slot). session_of s.stage) slots at slot here) ∙ not_begun slot.stage unused

    by_place : (b : Bool) → (at == i) ≡ b → session_at (sessions_in (set slots at slot')) i ≡ session_at (sessions_in slots) i
    by_place true is = absurd (begun (subst (λ (n : ℕ). session_at (sessions_in slots) n ≡ NotBegun) (same_number at i is) was))
    by_place false is =
        ap (λ l. session_at l i) (map-set (λ (s : Slot). session_of s.stage) slots at slot')
        ∙ ap (λ o. unwrap_or o NotBegun) (get_set_other (sessions_in slots) at i (session_of slot'.stage) (other_number at i is))

-- after some turns: these sessions are yet to take theirs, each once, and all others took theirs
pub record AreTurning (old new : List Session) (ahead : List ℕ) : Type 0 where
  pub once : (i : ℕ) → times i ahead ≤ 1
  pub turned : (i : ℕ) → times i ahead ≡ 0 → TakesTurn (session_at old i) (session_at new i)
  pub kept : (i : ℕ) → 1 ≤ times i ahead → session_at new i ≡ session_at old i

pub turning_first : (slots : List Slot) (busy : List ℕ) → AreOpen (sessions slots) busy → AreTurning (sessions_in slots) (sessions_in slots) busy
turning_first slots busy are = record {
  once = λ i. at_most i (slice_get (sessions slots) i) (are i);
  turned = λ i none. shut i (slice_get slots i) refl none;
  kept = λ i some. refl;
}
  where
    at_most : (i : ℕ) (o : Option Bool) → times i busy ≡ (if unwrap_or o false then 1 else 0) → times i busy ≤ 1
    at_most i (Some true) is = omega (arith, is)
    at_most i (Some false) is = omega (arith, is)
    at_most i None is = omega (arith, is)

    closed : (i : ℕ) (s : Slot) (b : Bool) → is_session s.stage ≡ b → slice_get slots i ≡ Some s → times i busy ≡ 0 → is_session s.stage ≡ false
    closed i s true is here none = absurd (omega (arith, none, are i ∙ ap (λ (o : Option Bool). if unwrap_or o false then 1 else 0) (get_map (λ (x : Slot). is_session x.stage) slots i s here ∙ ap Some is)))
    closed i s false is here none = is

    shut : (i : ℕ) (o : Option Slot) → slice_get slots i ≡ o → times i busy ≡ 0 → TakesTurn (session_at (sessions_in slots) i) (session_at (sessions_in slots) i)
    shut i (Some s) here none =
        let is : session_at (sessions_in slots) i ≡ session_of s.stage = ap (λ o. unwrap_or o NotBegun) (get_map (λ (x : Slot). session_of x.stage) slots i s here) in
        subst (λ (x : Session). TakesTurn x x) (sym is) (shut_stays s.stage (closed i s (is_session s.stage) refl here none))
    shut i None here none = let is : session_at (sessions_in slots) i ≡ NotBegun = ap (λ o. unwrap_or o NotBegun) (get_map_none slots i here) in HadNotBegun is is
      where
        get_map_none : (xs : List Slot) (i : ℕ) → slice_get xs i ≡ None → slice_get (sessions_in xs) i ≡ None
        get_map_none [] i h = refl
        get_map_none (x ∷ xs) zero h = cc
        get_map_none (x ∷ xs) (suc i) h = get_map_none xs i h

pub turning_one : (old mid new : List Session) (ahead left : List ℕ) (at : ℕ) → AreTurning old mid ahead → OneTakesTurn at mid new → TakesFrom at ahead left → AreTurning old new left
turning_one old mid new ahead left at h one takes = record {
  once = λ i. let e = takes i in let f = h.once i in omega (arith, e, f);
  turned = λ i none. by_turned i (at == i) refl none;
  kept = λ i some. by_kept i (at == i) refl some;
}
  where
    counted : (i : ℕ) (b : Bool) → (at == i) ≡ b → times i left + (if b then 1 else 0) ≡ times i ahead
    counted i b is = ap (λ (c : Bool). times i left + (if c then 1 else 0)) (sym is) ∙ takes i

    by_turned : (i : ℕ) (b : Bool) → (at == i) ≡ b → times i left ≡ 0 → TakesTurn (session_at old i) (session_at new i)
    by_turned i true is none =
        let e = same_number at i is in
        let was = h.kept i (let k = counted i true is in omega (arith, k)) in
        subst (λ o. TakesTurn o (session_at new i)) was (subst (λ k. TakesTurn (session_at mid k) (session_at new k)) e one.here)
    by_turned i false is none =
        subst (λ o. TakesTurn (session_at old i) o) (sym (one.others i (other_number at i is))) (h.turned i (let k = counted i false is in omega (arith, k, none)))

    by_kept : (i : ℕ) (b : Bool) → (at == i) ≡ b → 1 ≤ times i left → session_at new i ≡ session_at old i
    by_kept i true is some = absurd (let k = counted i true is in let f = h.once i in omega (arith, k, f, some))
    by_kept i false is some = one.others i (other_number at i is) ∙ h.kept i (let k = counted i false is in omega (arith, k, some))

pub turning_all : (old new : List Session) (ahead : List ℕ) → ahead ≡ [] → AreTurning old new ahead → AllTakeTurns old new
turning_all old new ahead none h = λ i. h.turned i (ap (times i) none)

-- ---- which sessions are yet to take their turn

drop_at : (xs : List ℕ) (k : ℕ) → k < length xs → drop k xs ≡ get_or xs k 0 ∷ drop (suc k) xs
drop_at [] k less = absurd (omega (arith, less))
drop_at (x ∷ xs) zero less = refl
drop_at (x ∷ xs) (suc k) less = drop_at xs k (omega (arith, less))

get_any : (xs : List ℕ) (k d e : ℕ) → k < length xs → get_or xs k d ≡ get_or xs k e
get_any [] k d e less = absurd (omega (arith, less))
get_any (x ∷ xs) zero d e less = refl
get_any (x ∷ xs) (suc k) d e less = get_any xs k d e (omega (arith, less))

-- a number that was read is the one there
pub read_at : (busy : List ℕ) (next at : ℕ) → next < length busy → at ≡ get_or busy next at → at ≡ get_or busy next 0
read_at busy next at less read = read ∙ get_any busy next at 0 less

pub takes_next : (busy : List ℕ) (next : ℕ) → next < length busy → TakesFrom (get_or busy next 0) (drop next busy) (drop (next + 1) busy)
takes_next busy next less = rw add-one (λ i.
    let here = ap (times i) (drop_at busy next less) in
    let parts = sum_by-cons (λ n. if n == i then 1 else 0) (get_or busy next 0) (drop (suc next) busy) in
    omega (arith, here, parts))

take-take : (k m : ℕ) (xs : List ℕ) → k ≤ m → take k (take m xs) ≡ take k xs
take-take zero m xs less = refl
take-take (suc k) zero xs less = absurd (omega (arith, less))
take-take (suc k) (suc m) [] less = refl
take-take (suc k) (suc m) (x ∷ xs) less = ap (λ l. x ∷ l) (take-take k m xs (omega (arith, less)))

before_removed : (xs : List ℕ) (k d : ℕ) → k < length xs → take k (swap_remove xs k d) ≡ take k xs
before_removed xs k d less = take-take k (length xs - 1) _ (omega (arith, less)) ∙ take-set xs k _

pub takes_removed : (busy : List ℕ) (next at : ℕ) → next < length busy → TakesFrom (get_or busy next 0) (drop next busy) (drop next (swap_remove busy next at))
takes_removed busy next at less i =
    let f : ℕ → ℕ = λ n. if n == i then 1 else 0 in
    let all = sum_by-swap_remove f busy next at less in
    let old = sum_by-take-drop f busy next in
    let new = sum_by-take-drop f (swap_remove busy next at) next in
    let same = ap (times i) (before_removed busy next at less) in
    let here = ap f (get_any busy next at 0 less) in
    omega (arith, all, old, new, same, here)

pub none_left : (xs : List ℕ) (k : ℕ) → length xs ≤ k → drop k xs ≡ []
none_left [] zero less = refl
none_left [] (suc k) less = refl
none_left (x ∷ xs) zero less = absurd (omega (arith, less))
none_left (x ∷ xs) (suc k) less = none_left xs k (omega (arith, less))
