-- What a turn says of a task raises the number of what the task has done, or is that of a turn that did nothing.
use Rattle.std.proofs.Common.{◌≡◌, ◌≢◌, ℕ, ◌+◌, ◌-◌, ◌<◌, ◌≤◌, zero, suc, Bool, true, false, List, [], ◌∷◌, drop, length, Option, Some, None, refl, sym, ap, ◌∙◌, subst, arith, inl, inr}
use Rattle.std.specs.Prelude.{◌⊎◌, is_some, IsSome}
use Rattle.std.proofs.lemmas.Bool.{false≢true}
use Rattle.std.specs.List.{AllZip as EachPair}
use Rattle.qrexec_data.specs.declared.outcome.Outcome.{Outcome}
use Rattle.scenario_file.specs.declared.acts.Act.{Act}
use Rattle.end_view.specs.EndView.{EndView}
use Rattle.vchan_rule.specs.Seated.{view}
use Rattle.task_pool.specs.declared.task.Turn.{Turn}
use Rattle.task_pool.specs.declared.task.Turn.TheVariants as turn
use Rattle.task_duties.specs.declared.done.ControlEnd.{ControlEnd}
use Rattle.task_duties.specs.Hostile.Given.{HostilePlan}
use Rattle.channel_session.specs.declared.pause.Turned.{Turned}
use Rattle.channel_session.specs.declared.pause.Turned.TheVariants.{Moved, Quiet, Passed}
use Rattle.qrexec_data.specs.Half.{HalfOf}
use Rattle.qrexec_data.specs.CallerSide.{caller_half}
use Rattle.channel_session.specs.Session.{SessionAt, Turns, builtin_half}
use Rattle.channel_session.specs.Turning.{KeepsBytes, HasMoved as BytesMoved}
use Rattle.channel_session.proofs.KeepingLaws.{turn_keeps}
use Rattle.agent_slots.specs.Sessions.{Session, NotBegun, CallsWith, AwaitsPage, ServesWith, EndedWith, session_at, is_open, got_in, sent_in, TakesTurn}
use Rattle.agent_slots.specs.Sessions as by
use Rattle.agent_control.specs.declared.control.AgentControl.{AgentControl}
use Rattle.agent_task.specs.State.{AgentState, TurnsEach}
use Rattle.agent_task.specs.Moving.{HearsNothing, SaysNoMore, HasNotGreeted, WasNotGreeted, HasStopped, TurnsControl, TurnsChannel, KeepsChannel}
use Rattle.broker_task.specs.Lines.{is_begun, is_shut}
use Rattle.broker_task.specs.Moving.{BrokerLine, HasMoved, IsQuiet, HasTurned}
use Rattle.broker_task.specs.Posting.{one_if}
use Rattle.hostile_task.specs.Plan.{HostileState}
use Rattle.hostile_task.specs.Turns.{GoesOn, all_turns, turns_left}
use Rattle.domain_task.specs.declared.done.TaskDone.{TaskDone}
use Rattle.domain_task.specs.declared.task.Task.{Task}
use Rattle.domain_task.specs.declared.task.Task.TheVariants.{Agent, Broker, Hostile}
use Rattle.domain_task.specs.Turning.{TaskTurns}
use Rattle.domain_task.specs.Working.{bytes_on, bytes_of, HearsAndSaysNothing, IsStill, ChannelRests, IsUp, WasOver, SessionRests, CallerRests, ServingRests, PageAwaited, HasNotBegun, HadEnded, AgentRests, work_in, work_in_all, work_of, work_with, work_with_all, Rests, turns_made, Works}

more_or_same : (a b : ℕ) → a ≤ b → (a < b) ⊎ (a ≡ b)
more_or_same zero zero within = inr refl
more_or_same zero (suc b) within = inl (omega arith)
more_or_same (suc a) zero within = absurd (omega (arith, within))
more_or_same (suc a) (suc b) within = lifted (more_or_same a b (omega (arith, within)))
  where
    lifted : (a < b) ⊎ (a ≡ b) → (suc a < suc b) ⊎ (suc a ≡ suc b)
    lifted (inl less) = inl (omega (arith, less))
    lifted (inr same) = inr (ap (λ (n : ℕ). suc n) same)

-- ---- an agent, by its control channel

says_got : (calls : ℕ) (old new : AgentControl) → SaysNoMore calls old new → (view new.port.end).got ≡ (view old.port.end).got
says_got calls old new (HasNotGreeted is same) = ap (λ (c : AgentControl). (view c.port.end).got) same
says_got calls old new (WasNotGreeted is same) = ap (λ (c : AgentControl). (view c.port.end).got) same
says_got calls old new (HasStopped more sent stops) = more.port.2

says_sent : (calls : ℕ) (old new : AgentControl) → SaysNoMore calls old new → length (view old.port.end).sent ≤ length (view new.port.end).sent
says_sent calls old new (HasNotGreeted is same) = subst (λ (c : AgentControl). length (view old.port.end).sent ≤ length (view c.port.end).sent) (sym same) (omega arith)
says_sent calls old new (WasNotGreeted is same) = subst (λ (c : AgentControl). length (view old.port.end).sent ≤ length (view c.port.end).sent) (sym same) (omega arith)
says_sent calls old new (HasStopped more sent stops) = sent

control_moves : (calls : ℕ) (old new : AgentControl) → TurnsControl calls old new → (bytes_on old.port.end < bytes_on new.port.end) ⊎ HearsAndSaysNothing old new
control_moves calls old new t = by_found t.listens.found
  where
    got : length (view new.port.end).got ≡ length (view t.waiting.port.end).got
    got = ap (λ (l : List ℕ). length l) (says_got calls t.waiting new t.says)

    sent : length (view old.port.end).sent ≤ length (view new.port.end).sent
    sent = omega (arith, t.listens.sent, says_sent calls t.waiting new t.says)

    by_sent : (n : HearsNothing old.port t.waiting.port.end) → (length (view old.port.end).sent < length (view new.port.end).sent) ⊎ (length (view old.port.end).sent ≡ length (view new.port.end).sent)
        → (bytes_on old.port.end < bytes_on new.port.end) ⊎ HearsAndSaysNothing old new
    by_sent n (inl more) = let none = ap (λ (l : List ℕ). length l) n.none in inl (omega (arith, got, none, more))
    by_sent n (inr same) = let none = ap (λ (l : List ℕ). length l) n.none in inr (record { heard = t.waiting.port.end; nothing = n; got = omega (arith, got, none); sent = sym same })

    by_found : (length (view old.port.end).got < length (view t.waiting.port.end).got) ⊎ HearsNothing old.port t.waiting.port.end → (bytes_on old.port.end < bytes_on new.port.end) ⊎ HearsAndSaysNothing old new
    by_found (inl more) = inl (omega (arith, got, sent, more))
    by_found (inr nothing) = by_sent nothing (more_or_same _ _ sent)

channel_moves : (pages : ℕ) (old new : Option AgentControl) → TurnsChannel pages old new → (bytes_of old < bytes_of new) ⊎ IsStill old new
channel_moves pages (Some old) (Some new) t = control_moves _ old new t
channel_moves pages _ _ t = absurd t

channel_keeps : (was now : Option ControlEnd) (old new : Option AgentControl) → KeepsChannel was now old new → bytes_of old ≤ bytes_of new
channel_keeps was now (Some old) (Some new) k = omega (arith, k.bytes.got, k.bytes.sent)
channel_keeps was now _ _ k = absurd k

channel_stays : (was now : Option ControlEnd) (old new : Option AgentControl) → KeepsChannel was now old new → (how : ControlEnd) → was ≡ Some how → now ≡ Some how
channel_stays was now (Some old) (Some new) k how is = (k.over how is).0
channel_stays was now _ _ k how is = absurd k

-- the bytes of the channel, and one more once it is over
abbrev channel_work : AgentState → ℕ
channel_work task = bytes_of task.channel + one_if (is_some task.over)

channel_works : (old new : AgentState) → KeepsChannel old.over new.over old.channel new.channel → (new.over ≡ None → TurnsChannel new.pages old.channel new.channel)
    → (channel_work old ≤ channel_work new) × ((channel_work old < channel_work new) ⊎ ChannelRests old new)
channel_works old new keeps turns = by_over old.over new.over refl refl
  where
    bytes : bytes_of old.channel ≤ bytes_of new.channel
    bytes = channel_keeps old.over new.over old.channel new.channel keeps

    counted : (o : Option ControlEnd) (p : Option ControlEnd) → o ≡ p → one_if (is_some o) ≡ one_if (is_some p)
    counted o p is = ap (λ (q : Option ControlEnd). one_if (is_some q)) is

    by_moves : old.over ≡ None → new.over ≡ None → (bytes_of old.channel < bytes_of new.channel) ⊎ IsStill old.channel new.channel
        → (channel_work old ≤ channel_work new) × ((channel_work old < channel_work new) ⊎ ChannelRests old new)
    by_moves was is (inl more) =
        let a = counted old.over None was in
        let b = counted new.over None is in (omega (arith, bytes, a, b), inl (omega (arith, more, a, b)))
    by_moves was is (inr still) =
        let a = counted old.over None was in
        let b = counted new.over None is in (omega (arith, bytes, a, b), inr (IsUp was is still))

    by_over : (a b : Option ControlEnd) → old.over ≡ a → new.over ≡ b → (channel_work old ≤ channel_work new) × ((channel_work old < channel_work new) ⊎ ChannelRests old new)
    by_over None None was is = by_moves was is (channel_moves new.pages old.channel new.channel (turns is))
    by_over None (Some how) was is =
        let a = counted old.over None was in
        let b = counted new.over (Some how) is in (omega (arith, bytes, a, b), inl (omega (arith, bytes, a, b)))
    by_over (Some how) b was is =
        let stays = channel_stays old.over new.over old.channel new.channel keeps how was in
        let a = counted old.over (Some how) was in
        let b = counted new.over (Some how) stays in (omega (arith, bytes, a, b), inr (WasOver how was stays))

-- ---- its sessions

-- what a step makes of a number of work: it isn't lowered, and it is raised or `Rests` holds
abbrev Works_or : ℕ → ℕ → Type 0 → Type 0
Works_or old new Rests = (old ≤ new) × ((old < new) ⊎ Rests)

not_moved : (turned : Turned) → (turned ≡ Quiet) ⊎ (turned ≡ Passed) → turned ≢ Moved
not_moved turned (inl is) moved = cc
not_moved turned (inr is) moved = cc

-- bytes came or went, and the call isn't over
moved_bytes : (before now : EndView) (outcome : Option Outcome) → BytesMoved before now outcome → outcome ≡ None → length before.got + length before.sent < length now.got + length now.sent
moved_bytes before now outcome moved none = by_more moved.more
  where
    by_more : (length before.got < length now.got) ⊎ (length before.sent < length now.sent) ⊎ IsSome outcome → length before.got + length before.sent < length now.got + length now.sent
    by_more (inl more) = omega (arith, more, moved.kept.sent)
    by_more (inr (inl more)) = omega (arith, more, moved.kept.got)
    by_more (inr (inr over)) = absurd (false≢true (subst (λ (o : Option Outcome). IsSome o) none over))

turn_moves : {S : Type 0} (h : HalfOf S) (turned : Turned) (before now : SessionAt S) → Turns h turned before now → h.outcome now.half ≡ None → (bytes_on before.end < bytes_on now.end) ⊎ (turned ≢ Moved)
turn_moves h Moved before now turn none = inl (moved_bytes (view before.end) (view now.end) (h.outcome now.half) turn.0 none)
turn_moves h Quiet before now turn none = inr (not_moved Quiet (inl refl))
turn_moves h Passed before now turn none = inr (not_moved Passed (inr refl))

-- the number of a session that is open is that of its bytes, and two more at most
open_worth : (session : Session) → is_open session ≡ true → work_in session ≤ length (got_in session) + length (sent_in session) + 2
open_worth NotBegun is = absurd (false≢true is)
open_worth (EndedWith end) is = absurd (false≢true is)
open_worth _ is = omega arith

-- a side that makes a turn
turn_works : {S : Type 0} (h : HalfOf S) (turned : Turned) (before now : SessionAt S) (old new : Session) → Turns h turned before now → h.outcome now.half ≡ None → work_in old ≡ bytes_on before.end + 2 → work_in new ≡ bytes_on now.end + 2
    → (turned ≢ Moved → SessionRests old new) → Works_or (work_in old) (work_in new) (SessionRests old new)
turn_works h turned before now old new did none a b rests = by_bytes (turn_keeps h turned before now did) (turn_moves h turned before now did none)
  where
    by_bytes : KeepsBytes (view before.end) (view now.end) → (bytes_on before.end < bytes_on now.end) ⊎ (turned ≢ Moved) → Works_or (work_in old) (work_in new) (SessionRests old new)
    by_bytes keeps (inl more) = (omega (arith, a, b, more), inl (omega (arith, a, b, more)))
    by_bytes keeps (inr still) = (omega (arith, a, b, keeps.got, keeps.sent), inr (rests still))

-- a session that takes its turn
session_works : (old new : Session) → TakesTurn old new → Works_or (work_in old) (work_in new) (SessionRests old new)
session_works old new (by.HadNotBegun was is) =
    let a : work_in old ≡ 0 = ap work_in was in
    let b : work_in new ≡ 0 = ap work_in is in (omega (arith, a, b), inr (HasNotBegun was is))
session_works old new (by.CallMade before now turned was is did none) = turn_works caller_half turned before now old new did none (ap work_in was) (ap work_in is) (CallerRests before now turned was is did)
session_works old new (by.ServingMade before now turned was is did none) = turn_works builtin_half turned before now old new did none (ap work_in was) (ap work_in is) (ServingRests before now turned was is did)
session_works old new (by.PageCame before now turned was first is did none) =
    let a : work_in old ≡ 1 = ap work_in was in
    let b : work_in new ≡ bytes_on now.end + 2 = ap work_in is in (omega (arith, a, b), inl (omega (arith, a, b)))
session_works old new (by.PageAwaited was is) =
    let a : work_in old ≡ 1 = ap work_in was in
    let b : work_in new ≡ 1 = ap work_in is in (omega (arith, a, b), inr (PageAwaited was is))
session_works old new (by.IsOver ends) =
    let a = open_worth old ends.was_open in
    let b : work_in new ≡ length ends.end.got + length ends.end.sent + 3 = ap work_in ends.is in
    let got : length (got_in new) ≡ length ends.end.got = ap (λ (s : Session). length (got_in s)) ends.is in
    let sent : length (sent_in new) ≡ length ends.end.sent = ap (λ (s : Session). length (sent_in s)) ends.is in
    (omega (arith, a, b, got, sent, ends.keeps.got, ends.keeps.sent), inl (omega (arith, a, b, got, sent, ends.keeps.got, ends.keeps.sent)))
session_works old new (by.WasOver end was is) =
    let same : work_in new ≡ work_in old = ap work_in (is ∙ sym was) in (omega (arith, same), inr (HadEnded end was is))

-- one that hadn't begun before the turn may begin in it
begun_works : (new : Session) → Works_or (work_in NotBegun) (work_in new) (SessionRests NotBegun new)
begun_works NotBegun = (omega arith, inr (HasNotBegun refl refl))
begun_works _ = (omega arith, inl (omega arith))

at_works : (old new : Session) → (old ≢ NotBegun → TakesTurn old new) → Works_or (work_in old) (work_in new) (SessionRests old new)
at_works NotBegun new takes = begun_works new
at_works old new takes = session_works old new (takes (λ e. cc))

abbrev AllRest : List Session → List Session → Type 0
AllRest old new = (i : ℕ) → SessionRests (session_at old i) (session_at new i)

-- the first session and all others
joined_works : (a b m n : ℕ) (One All Both : Type 0) → (One → All → Both) → Works_or a b One → Works_or m n All → Works_or (a + m) (b + n) Both
joined_works a b m n One All Both both one all = (omega (arith, one.0, all.0), by_parts one.1 all.1)
  where
    by_parts : (a < b) ⊎ One → (m < n) ⊎ All → (a + m < b + n) ⊎ Both
    by_parts (inl more) rest = inl (omega (arith, more, all.0))
    by_parts (inr first) (inl more) = inl (omega (arith, more, one.0))
    by_parts (inr first) (inr rest) = inr (both first rest)

rest_both : (old new : List Session) (a b : Session) → session_at old 0 ≡ a → session_at new 0 ≡ b → (olds news : List Session) → ((i : ℕ) → session_at old (suc i) ≡ session_at olds i) → ((i : ℕ) → session_at new (suc i) ≡ session_at news i)
    → SessionRests a b → AllRest olds news → AllRest old new
rest_both old new a b first second olds news behind after one all zero = subst (λ (s : Session). SessionRests s (session_at new 0)) (sym first) (subst (λ (s : Session). SessionRests a s) (sym second) one)
rest_both old new a b first second olds news behind after one all (suc i) =
    subst (λ (s : Session). SessionRests s (session_at new (suc i))) (sym (behind i)) (subst (λ (s : Session). SessionRests (session_at olds i) s) (sym (after i)) (all i))

sessions_work : (old new : List Session) → ((i : ℕ) → session_at old i ≢ NotBegun → TakesTurn (session_at old i) (session_at new i)) → Works_or (work_in_all old) (work_in_all new) (AllRest old new)
sessions_work [] [] takes = (omega arith, inr (λ i. HasNotBegun refl refl))
sessions_work [] (y ∷ new) takes =
    joined_works 0 (work_in y) 0 (work_in_all new) _ _ _ (rest_both [] (y ∷ new) NotBegun y refl refl [] new (λ i. refl) (λ i. refl))
    (begun_works y) (sessions_work [] new (λ i begun. takes (suc i) begun))
sessions_work (x ∷ old) [] takes =
    joined_works (work_in x) 0 (work_in_all old) 0 _ _ _ (rest_both (x ∷ old) [] x NotBegun refl refl old [] (λ i. refl) (λ i. refl))
    (at_works x NotBegun (takes 0)) (sessions_work old [] (λ i begun. takes (suc i) begun))
sessions_work (x ∷ old) (y ∷ new) takes =
    joined_works (work_in x) (work_in y) (work_in_all old) (work_in_all new) _ _ _ (rest_both (x ∷ old) (y ∷ new) x y refl refl old new (λ i. refl) (λ i. refl))
    (at_works x y (takes 0)) (sessions_work old new (λ i begun. takes (suc i) begun))

agent_works : (old new : AgentState) → TurnsEach old.sessions new.sessions → KeepsChannel old.over new.over old.channel new.channel → (new.over ≡ None → TurnsChannel new.pages old.channel new.channel)
    → Works_or (work_of old) (work_of new) (AgentRests old new)
agent_works old new takes keeps turns =
    joined_works (channel_work old) (channel_work new) (work_in_all old.sessions) (work_in_all new.sessions) _ _ _ (λ channel sessions. record { channel = channel; sessions = sessions })
    (channel_works old new keeps turns) (sessions_work old.sessions new.sessions takes)

-- ---- the broker

-- the bytes of an end grew, or there are as many as before
bytes_more : (old new : BrokerLine) → length (view old.port.end).got ≤ length (view new.port.end).got → length (view old.port.end).sent ≤ length (view new.port.end).sent
    → (bytes_on old.port.end < bytes_on new.port.end) ⊎ ((length (view new.port.end).got ≡ length (view old.port.end).got) × (length (view new.port.end).sent ≡ length (view old.port.end).sent))
bytes_more old new got sent = by_sum (more_or_same (bytes_on old.port.end) (bytes_on new.port.end) (omega (arith, got, sent)))
  where
    by_sum : (bytes_on old.port.end < bytes_on new.port.end) ⊎ (bytes_on old.port.end ≡ bytes_on new.port.end)
        → (bytes_on old.port.end < bytes_on new.port.end) ⊎ ((length (view new.port.end).got ≡ length (view old.port.end).got) × (length (view new.port.end).sent ≡ length (view old.port.end).sent))
    by_sum (inl more) = inl more
    by_sum (inr same) = inr (omega (arith, got, sent, same), omega (arith, got, sent, same))

line_works : (old new : BrokerLine) → HasTurned old new → (work_with old ≤ work_with new) × ((work_with old < work_with new) ⊎ Rests old new)
line_works old new t = by_begun (is_begun (view old.port.end).state) refl
  where
    after_begun : one_if (is_begun (view new.port.end).state) ≡ 1
    after_begun = ap one_if t.begun

    -- the broker has connected in this turn
    begins : is_begun (view old.port.end).state ≡ false → (work_with old ≤ work_with new) × ((work_with old < work_with new) ⊎ Rests old new)
    begins was = by_state (is_shut (view old.port.end).state) refl
      where
        before : one_if (is_begun (view old.port.end).state) ≡ 0
        before = ap one_if was

        by_state : (b : Bool) → is_shut (view old.port.end).state ≡ b → (work_with old ≤ work_with new) × ((work_with old < work_with new) ⊎ Rests old new)
        by_state true is =
            let old_shut = ap one_if is in
            let new_shut = ap one_if (t.grows.shut is) in (
              omega (arith, t.grows.got, t.grows.sent, before, after_begun, old_shut, new_shut),
              inl (omega (arith, t.grows.got, t.grows.sent, before, after_begun, old_shut, new_shut)),
            )
        by_state false is =
            let old_shut = ap one_if is in (omega (arith, t.grows.got, t.grows.sent, before, after_begun, old_shut), inl (omega (arith, t.grows.got, t.grows.sent, before, after_begun, old_shut)))

    -- it had connected before
    had_begun : is_begun (view old.port.end).state ≡ true → one_if (is_begun (view new.port.end).state) ≡ one_if (is_begun (view old.port.end).state)
    had_begun was = ap one_if (t.begun ∙ sym was)

    -- it stays as it was, up or dropped
    by_bytes : is_begun (view old.port.end).state ≡ true → is_shut (view new.port.end).state ≡ is_shut (view old.port.end).state → (is_shut (view new.port.end).state ≡ false → IsQuiet old new)
        → (bytes_on old.port.end < bytes_on new.port.end) ⊎ ((length (view new.port.end).got ≡ length (view old.port.end).got) × (length (view new.port.end).sent ≡ length (view old.port.end).sent))
        → (work_with old ≤ work_with new) × ((work_with old < work_with new) ⊎ Rests old new)
    by_bytes begun shut quiet (inl more) =
        let same = ap one_if shut in
        let both = had_begun begun in (omega (arith, more, same, both), inl (omega (arith, more, same, both)))
    by_bytes begun shut quiet (inr none) =
        let same = ap one_if shut in
        let both = had_begun begun in (omega (arith, none.0, none.1, same, both), inr (record { begun = t.begun ∙ sym begun; shut = shut; got = none.0; sent = none.1; quiet = quiet }))

    by_found : is_begun (view old.port.end).state ≡ true → is_shut (view old.port.end).state ≡ false → is_shut (view new.port.end).state ≡ false → HasMoved old new ⊎ IsQuiet old new
        → (work_with old ≤ work_with new) × ((work_with old < work_with new) ⊎ Rests old new)
    by_found begun was is (inl (inl more)) =
        let before = ap one_if was in
        let after = ap one_if is in
        let both = had_begun begun in (omega (arith, t.grows.got, t.grows.sent, before, after, both), inl (omega (arith, more, t.grows.sent, before, after, both)))
    by_found begun was is (inl (inr more)) =
        let before = ap one_if was in
        let after = ap one_if is in
        let both = had_begun begun in (omega (arith, t.grows.got, t.grows.sent, before, after, both), inl (omega (arith, more, t.grows.got, before, after, both)))
    by_found begun was is (inr quiet) = by_bytes begun (is ∙ sym was) (λ up. quiet) (bytes_more old new t.grows.got t.grows.sent)

    by_shut : is_begun (view old.port.end).state ≡ true → (a b : Bool) → is_shut (view old.port.end).state ≡ a → is_shut (view new.port.end).state ≡ b → (work_with old ≤ work_with new) × ((work_with old < work_with new) ⊎ Rests old new)
    by_shut begun true true was is = by_bytes begun (is ∙ sym was) (λ up. absurd (false≢true (sym up ∙ is))) (bytes_more old new t.grows.got t.grows.sent)
    by_shut begun true false was is = absurd (false≢true (sym is ∙ t.grows.shut was))
    by_shut begun false true was is =
        let before = ap one_if was in
        let after = ap one_if is in
        let both = had_begun begun in (omega (arith, t.grows.got, t.grows.sent, before, after, both), inl (omega (arith, t.grows.got, t.grows.sent, before, after, both)))
    by_shut begun false false was is = by_found begun was is (t.found is)

    by_begun : (b : Bool) → is_begun (view old.port.end).state ≡ b → (work_with old ≤ work_with new) × ((work_with old < work_with new) ⊎ Rests old new)
    by_begun true was = by_shut was (is_shut (view old.port.end).state) (is_shut (view new.port.end).state) refl refl
    by_begun false was = begins was

lines_work : (old new : List BrokerLine) → EachPair HasTurned old new → (work_with_all old ≤ work_with_all new) × ((work_with_all old < work_with_all new) ⊎ EachPair Rests old new)
lines_work [] [] turned = (omega arith, inr tt)
lines_work (x ∷ old) (y ∷ new) turned =
    let first = line_works x y turned.0 in
    let rest = lines_work old new turned.1 in (omega (arith, first.0, rest.0), joined first.0 rest.0 first.1 rest.1)
  where
    joined : work_with x ≤ work_with y → work_with_all old ≤ work_with_all new → (work_with x < work_with y) ⊎ Rests x y → (work_with_all old < work_with_all new) ⊎ EachPair Rests old new
        → (work_with x + work_with_all old < work_with y + work_with_all new) ⊎ (Rests x y × EachPair Rests old new)
    joined one all (inl more) others = inl (omega (arith, all, more))
    joined one all (inr rests) (inl more) = inl (omega (arith, one, more))
    joined one all (inr rests) (inr others) = inr (rests, others)
lines_work _ _ turned = absurd turned

-- ---- a hostile domain

left_within : (acts : List Act) (n : ℕ) → all_turns (drop n acts) ≤ all_turns acts
left_within [] zero = omega arith
left_within [] (suc n) = omega arith
left_within (act ∷ acts) zero = omega arith
left_within (act ∷ acts) (suc n) = omega (arith, left_within acts n)

turns_made_more : (before now : HostileState) → GoesOn before now → turns_made before < turns_made now
turns_made_more before now goes =
    subst (λ (plan : HostilePlan). turns_made before < all_turns plan.acts - turns_left plan.acts now.acts now.turns) (sym goes.plan)
    (omega (arith, goes.turn.fewer, left_within before.plan.acts before.acts))

-- ---- any task

pub turns_work : (before : Task) (result : Turn Task TaskDone) → TaskTurns before result → Works before result
turns_work before (turn.Done done) t = tt
turns_work (Agent before) (turn.Again (Agent now)) t = agent_works before now t.1.1 t.1.3 t.1.2
turns_work (Broker before) (turn.Again (Broker now)) t = lines_work before.lines now.lines t.1
turns_work (Hostile before) (turn.Again (Hostile now)) t = let more = turns_made_more before now t in (omega (arith, more), inl more)
turns_work _ _ t = absurd t
