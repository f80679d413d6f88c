-- What a caller's call owes when it has come out.
use Rattle.std.proofs.Common.{◌≡◌, Some, true, false, sym, ap, ◌∙◌, subst, inl, inr}
use Rattle.vchan_protocol.specs.declared.call.EndState.TheVariants.{Shut}
use Rattle.vchan_rule.specs.Seated.{SeatedEnd, view}
use Rattle.end_view.specs.EndView.{EndView}
use Rattle.qrexec_data.specs.declared.outcome.Outcome.{Outcome}
use Rattle.qrexec_data.specs.declared.outcome.Outcome.TheVariants.{Done, Fault, Closed, Gone}
use Rattle.qrexec_data.specs.CallerSide.{CallerState, caller_half}
use Rattle.qrexec_data.specs.Replies.{AgreesWith}
use Rattle.qrexec_data.specs.Seeing.{caller_sees, CallerSeen}
use Rattle.qrexec_data.specs.Sending.{CallerMaySend}
use Rattle.qrexec_data.specs.Fitting.{FitsCaller}
use Rattle.qrexec_data.proofs.MaySendLaws.{caller_may_send}
use Rattle.task_duties.specs.declared.done.CallerDone.{CallerDone}
use Rattle.task_duties.specs.Agent.Sessions.{CallerEnded, CallerOwes}
use Rattle.channel_session.specs.Session.{EndsBy, IsAtWork, StandsOn, IsRetired}

-- an outcome that agrees with what is seen fits it
fits : (outcome : Outcome) (seen : CallerSeen) → AgreesWith (Some outcome) seen.verdict → FitsCaller outcome seen
fits (Done code) seen h = h
fits (Fault f) seen h = h
fits Closed seen h = h
fits Gone seen h = h

-- and what it says of its end stays said if that is retired
ended_stays : (outcome : Outcome) (end end' : EndView) → IsRetired end end' → CallerEnded outcome end → CallerEnded outcome end'
ended_stays outcome end end' is h = subst (λ e. CallerEnded outcome e) (sym is) (retired_too outcome end h)
  where
    retired_too : (outcome : Outcome) (end : EndView) → CallerEnded outcome end → CallerEnded outcome (record end { state = Shut; retired = true })
    retired_too (Done code) end h = tt
    retired_too (Fault f) end h = tt
    retired_too Closed end h = record { saw = h.saw; ended = h.ended; drained = h.drained }
    retired_too Gone end h = record { saw = h.saw; ended = h.ended }

-- a caller connects no end, so a closed one was read to its end
caller_ended : (outcome : Outcome) (end : EndView) → EndsBy false (Some outcome) end → CallerEnded outcome end
caller_ended (Done code) end h = tt
caller_ended (Fault f) end h = tt
caller_ended Closed end (inl h) = h
caller_ended Closed end (inr misled) = let no : false ≡ true = misled.0 in cc
caller_ended Gone end h = h

-- a call that has come out owes what it reports
pub owes : (caller : CallerState) (end : SeatedEnd) (last : EndView) (outcome : Outcome) (done : CallerDone) → IsAtWork caller_half caller end → StandsOn caller_half tt caller end → caller.replies.outcome ≡ Some outcome → IsRetired (view end) last
    → done ≡ record { outcome = outcome; stdout = caller.replies.stdout; stderr = caller.replies.stderr; got = caller.inbox.got } → CallerOwes caller.replies.own caller.requests.input done last
owes caller end last outcome done work on decided is done_is =
    let got : last.got ≡ caller.inbox.got = ap (λ e. e.got) is ∙ sym on.got in
    let sent : last.sent ≡ (view end).sent = ap (λ e. e.sent) is in
    let knows = on.stands.read.knows in
    let may = subst (λ k. CallerMaySend caller.replies.own k caller.requests.input caller.inbox.got (view end).sent) work.chunk_is (caller_may_send caller (view end).sent on.stands) in
    let seen : AgreesWith (Some outcome) (caller_sees caller.inbox.got).verdict = subst (λ o. AgreesWith o (caller_sees caller.inbox.got).verdict) decided knows.outcome in
    subst (λ d. CallerOwes caller.replies.own caller.requests.input d last) (sym done_is) (record {
      got = sym got;
      sent = rw sent (rw got may);
      stdout = rw got knows.stdout;
      stderr = rw got knows.stderr;
      fits = rw got (fits outcome (caller_sees caller.inbox.got) seen);
      ended = ended_stays outcome (view end) last is (caller_ended outcome (view end) (subst (λ o. EndsBy false o (view end)) decided work.ends));
    })
