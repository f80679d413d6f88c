-- What a side that serves owes when its call has come out.
use Rattle.std.proofs.Common.{◌≡◌, ℕ, List, Option, Some, None, true, refl, inl, inr, sym, ap, ◌∙◌, subst}
use Rattle.vchan_protocol.specs.declared.call.EndState.TheVariants.{Shut}
use Rattle.service_gate.specs.Triple.{Triple}
use Rattle.service_gate.specs.Owing.{builtin_owes}
use Rattle.service_gate.specs.declared.builtin.Builtin.{Builtin}
use Rattle.service_gate.proofs.EveryService.{small_codes}
use Rattle.service_gate.specs.ServiceResult.{IsSmallCode}
use Rattle.qrexec_data.specs.declared.outcome.Outcome.{Outcome}
use Rattle.qrexec_data.specs.declared.outcome.Outcome.TheVariants.{Done, Fault, Closed, Gone}
use Rattle.qrexec_data.specs.ServingSide.{ServingState, ServingStandsFor, AgreesWith}
use Rattle.qrexec_data.specs.Seeing.{Seen, serving_sees, seen_by, serving_use}
use Rattle.qrexec_data.specs.Sending.{ServingMaySend}
use Rattle.qrexec_data.specs.Fitting.{FitsServing}
use Rattle.qrexec_data.proofs.MaySendLaws.{serving_may_send, serving_sent_all}
use Rattle.vchan_rule.specs.Seated.{SeatedEnd, view}
use Rattle.end_view.specs.EndView.{EndView}
use Rattle.task_duties.specs.Agent.Sessions.{chunk, IsService, ServingEnded, ServingOwes}
use Rattle.channel_session.specs.Session.{EndsBy, IsAtWork, StandsOn, IsRetired, builtin_half}

-- a code that a service of a name owes is a small one
small : (name : List ℕ) (owed : List ℕ → Triple) (input : List ℕ) → IsService name owed → IsSmallCode (owed input).code
small name owed input is = small_codes name input (owed input) (is input)

-- an outcome that agrees with what is seen fits it, if the code is a service's
fits : (outcome : Outcome) (s : ServingState Builtin) (owed : List ℕ → Triple) (sent : List ℕ) → IsSmallCode (owed (serving_sees s.inbox.got).input).code → ServingStandsFor builtin_owes owed s sent
    → s.answering.outcome ≡ Some outcome → FitsServing outcome (serving_sees s.inbox.got)
fits outcome s owed sent code stands is = by_outcome outcome (subst (λ o. AgreesWith o seen) is stands.read.serves.outcome) is
  where
    seen : Seen
    seen = seen_by serving_use s.inbox.got

    by_outcome : (outcome : Outcome) → AgreesWith (Some outcome) seen → s.answering.outcome ≡ Some outcome → FitsServing outcome (serving_sees s.inbox.got)
    by_outcome (Done n) h is = (rw h.0 refl, h.1, subst IsSmallCode (sym (serving_sent_all builtin_owes owed s sent n stands is).code_is) code)
    by_outcome (Fault f) h is = rw h refl
    by_outcome Closed h is = rw h refl
    by_outcome Gone h is = rw h refl

-- what the outcome says of the end, of a side that is done too
ended : (outcome : Outcome) (s : ServingState Builtin) (owed : List ℕ → Triple) (end : EndView) → ServingStandsFor builtin_owes owed s end.sent → s.answering.chunk ≡ chunk → s.inbox.got ≡ end.got
    → s.answering.outcome ≡ Some outcome → EndsBy true (Some outcome) end → ServingEnded s.answering.own owed outcome end
ended (Done code) s owed end stands size got is h =
    let sent = serving_sent_all builtin_owes owed s end.sent code stands is in
    rw (sym got) (sent.code_is, rw (sym size) sent.all)
ended (Fault f) s owed end stands size got is h = tt
ended Closed s owed end stands size got is (inl h) = inl h
ended Closed s owed end stands size got is (inr misled) = inr misled.1
ended Gone s owed end stands size got is h = h

-- a call that has come out owes what it reports
pub owes : (name : List ℕ) (owed : List ℕ → Triple) (s : ServingState Builtin) (end : SeatedEnd) (last : EndView) (outcome : Outcome) (got : List ℕ) → IsService name owed → StandsOn builtin_half owed s end → IsAtWork builtin_half s end
    → s.answering.outcome ≡ Some outcome → IsRetired (view end) last → got ≡ s.inbox.got → ServingOwes s.answering.own name outcome got last
owes name owed s end last outcome got named answering work decided is got_is =
    let v = view end in
    let may = serving_may_send builtin_owes owed s v.sent answering.stands in
    let ends : EndsBy true (Some outcome) v = subst (λ o. EndsBy true o v) decided work.ends in
    subst (λ e. ServingOwes s.answering.own name outcome got e) (sym is) (record {
      owed = owed;
      is_service = named;
      got_is = got_is ∙ answering.got;
      sent = rw (sym answering.got) (subst (λ k. ServingMaySend s.answering.own k owed s.inbox.got v.sent) work.chunk_is may);
      fits = rw (sym answering.got) (fits outcome s owed v.sent (small name owed _ named) answering.stands decided);
      ended = retired outcome v (ended outcome s owed v answering.stands work.chunk_is answering.got decided ends);
    })
  where
    retired : (outcome : Outcome) (v : EndView) → ServingEnded s.answering.own owed outcome v → ServingEnded s.answering.own owed outcome (record v { state = Shut; retired = true })
    retired (Done code) v h = h
    retired (Fault f) v h = tt
    retired Closed v (inl h) = inl (record { saw = h.saw; ended = h.ended; drained = h.drained })
    retired Closed v (inr h) = inr h
    retired Gone v h = record { saw = h.saw; ended = h.ended }
