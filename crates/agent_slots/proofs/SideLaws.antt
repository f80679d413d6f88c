-- What holds of an end under its page's name.
use Rattle.std.proofs.Common.{◌≡◌, ℕ, List, ap, sym, subst, ◌∙◌, inl, inr, Vec, Global, Result, Ok, Err}
use Rattle.std.specs.Prelude.{OnOk, true, false}
use Rattle.std.specs.declared.snapshot.Snapshot.{Snapshot}
use Rattle.end_view.specs.EndView.{EndView}
use Rattle.task_duties.specs.declared.place.PagePlace.{PagePlace}
use Rattle.task_duties.specs.Agent.Sessions.{CallerEnded, CallerOwes, IsClosed, IsGone, ServingEnded, ServingOwes}
use Rattle.qrexec_data.specs.declared.outcome.Outcome.{Outcome}
use Rattle.qrexec_data.specs.declared.outcome.Outcome.TheVariants.{Done, Fault, Closed, Gone}
use Rattle.page_offer.specs.Views.{named}
use Rattle.atomic_table.specs.Seated.{TableId}
use Rattle.service_gate.specs.Triple.{Triple}
use Rattle.service_gate.specs.Owing.{builtin_owes}
use Rattle.service_gate.specs.declared.builtin.Builtin.{Builtin}
use Rattle.qrexec_data.specs.Half.{IsSameHalf}
use Rattle.qrexec_data.specs.CallerSide.{caller_half}
use Rattle.channel_session.specs.Session.{CallerAt, ServingAt, IsAtWork, StandsOn, IsRetired, builtin_half}
use Rattle.agent_slots.specs.declared.stage.Stage.TheVariants.{Unused, Calls, Serves}
use Rattle.agent_slots.specs.declared.stage.Stage.{Stage}
use Rattle.agent_slots.specs.Stages.{Use, Frame, framed, IsStage, WasRetired}
use Rattle.task_duties.specs.declared.done.CallerDone.{CallerDone}
use Rattle.task_duties.specs.declared.ends.DoneEnd.{DoneEnd}
use Rattle.task_duties.specs.declared.ends.UnusedEnd.{UnusedEnd}
use Rattle.task_duties.specs.GivenEnds.{done_view, fresh_view}
use Rattle.agent_slots.specs.declared.side.PageSide.{PageSide}
use Rattle.agent_slots.specs.declared.side.PageSide.TheVariants as side
use Rattle.agent_slots.specs.Slots.{held_of}
use Rattle.agent_slots.specs.Sides.{seen_under, is_late_unused, is_late_side, is_late_done}

-- an end that is the same one as before is held as the same one
pub same_held : (s : PageSide) (place : PagePlace) (before now : EndView) → now.page ≡ before.page → now.role ≡ before.role → held_of place (seen_under s now) ≡ held_of place (seen_under s before)
same_held side.Laid place before now page role = λ i. record { place = place; page = page i; role = role i }
same_held (side.Server s) place before now page role = λ i. record { place = place; page = s.name; role = role i }
same_held (side.Client c) place before now page role = λ i. record { place = place; page = c.name; role = role i }

-- an unused end that is put to use stays the same end
pub put_to_use : (place : PagePlace) (stage : Stage) (end : UnusedEnd) (s : PageSide) (now : EndView) (used : Use) → stage ≡ Unused end → seen_under s now ≡ fresh_view end → is_late_side s ≡ is_late_unused end
    → ◌≡◌ {A = Frame} (record { held = held_of place (seen_under s now); used = used; late = is_late_side s }) (record (framed place stage) { used = used })
put_to_use place stage end s now used is seen late =
    let same : ◌≡◌ {A = Frame} (record { held = held_of place (seen_under s now); used = used; late = is_late_side s }) (record { held = held_of place (fresh_view end); used = used; late = is_late_unused end }) =
    λ i. record { held = held_of place (seen i); used = used; late = late i } in
    same ∙ ap (λ x. record (framed place x) { used = used }) (sym is)

-- and so does one that was in use, once it is retired
pub put_down : (place : PagePlace) (s : PageSide) (before last : EndView) (end : DoneEnd) (used : Use) → IsRetired before last → done_view end ≡ seen_under s last → is_late_done end ≡ is_late_side s
    → ◌≡◌ {A = Frame} (record { held = held_of place (done_view end); used = used; late = is_late_done end }) (record { held = held_of place (seen_under s before); used = used; late = is_late_side s })
put_down place s before last end used retired seen late =
    let held = ap (held_of place) seen ∙ same_held s place before last (ap (λ (v : EndView). v.page) retired) (ap (λ (v : EndView). v.role) retired) in
    λ i. record { held = held i; used = used; late = late i }

-- what is reported of an end depends on nothing that the name changes
closed_named : (e : EndView) (name : TableId) → IsClosed e → IsClosed (named name e)
closed_named e name h = record { saw = h.saw; ended = h.ended; drained = h.drained }

gone_named : (e : EndView) (name : TableId) → IsGone e → IsGone (named name e)
gone_named e name h = record { saw = h.saw; ended = h.ended }

serving_ended : (outcome : Outcome) (version : ℕ) (owed : List ℕ → Triple) (e : EndView) (name : TableId) → ServingEnded version owed outcome e → ServingEnded version owed outcome (named name e)
serving_ended (Done code) version owed e name h = h
serving_ended (Fault fault) version owed e name h = tt
serving_ended Closed version owed e name (inl h) = inl (closed_named e name h)
serving_ended Closed version owed e name (inr h) = inr h
serving_ended Gone version owed e name h = gone_named e name h

serving_owes_seen : (s : PageSide) (version : ℕ) (name : List ℕ) (outcome : Outcome) (got : List ℕ) (e : EndView) → ServingOwes version name outcome got e → ServingOwes version name outcome got (seen_under s e)
serving_owes_seen side.Laid version name outcome got e h = h
serving_owes_seen (side.Server s) version name outcome got e h = record { owed = h.owed; is_service = h.is_service; got_is = h.got_is; sent = h.sent; fits = h.fits; ended = serving_ended outcome version h.owed e s.name h.ended }
serving_owes_seen (side.Client c) version name outcome got e h = record { owed = h.owed; is_service = h.is_service; got_is = h.got_is; sent = h.sent; fits = h.fits; ended = serving_ended outcome version h.owed e c.name h.ended }

caller_ended : (outcome : Outcome) (e : EndView) (name : TableId) → CallerEnded outcome e → CallerEnded outcome (named name e)
caller_ended (Done code) e name h = tt
caller_ended (Fault fault) e name h = tt
caller_ended Closed e name h = closed_named e name h
caller_ended Gone e name h = gone_named e name h

caller_owes_seen : (s : PageSide) (version : ℕ) (input : List ℕ) (done : CallerDone) (e : EndView) → CallerOwes version input done e → CallerOwes version input done (seen_under s e)
caller_owes_seen side.Laid version input done e h = h
caller_owes_seen (side.Server s) version input done e h = record { got = h.got; sent = h.sent; stdout = h.stdout; stderr = h.stderr; fits = h.fits; ended = caller_ended done.outcome e s.name h.ended }
caller_owes_seen (side.Client c) version input done e h = record { got = h.got; sent = h.sent; stdout = h.stdout; stderr = h.stderr; fits = h.fits; ended = caller_ended done.outcome e c.name h.ended }

-- what a caller has when its call is over, by the view of its end then, and a side that serves
pub caller_over : (version : ℕ) (input : List ℕ) (s : PageSide) (end : DoneEnd) (done : CallerDone) (e : EndView) → done_view end ≡ seen_under s e → CallerOwes version input done e → CallerOwes version input done (done_view end)
caller_over version input s end done e seen h = subst (λ v. CallerOwes version input done v) (sym seen) (caller_owes_seen s version input done e h)

pub serving_over : (version : ℕ) (name : List ℕ) (s : PageSide) (end : DoneEnd) (outcome : Outcome) (got : List ℕ) (e : EndView) → done_view end ≡ seen_under s e → ServingOwes version name outcome got e
    → ServingOwes version name outcome got (done_view end)
serving_over version name s end outcome got e seen h = subst (λ v. ServingOwes version name outcome got v) (sym seen) (serving_owes_seen s version name outcome got e h)

-- an end that was retired is so under its page's name
pub was_retired : (s : PageSide) (before last : EndView) (end : DoneEnd) → IsRetired before last → last.turned ≡ false → done_view end ≡ seen_under s last → WasRetired (done_view end)
was_retired s before last end retired honest seen = subst WasRetired (sym seen) (under s)
  where
    gone : last.retired ≡ true
    gone = ap (λ (v : EndView). v.retired) retired

    under : (s : PageSide) → WasRetired (seen_under s last)
    under side.Laid = (gone, honest)
    under (side.Server k) = (gone, honest)
    under (side.Client k) = (gone, honest)

-- ---- a session goes on

pub calls_on : (version number : ℕ) (input : Snapshot (Vec ℕ Global)) (s : PageSide) (old new : CallerAt) {T E : Type 0} (r : Result T E) → OnOk r (IsSameHalf caller_half old.half new.half) → OnOk r (IsAtWork caller_half new.half new.end)
    → ((owed : Unit {0}) → StandsOn caller_half owed old.half old.end → OnOk r (StandsOn caller_half owed new.half new.end)) → IsStage version (Calls number input s old) → OnOk r (IsStage version (Calls number input s new))
calls_on version number input s old new (Ok x) same work stands h = (work, same.own ∙ h.1, stands tt h.2, same.input ∙ h.3)
calls_on version number input s old new (Err e) same work stands h = tt

pub serves_on : (version number : ℕ) (service : Snapshot Builtin) (s : PageSide) (old new : ServingAt) {T E : Type 0} (r : Result T E) → OnOk r (IsSameHalf builtin_half old.half new.half) → OnOk r (IsAtWork builtin_half new.half new.end)
    → ((owed : List ℕ → Triple) → StandsOn builtin_half owed old.half old.end → OnOk r (StandsOn builtin_half owed new.half new.end)) → IsStage version (Serves number service s old) → OnOk r (IsStage version (Serves number service s new))
serves_on version number service s old new (Ok x) same work stands h = (work, same.own ∙ h.1, stands (builtin_owes service.value) h.2)
serves_on version number service s old new (Err e) same work stands h = tt
