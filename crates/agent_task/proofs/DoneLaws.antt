-- What an agent that is done owes.
use Rattle.std.proofs.Common.{◌≡◌, ℕ, zero, suc, List, [], ◌∷◌, ◌++◌, length, drop, length-append, append_assoc, refl, ap, sym, ◌∙◌, arith, Some, None, Option, subst}
use Rattle.std.specs.Prelude.{Bool, true, false, map, filter_map, slice_get, if◌then◌else◌}
use Rattle.std.proofs.lemmas.List.{length-map}
use Rattle.std.specs.List.{AllByRecursion as Each, AllZip as EachPair}
use Rattle.std.proofs.lemmas.Slice.Zip.{AllZip-long}
use Rattle.list_laws.specs.Lists.{IsPrefixOf}
use Rattle.vchan_rule.specs.Seated.{SeatedSide, view, last_view}
use Rattle.vchan_rule.specs.Ends.{IsSameEnd as IsSameSeat}
use Rattle.end_view.specs.EndView.{EndView}
use Rattle.service_gate.specs.Owing.{builtin_owes}
use Rattle.scenario_file.specs.declared.scenario.CallPlan.{CallPlan}
use Rattle.task_duties.specs.declared.place.PagePlace.{PagePlace}
use Rattle.task_duties.specs.declared.place.PagePlace.TheVariants.{Control, Payload}
use Rattle.task_duties.specs.declared.done.ServedDone.{ServedDone}
use Rattle.task_duties.specs.declared.done.ControlEnd.{ControlEnd}
use Rattle.task_duties.specs.declared.done.ControlEnd.TheVariants.{Fault}
use Rattle.qrexec_data.specs.declared.outcome.SessionFault.{SessionFault}
use Rattle.task_duties.specs.Places.{is_place}
use Rattle.task_duties.specs.Hearing.{to_agent, to_broker, IsSaid, Heard, hears}
use Rattle.task_duties.specs.TaskOwes.{EndAt, AreEnds, EndsOwed, AreGivenBack, places_in}
use Rattle.task_duties.specs.GivenEnds.{all_retired}
use Rattle.task_duties.specs.Agent.Given.{AgentPlan}
use Rattle.task_duties.specs.Agent.Answers.{Answer, Waits, IsRefused, At, Asked, Served, Answers, answers, answer_in}
use Rattle.task_duties.specs.Agent.Saying.{asking, asking_of, IsOfVersion, KeepsTo, IsTold}
use Rattle.task_duties.specs.Agent.Sessions.{CallerOwes, IsService, ServingOwes}
use Rattle.task_duties.specs.declared.done.CallDone.{CallDone}
use Rattle.task_duties.specs.Agent.Owes.{AgentOwes, ReportsAnswer, ReportsCall, ReportsServed, ControlOver, heard_by, answers_of}
use Rattle.task_duties.proofs.ServedLaw.{same_place}
use Rattle.task_duties.proofs.Places.{same_self, no_control}
use Rattle.control_port.specs.Port.{PortState}
use Rattle.control_port.specs.Talking.{may_hear}
use Rattle.control_port.specs.declared.talk.Talker.{Talker}
use Rattle.agent_queue.specs.Queue.{Queued, QueueState, asked_as, asked_by}
use Rattle.agent_queue.proofs.AskingLaws.{asks_in_order, asks_within}
use Rattle.agent_slots.specs.Slots.{Called, Serves, Held, held_at, AreApart}
use Rattle.agent_slots.specs.Done.{AreBack, ReportsCalled, ReportsServes}
use Rattle.agent_slots.specs.declared.done.CallOver.{CallOver}
use Rattle.agent_slots.proofs.AgentLaws.{same_ends, end_there}
use Rattle.agent_task.specs.declared.agent.Agent.{Agent}
use Rattle.agent_task.specs.declared.agent.Given.{Given}
use Rattle.agent_task.specs.declared.task.AgentDone.{AgentDone}
use Rattle.agent_task.specs.Given.{data_ends, plan_of, ends_of}
use Rattle.agent_task.specs.Standing.{Stands, IsServedBy, CanGiveUp, called_by, called_of}
use Rattle.agent_task.specs.Ending.{IsOver, heard_at}
use Rattle.agent_task.specs.Telling.{heard_on, TellsOf, TellsAll}
use Rattle.agent_task.proofs.TellingLaws.{is_said, heard_at_lem, tells_once}
use Rattle.agent_task.specs.Finishing.{call_end_of, call_done_of, call_dones}
use Rattle.agent_task.specs.Owing.{IsOwed}

-- ---- the end at a place

unfoldable end_at : EndView → List EndAt → PagePlace → EndView
end_at none [] place = none
end_at none (e ∷ ends) place = if is_place e.place place then e.view else end_at none ends place

-- no place comes twice
abbrev Differ : List PagePlace → Type 0
Differ [] = Unit {0}
Differ (p ∷ places) = Each (λ q. is_place p q ≡ false) places × Differ places

are_at : (none : EndView) (ends : List EndAt) → Differ (places_in ends) → AreEnds (end_at none ends) ends
unfolding end_at
are_at none [] apart = tt
are_at none (e ∷ ends) apart =
    (ap (λ (test : Bool). if test then e.view else end_at none ends e.place) (sym (same_self e.place)), later ends apart.0 (are_at none ends apart.1))
  where
    later : (others : List EndAt) → Each (λ q. is_place e.place q ≡ false) (places_in others) → Each (λ o. o.view ≡ end_at none ends o.place) others
        → Each (λ o. o.view ≡ (if is_place e.place o.place then e.view else end_at none ends o.place)) others
    later [] differ are = tt
    later (o ∷ others) differ are =
        (are.0 ∙ ap (λ (test : Bool). if test then e.view else end_at none ends o.place) (sym differ.0), later others differ.1 are.1)

not_there : (p : PagePlace) (places : List PagePlace) → ((j : ℕ) → slice_get places j ≡ Some p → ⊥) → Each (λ q. is_place p q ≡ false) places
not_there p [] never = tt
not_there p (q ∷ places) never = (by_test (is_place p q) refl, not_there p places (λ j is. never (suc j) is))
  where
    by_test : (b : Bool) → is_place p q ≡ b → is_place p q ≡ false
    by_test true is = absurd (never 0 (ap (λ (x : PagePlace). Some x) (sym (same_place p q is))))
    by_test false is = is

differ_places : (places : List PagePlace) → AreApart places → Differ places
differ_places [] apart = tt
differ_places (p ∷ places) apart =
    (not_there p places (λ j is. let e : 0 ≡ suc j = apart 0 (suc j) p refl is in absurd (omega arith)), differ_places places (λ i j q a b. let e : suc i ≡ suc j = apart (suc i) (suc j) q a b in omega arith))

places_held : (ends : List EndAt) → places_in ends ≡ map (λ h. h.place) (map held_at ends)
places_held [] = refl
places_held (e ∷ ends) = ap (λ l. e.place ∷ l) (places_held ends)

same_places : (given ends : List EndAt) → map held_at ends ≡ map held_at given → places_in ends ≡ places_in given
same_places given ends is = places_held ends ∙ ap (λ (l : List Held). map (λ h. h.place) l) is ∙ sym (places_held given)

-- ---- what it reports

reports_one : (plan : AgentPlan) (end : PagePlace → EndView) (ends : List EndAt) (a : Asked) (over : Option CallOver) → AreEnds end ends → ReportsCalled plan.domain plan.version ends (called_of a) over → ReportsCall plan end a (call_done_of a over)
reports_one plan end ends a over are h = (refl, by_answer a.call a.answer over h)
  where
    by_answer : (call : CallPlan) (answer : Answer) (over : Option CallOver) → ReportsCalled plan.domain plan.version ends (called_by call answer) over → ReportsAnswer plan end call answer (call_end_of answer over)
    by_answer call Waits None h = tt
    by_answer call IsRefused None h = tt
    by_answer call (At to port) (Some over) h =
        (h.1, h.0, end_there ends end (Payload plan.domain to port) (CallerOwes plan.version call.stdin over.done) are h.2)
    by_answer call _ _ h = absurd h

reports_all : (plan : AgentPlan) (end : PagePlace → EndView) (ends : List EndAt) (asked : List Asked) (over : List (Option CallOver)) → AreEnds end ends → EachPair (ReportsCalled plan.domain plan.version ends) (map called_of asked) over
    → EachPair (ReportsCall plan end) asked (call_dones asked over)
reports_all plan end ends [] [] are h = tt
reports_all plan end ends (a ∷ asked) (o ∷ over) are h = (reports_one plan end ends a o are h.0, reports_all plan end ends asked over are h.1)
reports_all plan end ends _ _ are h = absurd h

served_one : (plan : AgentPlan) (end : PagePlace → EndView) (ends : List EndAt) (x : Served) (s : Serves) (done : ServedDone) → AreEnds end ends → IsServedBy x s → ReportsServes plan.domain plan.version ends s done → ReportsServed plan end x done
served_one plan end ends x s done are by h =
    let there = end_there ends end (Payload s.from plan.domain s.port) (λ view. (name : List ℕ) → IsService name (builtin_owes s.service) → ServingOwes plan.version name done.outcome done.got view) are h.2 in
    let owes : ServingOwes plan.version x.service done.outcome done.got (end (Payload s.from plan.domain s.port)) = there x.service by.2 in (
      h.0 ∙ by.0,
      h.1 ∙ by.1,
      subst (λ (n : ℕ). ServingOwes plan.version x.service done.outcome done.got (end (Payload n plan.domain x.port))) by.0
          (subst (λ (n : ℕ). ServingOwes plan.version x.service done.outcome done.got (end (Payload s.from plan.domain n))) by.1 owes),
    )

served_all : (plan : AgentPlan) (end : PagePlace → EndView) (ends : List EndAt) (xs : List Served) (ss : List Serves) (dones : List ServedDone) → AreEnds end ends → EachPair IsServedBy xs ss
    → EachPair (ReportsServes plan.domain plan.version ends) ss dones → EachPair (ReportsServed plan end) xs dones
served_all plan end ends [] [] [] are by h = tt
served_all plan end ends [] (s ∷ ss) dones are by h = absurd by
served_all plan end ends (x ∷ xs) [] dones are by h = absurd by
served_all plan end ends (x ∷ xs) (s ∷ ss) (d ∷ dones) are by h = (served_one plan end ends x s d are by.0 h.0, served_all plan end ends xs ss dones are by.1 h.1)
served_all plan end ends _ _ _ are by h = absurd h

-- ---- what it sent

asking_calls : (q : QueueState) → map (λ c. asking_of c.call) q.calls ≡ map asking_of (map (λ a. a.call) (asked_by q))
asking_calls q = each q.calls
  where
    each : (calls : List Queued) → map (λ c. asking_of c.call) calls ≡ map asking_of (map (λ a. a.call) (map asked_as calls))
    each [] = refl
    each (c ∷ calls) = ap (λ l. asking_of c.call ∷ l) (each calls)

-- ---- all of it

-- the end of its control page, which is retired
abbrev pub first_end : Agent → SeatedSide → EndAt
first_end a retired = record { place = Control a.given.domain; view = last_view retired }

-- what is left of an agent that retires its ends
pub record IsFinished (a : Agent) (retired : SeatedSide) (ends : List EndAt) (calls : List (Option CallOver)) (served : List ServedDone) : Type 0 where
  pub control : last_view retired ≡ view a.control.port.end
  pub control_honest : (last_view retired).turned ≡ false
  pub back : AreBack (first_end a retired) a.slots.held ends
  pub calls_are : EachPair (ReportsCalled a.slots.domain a.slots.version ends) a.slots.called calls
  pub served_are : EachPair (ReportsServes a.slots.domain a.slots.version ends) a.slots.served served

pub done_owes : (how : ControlEnd) (a : Agent) (retired : SeatedSide) (calls : List (Option CallOver)) (done : AgentDone) → IsOver how a → IsFinished a retired (all_retired done.ends.items) calls done.served.items
    → done.domain ≡ a.given.domain → done.calls.items ≡ call_dones (asked_by a.control.queue) calls → done.control ≡ how → IsOwed a.given done
done_owes how a retired calls done over finished domain_is calls_is control_is = (
  end,
  domain_is,
  subst (λ (es : List EndAt). EndsOwed false (ends_of g) es end) (sym finished.back.are) (record {
    back = record {
      same = (record { place = refl; page = ap (λ (v : EndView). v.page) finished.control ∙ same.0; role = ap (λ (v : EndView). v.role) finished.control ∙ same.1 }, same_ends (data_ends g) rest held);
      turned_are = (finished.control_honest, finished.back.honest);
    };
    are = are;
  }),
  subst (λ (cs : List CallDone). AgentOwes plan end cs served done.control) (sym calls_is)
      (subst (λ (h : ControlEnd). AgentOwes plan end (call_dones (asked_by a.control.queue) calls) served h) (sym control_is) owes),
)
  where
    g : Given
    g = a.given

    plan : AgentPlan
    plan = plan_of g

    stands : Stands a over.heard over.said
    stands = over.stands

    port : PortState
    port = a.control.port

    same : IsSameSeat g.control.value port.end
    same = stands.port.end

    served : List ServedDone
    served = done.served.items

    rest : List EndAt
    rest = finished.back.rest

    all : List EndAt
    all = first_end a retired ∷ rest

    held : map held_at rest ≡ map held_at (data_ends g)
    held = finished.back.held_are ∙ stands.slots.held

    places : places_in rest ≡ places_in (data_ends g)
    places = same_places (data_ends g) rest held

    apart : Differ (places_in all)
    apart = subst (λ (ps : List PagePlace). Differ (Control g.domain ∷ ps)) (sym places) (no_control g.domain g.payload.value.items, differ_places (places_in (data_ends g)) stands.slots.apart)

    end : PagePlace → EndView
    end = end_at (last_view retired) all

    are : AreEnds end all
    are = are_at (last_view retired) all apart

    control : end (Control g.domain) ≡ view port.end
    control = sym are.0 ∙ finished.control

    heard_is : heard_by plan end ≡ record { version = port.version; messages = over.heard; fault = port.fault }
    heard_is =
        ap (λ (v : EndView). hears g.version to_agent v.got) control ∙ ap (λ (o : ℕ). hears o to_agent (view port.end).got) (sym stands.port.own)
        ∙ ap (λ (k : Talker). hears port.own (may_hear k) (view port.end).got) (sym stands.port.talker) ∙ over.all

    made : Answers
    made = answers plan over.heard

    answers_are : answers_of plan end ≡ made
    answers_are = ap (λ (h : Heard). answers plan h.messages) heard_is

    in_order : IsPrefixOf (filter_map asking over.said) (map asking_of plan.calls)
    in_order =
        let first = asks_in_order a.control.queue over.said stands.speaks.asks in
        (first.0, first.1 ∙ asking_calls a.control.queue ∙ ap (λ (l : List CallPlan). map asking_of l) stands.calls.calls)

    reports : EachPair (ReportsCall plan end) (answers_of plan end).asked (call_dones (asked_by a.control.queue) calls)
    reports =
        subst (λ (x : Answers). EachPair (ReportsCall plan end) x.asked (call_dones (asked_by a.control.queue) calls)) (sym answers_are)
        (subst (λ (l : List Asked). EachPair (ReportsCall plan end) made.asked (call_dones l calls)) (sym stands.answers.asked)
        (reports_all plan end all made.asked calls are
        (subst (λ (l : List (Option Called)). EachPair (ReportsCalled g.domain g.version all) l calls) stands.answers.called
        (subst (λ (v : ℕ). EachPair (ReportsCalled g.domain v all) a.slots.called calls) stands.slots.version
        (subst (λ (d : ℕ). EachPair (ReportsCalled d a.slots.version all) a.slots.called calls) stands.slots.domain
        (subst (λ (es : List EndAt). EachPair (ReportsCalled a.slots.domain a.slots.version es) a.slots.called calls) finished.back.are finished.calls_are))))))

    serves : EachPair (ReportsServed plan end) (answers_of plan end).served served
    serves =
        subst (λ (x : Answers). EachPair (ReportsServed plan end) x.served served) (sym answers_are)
        (served_all plan end all made.served a.slots.served served are stands.answers.served
        (subst (λ (v : ℕ). EachPair (ReportsServes g.domain v all) a.slots.served served) stands.slots.version
        (subst (λ (d : ℕ). EachPair (ReportsServes d a.slots.version all) a.slots.served served) stands.slots.domain
        (subst (λ (es : List EndAt). EachPair (ReportsServes a.slots.domain a.slots.version es) a.slots.served served) finished.back.are finished.served_are))))

    over_is : ControlOver (end (Control g.domain)) (heard_by plan end) how
    over_is =
        subst (λ (v : EndView). ControlOver v (heard_by plan end) how) (sym control)
        (subst (λ (h : Heard). ControlOver (view port.end) h how) (over.all ∙ sym heard_is) over.how_is)

    owes : AgentOwes plan end (call_dones (asked_by a.control.queue) calls) served how
    owes = record {
      said = over.said;
      says = subst (λ (v : EndView). IsSaid g.version to_broker over.said v.sent) (sym control) (is_said port over.said g.version stands.port.own stands.port.talker stands.speaks.said_is);
      in_order = in_order;
      of_version = subst (λ (h : Heard). Each (IsOfVersion h.version) over.said) (sym heard_is) stands.speaks.of_version;
      greeted = λ none. stands.quiet (sym (ap (λ (h : Heard). h.version) heard_is) ∙ none);
      keeps = λ target. subst (λ (x : Answers). KeepsTo (answer_in x.asked) target [] over.said) (sym answers_are)
          (subst (λ (l : List Asked). KeepsTo (answer_in l) target [] over.said) stands.answers.asked (asks_within a.control.queue over.said stands.speaks.asks stands.calls.apart target));
      told = subst (λ (h : Heard). Each (IsTold (answers_of plan end).asked h.messages) over.said) (sym heard_is)
          (subst (λ (x : Answers). Each (IsTold x.asked over.heard) over.said) (sym answers_are)
          (subst (λ (l : List Asked). Each (IsTold l over.heard) over.said) stands.answers.asked stands.speaks.told));
      over = over_is;
      reports = reports;
      serves = serves;
    }

-- what it has told
pub done_tells : (how : ControlEnd) (a : Agent) (retired : SeatedSide) (done : AgentDone) → IsOver how a → last_view retired ≡ view a.control.port.end → done.control ≡ how
    → AreBack (first_end a retired) a.slots.held (all_retired done.ends.items) → TellsAll (plan_of a.given) done
done_tells how a retired done over control control_is back =
    subst (λ (es : List EndAt). (e : EndAt) × (slice_get es 0 ≡ Some e) × (e.place ≡ Control a.given.domain) × TellsOf plan e.view done.control) (sym back.are)
    (first_end a retired, refl, refl, subst (λ (h : ControlEnd). TellsOf plan (last_view retired) h) (sym control_is) (subst (λ (v : EndView). TellsOf plan v how) (sym control) tells))
  where
    plan : AgentPlan
    plan = plan_of a.given

    port : PortState
    port = a.control.port

    stands : Stands a over.heard over.said
    stands = over.stands

    same_heard : heard_on plan (view port.end) ≡ heard_at port
    same_heard = heard_at_lem a over.heard over.said stands

    is_fault : (f : SessionFault) → how ≡ Fault f → (heard_on plan (view port.end)).fault ≡ Some f
    is_fault f is =
        let at : ControlOver (view port.end) (heard_at port) (Fault f) = subst (λ (x : ControlEnd). ControlOver (view port.end) (heard_at port) x) is over.how_is in
        ap (λ (h : Heard). h.fault) same_heard ∙ at

    tells : TellsOf plan (view port.end) how
    tells = record {
      once = tells_once a over.heard over.said stands over.keeps over.all;
      fault = λ f. (is_fault f, λ is. over.fault_is f (sym (ap (λ (h : Heard). h.fault) same_heard) ∙ is));
    }

-- ---- where memory ran out

pub given_back : (a : Agent) (retired : SeatedSide) (ends : List EndAt) → CanGiveUp a → (last_view retired).page ≡ (view a.control.port.end).page → (last_view retired).role ≡ (view a.control.port.end).role
    → (last_view retired).turned ≡ false → AreBack (first_end a retired) a.slots.held ends → AreGivenBack false (ends_of a.given) ends
given_back a retired ends can page role honest back = subst (λ (es : List EndAt). AreGivenBack false (ends_of a.given) es) (sym back.are) (record {
  same = (record { place = refl; page = page ∙ can.control.0; role = role ∙ can.control.1 }, same_ends (data_ends a.given) back.rest (back.held_are ∙ can.held));
  turned_are = (honest, back.honest);
})

-- ---- calls one by one

drop_at : (asked : List Asked) (n : ℕ) (a : Asked) → slice_get asked n ≡ Some a → drop n asked ≡ a ∷ drop (suc n) asked
drop_at [] n a is = cc
drop_at (x ∷ asked) zero a is = let same : x ≡ a = cc in ap (λ (y : Asked). y ∷ asked) same
drop_at (x ∷ asked) (suc n) a is = drop_at asked n a is

pub dones_step : (asked : List Asked) (made : List CallDone) (rest : List (Option CallOver)) (over : Option CallOver) (a : Asked) (d : CallDone) (all : List CallDone) → slice_get asked (length made) ≡ Some a → d ≡ call_done_of a over
    → made ++ call_dones (drop (length made) asked) (over ∷ rest) ≡ all → (made ++ d ∷ []) ++ call_dones (drop (length (made ++ d ∷ [])) asked) rest ≡ all
dones_step asked made rest over a d all at d_is h =
    let long : length (made ++ d ∷ []) ≡ suc (length made) = omega (arith, length-append made (d ∷ [])) in
    ap (λ (n : ℕ). (made ++ d ∷ []) ++ call_dones (drop n asked) rest) long ∙ append_assoc made (d ∷ []) (call_dones (drop (suc (length made)) asked) rest)
    ∙ ap (λ (x : CallDone). made ++ x ∷ call_dones (drop (suc (length made)) asked) rest) d_is ∙ sym (ap (λ (l : List Asked). made ++ call_dones l (over ∷ rest)) (drop_at asked (length made) a at)) ∙ h

-- each call reports what came of its session
pub calls_long : (how : ControlEnd) (a : Agent) (ends : List EndAt) (calls : List (Option CallOver)) → IsOver how a → EachPair (ReportsCalled a.slots.domain a.slots.version ends) a.slots.called calls → length calls ≡ length (asked_by a.control.queue)
calls_long how a ends calls over each =
    AllZip-long (ReportsCalled a.slots.domain a.slots.version ends) a.slots.called calls each ∙ ap (λ (l : List (Option Called)). length l) over.stands.answers.called
    ∙ length-map (answers (plan_of a.given) over.heard).asked called_of ∙ ap (λ (l : List Asked). length l) (sym over.stands.answers.asked)
