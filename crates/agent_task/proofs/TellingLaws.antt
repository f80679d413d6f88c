-- What an agent has reported of the ends of its sessions.
use Rattle.std.proofs.Common.{◌≡◌, ℕ, ◌<◌, ◌≤◌, List, [], ◌∷◌, ◌++◌, length, refl, ap, sym, ◌∙◌, Some, None, Option, subst, inl, inr, arith}
use Rattle.std.specs.Prelude.{◌⊎◌, Bool, true, false, map, filter_map, take, slice_get, IsSomeAnd, IsPermutation}
use Rattle.std.proofs.lemmas.List.{length-map}
use Rattle.std.proofs.lemmas.List.Sums.{count_by-le-length}
use Rattle.std.specs.List.{flat_map, AllByRecursion as Each}
use Rattle.list_laws.specs.Lists.{IsPartOf, SomeOf}
use Rattle.list_laws.proofs.Places.{get_map}
use Rattle.list_laws.proofs.Each.{each_mapped, some_append}
use Rattle.qrexec_frame.specs.declared.message.Message.{Message}
use Rattle.qrexec_frame.specs.declared.message.Message.TheVariants.{Hello}
use Rattle.qrexec_frame.specs.Messages.{written, IsSpellable}
use Rattle.vchan_rule.specs.Seated.{view}
use Rattle.task_duties.specs.declared.done.ControlEnd.{ControlEnd}
use Rattle.task_duties.specs.declared.done.SessionEnd.{SessionEnd}
use Rattle.task_duties.specs.Hearing.{to_agent, to_broker, IsSaid, Heard, hears}
use Rattle.task_duties.specs.Places.{has_place}
use Rattle.task_duties.specs.TaskOwes.{EndAt, places_in}
use Rattle.task_duties.specs.Agent.Answers.{Answer, Waits, IsRefused, At, answers}
use Rattle.task_duties.specs.Agent.Saying.{asking_of}
use Rattle.agent_queue.specs.Queue.{Queued, asked_as, asked_by}
use Rattle.control_port.specs.Port.{PortState, HasSaid, HasHeardAll, SentWhole}
use Rattle.control_port.specs.Talking.{may_say, may_hear}
use Rattle.control_port.specs.declared.talk.Talker.{Talker}
use Rattle.control_port.specs.declared.talk.Talker.TheVariants.{Agent as OfAgent}
use Rattle.agent_slots.specs.Slots.{SlotsState, held_at, late_count, place_at}
use Rattle.agent_slots.specs.Agreeing.{places_free, places_of, SessionStands, IsOpenAt, Agrees}
use Rattle.agent_control.specs.Speaking.{IsTellable}
use Rattle.agent_task.specs.declared.agent.Agent.{Agent}
use Rattle.agent_task.specs.Given.{plan_of, data_ends}
use Rattle.agent_task.specs.Asking.{IsUnderWay, CallStands, CallsStand}
use Rattle.agent_task.specs.Standing.{Stands, KeepsEnds}
use Rattle.agent_task.specs.Ending.{IsRunning, heard_at}
use Rattle.agent_task.specs.Ends.{AreKept, session_told, session_of_end, sessions_owed}
use Rattle.agent_task.specs.Telling.{heard_on, TellsOnce}
use Rattle.agent_task.specs.State.{state_of, state_in, IsOpenSession, IsOpenFor, ActsSoFar, TellsSoFar}
use Rattle.agent_task.proofs.KeptLaws.{kept_told, kept_waits}
use Rattle.agent_task.proofs.AskingLaws.{some_after, some_mapped, some_each, own_end}
use Rattle.agent_task.proofs.SessionLaws.{over_tellable}
use Rattle.agent_task.proofs.RoundLaws.{running_up, running_over}
use Rattle.qrexec_data.specs.Laws.{IsVersion}

said_whole : (greeted : Bool) (own : ℕ) (said : List Message) (sent : List ℕ) → SentWhole greeted own said sent → ((sent ≡ []) × (said ≡ [])) ⊎ (sent ≡ flat_map written (Hello own ∷ said))
said_whole false own said sent h = inl h
said_whole true own said sent h = inr h

pub is_said : (p : PortState) (said : List Message) (own : ℕ) → p.own ≡ own → p.talker ≡ OfAgent → HasSaid p said → IsSaid own to_broker said (view p.end).sent
is_said p said own own_is talker h = record {
  each = subst (λ (k : Talker). Each (λ m. (may_say k m ≡ true) × IsSpellable m) said) talker h.each;
  whole = subst (λ (o : ℕ). (((view p.end).sent ≡ []) × (said ≡ [])) ⊎ ((view p.end).sent ≡ flat_map written (Hello o ∷ said))) own_is (said_whole p.greeted p.own said (view p.end).sent h.whole);
}

-- what came on its control end is what its port heard
pub heard_at_lem : (a : Agent) (heard said : List Message) → Stands a heard said → heard_on (plan_of a.given) (view a.control.port.end) ≡ heard_at a.control.port
heard_at_lem a heard said stands =
    ap (λ (o : ℕ). hears o to_agent (view a.control.port.end).got) (sym stands.port.own)
    ∙ ap (λ (k : Talker). hears a.control.port.own (may_hear k) (view a.control.port.end).got) (sym stands.port.talker)

-- all of which was acted on
pub heard_all : (a : Agent) (heard said : List Message) → Stands a heard said → HasHeardAll a.control.port heard → heard ≡ (heard_on (plan_of a.given) (view a.control.port.end)).messages
heard_all a heard said stands all = sym (ap (λ (h : Heard). h.messages) (heard_at_lem a heard said stands ∙ all))

abbrev pub tells_once : (a : Agent) (heard said : List Message) → Stands a heard said → KeepsEnds a heard said → HasHeardAll a.control.port heard → TellsOnce (plan_of a.given) (view a.control.port.end)
tells_once a heard said stands keeps all = record {
  said = said;
  says = is_said a.control.port said a.given.version stands.port.own stands.port.talker stands.speaks.said_is;
  told = subst (λ (l : List Message). IsPartOf (filter_map session_told said) (sessions_owed (answers (plan_of a.given) l).asked l)) (heard_all a heard said stands all)
      (kept_told a.over a.slots.called (answers (plan_of a.given) heard).asked a.control.unsaid.items a.slots.opened heard said stands.answers.called keeps.0);
}

-- ---- its calls and its sessions so far

asked_calls : (calls : List Queued) → map (λ c. asking_of c.call) calls ≡ map asking_of (map (λ a. a.call) (map asked_as calls))
asked_calls [] = refl
asked_calls (c ∷ calls) = ap (λ l. asking_of c.call ∷ l) (asked_calls calls)

held_places : (ends : List EndAt) → map (λ h. h.place) (map held_at ends) ≡ places_in ends
held_places [] = refl
held_places (e ∷ ends) = ap (λ l. e.place ∷ l) (held_places ends)

-- a call that is open is so for a reason
open_for : (a : Agent) (heard said : List Message) → Stands a heard said → Agrees a.slots → CallsStand a.control.queue a.control.unsaid.items a.slots.opened said → (place : ℕ) (c : Queued) → slice_get a.control.queue.calls place ≡ Some c
    → c.is_open ≡ true → (place < a.control.queue.next) × IsOpenFor (map session_of_end a.control.unsaid.items ++ map session_of_end a.slots.opened) said place c.answer
open_for a heard said stands agrees stand place c there is_open = ((stand place c there).0 is_open, by_answer c.answer refl (stand place c there).1)
  where
    waiting : List (ℕ × ℕ)
    waiting = map session_of_end a.control.unsaid.items

    opened : List (ℕ × ℕ)
    opened = map session_of_end a.slots.opened

    Own : SessionEnd → Type 0
    Own e = e.call ≡ Some place

    Tellable : SessionEnd → Type 0
    Tellable e = IsTellable (asked_by a.control.queue) heard e

    own : (to port : ℕ) → c.answer ≡ At to port → (e : SessionEnd) → Own e × Tellable e → session_of_end e ≡ (to, port)
    own to port is e h =
        let parts = own_end (asked_by a.control.queue) heard place (asked_as c) e to port (get_map asked_as a.control.queue.calls place c there) is h.0 h.1 in
        ap (λ (d : ℕ). (d, e.port)) parts.0 ∙ ap (λ (p : ℕ). (to, p)) parts.1

    under_way : (to port : ℕ) → c.answer ≡ At to port → IsUnderWay a.control.unsaid.items a.slots.opened place → SomeOf (λ s. s ≡ (to, port)) (waiting ++ opened)
    under_way to port is (inl e) =
        some_append (λ s. s ≡ (to, port)) waiting opened
        (some_mapped (λ e. Own e × Tellable e) (λ s. s ≡ (to, port)) session_of_end a.control.unsaid.items (own to port is) (some_each Own Tellable a.control.unsaid.items stands.speaks.unsaid e))
    under_way to port is (inr o) =
        some_after (λ s. s ≡ (to, port)) waiting opened
        (some_mapped (λ o. Own o × IsOpenAt a.slots o) (λ s. s ≡ (to, port)) session_of_end a.slots.opened (λ o h. own to port is o (h.0, over_tellable a heard said o stands h.1.begun))
        (some_each (λ o. Own o) (IsOpenAt a.slots) a.slots.opened agrees.opened o))

    by_answer : (x : Answer) → c.answer ≡ x → CallStands a.control.unsaid.items a.slots.opened said place c.is_open x → IsOpenFor (waiting ++ opened) said place x
    by_answer Waits is h = tt
    by_answer IsRefused is h = let bad : false ≡ true = sym h ∙ is_open in cc
    by_answer (At to port) is (inl h) = inl (under_way to port is h)
    by_answer (At to port) is (inr h) = inr (h.1 is_open)

-- no more sessions are on pages that are laid at their first use than are open
late_few : (s : SlotsState) → late_count s ≤ length (map session_of_end s.opened)
late_few s = omega (arith, count_by-le-length (λ o. has_place (place_at s.domain o.call o.domain o.port) s.late) s.opened, length-map s.opened session_of_end)

acts_so_far : (a : Agent) (heard said : List Message) → Stands a heard said → KeepsEnds a heard said → HasHeardAll a.control.port heard → Agrees a.slots → ActsSoFar (state_of a) said
acts_so_far a heard said stands keeps all agrees = record {
  channel = record {
    control = refl;
    talker = stands.port.talker;
    own = stands.port.own;
    says = stands.speaks.said_is;
    hears = subst (λ (l : List Message). HasHeardAll a.control.port l) heard_is all;
    waiting = refl;
    calls = stands.calls.calls;
    answered = stands.answers.asked ∙ ap (λ l. (answers (plan_of a.given) l).asked) heard_is;
    asks = stands.speaks.asks.asked ∙ ap (λ l. take a.control.queue.next l) (asked_calls a.control.queue.calls ∙ ap (λ l. map asking_of l) stands.calls.calls);
    opened = λ up. open_for a heard said stands agrees (keeps.1 up);
  };
  begun = ap (λ l. (answers (plan_of a.given) l).unused) (sym heard_is) ∙ (sym stands.answers.unused ∙ (agrees.unused ∙ ap (λ l. places_free l a.slots.sessions) places_are));
  version = subst (λ (v : ℕ). IsVersion v) stands.slots.version (record { least = agrees.version.0; small = omega (arith, agrees.version.1) });
  count = agrees.count ∙ (sym (length-map a.slots.held (λ h. h.place)) ∙ ap length places_are);
  sessions = subst (λ (v : ℕ). Each (SessionStands v) a.slots.sessions) stands.slots.version agrees.sessions;
  opened = each_mapped (IsOpenAt a.slots) (IsOpenSession (state_of a)) session_of_end a.slots.opened is_open_lem agrees.opened;
  pages = late_few a.slots;
}
  where
    heard_is : heard ≡ (heard_on (plan_of a.given) (view a.control.port.end)).messages
    heard_is = heard_all a heard said stands all

    places_are : places_of a.slots ≡ places_in (data_ends a.given)
    places_are = ap (λ l. map (λ h. h.place) l) stands.slots.held ∙ held_places (data_ends a.given)

    is_open_lem : (o : SessionEnd) → IsOpenAt a.slots o → IsOpenSession (state_of a) (session_of_end o)
    is_open_lem o h = record {
      at = h.at;
      number = o.call;
      place_is = ap (λ l. slice_get l h.at) (sym places_are) ∙ (h.place_is ∙ ap (λ (d : ℕ). Some (place_at d o.call o.domain o.port)) stands.slots.domain);
      is_open = h.is_open;
    }

tells_so_far : (a : Agent) → IsRunning a → Agrees a.slots → TellsSoFar (state_of a)
tells_so_far a running agrees = by_over a.over refl
  where
    so_far : (heard said : List Message) → Stands a heard said → KeepsEnds a heard said → HasHeardAll a.control.port heard → TellsSoFar (state_of a)
    so_far heard said stands keeps all = record {
      once = tells_once a heard said stands keeps all;
      acts = acts_so_far a heard said stands keeps all agrees;
      waits = λ up.
          subst (λ (l : List Message). IsPermutation (filter_map session_told said ++ (map session_of_end a.control.unsaid.items ++ map session_of_end a.slots.opened)) (sessions_owed (answers (plan_of a.given) l).asked l))
          (heard_all a heard said stands all)
          (kept_waits a.slots.called (answers (plan_of a.given) heard).asked a.control.unsaid.items a.slots.opened heard said stands.answers.called
          (subst (λ (o : Option ControlEnd). AreKept o a.slots.called a.control.unsaid.items a.slots.opened heard said) up keeps.0));
    }

    by_over : (o : Option ControlEnd) → a.over ≡ o → TellsSoFar (state_of a)
    by_over None is = let up = running_up a running is in so_far up.hearing.heard up.hearing.said up.hearing.stands up.hearing.keeps up.all
    by_over (Some how) is = let over = running_over a how running is in so_far over.heard over.said over.stands over.keeps over.all

pub tells_in : (o : Option Agent) → IsSomeAnd o IsRunning → IsSomeAnd o (λ a. Agrees a.slots) → TellsSoFar (state_in o)
tells_in None running agrees = absurd running
tells_in (Some a) running agrees = tells_so_far a running agrees
