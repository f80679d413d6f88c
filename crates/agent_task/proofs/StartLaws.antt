-- An agent that was just made.
use Rattle.std.proofs.Common.{◌≡◌, ℕ, List, [], ◌∷◌, length, refl, ap, sym, ◌∙◌, None, Option, subst}
use Rattle.std.specs.Prelude.{false, map, replicate, Some, IsSomeAnd}
use Rattle.std.specs.List.{AllByRecursion as Each, AllZip as EachPair}
use Rattle.vchan_rule.specs.Seated.{SeatedEnd, view, IsOpen}
use Rattle.ring_words.specs.declared.page.Role.TheVariants.{Server}
use Rattle.end_view.specs.EndView.{IsUnused, state_at_first}
use Rattle.scenario_file.specs.declared.scenario.CallPlan.{CallPlan}
use Rattle.task_duties.specs.declared.ends.DataEnd.{DataEnd}
use Rattle.task_duties.specs.GivenEnds.{all_given}
use Rattle.task_duties.specs.TaskOwes.{places_in}
use Rattle.task_duties.specs.Agent.Answers.{Waits, Asked}
use Rattle.control_port.specs.Port.{PortState, HasSaid, HasHeard, HasHeardAll}
use Rattle.control_port.specs.Talking.{may_hear}
use Rattle.qrexec_data.specs.declared.outcome.SessionFault.{SessionFault}
use Rattle.task_duties.specs.Hearing.{hears}
use Rattle.control_port.specs.declared.talk.Talker.TheVariants.{Agent as OfAgent}
use Rattle.agent_queue.specs.Queue.{QueueState, fresh, asked_as, asked_by}
use Rattle.agent_slots.specs.Sessions.{NotBegun}
use Rattle.agent_slots.specs.Slots.{Called, SlotsState, held_at, AreApart}
use Rattle.agent_control.specs.Speaking.{IsTellable}
use Rattle.agent_task.specs.declared.agent.Agent.{Agent}
use Rattle.agent_task.specs.declared.agent.Given.{Given}
use Rattle.agent_task.specs.Starting.{IsNewQueue, IsNew, IsNewTask}
use Rattle.agent_task.specs.State.{state_in}
use Rattle.agent_task.specs.Standing.{called_of, IsServedBy, AreAskedFor}
use Rattle.agent_task.specs.Ending.{IsRunning}
use Rattle.agent_task.proofs.PortLaws.{same_end_is}
use Rattle.task_duties.specs.declared.done.ControlEnd.{ControlEnd}
use Rattle.agent_slots.specs.Sides.{late_places}
use Rattle.agent_task.specs.Ends.{AreKept}
use Rattle.agent_task.specs.Asking.{CallsStand}
use Rattle.agent_task.proofs.AskingLaws.{calls_fresh}
use Rattle.agent_task.proofs.KeptLaws.{kept_first}
use Rattle.agent_task.proofs.RoundLaws.{up_running}

fresh_asked : (calls : List CallPlan) → map asked_as (map fresh calls) ≡ map (λ call. record { call = call; answer = Waits }) calls
fresh_asked [] = refl
fresh_asked (c ∷ calls) = ap (λ (l : List Asked). record { call = c; answer = Waits } ∷ l) (fresh_asked calls)

fresh_calls : (calls : List CallPlan) → map (λ a. a.call) (map asked_as (map fresh calls)) ≡ calls
fresh_calls [] = refl
fresh_calls (c ∷ calls) = ap (λ l. c ∷ l) (fresh_calls calls)

fresh_called : (calls : List CallPlan) → replicate (length calls) None ≡ map called_of (map (λ call. record { call = call; answer = Waits }) calls)
fresh_called [] = refl
fresh_called (c ∷ calls) = ap (λ (l : List (Option Called)). None ∷ l) (fresh_called calls)

open_first : (e : SeatedEnd) → IsUnused (view e) → (view e).role ≡ Server → IsOpen e
open_first e unused server = (unused.idle, unused.state ∙ ap state_at_first server)

-- where no bytes came, no message was heard
none_heard : (p : PortState) → (view p.end).got ≡ [] → p.version ≡ None → p.fault ≡ None → HasHeardAll p []
none_heard p got version fault =
    ap (λ (bytes : List ℕ). hears p.own (may_hear p.talker) bytes) got
    ∙ sym (ap (λ (v : Option ℕ). record { version = v; messages = []; fault = p.fault }) version ∙ ap (λ (f : Option SessionFault). record { version = None; messages = []; fault = f }) fault)

starts : (a : Agent) → IsNew a.given a.control.queue a.control.port a.slots → a.control.unsaid.items ≡ [] → a.over ≡ None → IsRunning a
starts a new unsaid over = up_running a (record {
  hearing = record {
    heard = [];
    said = [];
    stands = record {
      port = record { own = new.port.own; talker = new.port.talker; end = same_end_is a.given.control.value a.control.port.end new.port.end };
      calls = record { calls = ap (λ (q : QueueState). map (λ x. x.call) (asked_by q)) new.queue.queue_is ∙ fresh_calls calls; apart = new.queue.apart };
      slots = record {
        domain = ap (λ (s : SlotsState). s.domain) new.slots;
        version = ap (λ (s : SlotsState). s.version) new.slots;
        held = ap (λ (s : SlotsState). s.held) new.slots;
        whole = ap (λ (s : SlotsState). s.spent) new.slots;
        apart = new.apart;
      };
      answers = record {
        asked = ap asked_by new.queue.queue_is ∙ fresh_asked calls;
        unused = ap (λ (s : SlotsState). s.unused) new.slots;
        called = ap (λ (s : SlotsState). s.called) new.slots ∙ fresh_called calls;
        served = subst (λ l. EachPair IsServedBy [] l) (sym (ap (λ (s : SlotsState). s.served) new.slots)) tt;
      };
      asked_for = subst (λ l. AreAskedFor [] l) (sym (ap (λ (s : SlotsState). s.served) new.slots)) tt;
      speaks = record { said_is = new.port.said; asks = new.queue.asks; of_version = tt; told = tt; unsaid = subst (λ l. Each (IsTellable (asked_by a.control.queue) []) l) (sym unsaid) tt };
      quiet = λ none. refl;
    };
    keeps = (
      subst (λ (o : Option ControlEnd). AreKept o a.slots.called a.control.unsaid.items a.slots.opened [] []) (sym over)
          (kept_first calls a.slots.called a.control.unsaid.items a.slots.opened (ap (λ (s : SlotsState). s.called) new.slots ∙ fresh_called calls) unsaid (ap (λ (s : SlotsState). s.opened) new.slots)),
      λ up. subst (λ (q : QueueState). CallsStand q a.control.unsaid.items a.slots.opened []) (sym new.queue.queue_is) (calls_fresh calls a.control.unsaid.items a.slots.opened []),
    );
    hears = new.port.heard;
    sound = record { fine = new.port.fine; is_open = subst (λ (e : SeatedEnd). IsOpen e) (sym new.port.end) (open_first a.given.control.value new.port.unused new.port.server); up = over };
  };
  all = none_heard a.control.port (ap (λ (e : SeatedEnd). (view e).got) new.port.end ∙ new.port.unused.got) new.port.version new.port.fine;
  going = ap (λ (e : SeatedEnd). (view e).ended) new.port.end ∙ new.port.unused.ended;
})
  where
    calls : List CallPlan
    calls = a.given.calls.value.items

-- the same, of a place that has it
pub starts_in : (o : Option Agent) (a : Agent) → o ≡ Some a → IsNew a.given a.control.queue a.control.port a.slots → a.control.unsaid.items ≡ [] → a.over ≡ None → IsSomeAnd o IsRunning × IsNewTask (state_in o)
starts_in o a is new unsaid over = (
  subst (λ (o : Option Agent). IsSomeAnd o IsRunning) (sym is) (starts a new unsaid over),
  record { agent = a; seen = ap state_in is; new = new; unsaid = unsaid; up = over },
)

-- the data ends of this domain and version, all unused, with this many calls
abbrev made : ℕ → ℕ → ℕ → List DataEnd → SlotsState
made domain version count ends = record { domain = domain; version = version; held = map held_at (all_given ends); unused = places_in (all_given ends); late = late_places ends; called = replicate count None; served = []; opened = []; sessions = replicate (length ends) NotBegun; spent = false }

-- what was given is known by its parts
pub is_new : (g : Given) (q : QueueState) (p : PortState) (s : SlotsState) (count : ℕ) (calls : List CallPlan) (control : SeatedEnd) (payload : List DataEnd)
    → g.calls.value.items ≡ calls → g.control.value ≡ control → g.payload.value.items ≡ payload → IsNewQueue calls q
    → (p.end ≡ control) × (p.talker ≡ OfAgent) × (p.own ≡ g.version) → (p.version ≡ None) × (p.fault ≡ None) → HasSaid p [] → HasHeard p []
    → s ≡ made g.domain g.version count payload → count ≡ length calls → IsUnused (view control) → (view control).role ≡ Server → AreApart (places_in (all_given payload)) → IsNew g q p s
is_new g q p s count calls control payload calls_are control_is payload_is queue port new said heard slots many unused server apart = record {
  queue = subst (λ (l : List CallPlan). IsNewQueue l q) (sym calls_are) queue;
  port = record {
    end = port.0 ∙ sym control_is;
    talker = port.1;
    own = port.2;
    version = new.0;
    fine = new.1;
    said = said;
    heard = heard;
    unused = subst (λ (e : SeatedEnd). IsUnused (view e)) (sym control_is) unused;
    server = ap (λ (e : SeatedEnd). (view e).role) control_is ∙ server;
  };
  slots = slots ∙ ap (λ (n : ℕ). made g.domain g.version n payload) (many ∙ ap (λ (l : List CallPlan). length l) (sym calls_are)) ∙ ap (λ (es : List DataEnd). made g.domain g.version (length g.calls.value.items) es) (sym payload_is);
  apart = subst (λ (es : List DataEnd). AreApart (places_in (all_given es))) (sym payload_is) apart;
}
