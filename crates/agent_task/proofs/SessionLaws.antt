-- What a turn of its sessions makes of an agent.
use Rattle.std.proofs.Common.{◌≡◌, ℕ, List, [], ◌∷◌, ◌++◌, refl, ap, sym, ◌∙◌, Some, None, Option, subst, inl, inr, arith}
use Rattle.std.specs.Prelude.{true, false, map, slice_get, ◌==◌, ◌&&◌, is_some, IsPermutation}
use Rattle.std.proofs.lemmas.Bool.Decides.{nat_tests}
use Rattle.std.specs.List.{AllByRecursion as Each}
use Rattle.list_laws.specs.Lists.{SomeOf}
use Rattle.list_laws.proofs.Places.{get_map_back}
use Rattle.list_laws.proofs.Each.{each_weaker}
use Rattle.qrexec_frame.specs.declared.message.Message.{Message}
use Rattle.scenario_file.specs.declared.scenario.CallPlan.{CallPlan}
use Rattle.task_duties.specs.declared.done.ControlEnd.{ControlEnd}
use Rattle.task_duties.specs.declared.done.SessionEnd.{SessionEnd}
use Rattle.task_duties.specs.Agent.Answers.{Answer, At}
use Rattle.task_duties.specs.Agent.Saying.{is_at, AsksToServe}
use Rattle.agent_queue.specs.Queue.{asked_by}
use Rattle.agent_slots.specs.Sessions.{Session, AllTakeTurns, TakesTurn, session_at}
use Rattle.agent_slots.specs.Slots.{Called, Serves, SlotsState}
use Rattle.agent_slots.specs.Done.{IsBegun, IsToldOver, TellsMore}
use Rattle.agent_control.specs.Speaking.{MayTell, IsTellable}
use Rattle.agent_task.specs.declared.agent.Agent.{Agent}
use Rattle.agent_task.specs.Standing.{Stands, AreAskedFor, IsUp, KeepsOpen, OnlyTells, called_by, called_of}
use Rattle.agent_task.specs.State.{TurnsEach}
use Rattle.agent_task.specs.Ending.{IsOver, IsRunning}
use Rattle.agent_task.specs.Ends.{AreKept}
use Rattle.agent_task.specs.Asking.{CallsStand}
use Rattle.agent_task.proofs.AskingLaws.{calls_over}
use Rattle.agent_task.proofs.KeptLaws.{kept_over, kept_lost}
use Rattle.agent_task.proofs.RoundLaws.{running_up, up_running, running_over, over_running}
use Rattle.agent_task.proofs.StepLaws.{tells_stand}

-- ---- the sessions that were open

pub keeps_same : (a b : Agent) → b.slots ≡ a.slots → KeepsOpen a b
keeps_same a b same i is_open = ap (λ (s : SlotsState). session_at s.sessions i) same

pub turns_each : (a b c d : Agent) → KeepsOpen a b → AllTakeTurns b.slots.sessions c.slots.sessions → d.slots ≡ c.slots → TurnsEach a.slots.sessions d.slots.sessions
turns_each a b c d kept turns same i is_open =
    subst (λ (s : SlotsState). TakesTurn (session_at a.slots.sessions i) (session_at s.sessions i)) (sym same)
    (subst (λ (x : Session). TakesTurn x (session_at c.slots.sessions i)) (kept i is_open) (turns i))

-- ---- sessions that are over

abbrev pub with_slots : Agent → SlotsState → Agent
with_slots a s = record a { slots = s }

-- only fewer sessions are open
slots_stand : (a : Agent) (s : SlotsState) (heard said : List Message) → s ≡ record a.slots { opened = s.opened; sessions = s.sessions } → Stands a heard said → Stands (with_slots a s) heard said
slots_stand a s heard said is stands = subst (λ (x : SlotsState). Stands (with_slots a x) heard said) (sym is) (record {
  port = stands.port;
  calls = stands.calls;
  slots = record { domain = stands.slots.domain; version = stands.slots.version; held = stands.slots.held; whole = stands.slots.whole; apart = stands.slots.apart };
  answers = record { asked = stands.answers.asked; unused = stands.answers.unused; called = stands.answers.called; served = stands.answers.served };
  asked_for = stands.asked_for;
  speaks = stands.speaks;
  quiet = stands.quiet;
})

-- the control channel is over, and what is over now is lost
slots_over : (how : ControlEnd) (a : Agent) (s : SlotsState) (told : List SessionEnd) → s ≡ record a.slots { opened = s.opened; sessions = s.sessions } → IsPermutation (told ++ s.opened) a.slots.opened → a.over ≡ Some how → IsOver how a → IsOver how (with_slots a s)
slots_over how a s told is p over_is over = record {
  heard = over.heard;
  said = over.said;
  stands = slots_stand a s over.heard over.said is over.stands;
  keeps = (
    subst (λ (c : List (Option Called)). AreKept a.over c a.control.unsaid.items s.opened over.heard over.said) (sym (ap (λ (x : SlotsState). x.called) is))
        (subst (λ (o : Option ControlEnd). AreKept o a.slots.called a.control.unsaid.items s.opened over.heard over.said) (sym over_is)
        (kept_lost how a.slots.called a.control.unsaid.items a.slots.opened s.opened told over.heard over.said p
        (subst (λ (o : Option ControlEnd). AreKept o a.slots.called a.control.unsaid.items a.slots.opened over.heard over.said) over_is over.keeps.0))),
    λ up. (let none = sym over_is ∙ up in cc),
  );
  all = over.all;
  how_is = over.how_is;
  fault_is = over.fault_is;
  over_is = over.over_is;
  idle = over.idle;
  retired = over.retired;
}

pub slots_running : (a : Agent) (s : SlotsState) (told : List SessionEnd) → IsRunning a → is_some a.over ≡ true → s ≡ record a.slots { opened = s.opened; sessions = s.sessions } → IsPermutation (told ++ s.opened) a.slots.opened → IsRunning (with_slots a s)
slots_running a s told running some is p = by_over a.over refl some
  where
    by_over : (o : Option ControlEnd) → a.over ≡ o → is_some o ≡ true → IsRunning (with_slots a s)
    by_over None over_is some = cc
    by_over (Some how) over_is some = over_running (with_slots a s) how (slots_over how a s told is p over_is (running_over a how running over_is))

same_numbers : (x y : ℕ) → (x == x && y == y) ≡ true
same_numbers x y = grind (arith, nat_tests)

called_at : (call : CallPlan) (answer : Answer) (c : Called) → called_by call answer ≡ Some c → is_at c.to c.port answer ≡ true
called_at call (At to port) c is =
    let it : Called = record { to = to; port = port; input = call.stdin } in
    let same : it ≡ c = cc in
    subst (λ (k : Called). is_at k.to k.port (At to port) ≡ true) same (same_numbers to port)
called_at call _ c is = cc

asked_to_serve : (heard : List Message) (served : List Serves) (d p : ℕ) → AreAskedFor heard served → SomeOf (λ x. (x.from ≡ d) × (x.port ≡ p)) served → SomeOf (AsksToServe d p) heard
asked_to_serve heard [] d p each h = absurd h
asked_to_serve heard (x ∷ served) d p each (inl h) = subst (λ (n : ℕ). SomeOf (AsksToServe n p) heard) h.0 (subst (λ (n : ℕ). SomeOf (AsksToServe x.from n) heard) h.1 each.0)
asked_to_serve heard (x ∷ served) d p each (inr h) = asked_to_serve heard served d p each.1 h

-- the end of such a session may be reported
pub over_tellable : (a : Agent) (heard said : List Message) (over : SessionEnd) → Stands a heard said → IsToldOver a.slots over → IsTellable (asked_by a.control.queue) heard over
over_tellable a heard said over stands begun = by_call over.call begun
  where
    by_call : (call : Option ℕ) → IsBegun a.slots call over.domain over.port → MayTell (asked_by a.control.queue) heard call over.domain over.port
    by_call (Some number) own =
        let called : a.slots.called ≡ map called_of (asked_by a.control.queue) = stands.answers.called ∙ ap (λ l. map called_of l) (sym stands.answers.asked) in
        let got = get_map_back called_of (asked_by a.control.queue) number (Some own.0) (ap (λ l. slice_get l number) (sym called) ∙ own.1) in
        (got.0, got.1, subst (λ (n : ℕ). is_at n over.port got.0.answer ≡ true) own.2 (subst (λ (n : ℕ). is_at own.0.to n got.0.answer ≡ true) own.3 (called_at got.0.call got.0.answer own.0 got.2)))
    by_call None served = asked_to_serve heard a.slots.served over.domain over.port stands.asked_for served

-- the ends of sessions that are over are to be reported
pub notes_up : (a : Agent) (s : SlotsState) (new : Agent) (over : List SessionEnd) → IsUp a → s ≡ record a.slots { opened = s.opened; sessions = s.sessions } → OnlyTells (with_slots a s) new → new.control.unsaid.items ≡ a.control.unsaid.items ++ over
    → IsPermutation (over ++ s.opened) a.slots.opened → Each (IsToldOver a.slots) over → IsUp new
notes_up a s new over up is only told p each =
    let h = up.hearing in
    let tellable = each_weaker (IsToldOver a.slots) (IsTellable (asked_by a.control.queue) h.heard) (λ x begun. over_tellable a h.heard h.said x h.stands begun) over each in
    let P : Agent → Type 0 = λ x. Stands x h.heard h.said in
    let Q : Agent → Type 0 = λ x. IsUp x in
    subst Q (sym only) (record {
      hearing = record {
        heard = h.heard;
        said = h.said;
        stands = subst P only (tells_stand (with_slots a s) new over h.heard h.said only told tellable (slots_stand a s h.heard h.said is h.stands));
        keeps = (
          subst (λ (c : List (Option Called)). AreKept a.over c new.control.unsaid.items s.opened h.heard h.said) (sym (ap (λ (x : SlotsState). x.called) is))
              (kept_over a.over a.slots.called a.control.unsaid.items new.control.unsaid.items a.slots.opened s.opened over h.heard h.said told p h.keeps.0),
          λ running. subst (λ (l : List SessionEnd). CallsStand a.control.queue l s.opened h.said) (sym told) (calls_over a.control.queue a.control.unsaid.items a.slots.opened s.opened over h.said p (h.keeps.1 running)),
        );
        hears = h.hears;
        sound = record { fine = h.sound.fine; is_open = h.sound.is_open; up = h.sound.up };
      };
      all = up.all;
      going = up.going;
    })

pub none_of : (o : Option ControlEnd) → is_some o ≡ false → o ≡ None
none_of None is = refl
none_of (Some how) is = cc

pub noted_running : (a : Agent) (s : SlotsState) (new : Agent) (over : List SessionEnd) → IsRunning a → is_some a.over ≡ false → s ≡ record a.slots { opened = s.opened; sessions = s.sessions } → OnlyTells (with_slots a s) new
    → new.control.unsaid.items ≡ a.control.unsaid.items ++ over → IsPermutation (over ++ s.opened) a.slots.opened → Each (IsToldOver a.slots) over → IsRunning new
noted_running a s new over running none is only told p each = up_running new (notes_up a s new over (running_up a running (none_of a.over none)) is only told p each)

-- all that was reported, if nothing was before
pub told_first : (old new : SlotsState) (now : List SessionEnd) → TellsMore old new [] now → IsPermutation (now ++ new.opened) old.opened × Each (IsToldOver old) now
told_first old new now tells = (subst (λ l. IsPermutation (l ++ new.opened) old.opened) (sym tells.1) tells.2, subst (λ l. Each (IsToldOver old) l) (sym tells.1) tells.3)
