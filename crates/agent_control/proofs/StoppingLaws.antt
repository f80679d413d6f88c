-- What an agent's last call found, after the calls before it.
use Rattle.std.proofs.Common.{◌≡◌, ℕ, ◌+◌, List, ◌∷◌, length, ◌<◌, refl, sym, ap, ◌∙◌, Some, subst}
use Rattle.std.specs.Prelude.{Bool, true, false, slice_get, slice_set}
use Rattle.list_laws.proofs.Places.{get_within}
use Rattle.vchan_rule.specs.Seated.{SeatedEnd}
use Rattle.vchan_rule.specs.Ends.{IsSameEnd}
use Rattle.vchan_rule.proofs.EndLaws.{same_end_then}
use Rattle.vchan_packet.specs.Packet.{FailsToSend}
use Rattle.qrexec_frame.specs.declared.message.Message.{Message}
use Rattle.qrexec_frame.specs.Messages.{written}
use Rattle.task_duties.specs.declared.done.SessionEnd.{SessionEnd}
use Rattle.agent_queue.specs.Queue.{Queued, QueueState, HasToSay, HasToSayOfLen}
use Rattle.agent_control.specs.declared.control.AgentControl.{AgentControl}
use Rattle.agent_control.specs.Speaking.{Says, terminated}
use Rattle.agent_control.specs.Stopping.{FindsLess, EndWaits, TriggerWaits, HoldsBack, NothingIsDue, HasLessRoom, DidNotGo, Stops, AtAnEnd, AtTheLimit, AtATrigger, Unless}

pub end_waits : (old mid : AgentControl) (e : SessionEnd) (rest : List SessionEnd) → mid.unsaid ≡ old.unsaid → old.unsaid.items ≡ e ∷ rest → FailsToSend (written (terminated e)) old.port.end mid.port.end → EndWaits old mid
end_waits old mid e rest unsaid first fails = record {
  end = e;
  waiting = rest;
  first = ap (λ u. u.items) unsaid ∙ first;
  before = old.port.end;
  same = (refl, refl, refl, refl);
  fails = fails;
}

-- there was less room than the trigger takes that is due
pub has_less_room : (old mid : AgentControl) (w : Message) (version len : ℕ) → old.port.version ≡ Some version → Says old mid w false → HasToSayOfLen old.queue version (Some len) → FindsLess old.port.end mid.port.end len → HoldsBack old mid
has_less_room old mid w version len v says due finds =
    HasLessRoom (record {
      version = version;
      version_is = says.version ∙ v;
      trigger = due.0;
      due = subst (λ q. HasToSay q version (Some due.0)) (sym says.queue) due.1;
      before = old.port.end;
      same = (refl, refl, refl, refl);
      finds = subst (FindsLess old.port.end mid.port.end) due.2 finds;
    })

pub did_not_go : (old mid : AgentControl) (w : Message) (version : ℕ) → old.port.version ≡ Some version → Says old mid w false → HasToSay old.queue version (Some w) → FailsToSend (written w) old.port.end mid.port.end → HoldsBack old mid
did_not_go old mid w version v says due fails =
    DidNotGo (record {
      version = version;
      version_is = says.version ∙ v;
      trigger = w;
      due = subst (λ q. HasToSay q version (Some w)) (sym says.queue) due;
      before = old.port.end;
      same = (refl, refl, refl, refl);
      finds = fails;
    })

-- ---- after other calls

pub waits_after : (a b c : AgentControl) → IsSameEnd a.port.end b.port.end → EndWaits b c → EndWaits a c
waits_after a b c same w = record {
  end = w.end;
  waiting = w.waiting;
  first = w.first;
  before = w.before;
  same = same_end_then a.port.end b.port.end w.before same w.same;
  fails = w.fails;
}

trigger_after : (a b c : AgentControl) (Finds : SeatedEnd → SeatedEnd → Message → Type 0) → IsSameEnd a.port.end b.port.end → TriggerWaits b c Finds → TriggerWaits a c Finds
trigger_after a b c Finds same w = record {
  version = w.version;
  version_is = w.version_is;
  trigger = w.trigger;
  due = w.due;
  before = w.before;
  same = same_end_then a.port.end b.port.end w.before same w.same;
  finds = w.finds;
}

pub holds_after : (a b c : AgentControl) → IsSameEnd a.port.end b.port.end → HoldsBack b c → HoldsBack a c
holds_after a b c same (NothingIsDue held) = NothingIsDue held
holds_after a b c same (HasLessRoom w) = HasLessRoom (trigger_after a b c _ same w)
holds_after a b c same (DidNotGo w) = DidNotGo (trigger_after a b c (λ before now m. FailsToSend (written m) before now) same w)

pub stops_after : (calls : ℕ) (a b c : AgentControl) → IsSameEnd a.port.end b.port.end → b.queue.next ≡ a.queue.next → Stops calls b c → Stops calls a c
stops_after calls a b c same next (AtAnEnd w) = AtAnEnd (waits_after a b c same w)
stops_after calls a b c same next (AtTheLimit none all) = AtTheLimit none (all ∙ ap (λ n. n + calls) next)
stops_after calls a b c same next (AtATrigger none holds) = AtATrigger none (holds_after a b c same holds)

pub unless_holds : (done : Bool) (a b c : AgentControl) → IsSameEnd a.port.end b.port.end → Unless done (HoldsBack b c) → Unless done (HoldsBack a c)
unless_holds true a b c same h = tt
unless_holds false a b c same h = holds_after a b c same h

-- the end of a call's session asks for no trigger
pub ended_next : (old mid : AgentControl) (queue : QueueState) (place : ℕ) → place < length mid.queue.calls → mid.queue ≡ old.queue
    → ((c : Queued) → slice_get mid.queue.calls place ≡ Some c → queue ≡ record mid.queue { calls = slice_set mid.queue.calls place (record c { is_open = false }) }) → queue.next ≡ old.queue.next
ended_next old mid queue place within same is = let at = get_within mid.queue.calls place within in ap (λ (q : QueueState). q.next) (is at.0 at.1) ∙ ap (λ (q : QueueState). q.next) same
