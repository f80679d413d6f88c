-- What an agent's calls on its control channel found.
use Rattle.std.proofs.Common.{◌≡◌, ◌↔◌, ℕ, ◌<◌, ◌≤◌, Bool, true, false, List, [], ◌∷◌, ◌++◌, length, refl, ap, sym, ◌∙◌, subst, arith, Option, Some, None, inl, inr}
use Rattle.std.specs.Prelude.{◌⊎◌, is_some}
use Rattle.std.specs.List.{flat_map}
use Rattle.std.proofs.lemmas.List.{length-append}
use Rattle.vchan_protocol.specs.declared.call.Call.TheVariants.{Drain, Send}
use Rattle.vchan_protocol.specs.Table.Calls.{Trace}
use Rattle.vchan_protocol.specs.Answering.Causes.{DrainCause, SendCause}
use Rattle.vchan_protocol.specs.Answering.Loads.{loads_of}
use Rattle.vchan_protocol.specs.History.Core.{standing_of}
use Rattle.end_view.specs.EndView.{EndView}
use Rattle.vchan_rule.specs.Seated.{SeatedEnd, view}
use Rattle.vchan_rule.specs.Ends.{IsSameEnd}
use Rattle.vchan_rule.specs.Called.{most_asked}
use Rattle.vchan_lifecycle.specs.Lifecycle.{drained_to, drain_told}
use Rattle.vchan_lifecycle.specs.declared.DrainAnswer.{DrainAnswer}
use Rattle.vchan_lifecycle.specs.declared.DrainAnswer.TheVariants.{More, NotYet}
use Rattle.vchan_lifecycle.proofs.DrainLaws.{drained_sent, drained_got}
use Rattle.vchan_packet.specs.Packet.{send_told, sent_to}
use Rattle.vchan_packet.specs.declared.SendAnswer.{SendAnswer}
use Rattle.vchan_packet.specs.declared.SendAnswer.TheVariants.{Sent, NoRoom, PeerClosed}
use Rattle.vchan_packet.proofs.FailingLaws.{fails_to_send, no_room_sends_none, shut_sends_none, sent_no_more}
use Rattle.qrexec_frame.specs.declared.message.Message.{Message}
use Rattle.qrexec_frame.specs.declared.message.Message.TheVariants.{Hello}
use Rattle.qrexec_frame.specs.Messages.{written}
use Rattle.control_port.specs.Port.{PortState, SentWhole}
use Rattle.control_port.proofs.DrainLaws.{got_more}
use Rattle.task_duties.specs.declared.done.ControlEnd.{ControlEnd}
use Rattle.channel_session.specs.Turning.{KeepsBytes}
use Rattle.channel_session.proofs.KeepingLaws.{keeps_all, keeps_then}
use Rattle.agent_task.specs.declared.agent.Agent.{Agent}
use Rattle.agent_task.specs.Standing.{KeepsPort}
use Rattle.agent_task.specs.Ending.{end_by}
use Rattle.agent_control.specs.declared.control.AgentControl.{AgentControl}
use Rattle.agent_control.specs.Speaking.{SaysMore, Speaks}
use Rattle.agent_task.specs.Moving.{Greets, WasSent, IsSent, IsUnsent, HearsNothing, Takes, Drains, Listens, SaysNoMore, HasNotGreeted, WasNotGreeted, HasStopped, TurnsControl, KeepsControl}

pub greets_by : (old new : PortState) (answer : SendAnswer) → old.greeted ≡ false → (answer ≡ Sent → new.greeted ≡ true) × ((answer ≡ Sent → ⊥) → new.greeted ≡ false) → view new.end ≡ sent_to (view old.end) answer (written (Hello old.own))
    → Trace (standing_of old.end.side) (Send (most_asked (written (Hello old.own)))) new.end.side.trail (send_told (most_asked (written (Hello old.own))) answer)
    → ((other : SendAnswer) → (answer ≡ other) ↔ SendCause (standing_of old.end.side) (most_asked (written (Hello old.own))) (loads_of (standing_of old.end.side) new.end.side.trail) (send_told (most_asked (written (Hello old.own))) other))
    → Greets old new
greets_by old new Sent first greeted is trail cause = IsSent first is
greets_by old new (NoRoom prod cons) first greeted is trail cause =
    let none = no_room_sends_none (NoRoom prod cons) prod cons refl in IsUnsent (greeted.1 none) (fails_to_send old.end new.end (written (Hello old.own)) (NoRoom prod cons) none is trail cause)
greets_by old new PeerClosed first greeted is trail cause =
    let none = shut_sends_none PeerClosed refl in IsUnsent (greeted.1 none) (fails_to_send old.end new.end (written (Hello old.own)) PeerClosed none is trail cause)

takes_by : (old new : SeatedEnd) (drained : DrainAnswer) (before after : List ℕ) (saw : Bool) → 0 < length before → length after ≡ length before → view new ≡ drained_to (view old) drained after saw
    → Trace (standing_of old.side) (Drain (most_asked before)) new.side.trail (drain_told drained)
    → ((other : DrainAnswer) → (drained ≡ other) ↔ DrainCause (standing_of old.side) (most_asked before) (loads_of (standing_of old.side) new.side.trail) (drain_told other)) → Takes drained old new
takes_by old new (More count) before after saw some long is trail cause = got_more old new count before after saw some long is ((cause (More count)).0 refl)
takes_by old new (NotYet prod cons) before after saw some long is trail cause =
    (record { most = most_asked before; some = omega (arith, some); prod = prod; cons = cons; trail = trail; cause = (cause (NotYet prod cons)).0 refl }, ap (λ (v : EndView). v.got) is)
takes_by old new _ before after saw some long is trail cause = tt

pub drains_by : (old new : SeatedEnd) (drained : DrainAnswer) (before after : List ℕ) (saw : Bool) → 0 < length before → length after ≡ length before → view new ≡ drained_to (view old) drained after saw
    → Trace (standing_of old.side) (Drain (most_asked before)) new.side.trail (drain_told drained)
    → ((other : DrainAnswer) → (drained ≡ other) ↔ DrainCause (standing_of old.side) (most_asked before) (loads_of (standing_of old.side) new.side.trail) (drain_told other)) → Drains drained old new
drains_by old new drained before after saw some long is trail cause = record {
  takes = takes_by old new drained before after saw some long is trail cause;
  got = subst (λ (v : EndView). length (view old).got ≤ length v.got) (sym is) (drained_got (view old) drained after saw);
  sent = ap (λ (v : EndView). v.sent) is ∙ drained_sent (view old) drained after saw;
}

-- the drain of a channel that is up
greets_sent : (old new : PortState) → Greets old new → length (view old.end).sent ≤ length (view new.end).sent
greets_sent old new (WasSent before same) = subst (λ (p : PortState). length (view old.end).sent ≤ length (view p.end).sent) (sym same) (omega arith)
greets_sent old new (IsSent before is) =
    subst (λ (v : EndView). length (view old.end).sent ≤ length v.sent) (sym is) (omega (arith, length-append (view old.end).sent (written (Hello old.own))))
greets_sent old new (IsUnsent after fails) =
    subst (λ (l : List ℕ). length (view old.end).sent ≤ length l) (sym (sent_no_more (written (Hello old.own)) old.end new.end fails)) (omega arith)

found_by : (old greeted : PortState) (heard : SeatedEnd) (drained : DrainAnswer) → Greets old greeted → (view greeted.end).got ≡ (view old.end).got → Takes drained greeted.end heard → end_by drained ≡ None
    → (length (view old.end).got < length (view heard).got) ⊎ HearsNothing old heard
found_by old greeted heard (More count) greets got takes up = inl (subst (λ (l : List ℕ). length l < length (view heard).got) got takes)
found_by old greeted heard (NotYet prod cons) greets got takes up = inr (record { greeted = greeted; greets = greets; not_yet = takes.0; none = takes.1 ∙ got })
found_by old greeted heard _ greets got takes up = cc

pub listens_by : (old greeted : PortState) (heard : SeatedEnd) (drained : DrainAnswer) → Greets old greeted → (view greeted.end).got ≡ (view old.end).got → Drains drained greeted.end heard → end_by drained ≡ None → Listens old heard
listens_by old greeted heard drained greets got drains up = record {
  found = found_by old greeted heard drained greets got drains.takes up;
  sent = subst (λ (l : List ℕ). length (view old.end).sent ≤ length l) (sym drains.sent) (greets_sent old greeted greets);
}

-- and whether or not it is up after that, no byte is taken back
pub listens_keep : (old greeted : PortState) (heard end : SeatedEnd) (drained : DrainAnswer) → Greets old greeted → (view greeted.end).got ≡ (view old.end).got → Drains drained greeted.end heard → KeepsBytes (view heard) (view end)
    → KeepsBytes (view old.end) (view end)
listens_keep old greeted heard end drained greets got drains settles =
    let same = ap (λ (l : List ℕ). length l) got in
    let none = ap (λ (l : List ℕ). length l) drains.sent in
    record { got = omega (arith, same, drains.got, settles.got); sent = omega (arith, none, greets_sent old greeted greets, settles.sent) }

-- ---- what was sent before stays so

flat_more : (xs ys : List Message) → length (flat_map written xs) ≤ length (flat_map written (xs ++ ys))
flat_more [] ys = omega arith
flat_more (x ∷ xs) ys =
    let more = flat_more xs ys in omega (arith, more, length-append (written x) (flat_map written xs), length-append (written x) (flat_map written (xs ++ ys)))

sent_whole : (greeted : Bool) (own : ℕ) (said more : List Message) (old new : List ℕ) → SentWhole greeted own said old → SentWhole greeted own (said ++ more) new → length old ≤ length new
sent_whole false own said more old new before after = subst (λ (l : List ℕ). length l ≤ length new) (sym before.0) (omega arith)
sent_whole true own said more old new before after =
    subst (λ (l : List ℕ). length l ≤ length new) (sym before)
    (subst (λ (l : List ℕ). length (flat_map written (Hello own ∷ said)) ≤ length l) (sym after) (flat_more (Hello own ∷ said) more))

pub says_on : (old new : AgentControl) (calls : ℕ) (heard said : List Message) → SaysMore calls old new → Speaks old heard said → length (view old.port.end).sent ≤ length (view new.port.end).sent
says_on old new calls heard said says speaks =
    let more = says.speaks heard said speaks in
    sent_whole old.port.greeted old.port.own said more.0 (view old.port.end).sent (view new.port.end).sent speaks.said_is.whole
    (subst (λ (p : PortState). SentWhole p.greeted p.own (said ++ more.0) (view new.port.end).sent) says.port.0 more.1.said_is.whole)

pub over_not_up : (A : Type 0) (over : Option ControlEnd) → is_some over ≡ true → over ≡ None → A
over_not_up A None some none = cc
over_not_up A (Some how) some none = cc

-- the whole turn, if the channel is up after it
pub turns_control : (old mid turned new : Agent) (calls : ℕ) → (mid.over ≡ None → Listens old.control.port mid.control.port.end) → (mid.over ≡ None → IsSameEnd old.control.port.end mid.control.port.end)
    → mid.control.queue.next ≡ old.control.queue.next → KeepsPort mid turned → turned.control.queue.next ≡ mid.control.queue.next → SaysNoMore calls turned.control new.control → new.over ≡ turned.over → new.over ≡ None
    → TurnsControl calls old.control new.control
turns_control old mid turned new calls listens end next keeps kept says same up =
    let still : mid.over ≡ None = sym keeps.1.1 ∙ sym same ∙ up in record {
      waiting = turned.control;
      same = subst (λ (p : PortState). IsSameEnd old.control.port.end p.end) (sym keeps.0) (end still);
      next = kept ∙ next;
      listens = subst (λ (p : PortState). Listens old.control.port p.end) (sym keeps.0) (listens still);
      says = says;
    }

-- ---- whether or not the channel is up

-- what is said takes no byte back
says_keep : (calls : ℕ) (old new : AgentControl) → SaysNoMore calls old new → KeepsBytes (view old.port.end) (view new.port.end)
says_keep calls old new (HasNotGreeted is same) = subst (λ (c : AgentControl). KeepsBytes (view old.port.end) (view c.port.end)) (sym same) (keeps_all (view old.port.end))
says_keep calls old new (WasNotGreeted is same) = subst (λ (c : AgentControl). KeepsBytes (view old.port.end) (view c.port.end)) (sym same) (keeps_all (view old.port.end))
says_keep calls old new (HasStopped more sent stops) = record { got = let same = ap (λ (l : List ℕ). length l) more.port.2 in omega (arith, same); sent = sent }

pub control_same : (over over' : Option ControlEnd) (old new : AgentControl) → over' ≡ over → new.port ≡ old.port → KeepsControl over over' old new
control_same over over' old new same port = record {
  bytes = subst (λ (p : PortState). KeepsBytes (view old.port.end) (view p.end)) (sym port) (keeps_all (view old.port.end));
  over = λ how was. (same ∙ was, port);
}

-- a step of a channel that is up
pub control_heard : (over over' : Option ControlEnd) (old new : AgentControl) → is_some over ≡ false → KeepsBytes (view old.port.end) (view new.port.end) → KeepsControl over over' old new
control_heard over over' old new up bytes = record { bytes = bytes; over = λ how was. never (sym (ap (λ (o : Option ControlEnd). is_some o) was) ∙ up) }
  where
    never : {A : Type 0} → true ≡ false → A
    never e = cc

pub control_said : (over over' : Option ControlEnd) (calls : ℕ) (old new : AgentControl) → is_some over ≡ false → SaysNoMore calls old new → KeepsControl over over' old new
control_said over over' calls old new up says = control_heard over over' old new up (says_keep calls old new says)

pub control_then : (o1 o2 o3 o4 : Option ControlEnd) (a b c d : AgentControl) → KeepsControl o1 o2 a b → KeepsControl o2 o3 b c → KeepsControl o3 o4 c d → KeepsControl o1 o4 a d
control_then o1 o2 o3 o4 a b c d one two three = record {
  bytes = keeps_then (view a.port.end) (view b.port.end) (view d.port.end) one.bytes (keeps_then (view b.port.end) (view c.port.end) (view d.port.end) two.bytes three.bytes);
  over = λ how was.
      let first = one.over how was in
      let second = two.over how first.0 in
      let third = three.over how second.0 in (third.0, third.1 ∙ (second.1 ∙ first.1));
}
