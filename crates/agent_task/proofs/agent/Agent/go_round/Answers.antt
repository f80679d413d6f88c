use Rattle.std.proofs.Common.{◌≡◌, ◌∙◌, ap, refl, sym, subst}
use Rattle.std.specs.Prelude.{not, None}
use Rattle.agent_task.specs.declared.agent.Agent.{Agent}
use Rattle.vchan_rule.specs.Ends.{IsSameEnd}
use Rattle.agent_slots.specs.Slots.{SlotsState, late_count}
use Rattle.agent_task.specs.Standing.{KeepsOpen}
use Rattle.agent_task.specs.Ending.{IsRunning}
use Rattle.agent_task.specs.Moving.{Listens, SaysNoMore, TurnsControl, KeepsControl, asked_at_most}
use Rattle.agent_task.proofs.MovingLaws.{over_not_up, turns_control, control_same, control_heard, control_said, control_then}
use Rattle.agent_task.proofs.RoundLaws.{running_up, up_running, running_whole, running_rests}
use Rattle.agent_task.proofs.SessionLaws.{none_of, keeps_same, turns_each}
use Rattle.agent_task.proofs.agent.Agent.go_round.Goals as goal
use Rattle.agent_task.proofs.agent.Agent.go_round.Goals.{then-is_none+in_ok-listen, else-is_none, then-is_none-2+in_ok-say, else-is_none-2}

pub listen-requires-clause-up : goal.listen-requires-clause-up
listen-requires-clause-up c = running_up c.args.self.now c.requires.running (none_of c.args.self.now.over (c.is_none.ensures ∙ ap not c.if-is_none.true))

pub say-requires : goal.say-requires
say-requires c = record { up = running_up c.turn_sessions.new.self c.in_ok-moved.ensures.running (none_of c.turn_sessions.new.self.over (c.is_none-2.ensures ∙ ap not c.if-is_none-2.true)) }

pub agree-requires : goal.agree-requires
agree-requires c =
    let same : c.if-is_none-2.self.slots ≡ c.turn_sessions.new.self.slots = elim c.if-is_none-2.branch [
      | then-is_none-2+in_ok-say w ↦ ap (λ (a : Agent). a.slots) w.self-is ∙ w.say.ensures.slots
      | else-is_none-2 w ↦ ap (λ (a : Agent). a.slots) w.self-is
    ] in
    record { whole = ap (λ (s : SlotsState). s.spent) same ∙ running_whole c.turn_sessions.new.self c.in_ok-moved.ensures.running }

pub returns-clause-turns : goal.returns-clause-turns
returns-clause-turns c =
    let old = c.args.self.now in
    let kept : KeepsOpen old c.if-is_none.self = elim c.if-is_none.branch [
      | then-is_none+in_ok-listen w ↦ subst (λ (a : Agent). KeepsOpen old a) (sym w.self-is) w.in_ok-listen.ensures.kept
      | else-is_none w ↦ subst (λ (a : Agent). KeepsOpen old a) (sym w.self-is) (keeps_same old old refl)
    ] in
    let same : c.if-is_none-2.self.slots ≡ c.turn_sessions.new.self.slots = elim c.if-is_none-2.branch [
      | then-is_none-2+in_ok-say w ↦ ap (λ (a : Agent). a.slots) w.self-is ∙ w.say.ensures.slots
      | else-is_none-2 w ↦ ap (λ (a : Agent). a.slots) w.self-is
    ] in
    turns_each old c.if-is_none.self c.turn_sessions.new.self c.if-is_none-2.self kept c.in_ok-moved.ensures.turns same

pub returns-clause-control : goal.returns-clause-control
returns-clause-control c =
    let old = c.args.self.now in
    let mid = c.if-is_none.self in
    let turned = c.turn_sessions.new.self in
    let listens : mid.over ≡ None → Listens old.control.port mid.control.port.end = elim c.if-is_none.branch [
      | then-is_none+in_ok-listen w ↦ subst (λ (a : Agent). a.over ≡ None → Listens old.control.port a.control.port.end) (sym w.self-is) w.in_ok-listen.ensures.listens
      | else-is_none w ↦ λ up. over_not_up _ old.over (c.is_none.ensures ∙ ap not w.if-is_none.false) (sym (ap (λ (a : Agent). a.over) w.self-is) ∙ up)
    ] in
    let end : mid.over ≡ None → IsSameEnd old.control.port.end mid.control.port.end = elim c.if-is_none.branch [
      | then-is_none+in_ok-listen w ↦ subst (λ (a : Agent). a.over ≡ None → IsSameEnd old.control.port.end a.control.port.end) (sym w.self-is) w.in_ok-listen.ensures.end
      | else-is_none w ↦ λ up. over_not_up _ old.over (c.is_none.ensures ∙ ap not w.if-is_none.false) (sym (ap (λ (a : Agent). a.over) w.self-is) ∙ up)
    ] in
    let next : mid.control.queue.next ≡ old.control.queue.next = elim c.if-is_none.branch [
      | then-is_none+in_ok-listen w ↦ ap (λ (a : Agent). a.control.queue.next) w.self-is ∙ w.in_ok-listen.ensures.next
      | else-is_none w ↦ ap (λ (a : Agent). a.control.queue.next) w.self-is
    ] in
    elim c.if-is_none-2.branch [
      | then-is_none-2+in_ok-say w ↦
          subst (λ (a : Agent). a.over ≡ None → TurnsControl (asked_at_most (late_count a.slots)) old.control a.control) (sym w.self-is)
          (turns_control old mid turned w.say.new.self (asked_at_most (late_count w.say.new.self.slots)) listens end next c.turn_sessions.ensures.same c.turn_sessions.ensures.next
          (subst (λ (s : SlotsState). SaysNoMore (asked_at_most (late_count s)) turned.control w.say.new.self.control) (sym w.say.ensures.slots) w.in_ok-say.ensures.says) w.say.ensures.same.1)
      | else-is_none-2 w ↦
          subst (λ (a : Agent). a.over ≡ None → TurnsControl (asked_at_most (late_count a.slots)) old.control a.control) (sym w.self-is)
          (λ up. over_not_up _ turned.over (c.is_none-2.ensures ∙ ap not w.if-is_none-2.false) up)
    ]

pub returns-clause-channel : goal.returns-clause-channel
returns-clause-channel c =
    let old = c.args.self.now in
    let mid = c.if-is_none.self in
    let turned = c.turn_sessions.new.self in
    let first : KeepsControl old.over mid.over old.control mid.control = elim c.if-is_none.branch [
      | then-is_none+in_ok-listen w ↦
          subst (λ (a : Agent). KeepsControl old.over a.over old.control a.control) (sym w.self-is)
          (control_heard old.over w.listen.new.self.over old.control w.listen.new.self.control (c.is_none.ensures ∙ ap not w.if-is_none.true) w.in_ok-listen.ensures.bytes)
      | else-is_none w ↦ subst (λ (a : Agent). KeepsControl old.over a.over old.control a.control) (sym w.self-is) (control_same old.over old.over old.control old.control refl refl)
    ] in
    let second = control_same mid.over turned.over mid.control turned.control c.turn_sessions.ensures.same.1.1 c.turn_sessions.ensures.same.0 in
    let third : KeepsControl turned.over c.if-is_none-2.self.over turned.control c.if-is_none-2.self.control = elim c.if-is_none-2.branch [
      | then-is_none-2+in_ok-say w ↦
          subst (λ (a : Agent). KeepsControl turned.over a.over turned.control a.control) (sym w.self-is)
          (control_said turned.over w.say.new.self.over (asked_at_most (late_count turned.slots)) turned.control w.say.new.self.control (c.is_none-2.ensures ∙ ap not w.if-is_none-2.true) w.in_ok-say.ensures.says)
      | else-is_none-2 w ↦ subst (λ (a : Agent). KeepsControl turned.over a.over turned.control a.control) (sym w.self-is) (control_same turned.over turned.over turned.control turned.control refl refl)
    ] in
    control_then old.over mid.over turned.over c.if-is_none-2.self.over old.control mid.control turned.control c.if-is_none-2.self.control first second third

pub returns-clause-running : goal.returns-clause-running
returns-clause-running c = elim c.if-is_none-2.branch [
  | then-is_none-2+in_ok-say w ↦ subst (λ (a : Agent). IsRunning a) (sym w.self-is) (up_running w.say.new.self w.in_ok-say.ensures.up)
  | else-is_none-2 w ↦ subst (λ (a : Agent). IsRunning a) (sym w.self-is) c.in_ok-moved.ensures.running
]

pub returns-clause-retire : goal.returns-clause-retire
returns-clause-retire c = running_rests c.if-is_none-2.self (returns-clause-running c)
