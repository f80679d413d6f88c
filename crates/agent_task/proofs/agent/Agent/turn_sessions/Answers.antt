use Rattle.std.proofs.Common.{◌++◌, sym, ◌∙◌, ap, subst}
use Rattle.std.specs.Prelude.{List, not}
use Rattle.agent_slots.specs.Done.{TellsMore}
use Rattle.agent_slots.specs.Sessions.{Session, AllTakeTurns}
use Rattle.agent_task.specs.declared.agent.Agent.{Agent}
use Rattle.agent_task.specs.Ending.{IsRunning}
use Rattle.agent_task.proofs.SessionLaws.{slots_running, noted_running, told_first}
use Rattle.agent_task.proofs.agent.Agent.turn_sessions.Goals as goal
use Rattle.agent_task.proofs.agent.Agent.turn_sessions.Goals.{then-is_none+in_ok-note_over, else-is_none}

pub returns-clause-running : goal.returns-clause-running
returns-clause-running c =
    let over = c.turn.new.over.items in
    let first = told_first c.args.self.now.slots c.turn.new.self over (subst (λ l. TellsMore c.args.self.now.slots c.turn.new.self l over) c.requires.empty c.in_ok-moved.ensures.told) in
    elim c.if-is_none.branch [
      | then-is_none+in_ok-note_over w ↦
          subst (λ a. IsRunning a) (sym w.self-is)
          (noted_running c.args.self.now c.turn.new.self w.note_over.new.self over c.requires.running (c.is_none.ensures ∙ ap not w.if-is_none.true) c.in_ok-moved.ensures.ok w.note_over.ensures.same
          (w.in_ok-note_over.ensures.told ∙ ap (λ l. c.args.self.now.control.unsaid.items ++ l) w.deref.ensures.value) first.0 first.1)
      | else-is_none w ↦
          subst (λ a. IsRunning a) (sym w.self-is)
          (slots_running c.args.self.now c.turn.new.self over c.requires.running (c.is_none.ensures ∙ ap not w.if-is_none.false) c.in_ok-moved.ensures.ok first.0)
    ]

pub returns-clause-turns : goal.returns-clause-turns
returns-clause-turns c =
    let old = c.args.self.now.slots.sessions in
    elim c.if-is_none.branch [
      | then-is_none+in_ok-note_over w ↦
          subst (λ (a : Agent). AllTakeTurns old a.slots.sessions) (sym w.self-is)
          (subst (λ (l : List Session). AllTakeTurns old l) (sym (ap (λ (a : Agent). a.slots.sessions) w.note_over.ensures.same)) c.in_ok-moved.ensures.turns)
      | else-is_none w ↦ subst (λ (a : Agent). AllTakeTurns old a.slots.sessions) (sym w.self-is) c.in_ok-moved.ensures.turns
    ]
