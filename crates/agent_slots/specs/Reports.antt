-- What an end reports once it is retired.
use Rattle.std.specs.Prelude.{Option, Some, None}
use Rattle.task_duties.specs.declared.done.ServedDone.{ServedDone}
use Rattle.agent_slots.specs.declared.done.CallOver.{CallOver}
use Rattle.agent_slots.specs.declared.done.SessionDone.{SessionDone}
use Rattle.agent_slots.specs.declared.done.SessionDone.TheVariants.{Call, Serving}

-- what it reports of a call of the agent's own, and of what it served
abbrev pub call_in : SessionDone → Option CallOver
call_in (Call number over) = Some over
call_in report = None

abbrev pub served_in : SessionDone → Option ServedDone
served_in (Serving number done) = Some done
served_in report = None
