-- What an agent reports of its calls.
-- Source: this project's own.
use Rattle.std.specs.Prelude.{List, [], ◌∷◌, Option, Some, None}
use Rattle.task_duties.specs.declared.done.CallDone.{CallDone}
use Rattle.task_duties.specs.declared.done.CallEnd.{CallEnd}
use Rattle.task_duties.specs.declared.done.CallEnd.TheVariants.{Session, Refused, Unanswered}
use Rattle.task_duties.specs.Agent.Answers.{Answer, IsRefused, Asked}
use Rattle.agent_slots.specs.declared.done.CallOver.{CallOver}

-- what comes of a call, by its answer and what came of its session
abbrev pub call_end_of : Answer → Option CallOver → CallEnd
call_end_of answer (Some over) = Session over.port over.to over.done.outcome over.done.stdout over.done.stderr over.done.got
call_end_of IsRefused None = Refused
call_end_of answer None = Unanswered

abbrev pub call_done_of : Asked → Option CallOver → CallDone
call_done_of a over = record { number = a.call.number; end = call_end_of a.answer over }

-- what comes of each call
abbrev pub call_dones : List Asked → List (Option CallOver) → List CallDone
call_dones (a ∷ asked) (over ∷ all) = call_done_of a over ∷ call_dones asked all
call_dones _ _ = []
