-- The worked rows, computed.
use Rattle.std.proofs.Common.{◌∷◌, [], ◌++◌, refl, arith}
use Rattle.std.specs.Prelude.{codes}
use Rattle.service_gate.specs.ServiceResult.{service}
use Rattle.qrexec_frame.specs.declared.message.Message.TheVariants.{Terminated}
use Rattle.qrexec_frame.specs.Fronts.{front}
use Rattle.task_duties.specs.Agent.Answers.{Waits, At}
use Rattle.task_duties.specs.Agent.Saying.{KeepsTo}
use Rattle.task_duties.specs.Worked.{RowsAreAsWorked, trigger, triggers, always}

-- the last of seventeen comes upon sixteen
no_seventeenth : KeepsTo (always Waits) (codes "b") [] (triggers 17) → ⊥
no_seventeenth keeps = let last = keeps.1.1.1.1.1.1.1.1.1.1.1.1.1.1.1.1.0 refl in absurd (omega (arith, last))

none_ended : KeepsTo (always (At 2 513)) (codes "b") [] (triggers 16 ++ Terminated 2 515 ∷ trigger ∷ []) → ⊥
none_ended keeps = let last = keeps.1.1.1.1.1.1.1.1.1.1.1.1.1.1.1.1.1.0 refl in absurd (omega (arith, last))

pub rows_are_as_worked : RowsAreAsWorked
unfolding service front
rows_are_as_worked = record {
  line = refl;
  no_source = refl;
  two_sources = refl;
  no_service = refl;
  other_user = refl;
  heard = refl;
  not_heard = refl;
  no_greeting = refl;
  sixteen = ((λ _. omega arith), ((λ _. omega arith), ((λ _. omega arith), ((λ _. omega arith), ((λ _. omega arith), ((λ _. omega arith), ((λ _. omega arith), ((λ _. omega arith), ((λ _. omega arith), ((λ _. omega arith), ((λ _. omega arith), ((λ _. omega arith), ((λ _. omega arith), ((λ _. omega arith), ((λ _. omega arith), ((λ _. omega arith), tt))))))))))))))));
  seventeen = no_seventeenth;
  none_refused = ((λ _. omega arith), ((λ _. omega arith), ((λ _. omega arith), ((λ _. omega arith), ((λ _. omega arith), ((λ _. omega arith), ((λ _. omega arith), ((λ _. omega arith), ((λ _. omega arith), ((λ _. omega arith), ((λ _. omega arith), ((λ _. omega arith), ((λ _. omega arith), ((λ _. omega arith), ((λ _. omega arith), ((λ _. omega arith), ((λ _. omega arith), tt)))))))))))))))));
  one_ended = ((λ _. omega arith), ((λ _. omega arith), ((λ _. omega arith), ((λ _. omega arith), ((λ _. omega arith), ((λ _. omega arith), ((λ _. omega arith), ((λ _. omega arith), ((λ _. omega arith), ((λ _. omega arith), ((λ _. omega arith), ((λ _. omega arith), ((λ _. omega arith), ((λ _. omega arith), ((λ _. omega arith), ((λ _. omega arith), ((λ none. cc), ((λ _. omega arith), tt))))))))))))))))));
  other_ended = none_ended;
  served_once = refl;
  not_started = refl;
  no_call = refl;
  callers = refl;
  targets = refl;
  both_answered = refl;
  trail = λ orders. refl;
}
