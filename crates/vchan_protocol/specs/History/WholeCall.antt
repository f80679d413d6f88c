-- A whole call of one end, while the other makes no event.
use Rattle.std.specs.Prelude.{ℕ, List}
use Rattle.ring_words.specs.declared.page.Role.{Role}
use Rattle.vchan_protocol.specs.declared.call.Answer.{Answer}
use Rattle.vchan_protocol.specs.declared.call.Call.{Call}
use Rattle.vchan_protocol.specs.Table.Plan.{Plan, answers, does}
use Rattle.vchan_protocol.specs.Table.Apply.{value_taken}
use Rattle.vchan_protocol.specs.Table.Calls.{plan_of}
use Rattle.vchan_protocol.specs.History.Core.{Core, side_of, with_side, standing_of, begun, carried_out, answered}

-- the core state after this end has made all events of the plan, and the plan's answer
unfoldable pub alone : Core → Role → Plan → Core × Answer
alone core who (answers answer) = (with_side core who (answered (side_of core who) answer), answer)
alone core who (does op next) = alone (carried_out core who op) who (next (value_taken core.orders core.words op))

-- the same for a whole call, from its begin on
abbrev pub whole_call : Core → Role → Call → List ℕ → Core × Answer
whole_call core who call payload = alone (begun core who call payload) who (plan_of (standing_of (side_of core who)) call)

abbrev pub called : Core → Role → Call → List ℕ → Core
called core who call payload = (whole_call core who call payload).0

abbrev pub call_answer : Core → Role → Call → List ℕ → Answer
call_answer core who call payload = (whole_call core who call payload).1
