-- Why an end can't begin a call, as a machine tells it and as a script prints it.
use Rattle.std.specs.Prelude.{Bool, false}
use Rattle.vchan_protocol.specs.declared.call.Call.{Call}
use Rattle.vchan_protocol.specs.declared.call.Call.TheVariants.{Retire}
use Rattle.vchan_protocol.specs.declared.call.EndState.{EndState}
use Rattle.vchan_protocol.specs.declared.call.EndState.TheVariants.{Shut as IsShut}
use Rattle.vchan_core.specs.declared.phase.Refusal.{Refusal as CallRefusal}
use Rattle.vchan_core.specs.declared.phase.Refusal.TheVariants.{Shut as CallShut, Unconnected as CallUnconnected}
use Rattle.step_script.specs.declared.player.refusal.LineRefusal.{LineRefusal}
use Rattle.step_script.specs.declared.player.refusal.LineRefusal.TheVariants.{Idle, Shut, Unconnected}

-- the script's word for why a call can't be begun
abbrev pub line_refusal : CallRefusal → LineRefusal
line_refusal CallShut = Shut
line_refusal CallUnconnected = Unconnected
line_refusal _ = Idle

-- an end that has retired would retire again
abbrev pub is_second_retire : EndState → Bool → Call → Bool
is_second_retire IsShut retired Retire = retired
is_second_retire state retired call = false
