-- Why an end can't begin a call.
use Rattle.std.specs.Prelude.{Option, Some, None, ◌==◌, if◌then◌else◌}
use Rattle.ring_words.specs.declared.page.Role.{Role}
use Rattle.ring_words.specs.declared.page.Role.TheVariants.{Client}
use Rattle.vchan_protocol.specs.declared.call.Call.{Call}
use Rattle.vchan_protocol.specs.declared.call.Call.TheVariants.{Drain, Connect, Close, Retire}
use Rattle.vchan_protocol.specs.declared.call.EndState.{EndState}
use Rattle.vchan_protocol.specs.declared.call.EndState.TheVariants.{Fresh, Open, Shut as IsShut}
use Rattle.vchan_core.specs.declared.machine.Machine.{Machine}
use Rattle.vchan_core.specs.declared.phase.Refusal.{Refusal}
use Rattle.vchan_core.specs.declared.phase.Refusal.TheVariants.{Busy, Shut, Unconnected, Connected, NoBytes}

-- why an end between two calls may not begin a call in a state
abbrev pub state_refusal : Role → EndState → Call → Option Refusal
state_refusal role state Retire = None
state_refusal role IsShut call = Some Shut
state_refusal role Fresh Close = None
state_refusal Client Fresh Connect = None
state_refusal role Fresh call = Some Unconnected
state_refusal role Open Connect = Some Connected
state_refusal role Open (Drain most) = if most == 0 then Some NoBytes else None
state_refusal role Open call = None

-- the first reason why a machine may not begin a call
abbrev pub refusal_of : Machine → Call → Option Refusal
refusal_of m call = elim m.phase [ None ↦ state_refusal m.role m.state call | Some phase ↦ Some Busy ]
