use Rattle.std.proofs.Common.{◌≡◌, ◌≤◌, List, ℕ, None, length}
use Rattle.vchan_protocol.specs.History.Core.{Core}
use Rattle.service_gate.specs.Owing.{builtin_owes}
use Rattle.service_gate.specs.declared.builtin.Builtin.{Builtin}
use Rattle.session_drive.specs.declared.sides.Sides.{Sides}
use Rattle.session_drive.specs.Sides.{Stands, done}
use Rattle.session_drive.specs.Page.{Rests}
use Rattle.session_drive.specs.Driving.{HasCodes}
use Rattle.session_drive.proofs.driving.rounds.Given as goal

-- as a call goes on, at least so much was done
pub record GoesOn (input : List ℕ) (service : Builtin) (s : Sides) (round : ℕ) : Type 0 where
  pub core : Core
  pub stands : Stands input (builtin_owes service) core s
  pub some : round ≤ done core

abbrev pub invariant-loop-round : goal.invariant-loop-round
invariant-loop-round l = record {
  rests : Rests l.sides.page;
  long : length l.buffer ≡ 4096;
  undecided : l.sides.caller.replies.outcome ≡ None;
  on : (input : List ℕ) (service : Builtin) (core : Core) → HasCodes service → Stands input (builtin_owes service) core l.fn.sides → GoesOn input service l.sides l.round;
}
