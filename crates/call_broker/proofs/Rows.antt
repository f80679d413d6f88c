-- The worked rows, computed.
use Rattle.std.proofs.Common.{refl}
use Rattle.service_gate.specs.ServiceResult.{service}
use Rattle.call_broker.specs.Worked.{RowsAreAsWorked}

pub rows_are_as_worked : RowsAreAsWorked
unfolding service
rows_are_as_worked = record {
  first = refl;
  second = refl;
  full = refl;
  ended = refl;
  ended_before = refl;
  no_port_again = refl;
  other_way = refl;
  spent = refl;
  target_dropped = refl;
  sender_dropped = refl;
  no_domain = refl;
  same_domain = refl;
  no_service = refl;
  stranger = refl;
  still_live = refl;
}
