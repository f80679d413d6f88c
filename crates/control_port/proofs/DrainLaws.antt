-- A drain that takes bytes.
use Rattle.std.proofs.Common.{◌≡◌, ℕ, ◌<◌, Bool, List, length, take, sym, subst, arith}
use Rattle.std.specs.Prelude.{min}
use Rattle.std.proofs.lemmas.List.{length-append, length-take}
use Rattle.vchan_protocol.specs.declared.call.Answer.TheVariants.{Got}
use Rattle.vchan_protocol.specs.Table.Ends.{Standing}
use Rattle.vchan_protocol.specs.Answering.Causes.{DrainCause, drain_got, drain_all_read, drain_not_yet, drain_peer_gone, waiting_at}
use Rattle.vchan_protocol.specs.Answering.Loads.{Loads, loads_of}
use Rattle.vchan_protocol.specs.History.Core.{standing_of}
use Rattle.end_view.specs.EndView.{EndView}
use Rattle.vchan_lifecycle.specs.Lifecycle.{drained_to}
use Rattle.vchan_lifecycle.specs.declared.DrainAnswer.TheVariants.{More}
use Rattle.vchan_rule.specs.Seated.{SeatedEnd, view}
use Rattle.vchan_rule.specs.Called.{most_asked}

got_some : (e : Standing) (n : ℕ) (loads : Loads) (count : ℕ) → 0 < n → DrainCause e n loads (Got count) → 0 < count
got_some e n loads count some (drain_got last older pairs none not_all waits is) = omega (arith, some, waits, counted (waiting_at e last) is)
  where
    counted : (w : ℕ) → Got count ≡ Got (min n w) → count ≡ min n w
    counted w same = cc
got_some e n loads count some (drain_all_read found is) = cc
got_some e n loads count some (drain_not_yet last there none not_all here is) = cc
got_some e n loads count some (drain_peer_gone last there none not_all gone is) = cc

-- its end got more
pub got_more : (old new : SeatedEnd) (count : ℕ) (before after : List ℕ) (saw : Bool) → 0 < length before → length after ≡ length before → view new ≡ drained_to (view old) (More count) after saw
    → DrainCause (standing_of old.side) (most_asked before) (loads_of (standing_of old.side) new.side.trail) (Got count) → length (view old).got < length (view new).got
got_more old new count before after saw some long is cause =
    let least : 0 < count = got_some (standing_of old.side) (most_asked before) (loads_of (standing_of old.side) new.side.trail) count (omega (arith, some)) cause in
    subst (λ (v : EndView). length (view old).got < length v.got) (sym is) (omega (arith, least, some, long, length-append (view old).got (take count after), length-take count after))
