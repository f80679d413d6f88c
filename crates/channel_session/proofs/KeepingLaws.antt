-- No turn of a session takes bytes back.
use Rattle.std.proofs.Common.{◌≡◌, ℕ, List, length, sym, ap, subst, arith}
use Rattle.qrexec_data.specs.Half.{HalfOf}
use Rattle.end_view.specs.EndView.{EndView}
use Rattle.vchan_rule.specs.Seated.{view}
use Rattle.channel_session.specs.declared.pause.Turned.{Turned}
use Rattle.channel_session.specs.declared.pause.Turned.TheVariants.{Moved, Quiet, Passed}
use Rattle.channel_session.specs.Session.{SessionAt, Turns, IsRetired}
use Rattle.channel_session.specs.Turning.{KeepsBytes}

-- an end with the same bytes as before
pub same_bytes : (before now : EndView) → now.got ≡ before.got → now.sent ≡ before.sent → KeepsBytes before now
same_bytes before now got sent = record {
  got = let long = ap (λ (l : List ℕ). length l) got in omega (arith, long);
  sent = let long = ap (λ (l : List ℕ). length l) sent in omega (arith, long);
}

pub keeps_all : (end : EndView) → KeepsBytes end end
keeps_all end = record { got = omega arith; sent = omega arith }

pub keeps_then : (a b c : EndView) → KeepsBytes a b → KeepsBytes b c → KeepsBytes a c
keeps_then a b c one two = record { got = omega (arith, one.got, two.got); sent = omega (arith, one.sent, two.sent) }

pub turn_keeps : {S : Type 0} (h : HalfOf S) (turned : Turned) (old new : SessionAt S) → Turns h turned old new → KeepsBytes (view old.end) (view new.end)
turn_keeps h Moved old new turn = turn.0.kept
turn_keeps h Quiet old new turn = same_bytes (view old.end) (view new.end) turn.0.0 turn.0.1
turn_keeps h Passed old new turn = subst (λ (e : EndView). KeepsBytes (view old.end) e) (sym turn.1.no_event.view_is) (keeps_all (view old.end))

-- the end of a session that is over has the bytes that it had
pub retired_keeps : (before now : EndView) → IsRetired before now → KeepsBytes before now
retired_keeps before now is = same_bytes before now (ap (λ (e : EndView). e.got) is) (ap (λ (e : EndView). e.sent) is)
