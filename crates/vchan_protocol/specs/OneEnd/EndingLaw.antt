-- What an end has noted of its peer's end: `saw`, `ended` and `drained` agree, whatever its peer stores.
-- The statements are this project's own.
use Rattle.std.specs.Prelude.{◌≡◌, ℕ, Bool, true, false, not, ◌&&◌, ◌||◌, Some, IsSome, List, [], ◌∷◌}
use Rattle.vchan_protocol.specs.declared.op.Op.{Op}
use Rattle.vchan_protocol.specs.declared.op.PastEvent.{PastEvent}
use Rattle.vchan_protocol.specs.declared.call.Answer.{Answer}
use Rattle.vchan_protocol.specs.declared.call.Answer.TheVariants.{PeerClosed, AllRead as AnswerAllRead, PeerGone, Gone}
use Rattle.vchan_protocol.specs.declared.side.Side.{Side}
use Rattle.vchan_protocol.specs.declared.side.Begun.{Begun}
use Rattle.vchan_protocol.specs.declared.side.EndedBy.TheVariants.{AllRead}
use Rattle.vchan_protocol.specs.Table.Ends.{Standing, standing_after}
use Rattle.vchan_protocol.specs.History.Core.{is_shut, begun_standing}
use Rattle.vchan_protocol.specs.Honest.LifeLaw.{shows_end}

-- an event shows an end in this standing that its peer is shut, while it isn't shut itself
abbrev pub notices : Standing → Op → ℕ → Bool
notices now op taken = not (is_shut now.state) && shows_end op now.role taken

-- one of these events does
abbrev pub has_noticed : Standing → List PastEvent → Bool
has_noticed now [] = false
has_noticed now (event ∷ events) = notices now event.op event.taken || has_noticed (standing_after now event.op) events

-- an answer tells that the peer is shut, or gone
abbrev pub tells_end : Answer → Bool
tells_end PeerClosed = true
tells_end AnswerAllRead = true
tells_end (PeerGone prod cons) = true
tells_end (Gone is) = is
tells_end _ = false

-- what an end has noted of its peer's end
pub record EndingNoted (s : Side) : Type 0 where
  -- an end that noticed it in the call under way has seen it
  pub noticed : (b : Begun) → s.call ≡ Some b → has_noticed (begun_standing s b) s.trail ≡ true → s.saw ≡ true
  -- an end that has ended has seen it, and is drained if it ended by having read all
  pub ended_saw : IsSome s.ended → s.saw ≡ true
  pub ended_drained : s.ended ≡ Some AllRead → s.drained ≡ true
  -- an end that is drained has seen it, and has ended
  pub drained_saw : s.drained ≡ true → s.saw ≡ true
  pub drained_ended : s.drained ≡ true → IsSome s.ended
