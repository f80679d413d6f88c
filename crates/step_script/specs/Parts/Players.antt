-- What the player's parts stand for, and what each of its steps does to them.
use Rattle.std.specs.Prelude.{◌≡◌, ℕ, ◌≤◌, List, [], ◌++◌, length, take, Option, Some}
use Rattle.std.specs.Option.{option_map}
use Rattle.ring_words.specs.declared.page.Role.{Role}
use Rattle.vchan_protocol.specs.declared.call.Answer.{Answer}
use Rattle.vchan_protocol.specs.declared.call.Answer.TheVariants.{Got}
use Rattle.vchan_protocol.specs.declared.call.Call.{Call}
use Rattle.vchan_core.specs.declared.machine.Machine.{Machine}
use Rattle.vchan_protocol.specs.declared.op.PastEvent.{PastEvent}
use Rattle.vchan_core.specs.declared.plain.Plain.{Plain}
use Rattle.vchan_protocol.specs.declared.side.Side.{Side}
use Rattle.vchan_protocol.specs.Table.Apply.{filled}
use Rattle.vchan_protocol.specs.History.Core.{Core, side_of, bytes_loaded}
use Rattle.vchan_protocol.specs.Lists.ListLaw.{count_got}
use Rattle.vchan_core.specs.Page.StandsFor.{StandsFor, machine_of, other_of}
use Rattle.vchan_core.specs.OneMachine.Phases.{IsIdle, payload_needed, buffer_needed}
use Rattle.step_script.specs.declared.player.end_player.EndPlayer.{EndPlayer}
use Rattle.step_script.specs.declared.player.Player.{Player}
use Rattle.step_script.specs.Parts.EndPlayers.{player_of}
use Rattle.step_script.specs.Meaning.Output.{text_of}
use Rattle.step_script.specs.Meaning.Played.{Outcome, bytes_got}

-- ---- the bytes that a call takes

-- these bytes, at the front of the buffer
abbrev pub got_front : Answer → List ℕ → List ℕ
got_front (Got count) buffer = take count buffer
got_front _ buffer = []

-- the bytes that the answer tells of are those that the trail has loaded, and stand at the front of the buffer
pub record IsTaken (answer : Answer) (trail : List PastEvent) (buffer : List ℕ) : Type 0 where
  pub within : count_got answer ≤ length buffer
  pub front : got_front answer buffer ≡ bytes_got answer trail

-- the buffer begins with the bytes that a trail has loaded
abbrev pub HasLoaded : List PastEvent → List ℕ → Type 0
HasLoaded trail buffer = buffer ≡ filled buffer (bytes_loaded trail)

-- ---- one end

-- the call that an end is inside
abbrev pub call_of : Side → Option Call
call_of s = option_map (λ b. b.call) s.call

-- what is kept for an end is that of the call that it is inside
pub record IsHeld (s : Side) (m : Machine) (end_player : EndPlayer) : Type 0 where
  pub call : ¬ IsIdle m → call_of s ≡ Some end_player.call
  pub payload : ¬ IsIdle m → s.payload ≡ end_player.payload.items
  pub payload_left : payload_needed m ≤ length end_player.payload.items
  pub buffer_left : buffer_needed m ≤ length end_player.buffer.items
  pub loaded : HasLoaded s.trail end_player.buffer.items

-- the page stands for the core state, and what is kept for the end is that of its call
pub record IsAt (core : Core) (who : Role) (page : Plain) (end_player : EndPlayer) : Type 0 where
  pub stands : StandsFor core page
  pub held : IsHeld (side_of core who) (machine_of page who) end_player

-- such a core state is known
abbrev pub IsKnown : Role → Plain → EndPlayer → Type 0
IsKnown who page end_player = (core : Core) × IsAt core who page end_player

-- from each core state at which the end may have been, this was done, and its lines were printed
pub record Does (who : Role) (act : Core → Outcome) (page page' : Plain) (end_player end_player' : EndPlayer) (text text' : List ℕ) : Type 0 where
  pub at : (core : Core) → IsAt core who page end_player → IsAt (act core).core who page' end_player'
  pub prints : (core : Core) → IsAt core who page end_player → text' ≡ text ++ text_of (act core).lines
  pub other : other_of page' who ≡ other_of page who

-- ---- both ends

-- the player is at the core state
pub record IsPlayedTo (core : Core) (player : Player) : Type 0 where
  pub stands : StandsFor core player.page
  pub held : (who : Role) → IsHeld (side_of core who) (machine_of player.page who) (player_of player.ends who)

-- from each core state at which the player may have been, this was done, and its lines were printed
pub record Plays (act : Core → Outcome) (player player' : Player) : Type 0 where
  pub to : (core : Core) → IsPlayedTo core player → IsPlayedTo (act core).core player'
  pub prints : (core : Core) → IsPlayedTo core player → player'.text.items ≡ player.text.items ++ text_of (act core).lines
