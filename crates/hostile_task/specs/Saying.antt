-- An act of saying while it is under way.
-- Source: this project's own.
use Rattle.std.specs.Prelude.{◌≡◌, ◌≢◌, ℕ, ◌≤◌, ◌<◌, ◌+◌, Bool, true, false, List, [], ◌++◌, Option, Some, None, length, take, drop}
use Rattle.vchan_protocol.specs.declared.op.PastEvent.{PastEvent}
use Rattle.vchan_rule.specs.Seated.{SeatedSide}
use Rattle.hostile_seat.specs.Hostile.{strays_along}
use Rattle.scenario_file.specs.declared.acts.Act.{Act}
use Rattle.task_duties.specs.Hostile.Saying.{Voice, said, IsSaying}
use Rattle.task_duties.specs.Hostile.Trail.{words_of}
use Rattle.hostile_task.specs.declared.progress.Progress.{Progress}

-- ---- what is sent

-- these are the words of an act that sends some
abbrev pub AreWords : Option (List ℕ) → List ℕ → Type 0
AreWords (Some bytes) held = held ≡ bytes
AreWords None held = Unit {0}

-- the words of an act are ready to be sent
abbrev pub IsReady : Act → List ℕ → Type 0
IsReady act spelled = AreWords (words_of act) spelled

-- ---- how far it is

-- the voice with the index that the domain keeps now
abbrev pub voice_at : Voice → Progress → Voice
voice_at v p = record v { own = p.own }

-- the turns so far of sending these bytes made these events, and left what isn't sent yet; some were left before each of these turns
pub record SaysSoFar (before : Voice) (bytes : List ℕ) (p : Progress) (events : List PastEvent) : Type 0 where
  pub loads : List ℕ
  pub turns : length loads ≡ p.turns
  pub events_are : events ≡ (said before bytes loads).events
  pub voice_is : voice_at before p ≡ (said before bytes loads).voice
  pub within : p.said ≤ length bytes
  pub left_is : drop p.said bytes ≡ (said before bytes loads).left
  pub goes_on : (k : ℕ) → k < length loads → (said before bytes (take k loads)).left ≢ []

-- after a turn: the next act begins, or the same one goes on
abbrev pub after_turn : Bool → Progress → Progress
after_turn true p = record { acts = p.acts + 1; turns = 0; said = 0; own = p.own }
after_turn false p = p

-- the saying is over, or goes on
abbrev pub SaysOrSaid : Bool → Voice → List ℕ → Progress → List PastEvent → Type 0
SaysOrSaid true before bytes p events = IsSaying before (voice_at before p) bytes events
SaysOrSaid false before bytes p events = SaysSoFar before bytes p events

-- an end in the hands of a hostile user, after these events
abbrev pub side_after : SeatedSide → List PastEvent → SeatedSide
side_after e events = record e { side = strays_along e.side events }

-- one more turn after these events
pub record SaysOn (before : Voice) (bytes : List ℕ) (events : List PastEvent) (over : Bool) (p : Progress) (old new : SeatedSide) : Type 0 where
  pub more : List PastEvent
  pub end_is : new ≡ side_after old more
  pub so_far : SaysOrSaid over before bytes p (events ++ more)
