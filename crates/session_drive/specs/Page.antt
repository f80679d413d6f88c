-- A page in memory between the calls of two honest open ends, and what draining and writing do to it.
-- Source: this project's own.
use Rattle.std.specs.Prelude.{◌≡◌, ◌⊎◌, ℕ, ◌≤◌, List, [], ◌++◌, length, take, None}
use Rattle.ring_words.specs.declared.page.Role.{Role}
use Rattle.vchan_protocol.specs.declared.call.Answer.{Answer}
use Rattle.vchan_protocol.specs.declared.call.Call.{Call}
use Rattle.vchan_protocol.specs.declared.call.EndState.TheVariants.{Open}
use Rattle.vchan_protocol.specs.Table.Apply.{filled}
use Rattle.vchan_protocol.specs.History.Core.{Core, side_of, bytes_loaded}
use Rattle.vchan_protocol.specs.History.WholeCall.{called, call_answer}
use Rattle.vchan_protocol.specs.Honest.Lawful.{Honest}
use Rattle.vchan_protocol.specs.Always.Invariant.{Invariant}
use Rattle.vchan_protocol.specs.Lists.ListCall.{avail, end_of, free, lists_of, sends, with_end}
use Rattle.vchan_protocol.specs.Lists.ListLaw.{FollowsLists}
use Rattle.vchan_core.specs.declared.plain.Plain.{Plain}
use Rattle.vchan_core.specs.Page.StandsFor.{StandsFor}

-- the page stands for this core state, in which both ends are honest and between two calls
pub record IsBetween (core : Core) (page : Plain) : Type 0 where
  pub stands : StandsFor core page
  pub kept : Invariant core
  pub honest : Honest core
  pub idle : (core.server.call ≡ None) × (core.client.call ≡ None)

-- and both are open
pub record IsRested (core : Core) (page : Plain) : Type 0 where
  pub between : IsBetween core page
  pub opened : (core.server.state ≡ Open) × (core.client.state ≡ Open)

-- some core state of a rested page
pub record Rests (page : Plain) : Type 0 where
  pub core : Core
  pub rested : IsRested core page

-- what a whole call of this end does
pub record Calls (core : Core) (who : Role) (call : Call) (payload start : List ℕ) (page : Plain) (buffer : List ℕ) (answer : Answer) : Type 0 where
  pub between : IsBetween (called core who call payload) page
  pub answer_is : answer ≡ call_answer core who call payload
  pub buffer_is : buffer ≡ filled start (bytes_loaded (side_of (called core who call payload) who).trail)
  pub follows : FollowsLists core who call payload

-- the end got the first so many bytes of the buffer, and none only if none waited
pub record Drains (core : Core) (who : Role) (page : Plain) (buffer : List ℕ) (count : ℕ) : Type 0 where
  pub after : Core
  pub rested : IsRested after page
  pub within : count ≤ length buffer
  pub lists : lists_of after ≡ with_end (lists_of core) who (record (end_of (lists_of core) who) { got = (end_of (lists_of core) who).got ++ take count buffer })
  pub none : count ≡ 0 → avail (lists_of core) who ≡ 0

-- the end sent the first so many bytes, and none only if there were none or there was no room
pub record Writes (core : Core) (who : Role) (piece : List ℕ) (page : Plain) (count : ℕ) : Type 0 where
  pub after : Core
  pub rested : IsRested after page
  pub few : count ≤ length piece
  pub lists : lists_of after ≡ sends (lists_of core) who piece count
  pub none : count ≡ 0 → (piece ≡ []) ⊎ (free (lists_of core) who ≡ 0)
