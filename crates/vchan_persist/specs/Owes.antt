-- What the two tasks of an epoch owe.
-- Source: this project's own.
use Rattle.std.specs.Prelude.{◌≡◌, ℕ, true, false, List, [], ◌∷◌, ◌++◌}
use Rattle.atomic_table.specs.Seated.{TableId}
use Rattle.ring_words.specs.declared.page.Role.{Role}
use Rattle.ring_words.specs.declared.page.Role.TheVariants.{Server, Client as ClientEnd}
use Rattle.vchan_rule.specs.Seated.{SeatedSide, last_view}
use Rattle.service_gate.specs.Owing.{builtin_owes}
use Rattle.service_gate.specs.declared.builtin.Builtin.{Builtin}
use Rattle.channel_session.specs.declared.caller.CallerEnd.{CallerEnd}
use Rattle.channel_session.specs.declared.serving.ServingEnd.{ServingEnd}
use Rattle.task_duties.specs.Agent.Sessions.{CallerOwes, ServingOwes, IsService}
use Rattle.task_duties.specs.Hostile.Trail.{retiring}
use Rattle.vchan_persist.specs.declared.client.Client.{Client}
use Rattle.vchan_persist.specs.declared.client.Client.TheVariants.{Call, Hostile}
use Rattle.vchan_persist.specs.declared.task.EpochTask.{EpochTask}
use Rattle.vchan_persist.specs.declared.task.EpochTask.TheVariants.{Calls, Scribbles, Serves, Over}
use Rattle.vchan_persist.specs.declared.task.SideDone.{SideDone}
use Rattle.vchan_persist.specs.declared.task.SideDone.TheVariants.{Called, Refused, Scribbled, Served, NoMemory}
use Rattle.vchan_persist.specs.Epochs.{scribbled}

-- this end of the page
pub record IsEndOf (page : TableId) (role : Role) (e : SeatedSide) : Type 0 where
  pub page_is : e.page ≡ page
  pub role_is : e.side.role ≡ role

-- the version that both sides announce
abbrev pub version : ℕ
version = 3

-- ---- what is handed back

-- by a client with this input, whose call is over
pub record HasCalled (page : TableId) (stdin : List ℕ) (end : CallerEnd) : Type 0 where
  pub is_end : IsEndOf page ClientEnd end.retired
  pub honest : (last_view end.retired).turned ≡ false
  pub owes : CallerOwes version stdin end.done (last_view end.retired)

-- by a client that was refused when it connected
pub record IsRefused (page : TableId) (end : SeatedSide) : Type 0 where
  pub is_end : IsEndOf page ClientEnd end
  pub honest : (last_view end).turned ≡ false
  pub misled : (last_view end).misled ≡ true

-- by a hostile client
pub record HasScribbled (page : TableId) (seed stores : ℕ) (end : SeatedSide) : Type 0 where
  pub is_end : IsEndOf page ClientEnd end
  pub turned : (last_view end).turned ≡ true
  pub sent : (last_view end).sent ≡ []
  pub got : (last_view end).got ≡ []
  pub trail : (last_view end).trail ≡ scribbled seed stores ++ retiring ClientEnd

-- by the server with this service
pub record HasServed (page : TableId) (service : Builtin) (end : ServingEnd) : Type 0 where
  pub is_end : IsEndOf page Server end.retired
  pub honest : (last_view end.retired).turned ≡ false
  pub owes : (name : List ℕ) → IsService name (builtin_owes service) → ServingOwes version name end.outcome end.got (last_view end.retired)

-- ---- what is owed

abbrev pub CallerHands : TableId → List ℕ → SideDone → Type 0
CallerHands page stdin (Called end) = HasCalled page stdin end
CallerHands page stdin (Refused end) = IsRefused page end
CallerHands page stdin (Scribbled end) = ⊥
CallerHands page stdin (Served end) = ⊥
CallerHands page stdin NoMemory = Unit {0}

abbrev pub ScribblerHands : TableId → ℕ → ℕ → SideDone → Type 0
ScribblerHands page seed stores (Scribbled end) = HasScribbled page seed stores end
ScribblerHands page seed stores (Called end) = ⊥
ScribblerHands page seed stores (Refused end) = ⊥
ScribblerHands page seed stores (Served end) = ⊥
ScribblerHands page seed stores NoMemory = ⊥

abbrev pub ServerHands : TableId → Builtin → SideDone → Type 0
ServerHands page service (Served end) = HasServed page service end
ServerHands page service (Called end) = ⊥
ServerHands page service (Refused end) = ⊥
ServerHands page service (Scribbled end) = ⊥
ServerHands page service NoMemory = Unit {0}

-- by the side of a client
abbrev pub ClientHands : TableId → Client → SideDone → Type 0
ClientHands page (Call stdin) done = CallerHands page stdin done
ClientHands page (Hostile seed stores) done = ScribblerHands page seed stores done

abbrev pub epoch_owes : EpochTask → SideDone → Type 0
epoch_owes (Calls s) done = CallerHands s.end.page s.half.requests.input done
epoch_owes (Scribbles s) done = ScribblerHands s.page s.seed s.stores done
epoch_owes (Serves s) done = ServerHands s.session.end.page s.service done
epoch_owes (Over was) done = done ≡ was

-- the task owes this
abbrev pub Owes : EpochTask → (SideDone → Type 0) → Type 0
Owes task P = (done : SideDone) → epoch_owes task done → P done

-- the two tasks of an epoch, the client's first
abbrev pub AreSides : TableId → Client → Builtin → List EpochTask → Type 0
AreSides page client service [] = ⊥
AreSides page client service (one ∷ []) = ⊥
AreSides page client service (one ∷ other ∷ []) = Owes one (ClientHands page client) × Owes other (ServerHands page service)
AreSides page client service (one ∷ other ∷ more ∷ tasks) = ⊥

-- what the two tasks handed back
abbrev pub AreHandedBack : TableId → Client → Builtin → List SideDone → Type 0
AreHandedBack page client service [] = ⊥
AreHandedBack page client service (one ∷ []) = ⊥
AreHandedBack page client service (one ∷ other ∷ []) = ClientHands page client one × ServerHands page service other
AreHandedBack page client service (one ∷ other ∷ more ∷ dones) = ⊥
