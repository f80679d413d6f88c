-- The letters of an outbox: messages that wait for room, some of them held until another message was sent.
-- Source: this project's own.
use Rattle.std.specs.Prelude.{◌≡◌, ℕ, ◌<◌, ◌==◌, ◌&&◌, Bool, true, false, List, length, map, take, slice_index_or, Option, Some, None, if◌then◌else◌}
use Rattle.std.specs.List.{AllByRecursion as Each}
use Rattle.qrexec_frame.specs.declared.message.Message.{Message}
use Rattle.qrexec_frame.specs.declared.message.Message.TheVariants.{Connect}
use Rattle.broker_task.specs.declared.outbox.Letter.{Letter}

-- this element is at this place of a list
pub record IsAt {A : Type 0} (xs : List A) (at : ℕ) (x : A) : Type 0 where
  pub within : at < length xs
  pub is : x ≡ slice_index_or xs at x

-- all of these letters are held
abbrev pub AreHeld : List Letter → Type 0
AreHeld letters = Each (λ l. l.held ≡ true) letters

-- the first letter that isn't held is at this place
pub record IsFirstReady (letters : List Letter) (at : ℕ) : Type 0 where
  pub letter : Letter
  pub there : IsAt letters at letter
  pub ready : letter.held ≡ false
  pub before : AreHeld (take at letters)

-- the messages of some letters, in order
abbrev pub messages_in : List Letter → List Message
messages_in letters = map (λ l. l.message) letters

-- whether a port is the one that is meant, or any is meant
abbrev pub is_meant : Option ℕ → ℕ → Bool
is_meant None port = true
is_meant (Some meant) port = port == meant

-- whether a message is the Connect of a call to this target, at this port or at any
abbrev pub connects : ℕ → Option ℕ → Message → Bool
connects target meant (Connect to port ident) = to == target && is_meant meant port
connects target meant message = false

-- a letter after the Connects to this target were let go, at this port or at any
abbrev pub released : ℕ → Option ℕ → Letter → Letter
released target meant l = if connects target meant l.message then record l { held = false } else l
