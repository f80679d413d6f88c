-- What an agent sends on its control channel: its triggers, in the order of its calls and with at most sixteen calls to a target open, and which calls it tells to have ended.
-- Source: the messages are those of the qrexec protocol; the order and the limit are this project's own.
use Rattle.std.specs.Prelude.{◌≡◌, ◌⊎◌, ℕ, ◌<◌, ◌==◌, ◌&&◌, not, nat_lt, bytes_eq, Bool, true, false, List, [], ◌∷◌, length, filter, Option, Some, None, if◌then◌else◌}
use Rattle.list_laws.specs.Lists.{SomeOf}
use Rattle.qrexec_frame.specs.declared.message.Message.{Message}
use Rattle.qrexec_frame.specs.declared.message.Message.TheVariants.{Exec, JustExec, Terminated, Trigger3, Trigger}
use Rattle.scenario_file.specs.declared.scenario.CallPlan.{CallPlan}
use Rattle.task_duties.specs.Words.{ident_of}
use Rattle.task_duties.specs.Agent.Answers.{Answer, IsRefused, At, Asked}

-- a call as its trigger asks for it
pub record Asking : Type 0 where
  pub target : List ℕ
  pub service : List ℕ
  pub ident : List ℕ

-- what a message asks for, if it is a trigger
abbrev pub asking : Message → Option Asking
asking (Trigger3 target ident service) = Some (record { target = target; service = service; ident = ident })
asking (Trigger target ident service) = Some (record { target = target; service = service; ident = ident })
asking message = None

-- what the trigger of a call asks for
abbrev pub asking_of : CallPlan → Asking
asking_of call = record { target = call.to; service = call.service; ident = ident_of call.number }

-- below version 3 a trigger is a MSG_TRIGGER_SERVICE, else a MSG_TRIGGER_SERVICE3
abbrev pub IsOfVersion : Option ℕ → Message → Type 0
IsOfVersion version (Trigger3 target ident service) = (v : ℕ) × (version ≡ Some v) × (nat_lt v 3 ≡ false)
IsOfVersion version (Trigger target ident service) = (v : ℕ) × (version ≡ Some v) × (nat_lt v 3 ≡ true)
IsOfVersion version message = Unit {0}

-- ---- the limit of sixteen

-- whether a call was answered with this domain and port
abbrev pub is_at : ℕ → ℕ → Answer → Bool
is_at domain port (At to p) = domain == to && port == p
is_at domain port answer = false

-- whether a call was refused
abbrev pub is_refusal : Answer → Bool
is_refusal IsRefused = true
is_refusal answer = false

-- the idents of the open calls to a target after a trigger, from those before it: a refused call is never open
abbrev pub opened : (List ℕ → Answer) → List ℕ → Option Asking → List (List ℕ) → List (List ℕ)
opened answer target None calls = calls
opened answer target (Some a) calls = if bytes_eq a.target target && not (is_refusal (answer a.ident)) then a.ident ∷ calls else calls

-- the idents of the open calls to a target after a message, from those before it: a call is open until its Terminated
abbrev pub open_after : (List ℕ → Answer) → List ℕ → Message → List (List ℕ) → List (List ℕ)
open_after answer target (Terminated domain port) calls = filter (λ ident. not (is_at domain port (answer ident))) calls
open_after answer target message calls = opened answer target (asking message) calls

-- whether a message asks for a call to a target
abbrev pub asks_for : List ℕ → Option Asking → Bool
asks_for target None = false
asks_for target (Some a) = bytes_eq a.target target

-- at each trigger to the target, fewer than 16 calls to it are open, if these are open at first
abbrev pub KeepsTo : (List ℕ → Answer) → List ℕ → List (List ℕ) → List Message → Type 0
KeepsTo answer target calls [] = Unit {0}
KeepsTo answer target calls (m ∷ said) =
    (asks_for target (asking m) ≡ true → length calls < 16) × KeepsTo answer target (open_after answer target m calls) said

-- ---- what is told to have ended

-- the message asks to serve a domain at a port
abbrev pub AsksToServe : ℕ → ℕ → Message → Type 0
AsksToServe domain port (Exec from p line) = (from ≡ domain) × (p ≡ port)
AsksToServe domain port (JustExec from p line) = (from ≡ domain) × (p ≡ port)
AsksToServe domain port message = ⊥

-- a Terminated names a session of a call of the agent's own, or what it was asked to serve
abbrev pub IsTold : List Asked → List Message → Message → Type 0
IsTold asked heard (Terminated domain port) = SomeOf (λ a. is_at domain port a.answer ≡ true) asked ⊎ SomeOf (AsksToServe domain port) heard
IsTold asked heard message = Unit {0}
