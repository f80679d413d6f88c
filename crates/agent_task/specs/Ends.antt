-- The ends of sessions that an agent owes to report, and what becomes of each.
-- Source: the messages are those of the qrexec protocol; which ends are reported is this project's own.
use Rattle.std.specs.Prelude.{◌≡◌, ℕ, List, [], ◌++◌, map, filter_map, option_map, Option, Some, None, IsPermutation}
use Rattle.qrexec_frame.specs.declared.message.Message.{Message}
use Rattle.qrexec_frame.specs.declared.message.Message.TheVariants.{Exec, JustExec, Terminated}
use Rattle.task_duties.specs.declared.done.ControlEnd.{ControlEnd}
use Rattle.task_duties.specs.declared.done.SessionEnd.{SessionEnd}
use Rattle.task_duties.specs.Agent.Answers.{Answer, At, Asked}
use Rattle.agent_slots.specs.Slots.{Called}

-- a session is named by the domain at its other end and its port

-- the session of a call that was accepted
abbrev pub session_of_answer : Answer → Option (ℕ × ℕ)
session_of_answer (At to port) = Some (to, port)
session_of_answer answer = None

-- the session that a message asks to serve
abbrev pub session_asked : Message → Option (ℕ × ℕ)
session_asked (Exec from port line) = Some (from, port)
session_asked (JustExec from port line) = Some (from, port)
session_asked message = None

-- the session whose end a message reports
abbrev pub session_told : Message → Option (ℕ × ℕ)
session_told (Terminated domain port) = Some (domain, port)
session_told message = None

-- the sessions whose end an agent owes to report: one for each of its calls that was accepted, and one for each message that asks it to serve
abbrev pub sessions_owed : List Asked → List Message → List (ℕ × ℕ)
sessions_owed asked heard = filter_map (λ a. session_of_answer a.answer) asked ++ filter_map session_asked heard

-- ---- while an agent runs

abbrev pub session_called : Called → ℕ × ℕ
session_called c = (c.to, c.port)

abbrev pub session_of_end : SessionEnd → ℕ × ℕ
session_of_end e = (e.domain, e.port)

-- those that are owed by the sessions of its calls
abbrev pub sessions_known : List (Option Called) → List Message → List (ℕ × ℕ)
sessions_known called heard = filter_map (option_map session_called) called ++ filter_map session_asked heard

-- those that were reported, that wait to be reported, that are still open, and that are lost
abbrev pub sessions_held : List Message → List SessionEnd → List SessionEnd → List (ℕ × ℕ) → List (ℕ × ℕ)
sessions_held said unsaid opened lost = filter_map session_told said ++ ((map session_of_end unsaid ++ map session_of_end opened) ++ lost)

-- each that is owed was reported once, waits, or is still open; only those that ended after the control channel was over are lost
pub record AreKept (over : Option ControlEnd) (called : List (Option Called)) (unsaid opened : List SessionEnd) (heard said : List Message) : Type 0 where
  pub lost : List (ℕ × ℕ)
  pub none_lost : over ≡ None → lost ≡ []
  pub are : IsPermutation (sessions_held said unsaid opened lost) (sessions_known called heard)
