-- What the task sends after the broker's decision.
-- Source: the messages are those of the qrexec protocol.
use Rattle.std.specs.Prelude.{◌≡◌, ℕ, ◌≤◌, true, length}
use Rattle.qrexec_frame.specs.Names.{cleaned_service}
use Rattle.qrexec_frame.specs.declared.message.Message.{Message}
use Rattle.qrexec_frame.specs.declared.message.Message.TheVariants as message
use Rattle.call_broker.specs.declared.event.Event.{Event}
use Rattle.call_broker.specs.declared.event.Event.TheVariants.{Trigger, Terminated, Dropped}
use Rattle.call_broker.specs.declared.decision.Decision.{Decision}
use Rattle.call_broker.specs.declared.decision.Decision.TheVariants as decision
use Rattle.call_broker.specs.Domains.{Domains, is_domain, name_of}
use Rattle.task_duties.specs.Words.{exec_line}
use Rattle.broker_task.specs.Lines.{IsReply}
use Rattle.broker_task.specs.declared.reply.Reply.{Reply}
use Rattle.broker_task.specs.declared.reply.Reply.TheVariants.{Nothing, Refused, Accepted}

-- the reply to an event: the messages that the outboxes get
abbrev pub IsReplyTo : Domains → Event → Decision → Reply → Type 0
IsReplyTo hub (Trigger from target service ident) (decision.Accepted to port) (Accepted d exec connect) =
    (d ≡ to) × (exec ≡ message.Exec from port (exec_line (cleaned_service service) (name_of hub from))) × (connect ≡ message.Connect to port ident)
IsReplyTo hub (Trigger from target service ident) (decision.Refused cause) (Refused refused) = refused ≡ message.Refused ident
IsReplyTo hub (Trigger from target service ident) (decision.Ended a b port) Nothing = Unit {0}
IsReplyTo hub (Trigger from target service ident) decision.PassedOver Nothing = Unit {0}
IsReplyTo hub (Terminated from other port) decided Nothing = Unit {0}
IsReplyTo hub (Dropped domain) decided Nothing = Unit {0}
IsReplyTo hub event decided reply = ⊥

-- an Exec names a domain
abbrev pub NamesDomain : Domains → Message → Type 0
NamesDomain hub (message.Exec d port line) = is_domain hub d ≡ true
NamesDomain hub m = Unit {0}

-- a message that may be put into an outbox
abbrev pub IsFit : Domains → Message → Type 0
IsFit hub m = IsReply m × NamesDomain hub m

abbrev pub AreFit : Domains → Reply → Type 0
AreFit hub Nothing = Unit {0}
AreFit hub (Refused refused) = IsFit hub refused
AreFit hub (Accepted to exec connect) = IsFit hub exec × IsFit hub connect

-- each domain has a name of at most 31 bytes
abbrev pub HasShortNames : Domains → Type 0
HasShortNames hub = (d : ℕ) → is_domain hub d ≡ true → length (name_of hub d) ≤ 31

-- the domain that will serve has a number from 1 to `count`
abbrev pub IsWithin : ℕ → Reply → Type 0
IsWithin count (Accepted to exec connect) = (1 ≤ to) × (to ≤ count)
IsWithin count reply = Unit {0}
