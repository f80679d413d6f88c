-- Which messages a side of a control channel may send, and which it may hear.
-- Source: the messages are those of the qrexec protocol.
use Rattle.std.specs.Prelude.{Bool}
use Rattle.qrexec_frame.specs.declared.message.Message.{Message}
use Rattle.control_port.specs.declared.talk.Talker.{Talker}
use Rattle.control_port.specs.declared.talk.Talker.TheVariants.{Agent, Broker}
use Rattle.task_duties.specs.Hearing.{to_agent, to_broker}

abbrev pub may_say : Talker → Message → Bool
may_say Agent message = to_broker message
may_say Broker message = to_agent message

abbrev pub may_hear : Talker → Message → Bool
may_hear Agent message = to_agent message
may_hear Broker message = to_broker message
