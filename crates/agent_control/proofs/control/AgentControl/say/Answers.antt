use Rattle.qrexec_frame.specs.Messages.{written}
use Rattle.vchan_packet.proofs.FailingLaws.{fails_to_send, no_room_sends_none, shut_sends_none}
use Rattle.agent_control.proofs.control.AgentControl.say.Goals as goal

pub returns-in-NoRoom-clause-why : goal.returns-in-NoRoom-clause-why
returns-in-NoRoom-clause-why c =
    fails_to_send c.args.self.now.port.end c.say.new.self.end (written c.args.message.now) c.in_ok-say.field-0 (no_room_sends_none c.in_ok-say.field-0 c.in-NoRoom.prod c.in-NoRoom.cons c.in-NoRoom.is) c.in_ok-say.ensures.view c.in_ok-say.ensures.trail c.in_ok-say.ensures.cause

pub returns-in-PeerClosed-clause-why : goal.returns-in-PeerClosed-clause-why
returns-in-PeerClosed-clause-why c =
    fails_to_send c.args.self.now.port.end c.say.new.self.end (written c.args.message.now) c.in_ok-say.field-0 (shut_sends_none c.in_ok-say.field-0 c.in-PeerClosed.is) c.in_ok-say.ensures.view c.in_ok-say.ensures.trail c.in_ok-say.ensures.cause
