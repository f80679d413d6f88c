use Rattle.vchan_core.proofs.machine.Machine.event.Goals as goal

pub returns-in-Put-clause-event : goal.returns-in-Put-clause-event
returns-in-Put-clause-event c = rw c.in-Put.is (c.show_bytes.ensures.event _ _)

pub returns-in-Take-clause-event : goal.returns-in-Take-clause-event
returns-in-Take-clause-event c = rw c.in-Take.is (c.release_places.ensures.event _ _)

pub returns-in-Notify-clause-event : goal.returns-in-Notify-clause-event
returns-in-Notify-clause-event c = rw c.in-Notify.is (c.notify_peer.ensures.event _ _)

pub returns-in-Signal-clause-event : goal.returns-in-Signal-clause-event
returns-in-Signal-clause-event c = rw c.in-Signal.is (c.signal_peer.ensures.event _ _)

pub returns-in-ReadLook-clause-event : goal.returns-in-ReadLook-clause-event
returns-in-ReadLook-clause-event c = rw c.in-ReadLook.is (c.look_for_bytes.ensures.event _ _)

pub returns-in-ReadAsk-clause-event : goal.returns-in-ReadAsk-clause-event
returns-in-ReadAsk-clause-event c = rw c.in-ReadAsk.is (c.ask_for_bytes.ensures.event _ _)

pub returns-in-ReadLookAgain-clause-event : goal.returns-in-ReadLookAgain-clause-event
returns-in-ReadLookAgain-clause-event c = rw c.in-ReadLookAgain.is (c.look_again_for_bytes.ensures.event _ _)
