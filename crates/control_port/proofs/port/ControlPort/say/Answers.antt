use Rattle.control_port.proofs.PortLaws.{says, heard_still}
use Rattle.control_port.proofs.port.ControlPort.say.Goals as goal

pub returns-clause-said : goal.returns-clause-said
returns-clause-said c = λ said h. says c.args.self.now c.put.new.self said c.args.message.now c.put.result h c.requires.greeted c.requires.fits c.requires.may c.put.ensures.same c.put.ensures.view

pub returns-clause-heard : goal.returns-clause-heard
returns-clause-heard c = λ heard h. heard_still c.args.self.now c.put.new.self heard c.put.ensures.same c.put.ensures.got h
