use Rattle.step_script.proofs.read.line.read_call.Goals as goal

pub returns-in-Some-clause-fits : goal.returns-in-Some-clause-fits
returns-in-Some-clause-fits c = c.read_call_of_form.ensures.fits c.args.who c.in-Some.ensures.fits
