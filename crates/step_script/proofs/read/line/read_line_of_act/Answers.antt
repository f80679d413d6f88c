use Rattle.step_script.proofs.read.line.read_line_of_act.Goals as goal

pub returns-in-Poke-clause-line : goal.returns-in-Poke-clause-line
returns-in-Poke-clause-line c = rw c.in-Poke.is (c.read_poke.ensures.line _)

pub returns-in-Poke-clause-fits : goal.returns-in-Poke-clause-fits
returns-in-Poke-clause-fits c = c.read_poke.ensures.fits _ c.args.room
