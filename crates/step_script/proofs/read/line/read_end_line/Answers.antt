use Rattle.std.proofs.Common.{subst}
use Rattle.step_script.specs.declared.read.forms.Verb.{Verb}
use Rattle.step_script.specs.Parts.Forms.{VerbFits}
use Rattle.step_script.proofs.read.line.read_end_line.Goals as goal

pub returns-in_ok-call-in-Makes-clause-fits : goal.returns-in_ok-call-in-Makes-clause-fits
returns-in_ok-call-in-Makes-clause-fits c = c.in_ok-call-in-Makes.ensures.fits c.args.who (subst (λ (verb : Verb). VerbFits c.args.who verb) c.in-Makes.is c.in-Some.ensures.fits)
