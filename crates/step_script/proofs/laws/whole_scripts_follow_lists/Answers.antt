use Rattle.step_script.proofs.Meaning.ListScriptLaws.{whole_scripts}
use Rattle.step_script.proofs.laws.whole_scripts_follow_lists.Goals as goal

pub returns : goal.returns
returns c = whole_scripts
