use Rattle.std.proofs.Common.{Option, Some, None, List, ℕ, ap, ◌∙◌}
use Rattle.script_words.specs.WordsLeft.{words_left}
use Rattle.step_script.specs.declared.read.forms.CallForm.{CallForm}
use Rattle.step_script.specs.declared.read.forms.Act.{Act}
use Rattle.step_script.specs.Language.Tables.{meaning_first, calls_of, acts, verb_of}
use Rattle.step_script.proofs.read.forms.further_verb_in.Goals as goal

pub returns-in-Some-clause-verb : goal.returns-in-Some-clause-verb
returns-in-Some-clause-verb c = ap (λ (call : Option (CallForm × List (List ℕ))). verb_of call (meaning_first acts (words_left c.args.words.now))) c.in-Some.ensures.form

pub returns-in-Some-act_in-clause-verb : goal.returns-in-Some-act_in-clause-verb
returns-in-Some-act_in-clause-verb c = ap (λ (call : Option (CallForm × List (List ℕ))). verb_of call (Some (c.in-Some-act_in.act, words_left c.in-Some-act_in.rest))) c.in-None.ensures.form
    ∙ ap (λ (act : Option (Act × List (List ℕ))). verb_of (meaning_first (calls_of c.args.who) (words_left c.args.words.now)) act) c.in-Some-act_in.ensures

pub returns-in-None-act_in-clause-verb : goal.returns-in-None-act_in-clause-verb
returns-in-None-act_in-clause-verb c = ap (λ (call : Option (CallForm × List (List ℕ))). verb_of call None) c.in-None.ensures.form
    ∙ ap (λ (act : Option (Act × List (List ℕ))). verb_of (meaning_first (calls_of c.args.who) (words_left c.args.words.now)) act) c.in-None-act_in.ensures
