-- One more character is shown at a time, up to the 64th or the last.
use Rattle.std.proofs.Common.{ℕ, List, [], ◌++◌, ap, sym, ◌∙◌}
use Rattle.std.specs.List.{flat_map}
use Rattle.std.proofs.lemmas.List.{flat_map_more, map-id}
use Rattle.std.proofs.lemmas.Iterator.{YieldsList-from_chars, YieldsList-from_take}
use Rattle.std.proofs.lemmas.Iterator.Consumers.{YieldsList-end}
use Rattle.scenario_file.specs.KeyTexts.{shown_char}
use Rattle.scenario_file.proofs.key_text.first_shown.Goals as goal

pub loop-character-preserved : goal.loop-character-preserved
loop-character-preserved c =
    c.in_ok-push_shown.ensures ∙ ap (λ (text : List ℕ). text ++ shown_char c.in-Some.character) c.loop-character.invariant ∙ flat_map_more shown_char [] c.loop-character.yielded c.in-Some.character

pub returns : goal.returns
returns c =
    let all = YieldsList-end (YieldsList-from_take 64 (YieldsList-from_chars c.args.key.now c.utf8.key (cc)) (cc)) c.loop-character.yielded _ c.loop-character.yielded_by _ _ c.in-None.is c.next.ensures.steps in
    c.loop-character.invariant ∙ ap (λ (cs : List ℕ). flat_map shown_char cs) (sym (map-id c.loop-character.yielded) ∙ all.0)
