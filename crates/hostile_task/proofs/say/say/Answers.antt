-- A call of the end is one turn more of the saying.
use Rattle.std.proofs.Common.{◌+◌, ◌<◌, nat_eq, length, ◌++◌, inl, inr, refl, arith}
use Rattle.std.proofs.lemmas.List.{length-drop, take_rest}
use Rattle.std.proofs.lemmas.Bool.{eqb-true}
use Rattle.std.proofs.lemmas.Bool.Decides.{nat_tests}
use Rattle.hostile_task.specs.declared.progress.Progress.{Progress}
use Rattle.hostile_task.proofs.SayLaws.{says_turn, says_or_said}
use Rattle.hostile_task.proofs.say.say.Goals as goal

pub returns-then-progress-words-clause-says : goal.returns-then-progress-words-clause-says
returns-then-progress-words-clause-says c v events orders so_far =
    let p : Progress = c.args.progress.now in
    let words = c.args.words.now in
    let next : Progress = record { acts = p.acts; turns = p.turns + 1; said = p.said + c.say.result; own = c.say.new.own } in
    let some : p.said < length words = grind (arith, nat_tests, length-drop p.said words, c.if-is_empty.false, c.if-is_empty.ensures, c.requires.within) in
    let turn = says_turn v words p next events c.args.control.now c.say.new.self _ c.say.ensures.events.0 c.say.result so_far orders c.requires.role some (take_rest words p.said) c.say.ensures.events.1 c.say.ensures.page c.say.ensures.events.2 c.say.ensures.moved refl refl in
    record { more = turn.0; end_is = turn.1; so_far = says_or_said (nat_eq next.said (length words)) v words next (events ++ turn.0) turn.2 (omega (arith, c.requires.turns)) (λ is. inl (omega (arith, eqb-true next.said (length words) is))) }

pub returns-else-progress-words-clause-says : goal.returns-else-progress-words-clause-says
returns-else-progress-words-clause-says c v events orders so_far =
    let p : Progress = c.args.progress.now in
    let words = c.args.words.now in
    let next : Progress = record { acts = p.acts; turns = p.turns + 1; said = p.said + c.say.result; own = c.say.new.own } in
    let some : p.said < length words = grind (arith, nat_tests, length-drop p.said words, c.if-is_empty.false, c.if-is_empty.ensures, c.requires.within) in
    let turn = says_turn v words p next events c.args.control.now c.say.new.self _ c.say.ensures.events.0 c.say.result so_far orders c.requires.role some (take_rest words p.said) c.say.ensures.events.1 c.say.ensures.page c.say.ensures.events.2 c.say.ensures.moved refl refl in
    record { more = turn.0; end_is = turn.1; so_far = says_or_said (nat_eq next.turns 1024) v words next (events ++ turn.0) turn.2 (omega (arith, c.requires.turns)) (λ is. inr (eqb-true next.turns 1024 is)) }
