use Rattle.std.proofs.Common.{ℕ, ◌++◌, ◌≤◌, List, length, ap, subst, sym, ◌∙◌}
use Rattle.vchan_protocol.specs.History.Core.{Core, side_of}
use Rattle.vchan_protocol.specs.Lists.ListLaw.{count_got}
use Rattle.step_script.specs.Meaning.Output.{answered, line_text}
use Rattle.step_script.specs.Meaning.Played.{step_refusal, steps_on}
use Rattle.step_script.specs.Parts.Players.{got_front}
use Rattle.step_script.proofs.Parts.DoesLaws.{does_allowed, does_refused, does_steps, does_stop, on_ok_map}
use Rattle.step_script.proofs.player.end_player.EndPlayer.step.Goals as goal

pub returns-in-Some : goal.returns-in-Some
returns-in-Some c =
    on_ok_map c.push_refusal.result c.push_refusal.ensures
    (does_refused c.args.who (λ (core : Core). step_refusal (side_of core c.args.who)) (steps_on c.args.who c.args.most) c.args.page.now c.args.self.now c.args.text.now.items c.push_refusal.new.out.items c.in-Some.why
    (λ core stands. sym c.in-Some.is ∙ c.step_refusal.ensures.refusal core stands))

pub push_answer-requires : goal.push_answer-requires
push_answer-requires c =
    subst (λ (l : List ℕ). count_got c.in-Some-advance.answer ≤ length l) (sym c.as_slice.ensures.value) (c.in-Some-advance.ensures.taken c.requires.known.0 c.requires.known.1).within

pub returns : goal.returns
returns c =
    on_ok_map c.push_answer.result c.push_answer.ensures (λ printed.
    does_allowed c.args.who (λ (core : Core). step_refusal (side_of core c.args.who)) (steps_on c.args.who c.args.most) c.args.page.now c.advance.new.page c.args.self.now c.advance.new.self c.args.text.now.items c.push_answer.new.out.items
    (λ core stands. sym c.in_default.is ∙ c.step_refusal.ensures.refusal core stands)
    (does_stop c.args.who c.args.most c.args.page.now c.advance.new.page c.args.self.now c.advance.new.self c.args.text.now.items c.push_answer.new.out.items c.in-Some-advance.answer (c.step_refusal.ensures.busy c.in_default.is) c.advance.ensures.at
    (λ core h. sym c.in-Some-advance.is ∙ c.advance.ensures.answer core h) c.in-Some-advance.ensures.taken c.advance.ensures.other c.advance.ensures.call
    (printed ∙ ap (λ (l : List ℕ). c.args.text.now.items ++ line_text (answered c.args.who c.advance.new.self.call c.in-Some-advance.answer (got_front c.in-Some-advance.answer l))) c.as_slice.ensures.value)))

pub returns-in_default-advance : goal.returns-in_default-advance
returns-in_default-advance c =
    does_allowed c.args.who (λ (core : Core). step_refusal (side_of core c.args.who)) (steps_on c.args.who c.args.most) c.args.page.now c.advance.new.page c.args.self.now c.advance.new.self c.args.text.now.items c.args.text.now.items
    (λ core stands. sym c.in_default.is ∙ c.step_refusal.ensures.refusal core stands)
    (does_steps c.args.who c.args.most c.args.page.now c.advance.new.page c.args.self.now c.advance.new.self c.args.text.now.items (c.step_refusal.ensures.busy c.in_default.is) c.advance.ensures.at
    (λ core h. sym c.in_default-advance.is ∙ c.advance.ensures.answer core h) c.advance.ensures.other)
