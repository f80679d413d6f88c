use Rattle.std.proofs.Common.{sym, ◌∙◌}
use Rattle.vchan_protocol.specs.History.Core.{Core, side_of}
use Rattle.step_script.specs.Meaning.Played.{finished, step_refusal}
use Rattle.step_script.proofs.Parts.DoesLaws.{does_allowed, does_refused, on_ok_map}
use Rattle.step_script.proofs.player.end_player.EndPlayer.finish.Goals as goal

pub returns-in-Some : goal.returns-in-Some
returns-in-Some c =
    on_ok_map c.push_refusal.result c.push_refusal.ensures
    (does_refused c.args.who (λ (core : Core). step_refusal (side_of core c.args.who)) (finished c.args.who) c.args.page.now c.args.self.now c.args.text.now.items c.push_refusal.new.out.items c.in-Some.why
    (λ core stands. sym c.in-Some.is ∙ c.step_refusal.ensures.refusal core stands))

pub returns : goal.returns
returns c =
    on_ok_map c.finish_call.result c.finish_call.ensures.does
    (does_allowed c.args.who (λ (core : Core). step_refusal (side_of core c.args.who)) (finished c.args.who) c.args.page.now c.finish_call.new.page c.args.self.now c.finish_call.new.self c.args.text.now.items c.finish_call.new.text.items
    (λ core stands. sym c.in_default.is ∙ c.step_refusal.ensures.refusal core stands))
