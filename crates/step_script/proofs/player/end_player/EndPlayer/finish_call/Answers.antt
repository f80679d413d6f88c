use Rattle.std.proofs.Common.{ℕ, ◌≤◌, ◌++◌, List, length, ap, subst, sym, ◌∙◌}
use Rattle.std.proofs.lemmas.Bool.{false≢true}
use Rattle.vchan_core.specs.declared.machine.Machine.{Machine}
use Rattle.vchan_protocol.specs.declared.side.Begun.{Begun}
use Rattle.vchan_protocol.specs.Lists.ListLaw.{count_got}
use Rattle.vchan_core.specs.Page.StandsFor.{machine_of}
use Rattle.vchan_core.specs.OneMachine.Phases.{IsIdle}
use Rattle.std.proofs.Common.{Option}
use Rattle.step_script.specs.Meaning.Output.{answered, line_text}
use Rattle.step_script.specs.Meaning.Played.{finished, finishes_call}
use Rattle.step_script.specs.Parts.Players.{got_front}
use Rattle.step_script.proofs.Parts.DoesLaws.{does_finish, does_quiet, idle_side, on_ok_from, on_ok_map}
use Rattle.step_script.proofs.player.end_player.EndPlayer.finish_call.Goals as goal

pub push_answer-requires : goal.push_answer-requires
push_answer-requires c =
    subst (λ (l : List ℕ). count_got c.advance_to_answer-answer.result ≤ length l) (sym c.as_slice.ensures.value) (c.advance_to_answer-answer.ensures.taken c.requires.known.0 c.requires.known.1).within

pub returns-clause-does : goal.returns-clause-does
returns-clause-does c =
    let call = c.advance_to_answer-answer in
    let busy : ¬ IsIdle (machine_of c.args.page.now c.args.who) =
    λ idle. false≢true (sym c.if-idle.false ∙ c.idle.ensures.1 (subst (λ (m : Machine). IsIdle m) (sym c.machine.ensures) idle)) in
    on_ok_map c.push_answer.result c.push_answer.ensures (λ printed.
    does_finish c.args.who c.args.page.now call.new.page c.args.self.now call.new.self c.args.text.now.items c.push_answer.new.out.items call.result busy call.ensures.at call.ensures.answer call.ensures.taken call.ensures.other call.ensures.call
    (printed ∙ ap (λ (l : List ℕ). c.args.text.now.items ++ line_text (answered c.args.who call.new.self.call call.result (got_front call.result l))) c.as_slice.ensures.value))

pub returns-clause-idle : goal.returns-clause-idle
returns-clause-idle c = on_ok_from c.push_answer.result c.advance_to_answer-answer.ensures.idle

pub returns-then-idle-clause-does : goal.returns-then-idle-clause-does
returns-then-idle-clause-does c =
    let idle : IsIdle (machine_of c.args.page.now c.args.who) = subst (λ (m : Machine). IsIdle m) c.machine.ensures (c.idle.ensures.0 c.if-idle.true) in
    does_quiet c.args.who (finished c.args.who) c.args.page.now c.args.self.now c.args.text.now.items (λ core stands.
    ap (λ (call : Option Begun). finishes_call c.args.who call core) (idle_side core c.args.who c.args.page.now stands idle))
