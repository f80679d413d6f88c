use Rattle.std.proofs.Common.{◌≡◌, Option, Some, sym, ◌∙◌, ap, subst}
use Rattle.std.proofs.lemmas.Option.{none-some, same_Some}
use Rattle.ring_words.specs.declared.page.Role.{Role}
use Rattle.vchan_protocol.specs.declared.call.Answer.{Answer}
use Rattle.vchan_core.specs.declared.plain.Plain.{Plain}
use Rattle.vchan_protocol.specs.History.Core.{Core, plan_left, side_of}
use Rattle.vchan_protocol.specs.History.WholeCall.{alone}
use Rattle.vchan_core.specs.Page.StandsFor.{machine_of}
use Rattle.vchan_core.specs.OneMachine.Phases.{IsIdle}
use Rattle.vchan_core.proofs.WholeCall.RunLaws.{machine_stands}
use Rattle.step_script.specs.declared.player.end_player.EndPlayer.{EndPlayer}
use Rattle.vchan_core.specs.WholeCall.Stepped.{stepped}
use Rattle.step_script.specs.Parts.Players.{IsAt, IsTaken}
use Rattle.step_script.proofs.Meaning.FinishLaws.{stepped_out}
use Rattle.step_script.proofs.player.end_player.EndPlayer.advance_to_answer.Goals as goal

out : (core : Core) (who : Role) (page : Plain) (end_player : EndPlayer) → IsAt core who page end_player → ¬ IsIdle (machine_of page who)
    → stepped 4294967295 core who ≡ ((alone core who (plan_left (side_of core who))).0, Some (alone core who (plan_left (side_of core who))).1)
out core who page end_player h busy = stepped_out core who (machine_of page who) (machine_stands core page who h.stands) busy

pub returns-in-Some-clause-at : goal.returns-in-Some-clause-at
returns-in-Some-clause-at c = λ core h.
    subst (λ (p : Core × Option Answer). IsAt p.0 c.args.who c.advance.new.page c.advance.new.self) (out core c.args.who c.args.page.now c.args.self.now h c.requires.busy) (c.advance.ensures.at core h)

pub returns-in-Some-clause-answer : goal.returns-in-Some-clause-answer
returns-in-Some-clause-answer c = λ core h.
    same_Some _ _ (sym c.in-Some.is ∙ c.advance.ensures.answer core h ∙ ap (λ (p : Core × Option Answer). p.1) (out core c.args.who c.args.page.now c.args.self.now h c.requires.busy))

pub returns-in-Some-clause-taken : goal.returns-in-Some-clause-taken
returns-in-Some-clause-taken c = λ core h.
    subst (λ (p : Core × Option Answer). IsTaken c.in-Some.answer (side_of p.0 c.args.who).trail c.advance.new.self.buffer.items) (out core c.args.who c.args.page.now c.args.self.now h c.requires.busy) (c.in-Some.ensures.taken core h)

pub unreachable-requires : goal.unreachable-requires
unreachable-requires c =
    let core : Core = c.requires.known.0 in
    let h = c.requires.known.1 in
    none-some _ (sym c.in_default.is ∙ c.advance.ensures.answer core h ∙ ap (λ (p : Core × Option Answer). p.1) (out core c.args.who c.args.page.now c.args.self.now h c.requires.busy))
