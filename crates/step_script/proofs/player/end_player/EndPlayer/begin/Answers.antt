use Rattle.vchan_protocol.specs.History.Core.{Core}
use Rattle.step_script.specs.Meaning.Played.{begins_call, call_refusal, finished, unless_refused}
use Rattle.step_script.specs.Parts.ScriptLines.{call_with}
use Rattle.step_script.proofs.Parts.DoesLaws.{does_then, known_on, on_ok_map}
use Rattle.step_script.proofs.player.end_player.EndPlayer.begin.Goals as goal

pub enter-requires-clause-known : goal.enter-requires-clause-known
enter-requires-clause-known c =
    known_on c.args.who (finished c.args.who) c.args.page.now c.finish_call.new.page c.args.self.now c.finish_call.new.self c.args.text.now.items c.finish_call.new.text.items c.in_ok-finish_call.ensures.does c.requires.known

pub returns : goal.returns
returns c =
    on_ok_map c.enter.result c.enter.ensures
    (does_then c.args.who (finished c.args.who) (λ (core : Core). unless_refused (call_refusal core c.args.who c.args.call) c.args.who core (begins_call c.args.who (call_with c.args.call c.args.payload.now))) c.args.page.now c.finish_call.new.page c.enter.new.page c.args.self.now
    c.finish_call.new.self c.enter.new.self c.args.text.now.items c.finish_call.new.text.items c.enter.new.text.items c.in_ok-finish_call.ensures.does)
