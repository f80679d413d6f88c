use Rattle.std.proofs.Common.{ℕ, ◌++◌, ◌≤◌, List, length, take, ap, subst, sym, ◌∙◌}
use Rattle.std.specs.Vec.{with_items}
use Rattle.vchan_protocol.specs.Table.Calls.{payload_of}
use Rattle.vchan_protocol.specs.History.Core.{Core}
use Rattle.vchan_protocol.specs.Lists.ListLaw.{count_got}
use Rattle.step_script.specs.declared.player.end_player.EndPlayer.{EndPlayer}
use Rattle.step_script.specs.Meaning.Output.{answered, line_text}
use Rattle.step_script.specs.Meaning.Played.{call_refusal, makes_call}
use Rattle.step_script.specs.Parts.Players.{got_front}
use Rattle.step_script.specs.Parts.ScriptLines.{call_with}
use Rattle.step_script.proofs.Parts.DoesLaws.{does_allowed, does_call, does_refused, on_ok_map, taken_by_call}
use Rattle.step_script.proofs.Parts.EndPlayerLaws.{written_through}
use Rattle.step_script.proofs.player.end_player.EndPlayer.make.Goals as goal

pub returns-in-Some : goal.returns-in-Some
returns-in-Some g c =
    on_ok_map c.push_refusal.result c.push_refusal.ensures
    (does_refused c.args.who (λ (core : Core). call_refusal core c.args.who c.args.call) (makes_call c.args.who (call_with c.args.call c.args.payload.now)) c.args.page.now c.args.self.now c.args.text.now.items c.push_refusal.new.out.items c.in-Some.why
    (λ core stands. sym c.in-Some.is ∙ c.call_refusal.ensures.refusal core stands))

pub push_answer-requires : goal.push_answer-requires
push_answer-requires g c =
    let core : Core = c.requires.known.0 in
    let stands = c.requires.known.1.stands in
    let call = c.run_call-answer in
    let written = written_through call.new.buf c.make_room.new.self.buffer.items c.make_room.new.self.buffer.len (call.auto.buf ∙ c.as_mut_slice.ensures.len) in
    let taken = taken_by_call core c.args.who c.args.call (take (payload_of c.args.call) c.args.payload.now) c.as_mut_slice.result.now call.new.buf call.result (call.ensures.answer core stands) (call.ensures.buffer core stands) in
    subst (λ (l : List ℕ). count_got call.result ≤ length l) (sym (c.as_slice.ensures.value ∙ written)) taken.within

pub returns : goal.returns
returns g c =
    let call = c.run_call-answer in
    let seen = call_with c.args.call c.args.payload.now in
    let written = written_through call.new.buf c.make_room.new.self.buffer.items c.make_room.new.self.buffer.len (call.auto.buf ∙ c.as_mut_slice.ensures.len) in
    let kept : EndPlayer = record { call = c.make_room.new.self.call; payload = c.make_room.new.self.payload; buffer = with_items c.make_room.new.self.buffer call.new.buf } in
    on_ok_map c.push_answer.result c.push_answer.ensures (λ printed.
    does_allowed c.args.who (λ (core : Core). call_refusal core c.args.who c.args.call) (makes_call c.args.who seen) c.args.page.now call.new.self c.args.self.now kept c.args.text.now.items c.push_answer.new.out.items
    (λ core stands. sym c.in_default.is ∙ c.call_refusal.ensures.refusal core stands)
    (does_call c.args.who seen c.args.page.now call.new.self c.args.self.now kept c.as_mut_slice.result.now c.args.text.now.items c.push_answer.new.out.items call.result c.requires.fits.payload
    call.ensures.stands call.ensures.answer (λ core stands. written ∙ call.ensures.buffer core stands)
    call.ensures.idle call.ensures.other
    (printed ∙ ap (λ (l : List ℕ). c.args.text.now.items ++ line_text (answered c.args.who seen.call call.result (got_front call.result l))) c.as_slice.ensures.value)))
