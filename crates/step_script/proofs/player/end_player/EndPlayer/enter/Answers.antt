use Rattle.std.proofs.Common.{◌≡◌, ℕ, List, length, refl, ap, sym, ◌∙◌, arith}
use Rattle.vchan_protocol.specs.History.Core.{Core}
use Rattle.step_script.specs.declared.player.end_player.EndPlayer.{EndPlayer}
use Rattle.step_script.specs.Meaning.Played.{begins_call, call_refusal}
use Rattle.step_script.specs.Parts.ScriptLines.{call_with}
use Rattle.step_script.proofs.Parts.DoesLaws.{does_allowed, does_begin, does_refused, on_ok_map}
use Rattle.step_script.proofs.player.end_player.EndPlayer.enter.Goals as goal

pub returns-in-Some : goal.returns-in-Some
returns-in-Some c =
    on_ok_map c.push_refusal.result c.push_refusal.ensures
    (does_refused c.args.who (λ (core : Core). call_refusal core c.args.who c.args.call) (begins_call c.args.who (call_with c.args.call c.args.payload.now)) c.args.page.now c.args.self.now c.args.text.now.items c.push_refusal.new.out.items c.in-Some.why
    (λ core stands. sym c.in-Some.is ∙ c.call_refusal.ensures.refusal core stands))

pub returns : goal.returns
returns c =
    let seen = call_with c.args.call c.args.payload.now in
    let kept : EndPlayer = c.keep.new.self in
    let value : kept.payload.items ≡ c.args.payload.now = c.in_ok-keep.ensures.payload in
    let room : length kept.buffer.items ≡ length c.make_room.new.self.buffer.items = rw c.in_ok-keep.ensures.buffer refl in
    does_allowed c.args.who (λ (core : Core). call_refusal core c.args.who c.args.call) (begins_call c.args.who seen) c.args.page.now c.begin.new.self c.args.self.now kept c.args.text.now.items c.args.text.now.items
    (λ core stands. sym c.in_default.is ∙ c.call_refusal.ensures.refusal core stands)
    (does_begin c.args.who seen c.args.page.now c.begin.new.self c.args.self.now kept c.args.text.now.items c.requires.fits.payload c.begin.ensures.stands
    (omega (arith, c.begin.ensures.payload_left, c.requires.fits.payload, ap (λ (l : List ℕ). length l) value)) (omega (arith, c.begin.ensures.buffer_left, c.in_ok-make_room.ensures.room, room)) c.in_ok-keep.ensures.call value c.begin.ensures.other)
