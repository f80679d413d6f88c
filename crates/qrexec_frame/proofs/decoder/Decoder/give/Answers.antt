use Rattle.std.proofs.Common.{◌≡◌, ℕ, ◌+◌, ◌-◌, ◌%◌, ◌^◌, List, length, take, drop, sym, ◌∙◌, ap, refl}
use Rattle.std.proofs.lemmas.List.{take_rest, drop-drop}
use Rattle.std.proofs.lemmas.Result.{err_from_is_err_and}
use Rattle.qrexec_frame.specs.Fronts.{made}
use Rattle.qrexec_frame.specs.Decoding.{DecoderState, after_message}
use Rattle.qrexec_frame.proofs.DecodingLaws.{spelled_fits}
use Rattle.qrexec_frame.proofs.GrammarLaws.{front_spelled}
use Rattle.qrexec_frame.proofs.decoder.Decoder.give.Goals as goal

pub returns-in_err-message-in-Ok-Some-clause-answer : goal.returns-in_err-message-in-Ok-Some-clause-answer
returns-in_err-message-in-Ok-Some-clause-answer c = λ sound.
    let p = err_from_is_err_and c.from_residual.result c.from_residual.ensures.1 in
    let body = rw c.in-Ok-Some.field-0-is at c.in-Ok-Some.ensures in
    let left : take (length c.deref.result.now - c.self.inside.given) (drop c.self.inside.given c.deref.result.now) ≡ c.args.self.now.left
    = take_rest c.deref.result.now c.self.inside.given ∙ ap (drop c.self.inside.given) c.deref.ensures.value ∙ ap (λ d. d.left) c.self.view_is in
    let channel : c.self.inside.channel ≡ c.args.self.now.channel = ap (λ d. d.channel) c.self.view_is in
    rw (p.1, p.2) (made c.in-Ok-Some.body.kind c.in-Ok-Some.body.bytes.now, 8 + length c.in-Ok-Some.body.bytes.now, rw (← channel, ← left) body.whole, refl)

pub returns-in_ok-message-in-Ok-Some-clause-answer : goal.returns-in_ok-message-in-Ok-Some-clause-answer
returns-in_ok-message-in-Ok-Some-clause-answer c = λ sound.
    let body = rw c.in-Ok-Some.field-0-is at c.in-Ok-Some.ensures in
    let left : take (length c.deref.result.now - c.self.inside.given) (drop c.self.inside.given c.deref.result.now) ≡ c.args.self.now.left
    = take_rest c.deref.result.now c.self.inside.given ∙ ap (drop c.self.inside.given) c.deref.ensures.value ∙ ap (λ d. d.left) c.self.view_is in
    let channel : c.self.inside.channel ≡ c.args.self.now.channel = ap (λ d. d.channel) c.self.view_is in
    let len : ℕ = 8 + length c.in-Ok-Some.body.bytes.now in
    let moved : List ℕ → DecoderState = λ l. record { channel = c.self.inside.channel; passed = c.self.inside.given + (8 + length c.in-Ok-Some.body.bytes.now); left = l; at = (c.self.inside.at + (8 + length c.in-Ok-Some.body.bytes.now)) % 2 ^ 64; fault = c.self.inside.fault } in (
      8 + length c.in-Ok-Some.body.bytes.now,
      rw (← channel, ← left, c.in_ok-message-in-Ok-Some.ensures.made) body.whole,
      ap moved (sym (drop-drop (8 + length c.in-Ok-Some.body.bytes.now) c.self.inside.given c.self.inside.bytes.items)) ∙ ap (λ d. after_message d (8 + length c.in-Ok-Some.body.bytes.now)) c.self.view_is,
    )

pub returns-in_ok-message-in-Ok-Some-clause-fits : goal.returns-in_ok-message-in-Ok-Some-clause-fits
returns-in_ok-message-in-Ok-Some-clause-fits c =
    let body = rw c.in-Ok-Some.field-0-is at c.in-Ok-Some.ensures in
    let found = front_spelled _ _ _ _ body.whole in
    (rw c.in_ok-message-in-Ok-Some.ensures.made (spelled_fits _ _ _ found.2), c.in_ok-message-in-Ok-Some.ensures.numbers)
