use Rattle.std.proofs.Common.{◌≡◌, ℕ, ◌+◌, ◌-◌, ◌%◌, ◌^◌, List, length, take, drop, sym, ◌∙◌, ap, refl, rules}
use Rattle.std.proofs.lemmas.List.{take_rest, drop-drop}
use Rattle.qrexec_frame.specs.Decoding.{DecoderState, after_message}
use Rattle.qrexec_frame.proofs.decoder.Decoder.next_body.Goals as goal

pub returns-in-Ok-Some : goal.returns-in-Ok-Some
returns-in-Ok-Some c =
    let body = rw c.in-Ok-Some.field-0-is at c.in-Ok-Some.ensures in
    let left : take (length c.deref.result.now - c.self.inside.given) (drop c.self.inside.given c.deref.result.now) ≡ c.args.self.now.left
    = take_rest c.deref.result.now c.self.inside.given ∙ ap (drop c.self.inside.given) c.deref.ensures.value ∙ ap (λ d. d.left) c.self.view_is in
    let channel : c.self.inside.channel ≡ c.args.self.now.channel = ap (λ d. d.channel) c.self.view_is in
    let len : ℕ = 8 + length c.in-Ok-Some.body.bytes.now in
    let moved : List ℕ → DecoderState = λ l. record { channel = c.self.inside.channel; passed = c.self.inside.given + len; left = l; at = (c.self.inside.at + len) % 2 ^ 64; fault = c.self.inside.fault } in
    let after : moved (drop (c.self.inside.given + len) c.self.inside.bytes.items) ≡ after_message c.args.self.now len
    = ap moved (sym (drop-drop len c.self.inside.given c.self.inside.bytes.items)) ∙ ap (λ d. after_message d len) c.self.view_is in (
      (refl, λ _. tt, after),
      record {
        after = tt;
        answer = λ sound. rw (← channel, ← left) body;
        faulted = search rules;
      },
    )
