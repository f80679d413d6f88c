use Rattle.std.proofs.Common.{◌≡◌, ℕ, List, length, refl, ◌∙◌, ap, subst, sym}
use Rattle.std.specs.Vec.{with_items}
use Rattle.vchan_protocol.specs.History.Core.{side_of}
use Rattle.vchan_core.specs.Page.StandsFor.{HasPayload}
use Rattle.vchan_core.specs.WholeCall.Stepped.{Advances}
use Rattle.step_script.specs.declared.player.end_player.EndPlayer.{EndPlayer}
use Rattle.step_script.proofs.Parts.EndPlayerLaws.{DoesAdvance, answer_advance, at_advance, if_some, taken_advance, written_through}
use Rattle.step_script.proofs.player.end_player.EndPlayer.advance.Goals as goal

pub advance-requires-clause-payload : goal.advance-requires-clause-payload
advance-requires-clause-payload c = rw c.as_slice.ensures.value c.requires.known.1.held.payload_left

pub advance-requires-clause-buf : goal.advance-requires-clause-buf
advance-requires-clause-buf c = rw c.as_mut_slice.ensures.value c.requires.known.1.held.buffer_left

-- what was kept, with the buffer as the events left it
abbrev kept : (c : goal.After-self-1) → EndPlayer
kept c = record { call = c.args.self.now.call; payload = c.args.self.now.payload; buffer = with_items c.args.self.now.buffer c.advance.new.buf }

did : (c : goal.After-self-1) → DoesAdvance c.args.who c.args.most c.args.page.now c.advance.new.self c.args.self.now (kept c) c.advance.result
did c =
    let same : c.as_mut_slice.result.now ≡ c.args.self.now.buffer.items = c.as_mut_slice.ensures.value in
    let source : c.as_slice.result.now ≡ c.args.self.now.payload.items = c.as_slice.ensures.value in
    let written : (kept c).buffer.items ≡ c.advance.new.buf = written_through c.advance.new.buf c.args.self.now.buffer.items c.args.self.now.buffer.len (c.advance.auto.buf ∙ c.as_mut_slice.ensures.len) in
    record {
      busy = c.requires.busy;
      advances = λ core stands has.
          subst (λ (l : List ℕ). Advances core c.args.who c.args.most c.advance.new.self c.args.self.now.buffer.items l c.advance.result) (sym written)
          (subst (λ (l : List ℕ). Advances core c.args.who c.args.most c.advance.new.self l c.advance.new.buf c.advance.result) same
          (c.advance.ensures.advances core stands (subst (λ (l : List ℕ). HasPayload (side_of core c.args.who) l) (sym source) has)));
      idle = c.advance.ensures.idle;
      payload_left = c.advance.ensures.payload_left;
      buffer_left = c.advance.ensures.buffer_left;
      long = ap (λ (l : List ℕ). length l) written ∙ c.advance.auto.buf ∙ ap (λ (l : List ℕ). length l) same;
      call = refl;
      payload = refl;
    }

pub returns-clause-at : goal.returns-clause-at
returns-clause-at c = λ core h. at_advance core c.args.who c.args.most c.args.page.now c.advance.new.self c.args.self.now (kept c) c.advance.result h (did c)

pub returns-clause-answer : goal.returns-clause-answer
returns-clause-answer c = λ core h. answer_advance core c.args.who c.args.most c.args.page.now c.advance.new.self c.args.self.now (kept c) c.advance.result h (did c)

pub returns-clause-taken : goal.returns-clause-taken
returns-clause-taken c =
    if_some c.advance.result _ (λ answer is core h. taken_advance core c.args.who c.args.most c.args.page.now c.advance.new.self c.args.self.now (kept c) c.advance.result h (did c) answer is)
