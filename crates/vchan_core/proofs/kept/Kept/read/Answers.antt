use Rattle.std.proofs.Common.{◌≡◌, Some, Option, sym, ap, ◌∙◌}
use Rattle.ring_words.specs.Rings.{number_of}
use Rattle.vchan_core.specs.declared.machine.Machine.{Machine}
use Rattle.vchan_core.specs.declared.kept.Kept.{Kept}
use Rattle.vchan_core.specs.OneMachine.Keeping.{role_told, state_told, phase_at_told, answer_told}
use Rattle.vchan_core.proofs.OneMachine.KeepLaws.{role_back, state_back, place_back, same_orders, same_machine}
use Rattle.vchan_core.proofs.kept.Kept.read.Goals as goal

pub returns : goal.returns
returns c = record {
  again = λ machine short is.
      let role_is : Some c.in_ok-role.role ≡ Some machine.role = c.in_ok-role.ensures ∙ (ap (λ (k : Kept). role_told k.role) (sym is) ∙ role_back machine.role) in
      let state_is : Some c.in_ok-state.state ≡ Some machine.state = c.in_ok-state.ensures ∙ (ap (λ (k : Kept). state_told k.state) (sym is) ∙ state_back machine.state) in
      let phase_is : Some c.in_ok-phase.phase ≡ Some machine.phase = (c.in_ok-phase.ensures ∙ ap (λ (a : Option _). phase_at_told c.args.self.now.phase c.args.self.now.first c.args.self.now.second a) c.answer.ensures)
      ∙ (ap (λ (k : Kept). phase_at_told k.phase k.first k.second (answer_told k.answer k.answer_first k.answer_second)) (sym is) ∙ place_back machine.phase short) in
      let role : c.in_ok-role.role ≡ machine.role = cc in
      let state : c.in_ok-state.state ≡ machine.state = cc in
      let phase : c.in_ok-phase.phase ≡ machine.phase = cc in
      let left : number_of c.in-Ok.orders.left ≡ number_of machine.orders.left = c.in-Ok.ensures.ok.0 ∙ ap (λ (k : Kept). k.left_order) (sym is) in
      let right : number_of c.in-Ok.orders.right ≡ number_of machine.orders.right = c.in-Ok.ensures.ok.1 ∙ ap (λ (k : Kept). k.right_order) (sym is) in
      ap (λ (m : Machine). Some m) (same_machine machine _ _ _ _ _ _ role (same_orders _ _ left right) state (ap (λ (k : Kept). k.prod) (sym is)) (ap (λ (k : Kept). k.cons) (sym is)) phase);
}
