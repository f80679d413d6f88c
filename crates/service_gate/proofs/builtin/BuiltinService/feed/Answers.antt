use Rattle.std.proofs.Common.{◌++◌, ◌∙◌, ap, refl}
use Rattle.service_gate.proofs.Feeding.{silent_feeds, count_owed, first_feeds, split_feeds, first_to_stderr, first_to_stdout}
use Rattle.service_gate.proofs.builtin.BuiltinService.feed.Goals as goal
use Rattle.service_gate.proofs.builtin.BuiltinService.feed.Goals.{then-to_stderr+in_ok-append_in_turn-in-Split, else-to_stderr+in_ok-append_in_turn-in-Split-2}

pub returns-in-Count-clause-ok : goal.returns-in-Count-clause-ok
returns-in-Count-clause-ok c = rw c.in-Count.is (silent_feeds _ _ _ _ _ (count_owed c.in-Count.taken c.args.piece.now))

pub returns-in-Exit-clause-ok : goal.returns-in-Exit-clause-ok
returns-in-Exit-clause-ok c = rw c.in-Exit.is (silent_feeds _ _ _ _ _ (λ more. refl))

pub returns-in_ok-left-in-First-clause-ok : goal.returns-in_ok-left-in-First-clause-ok
returns-in_ok-left-in-First-clause-ok c =
    let gave = c.in_ok-left-in-First.ensures.ok in
    rw (c.in-First.is, gave.0, gave.1) (first_feeds c.in-First.left c.args.piece.now c.args.out.now.items c.args.err.now.items)

pub returns-after-to_stderr-clause-ok : goal.returns-after-to_stderr-clause-ok
returns-after-to_stderr-clause-ok c = elim c.if-to_stderr.branch [
  | then-to_stderr+in_ok-append_in_turn-in-Split w ↦
      let gave = w.in_ok-append_in_turn-in-Split.ensures in
      let turn = first_to_stderr c.in-Split.to_stderr c.args.piece.now w.if-to_stderr.true in
      split_feeds c.args.self.now.state c.in-Split.to_stderr c.args.piece.now c.args.out.now.items _ c.args.err.now.items _ c.in-Split.is
      (ap (λ v. v.items) w.out-is ∙ gave.second ∙ ap (λ l. c.args.out.now.items ++ l) turn.0)
      (ap (λ v. v.items) w.err-is ∙ gave.first ∙ ap (λ l. c.args.err.now.items ++ l) turn.1)
  | else-to_stderr+in_ok-append_in_turn-in-Split-2 w ↦
      let gave = w.in_ok-append_in_turn-in-Split-2.ensures in
      let turn = first_to_stdout c.in-Split.to_stderr c.args.piece.now w.if-to_stderr.false in
      split_feeds c.args.self.now.state c.in-Split.to_stderr c.args.piece.now c.args.out.now.items _ c.args.err.now.items _ c.in-Split.is
      (ap (λ v. v.items) w.out-is ∙ gave.first ∙ ap (λ l. c.args.out.now.items ++ l) turn.0)
      (ap (λ v. v.items) w.err-is ∙ gave.second ∙ ap (λ l. c.args.err.now.items ++ l) turn.1)
]
