-- The task begins with nothing decided, heard or sent.
use Rattle.std.proofs.Common.{List, ℕ, refl, subst, ◌∙◌, arith}
use Rattle.std.proofs.lemmas.List.{length-map}
use Rattle.broker_task.specs.Moving.{line_of}
use Rattle.broker_task.specs.Starting.{AreStarted}
use Rattle.broker_task.proofs.StartLaws.{ready_new, given_new, started_count}
use Rattle.broker_task.proofs.task.BrokerTask.new.Goals as goal

pub invariant_of-result : goal.invariant_of-result
invariant_of-result c =
    let are = subst (λ (l : List ℕ). AreStarted 1 l c.args.controls.items c.daemons_of-daemons.result.items) c.as_slice.ensures.value c.daemons_of-daemons.ensures in (
      ready_new (record { broker = c.args.broker; daemons = c.daemons_of-daemons.result }) c.args.awaited.items c.args.controls.items c.requires.first c.requires.names c.requires.awaited are,
      omega (arith, c.in-Ok.ensures.len, c.in-Ok.buf.ok.0),
      c.in-Ok-with_capacity.ensures.items,
      omega (arith, started_count 1 c.args.awaited.items c.args.controls.items c.daemons_of-daemons.result.items are, c.requires.awaited, c.requires.controls, c.in-Ok-with_capacity.ensures.capacity, c.len.ensures, c.args.controls.ok.0),
    )

pub returns-clause-lines : goal.returns-clause-lines
returns-clause-lines c =
    let ds = c.daemons_of-daemons.result.items in
    let are = subst (λ (l : List ℕ). AreStarted 1 l c.args.controls.items ds) c.as_slice.ensures.value c.daemons_of-daemons.ensures in
    length-map ds line_of ∙ started_count 1 c.args.awaited.items c.args.controls.items ds are ∙ c.requires.awaited

pub returns-clause-made : goal.returns-clause-made
returns-clause-made c =
    let are = subst (λ (l : List ℕ). AreStarted 1 l c.args.controls.items c.daemons_of-daemons.result.items) c.as_slice.ensures.value c.daemons_of-daemons.ensures in
    given_new (record { broker = c.args.broker; daemons = c.daemons_of-daemons.result }) c.args.awaited.items c.args.controls.items are

pub returns-clause-new : goal.returns-clause-new
returns-clause-new c = record {
  switchboard = record { broker = c.args.broker; daemons = c.daemons_of-daemons.result };
  seen = refl;
  undecided = c.requires.first;
  awaited = c.args.awaited.items;
  controls = c.args.controls.items;
  started = subst (λ (l : List ℕ). AreStarted 1 l c.args.controls.items c.daemons_of-daemons.result.items) c.as_slice.ensures.value c.daemons_of-daemons.ensures;
}
