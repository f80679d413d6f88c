use Rattle.std.proofs.Common.{arith}
use Rattle.std.proofs.lemmas.Result.{err_from_is_err_and}
use Rattle.scenario_file.proofs.ReadLaws.{all_read, item_read, item_refused, pushed_all, pushed_length, pushed_numbered}
use Rattle.scenario_file.specs.Scenario.{CallFits}
use Rattle.scenario_file.specs.Tables.{next_call}
use Rattle.scenario_file.proofs.NumberLaws.{rises_numbered}
use Rattle.scenario_file.proofs.calls.read_items.Goals as goal

pub returns-in_err-call-clause-calls : goal.returns-in_err-call-clause-calls
returns-in_err-call-clause-calls c =
    let p = err_from_is_err_and c.from_residual-in_err-call.result c.from_residual-in_err-call.ensures.1 in
    let l = c.loop-item in
    rw (p.1, p.2)
    (item_refused (next_call c.args.domains.now) l.calls.items c.deref.result.now c.args.items.now l.item-index c.item-item.result _ c.in_err-call.field-0.0
    c.loop-item-test.true c.item-item.is c.deref.ensures.value l.invariant.0 c.in_err-call.ensures.call)

pub loop-item-preserved : goal.loop-item-preserved
loop-item-preserved c =
    let l = c.loop-item in
    let pushed = c.in_ok-push.ensures.items in (
      item_read (next_call c.args.domains.now) l.calls.items c.deref.result.now _ c.args.items.now l.item-index c.item-item.result c.in_ok-call.call _
          c.loop-item-test.true c.item-item.is c.deref.ensures.value pushed l.invariant.0 c.in_ok-call.ensures.call,
      pushed_length l.calls.items _ c.in_ok-call.call l.item-index pushed l.invariant.1,
      pushed_all (CallFits c.args.domains.now) l.calls.items _ c.in_ok-call.call pushed l.invariant.2 c.in_ok-call.ensures.fits,
      pushed_numbered l.calls.items c.deref.result.now _ c.in_ok-call.call c.deref.ensures.value pushed l.invariant.3 c.in_ok-call.ensures.number,
    )

pub returns-clause-calls : goal.returns-clause-calls
returns-clause-calls c =
    let l = c.loop-item in
    all_read (next_call c.args.domains.now) l.calls.items c.args.items.now l.item-index _ c.loop-item-test.false l.invariant.0

pub returns-clause-rising : goal.returns-clause-rising
returns-clause-rising c = rises_numbered 0 1 c.loop-item.calls.items (omega arith) c.loop-item.invariant.3
