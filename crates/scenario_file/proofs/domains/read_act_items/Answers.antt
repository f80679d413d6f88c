use Rattle.std.proofs.lemmas.Result.{err_from_is_err_and}
use Rattle.scenario_file.proofs.ReadLaws.{all_read, item_read, item_refused, pushed_all, pushed_length}
use Rattle.scenario_file.specs.Acts.{ActFits}
use Rattle.scenario_file.specs.Tables.{next_act}
use Rattle.scenario_file.proofs.domains.read_act_items.Goals as goal

pub returns-in_err-act-clause-acts : goal.returns-in_err-act-clause-acts
returns-in_err-act-clause-acts c =
    let p = err_from_is_err_and c.from_residual-in_err-act.result c.from_residual-in_err-act.ensures.1 in
    let l = c.loop-item in
    rw (p.1, p.2)
    (item_refused (next_act c.args.number) l.acts.items c.deref.result.now c.args.items.now l.item-index c.item-item.result _ c.in_err-act.field-0.0
    c.loop-item-test.true c.item-item.is c.deref.ensures.value l.invariant.0 c.in_err-act.ensures.act)

pub loop-item-preserved : goal.loop-item-preserved
loop-item-preserved c =
    let l = c.loop-item in
    let pushed = c.in_ok-push.ensures.items in (
      item_read (next_act c.args.number) l.acts.items c.deref.result.now _ c.args.items.now l.item-index c.item-item.result c.in_ok-act.act _
          c.loop-item-test.true c.item-item.is c.deref.ensures.value pushed l.invariant.0 c.in_ok-act.ensures.act,
      pushed_length l.acts.items _ c.in_ok-act.act l.item-index pushed l.invariant.1,
      pushed_all ActFits l.acts.items _ c.in_ok-act.act pushed l.invariant.2 c.in_ok-act.ensures.fits,
    )

pub returns-clause-acts : goal.returns-clause-acts
returns-clause-acts c =
    let l = c.loop-item in
    all_read (next_act c.args.number) l.acts.items c.args.items.now l.item-index _ c.loop-item-test.false l.invariant.0
