use Rattle.vchan_top.proofs.work.run.Goals as goal

pub returns-in-Ok-run_text-clause-prints : goal.returns-in-Ok-run_text-clause-prints
returns-in-Ok-run_text-clause-prints g c =
    rw (c.of.ensures.0, c.of.ensures.1, c.of.ensures.2)
    (record {
      scenario = c.in-Ok.scenario;
      reads = c.in-Ok.ensures.scenario;
      lawful = c.in-Ok-run_text.ensures.lawful;
      prints = c.in-Ok-run_text.ensures.text;
    })
