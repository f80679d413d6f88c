use Rattle.std.proofs.Common.{map, string_bytes, ap, sym, ◌∙◌}
use Rattle.scenario_file.specs.Checks.{known_keys}
use Rattle.scenario_file.proofs.ReadLaws.{keys_listed}
use Rattle.scenario_file.proofs.keys.check_keys.Goals as goal

pub loop-key-init : goal.loop-key-init
loop-key-init c =
    let left = c.into_iter-key-iterator.ensures.into_iter_gives ∙ c.keys-key-items.ensures.rest in
    ap (known_keys c.args.section c.args.hostile) (keys_listed c.args.table.now.entries ∙ ap (map string_bytes) (sym left))
