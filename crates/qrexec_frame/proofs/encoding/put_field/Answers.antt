use Rattle.std.proofs.Common.{◌≡◌, ℕ, refl, ◌-◌, ◌≤◌, length, replicate, append_assoc, arith}
use Rattle.std.proofs.lemmas.List.{take-replicate, drop-replicate}
use Rattle.std.specs.Prelude.{slice_range}
use Rattle.qrexec_frame.proofs.encoding.put_field.Goals as goal

-- a part of some NULs is as many NULs
nuls_within : (from to : ℕ) → to ≤ 64 → slice_range {X = ℕ} (replicate 64 0) from to ≡ replicate (to - from) 0
nuls_within from to within =
    let less : to - from ≤ 64 - from = omega arith in
    rw (drop-replicate {X = ℕ} from 64 0, take-replicate {X = ℕ} (to - from) (64 - from) 0 less) refl

pub returns-clause-items : goal.returns-clause-items
returns-clause-items c =
    let nuls = nuls_within (length c.bytes-text.result.now) c.args.len c.requires.field in
    let first = c.put.ensures.items in
    let second = c.put-2.ensures.items in
    let text = c.bytes-text.ensures.bytes in
    rw (second, first) (rw nuls (rw text (append_assoc c.args.out.now.items _ _)))
