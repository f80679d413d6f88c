use Rattle.std.proofs.Common.{◌≡◌, ℕ, ◌+◌, ◌-◌, ◌≢◌, subst, inl, inr, sym, ap, arith, take, drop}
use Rattle.qrexec_frame.specs.declared.fault.FrameFault.TheVariants as frame
use Rattle.qrexec_frame.specs.Grammar.{last_byte, NoNul, HasHeader, IsInRange}
use Rattle.qrexec_frame.proofs.FrontLaws.{IsEnded, front_no_header, front_no_body, front_no_nul, front_whole, length_body, whole_offset}
use Rattle.qrexec_frame.proofs.front.Body.at_front.Goals.{else-has_line-via-then-has_line+else-body-ne0, else-has_line-via-else-has_line}
use Rattle.qrexec_frame.proofs.front.Body.at_front.Goals as goal

-- the length of a body from where it begins and ends
eight_less : (len : ℕ) → (8 + len) - 8 ≡ len
eight_less len = omega arith

pub returns-then-bytes-lt-HEADER : goal.returns-then-bytes-lt-HEADER
returns-then-bytes-lt-HEADER c = front_no_header c.args.channel c.args.bytes.now c.if-bytes-lt-HEADER.true

pub returns-then-bytes-end : goal.returns-then-bytes-end
returns-then-bytes-end c =
    let header : HasHeader c.args.channel c.args.bytes.now c.u32_at-kind.result c.u32_at-len.result c.in_ok-row.row
    = record { there = c.if-bytes-lt-HEADER.false; number_is = c.u32_at-kind.ensures; len_is = c.u32_at-len.ensures; kind_is = c.in_ok-row.ensures.0 } in
    let range : IsInRange c.in_ok-row.row c.u32_at-len.result = c.in_ok-row.ensures.1 in
    front_no_body c.args.channel c.args.bytes.now _ _ c.in_ok-row.row header range c.if-bytes-end.true

pub returns-then-body-ne0 : goal.returns-then-body-ne0
returns-then-body-ne0 c =
    let header : HasHeader c.args.channel c.args.bytes.now c.u32_at-kind.result c.u32_at-len.result c.in_ok-row.row
    = record { there = c.if-bytes-lt-HEADER.false; number_is = c.u32_at-kind.ensures; len_is = c.u32_at-len.ensures; kind_is = c.in_ok-row.ensures.0 } in
    let range : IsInRange c.in_ok-row.row c.u32_at-len.result = c.in_ok-row.ensures.1 in
    let Unended : ℕ → Type 0 = λ n. last_byte (take n (drop 8 c.args.bytes.now)) ≢ 0 in
    let unended : last_byte (take c.u32_at-len.result (drop 8 c.args.bytes.now)) ≢ 0 = subst Unended (eight_less c.u32_at-len.result) c.if-body-ne0.true in (
      NoNul c.u32_at-kind.result,
      front_no_nul c.args.channel c.args.bytes.now _ _ c.in_ok-row.row header range c.if-bytes-end.false (sym c.if-has_line.ensures) unended,
      ap (λ at. frame.NoNul at c.u32_at-kind.result) (whole_offset c.args.at (omega arith)),
    )

pub returns : goal.returns
returns c =
    let header : HasHeader c.args.channel c.args.bytes.now c.u32_at-kind.result c.u32_at-len.result c.in_ok-row.row
    = record { there = c.if-bytes-lt-HEADER.false; number_is = c.u32_at-kind.ensures; len_is = c.u32_at-len.ensures; kind_is = c.in_ok-row.ensures.0 } in
    let range : IsInRange c.in_ok-row.row c.u32_at-len.result = c.in_ok-row.ensures.1 in
    let size = length_body c.args.bytes.now c.u32_at-len.result c.if-bytes-end.false in
    let Nul : ℕ → Type 0 = λ n. last_byte (take n (drop 8 c.args.bytes.now)) ≡ 0 in
    let ended : IsEnded c.in_ok-row.row (take c.u32_at-len.result (drop 8 c.args.bytes.now)) = elim c.else-has_line.branch [
      | else-has_line-via-then-has_line+else-body-ne0 w ↦ inr (subst Nul (eight_less c.u32_at-len.result) w.if-body-ne0.false)
      | else-has_line-via-else-has_line w ↦ inl (sym w.if-has_line.ensures)
    ] in
    let whole = front_whole c.args.channel c.args.bytes.now _ _ c.in_ok-row.row header range c.if-bytes-end.false ended in
    let same : take ((8 + c.u32_at-len.result) - 8) (drop 8 c.args.bytes.now) ≡ take c.u32_at-len.result (drop 8 c.args.bytes.now) = ap (λ n. take n (drop 8 c.args.bytes.now)) (eight_less c.u32_at-len.result) in
    record {
      least = rw (same, size) range.least;
      most = rw (same, size) range.most;
      within = rw (same, size) c.if-bytes-end.false;
      whole = rw (same, size) whole;
    }
