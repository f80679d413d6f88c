use Rattle.std.proofs.Common.{ap, arith, rules, sym, ◌∙◌}
use Rattle.service_gate.specs.Owing.{builtin_owes}
use Rattle.qrexec_data.specs.CallerSide.{CallerState}
use Rattle.session_drive.proofs.SidesLaws.{none_from, some_is}
use Rattle.session_drive.proofs.EndLaws.{done_little, ends_with, round_moves}
use Rattle.session_drive.proofs.driving.rounds.Goals as goal

pub overflow_mul-result : goal.overflow_mul-result
overflow_mul-result c = omega (arith, c.requires.small, c.loop-round-test.true)

pub overflow_add-result : goal.overflow_add-result
overflow_add-result c = omega (arith, c.requires.small, c.loop-round-test.true)

pub returns-then-is_some : goal.returns-then-is_some
returns-then-is_some c = λ input service core codes h.
    let on = c.loop-round.invariant.on input service core codes h in
    let turned = c.in_ok-turn_caller.ensures.turns input (builtin_owes service) on.core on.stands c.loop-round.invariant.undecided in
    let some = some_is c.outcome.result (sym c.is_some.ensures ∙ c.if-is_some.true) in
    record { core = turned.after; stands = turned.stands; ends = ends_with input service codes turned.after _ turned.stands some.0 (sym c.outcome.ensures.is ∙ some.1); few = omega (arith, c.loop-round-test.true) }

pub loop-round-preserved : goal.loop-round-preserved
loop-round-preserved c =
    let b = c.requires.begins in
    let was = c.loop-round.invariant.on b.input b.service b.core b.codes b.stands in
    let called = c.in_ok-turn_caller.ensures.turns b.input (builtin_owes b.service) was.core was.stands c.loop-round.invariant.undecided in
    let served = c.in_ok-turn_serving.ensures.turns b.input (builtin_owes b.service) called.after called.stands in
    record {
      rests = c.in_ok-turn_serving.ensures.rests;
      long = search rules;
      undecided = ap (λ (k : CallerState). k.replies.outcome) served.other ∙ sym c.outcome.ensures.is ∙ none_from c.outcome.result (sym c.is_some.ensures ∙ c.if-is_some.false);
      on = λ input service core codes h.
          let on = c.loop-round.invariant.on input service core codes h in
          let turned = c.in_ok-turn_caller.ensures.turns input (builtin_owes service) on.core on.stands c.loop-round.invariant.undecided in
          let answered = c.in_ok-turn_serving.ensures.turns input (builtin_owes service) turned.after turned.stands in
          let moves = round_moves input service codes on.core _ _ _ on.stands c.loop-round.invariant.undecided turned answered in
          record { core = answered.after; stands = answered.stands; some = omega (arith, on.some, moves) };
    }

pub unreachable-requires : goal.unreachable-requires
unreachable-requires c =
    let b = c.requires.begins in
    let on = c.loop-round.invariant.on b.input b.service b.core b.codes b.stands in
    let little = done_little b.input b.service b.codes on.core _ on.stands in
    omega (arith, little, on.some, b.enough, c.loop-round-test.false)
