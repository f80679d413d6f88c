use Rattle.std.proofs.Common.{◌-◌, length, get_or, refl, subst, arith, true, false}
use Rattle.std.specs.Prelude.{◌==◌}
use Rattle.std.proofs.Math.ListN.{set}
use Rattle.std.proofs.lemmas.List.{length-set}
use Rattle.broker_task.specs.declared.outbox.Letter.{Letter}
use Rattle.broker_task.specs.declared.reply.Reply.TheVariants.{Accepted}
use Rattle.broker_task.specs.Replies.{IsReplyTo, IsWithin, AreFit}
use Rattle.broker_task.specs.Letters.{IsAt}
use Rattle.broker_task.specs.Posting.{Posts, SamePort}
use Rattle.broker_task.proofs.PostLaws.{Adds, letter_if, count_if, at_item, moves_none, moves_one, moves_as, moves_then, moves_letter, same_port, port_then, posts_nothing, posts_refused, posts_accepted, adds_then, on_ok, on_ok_both}
use Rattle.broker_task.proofs.switchboard.post.Goals as goal

pub returns-in-Nothing-clause-posts : goal.returns-in-Nothing-clause-posts
returns-in-Nothing-clause-posts c = λ hub event decided own is fit.
    moves_none (Posts hub (record { event = event; decision = decided })) c.args.daemons.now (λ d x. posts_nothing hub event decided d x (subst (λ r. IsReplyTo hub event decided r) c.in-Nothing.is is))

pub returns-in-Refused-clause-ports : goal.returns-in-Refused-clause-ports
returns-in-Refused-clause-ports c =
    moves_one SamePort c.args.daemons.now (c.args.from - 1) _ c.answer.new.self (at_item c.args.daemons.now (c.args.from - 1) c.index-daemons-from.result (omega arith) c.index-daemons-from.is)
    (c.answer.ensures.port, c.answer.ensures.same.0, c.answer.ensures.same.1) (λ d z apart. same_port d z)

pub returns-in-Refused-clause-posts : goal.returns-in-Refused-clause-posts
returns-in-Refused-clause-posts c = λ hub event decided own is fit.
    let ds = c.args.daemons.now in
    let from = c.args.from in
    let x = get_or ds (from - 1) c.index-daemons-from.result in
    let there : IsAt ds (from - 1) x = at_item ds (from - 1) c.index-daemons-from.result (omega arith) c.index-daemons-from.is in
    let l : Letter = record { message = c.in-Refused.refused; held = false } in
    on_ok_both c.answer.result c.answer.ensures.put c.answer.ensures.counted
    (λ put counted.
    moves_as (λ d. Adds (letter_if (d == from) l) (count_if (d == from) 1)) (Posts hub (record { event = event; decision = decided })) ds (set ds (from - 1) c.answer.new.self)
    (moves_letter ds from l 1 x c.answer.new.self c.requires.sender.0 there
    (record { port = c.answer.ensures.port; domain = c.answer.ensures.same.0; awaited = c.answer.ensures.same.1; letters = put; counted = counted }))
    (λ d a b adds. posts_refused hub event decided from d c.in-Refused.refused a b own (subst (λ r. IsReplyTo hub event decided r) c.in-Refused.is is) (subst (λ r. AreFit hub r) c.in-Refused.is fit) adds))

pub returns-in-Err-clause-ports : goal.returns-in-Err-clause-ports
returns-in-Err-clause-ports c =
    moves_one SamePort c.args.daemons.now (c.args.from - 1) _ c.answer-in-Accepted.new.self
    (at_item c.args.daemons.now (c.args.from - 1) c.index-daemons-from-in-Accepted.result (omega arith) c.index-daemons-from-in-Accepted.is)
    (c.answer-in-Accepted.ensures.port, c.answer-in-Accepted.ensures.same.0, c.answer-in-Accepted.ensures.same.1) (λ d z apart. same_port d z)

pub returns-in-Ok-clause-ports : goal.returns-in-Ok-clause-ports
returns-in-Ok-clause-ports c =
    let ds = c.args.daemons.now in
    let from = c.args.from in
    let to = c.in-Accepted.to in
    let mid = set ds (from - 1) c.answer-in-Accepted.new.self in
    let within : IsWithin (length ds) (Accepted to c.in-Accepted.exec c.in-Accepted.connect) = subst (λ r. IsWithin (length ds) r) c.in-Accepted.is c.requires.target in
    let y = get_or mid (to - 1) c.index-daemons-to.result in
    moves_then SamePort SamePort SamePort ds mid _
    (moves_one SamePort ds (from - 1) _ c.answer-in-Accepted.new.self (at_item ds (from - 1) c.index-daemons-from-in-Accepted.result (omega arith) c.index-daemons-from-in-Accepted.is)
    (c.answer-in-Accepted.ensures.port, c.answer-in-Accepted.ensures.same.0, c.answer-in-Accepted.ensures.same.1) (λ d z apart. same_port d z))
    (moves_one SamePort mid (to - 1) y (record y { outbox = c.put.new.self }) (at_item mid (to - 1) c.index-daemons-to.result (omega (arith, within, length-set ds (from - 1) c.answer-in-Accepted.new.self)) c.index-daemons-to.is)
    (refl, refl, refl) (λ d z apart. same_port d z))
    port_then

pub returns-in-Ok-clause-posts : goal.returns-in-Ok-clause-posts
returns-in-Ok-clause-posts c = λ hub event decided own is fit.
    let ds = c.args.daemons.now in
    let from = c.args.from in
    let to = c.in-Accepted.to in
    let x = get_or ds (from - 1) c.index-daemons-from-in-Accepted.result in
    let mid = set ds (from - 1) c.answer-in-Accepted.new.self in
    let within : IsWithin (length ds) (Accepted to c.in-Accepted.exec c.in-Accepted.connect) = subst (λ r. IsWithin (length ds) r) c.in-Accepted.is c.requires.target in
    let y = get_or mid (to - 1) c.index-daemons-to.result in
    let connect : Letter = record { message = c.in-Accepted.connect; held = true } in
    let exec : Letter = record { message = c.in-Accepted.exec; held = false } in
    on_ok c.put.result c.put.ensures
    (λ put.
    moves_then (λ d. Adds (letter_if (d == from) connect) (count_if (d == from) 1)) (λ d. Adds (letter_if (d == to) exec) (count_if (d == to) 0)) (Posts hub (record { event = event; decision = decided }))
    ds mid (set mid (to - 1) (record y { outbox = c.put.new.self }))
    (moves_letter ds from connect 1 x c.answer-in-Accepted.new.self c.requires.sender.0 (at_item ds (from - 1) c.index-daemons-from-in-Accepted.result (omega arith) c.index-daemons-from-in-Accepted.is)
    (record { port = c.answer-in-Accepted.ensures.port; domain = c.answer-in-Accepted.ensures.same.0; awaited = c.answer-in-Accepted.ensures.same.1; letters = c.in-Ok.ensures.put; counted = c.in-Ok.ensures.counted }))
    (moves_letter mid to exec 0 y (record y { outbox = c.put.new.self }) within.0 (at_item mid (to - 1) c.index-daemons-to.result (omega (arith, within, length-set ds (from - 1) c.answer-in-Accepted.new.self)) c.index-daemons-to.is)
    (record { port = refl; domain = refl; awaited = refl; letters = put; counted = omega arith }))
    (λ d a b z first second.
    posts_accepted hub event decided from to d c.in-Accepted.exec c.in-Accepted.connect a z own (subst (λ r. IsReplyTo hub event decided r) c.in-Accepted.is is) (subst (λ r. AreFit hub r) c.in-Accepted.is fit)
    (adds_then (letter_if (d == from) connect) (letter_if (d == to) exec) (count_if (d == from) 1) (count_if (d == to) 0) a b z first second)))
