use Rattle.std.proofs.Common.{◌≡◌, ◌<◌, ◌++◌, ◌∷◌, [], ap, sym, ◌∙◌, subst, length, drop, arith, length-append, Some}
use Rattle.std.specs.Prelude.{slice_get}
use Rattle.std.specs.Vec.Iter.{into_iter_items}
use Rattle.list_laws.proofs.Places.{get_within}
use Rattle.agent_queue.specs.Queue.{asked_by}
use Rattle.agent_task.specs.Finishing.{call_dones}
use Rattle.agent_task.proofs.DoneLaws.{dones_step}
use Rattle.agent_task.proofs.finishing.call_dones.Goals as goal

pub loop-session-preserved : goal.loop-session-preserved
loop-session-preserved c =
    let asked = asked_by c.args.queue.now in
    let made = c.loop-session.done.items in
    let rest = into_iter_items c.next.new.self in
    let steps : into_iter_items c.loop-session.session-iterator ≡ c.in-Some.session ∷ rest = c.in-Some.ensures.steps.0 in
    let known = c.loop-session.invariant in
    let less : length made < length asked = omega (arith, known.long, ap length steps) in
    let at = get_within asked (length made) less in
    let place : c.len-place.result ≡ length made = omega (arith, c.len-place.ensures, c.loop-session.done.ok.0) in
    let items = c.in_ok-push.ensures.items in
    record {
      can_next = tt;
      is_finite = tt;
      made = ap (λ xs. xs ++ call_dones (drop (length xs) asked) rest) items
          ∙ dones_step asked made rest c.in-Some.session at.0 c.call_done.result (call_dones asked c.args.over.items) at.1 (c.call_done.ensures at.0 (subst (λ n. slice_get asked n ≡ Some at.0) (sym place) at.1))
          (subst (λ l. made ++ call_dones (drop (length made) asked) l ≡ call_dones asked c.args.over.items) steps known.made);
      long = omega (arith, known.long, ap length steps, ap length items, length-append made (c.call_done.result ∷ []));
    }
