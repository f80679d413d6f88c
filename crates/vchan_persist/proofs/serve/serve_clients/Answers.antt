-- Each client's epoch stands after those before it.
use Rattle.std.proofs.Common.{◌≡◌, ◌+◌, List, [], ◌∷◌, ap, length, refl, subst, arith}
use Rattle.std.specs.Prelude.{IsSome}
use Rattle.std.proofs.lemmas.Bool.{false≢true}
use Rattle.std.proofs.lemmas.Grind.{common_steps}
use Rattle.std.specs.List.{AllByRecursion as Each}
use Rattle.vchan_persist.specs.declared.client.Client.{Client}
use Rattle.vchan_persist.specs.declared.epoch.EpochDone.{EpochDone}
use Rattle.vchan_persist.specs.Clients.{IsServable}
use Rattle.vchan_persist.proofs.EpochLaws.{all_served, epoch_at, one_more}
use Rattle.vchan_persist.proofs.serve.serve_clients.Goals as goal

pub unreachable-requires : goal.unreachable-requires
unreachable-requires g c = false≢true (subst (λ o. IsSome o) (c.in_default.ensures []) (c.requires.named []))

pub serve_client-requires-clause-named : goal.serve_client-requires-clause-named
serve_client-requires-clause-named g c κs within = (c.args.name.now, c.in-Some.ensures)

pub loop-client-preserved : goal.loop-client-preserved
loop-client-preserved g c =
    let inv = c.loop-client.invariant in
    let number = c.loop-client.number in
    let client = c.in-Some-client.client in
    let rest = c.loop-client.client-iterator.rest.items in
    let left = c.next.new.self.rest.items in
    let cut : rest ≡ client ∷ left = c.in-Some-client.ensures.steps.0 in
    let fewer = ap (λ (cs : List Client). length cs) cut in
    let e : EpochDone = record { number = number; result = c.in_ok-result.field-0.result; settled = c.in_ok-result.field-0.settled } in
    record {
      can_next = tt;
      is_finite = tt;
      servable = (subst (Each IsServable) cut inv.servable).1;
      few = omega (arith, inv.few, fewer);
      goes_on = one_more c.args.name.now (record { orders = c.args.orders; start = c.args.start }) number (number + 1) c.args.clients.items rest left client c.loop-client.dones.items c.push.new.self.items e cut c.in_ok-push.ensures.items refl
          (epoch_at c.args.name.now (record { orders = c.args.orders; start = c.args.start }) number client c.in-Some.service c.in_ok-result.field-0.result c.in_ok-result.field-0.settled c.in-Some.ensures c.in_ok-result.ensures) inv.goes_on;
    }

pub returns : goal.returns
returns g c =
    let rest = c.loop-client.client-iterator.rest.items in
    let none : rest ≡ [] = grind (arith, common_steps, c.in-None.ensures.steps) in
    all_served c.args.name.now (record { orders = c.args.orders; start = c.args.start }) c.loop-client.number c.args.clients.items rest c.loop-client.dones.items none c.loop-client.invariant.goes_on
