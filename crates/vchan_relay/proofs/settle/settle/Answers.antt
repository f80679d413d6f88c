-- Each page is settled by the ends that were returned for it.
use Rattle.std.proofs.Common.{◌≡◌, ◌∷◌, [], ap, ◌∙◌, arith}
use Rattle.std.proofs.lemmas.Grind.{common_steps}
use Rattle.vchan_relay.specs.declared.task.HopDone.{HopDone}
use Rattle.vchan_relay.specs.declared.task.HopDone.TheVariants.{Wrote, Passed, Read}
use Rattle.vchan_relay.proofs.RowLaws.{left_at, passed_on, read_last, no_writer_left, some_done_left, settled_on, settled_last}
use Rattle.vchan_relay.proofs.settle.settle.Goals as goal

pub settle_page-requires-clause-server : goal.settle_page-requires-clause-server
settle_page-requires-clause-server c =
    let left = c.loop-page.invariant.left in
    let handed : c.loop-page.dones.rest.items ≡ Passed c.in-Some-Passed.near c.in-Some-Passed.far c.in-Some-Passed.joint ∷ c.next-in-loop-page-2.new.self.rest.items =
    c.in-Some-Passed.ensures.cases.0 ∙ ap (λ (d : HopDone). d ∷ c.next-in-loop-page-2.new.self.rest.items) c.in-Some-Passed.field-0-is in
    (passed_on left.0 c.in-Some.page c.next-in-loop-page.new.self.rest.items c.loop-page.client c.in-Some-Passed.near c.in-Some-Passed.far c.in-Some-Passed.joint c.next-in-loop-page-2.new.self.rest.items
    (left_at left.0 c.loop-page.page-iterator.rest.items (c.in-Some.page ∷ c.next-in-loop-page.new.self.rest.items) c.loop-page.client c.loop-page.dones.rest.items _ c.in-Some.ensures.steps.0 handed left.1)).0

pub loop-page-preserved : goal.loop-page-preserved
loop-page-preserved c =
    let left = c.loop-page.invariant.left in
    let pages = c.next-in-loop-page.new.self.rest.items in
    let dones = c.next-in-loop-page-2.new.self.rest.items in
    let near = c.in-Some-Passed.near in
    let far = c.in-Some-Passed.far in
    let joint = c.in-Some-Passed.joint in
    let handed : c.loop-page.dones.rest.items ≡ Passed near far joint ∷ dones = c.in-Some-Passed.ensures.cases.0 ∙ ap (λ (d : HopDone). d ∷ dones) c.in-Some-Passed.field-0-is in
    record {
      can_next = tt;
      is_finite = tt;
      left = (
        left.0,
        (passed_on left.0 c.in-Some.page pages c.loop-page.client near far joint dones
            (left_at left.0 c.loop-page.page-iterator.rest.items (c.in-Some.page ∷ pages) c.loop-page.client c.loop-page.dones.rest.items (Passed near far joint ∷ dones) c.in-Some.ensures.steps.0 handed left.1)).1,
      );
      goes_on = settled_on c.args.pages.items c.args.dones.items c.in-Some.page pages c.loop-page.page-iterator.rest.items c.loop-page.client near far joint dones c.loop-page.dones.rest.items c.settle_page.result
          c.loop-page.settled.items c.push.new.self.items c.loop-page.joints.items c.keep.new.joints.items c.in-Some.ensures.steps.0 handed c.settle_page.ensures c.in_ok-push-in-Some-Passed.ensures.items c.in_ok-keep-in-Some-Passed.ensures c.loop-page.invariant.goes_on;
    }

pub settle_page-requires-in-Some-Read-clause-server : goal.settle_page-requires-in-Some-Read-clause-server
settle_page-requires-in-Some-Read-clause-server c =
    let left = c.loop-page.invariant.left in
    let pages = c.next-in-loop-page.new.self.rest.items in
    let dones = c.next-in-loop-page-2.new.self.rest.items in
    let handed : c.loop-page.dones.rest.items ≡ Read c.in-Some-Read.end c.in-Some-Read.bytes ∷ dones = c.in-Some-Read.ensures.cases.0 ∙ ap (λ (d : HopDone). d ∷ dones) c.in-Some-Read.field-0-is in
    read_last left.0 c.in-Some.page pages c.loop-page.client c.in-Some-Read.end c.in-Some-Read.bytes dones
    (left_at left.0 c.loop-page.page-iterator.rest.items (c.in-Some.page ∷ pages) c.loop-page.client c.loop-page.dones.rest.items (Read c.in-Some-Read.end c.in-Some-Read.bytes ∷ dones) c.in-Some.ensures.steps.0 handed left.1)

pub returns-in-Some-Read : goal.returns-in-Some-Read
returns-in-Some-Read c =
    let pages = c.next-in-loop-page.new.self.rest.items in
    let dones = c.next-in-loop-page-2.new.self.rest.items in
    let handed : c.loop-page.dones.rest.items ≡ Read c.in-Some-Read.end c.in-Some-Read.bytes ∷ dones = c.in-Some-Read.ensures.cases.0 ∙ ap (λ (d : HopDone). d ∷ dones) c.in-Some-Read.field-0-is in
    settled_last c.args.pages.items c.args.dones.items c.in-Some.page pages c.loop-page.page-iterator.rest.items c.loop-page.client c.in-Some-Read.end c.in-Some-Read.bytes dones c.loop-page.dones.rest.items c.settle_page-in-Some-Read.result
    c.loop-page.settled.items c.push-in-Some-Read.new.self.items c.loop-page.joints.items c.in-Some.ensures.steps.0 handed c.settle_page-in-Some-Read.ensures c.in_ok-push-in-Some-Read.ensures.items c.loop-page.invariant.goes_on

pub unreachable-requires-in-Some-Wrote-next : goal.unreachable-requires-in-Some-Wrote-next
unreachable-requires-in-Some-Wrote-next c =
    let left = c.loop-page.invariant.left in
    let pages = c.next-in-loop-page.new.self.rest.items in
    let dones = c.next-in-loop-page-2.new.self.rest.items in
    let end = c.in-Some-Wrote-next.field-0-0 in
    let handed : c.loop-page.dones.rest.items ≡ Wrote end ∷ dones = c.in-Some-Wrote-next.ensures.cases.0 ∙ ap (λ (d : HopDone). d ∷ dones) c.in-Some-Wrote-next.field-0-is in
    no_writer_left left.0 c.in-Some.page pages c.loop-page.client end dones
    (left_at left.0 c.loop-page.page-iterator.rest.items (c.in-Some.page ∷ pages) c.loop-page.client c.loop-page.dones.rest.items (Wrote end ∷ dones) c.in-Some.ensures.steps.0 handed left.1)

pub unreachable-requires-in-None-next : goal.unreachable-requires-in-None-next
unreachable-requires-in-None-next c =
    let left = c.loop-page.invariant.left in
    let pages = c.next-in-loop-page.new.self.rest.items in
    let none : c.loop-page.dones.rest.items ≡ [] = grind (arith, common_steps, c.in-None-next.ensures.cases) in
    some_done_left left.0 c.in-Some.page pages c.loop-page.client
    (left_at left.0 c.loop-page.page-iterator.rest.items (c.in-Some.page ∷ pages) c.loop-page.client c.loop-page.dones.rest.items [] c.in-Some.ensures.steps.0 none left.1)
