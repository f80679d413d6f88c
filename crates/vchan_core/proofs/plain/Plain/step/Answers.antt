use Rattle.std.proofs.Common.{◌≡◌, ℕ, length, ◌∙◌, sym, ap, subst, refl}
use Rattle.ring_words.specs.declared.order.Orders.{Orders}
use Rattle.vchan_protocol.specs.declared.op.Op.{Op}
use Rattle.vchan_core.specs.declared.ends.End.{End}
use Rattle.vchan_core.specs.declared.machine.Machine.{Machine}
use Rattle.vchan_protocol.specs.Table.Plan.{next_op, after}
use Rattle.vchan_protocol.specs.Table.Apply.{Fits, words_after, value_taken}
use Rattle.vchan_core.specs.Page.StandsFor.{machine_of, moved_of, op_of, orders_of, words_of}
use Rattle.vchan_core.specs.OneMachine.Phases.{rest, IsIdle, payload_needed, buffer_needed}
use Rattle.vchan_protocol.proofs.History.EventLaws.{Fits_more}
use Rattle.vchan_core.proofs.Page.EndLaws.{in_place, orders_at, stands_with, with_end_are}
use Rattle.vchan_core.proofs.Page.StepLaws.{DoesEvent, answer_is, keeps_orders, keeps_role}
use Rattle.vchan_core.proofs.Page.PlainLaws.{invariant_step}
use Rattle.vchan_core.proofs.WholeCall.RunLaws.{machine_stands}
use Rattle.vchan_core.proofs.plain.Plain.step.Goals as goal

pub invariant_of-self : goal.invariant_of-self
invariant_of-self c =
    let was = c.of_mut.ensures.value in
    let m = c.of_mut.result.now.machine in
    let m' = c.took.new.self.machine in
    let are = with_end_are c.args.self.now c.args.who c.took.new.self c.carry_out-value.new.words.orders c.carry_out-value.ensures.orders
    (keeps_orders m m' _ c.took.ensures.standing ∙ ap (λ (e : End). e.machine.orders) was)
    (keeps_role m m' _ c.took.ensures.standing ∙ ap (λ (e : End). e.machine.role) was) in
    record { server_orders = are.server_orders; client_orders = are.client_orders; server_role = are.server_role; client_role = are.client_role }

op_is : (c : goal.After-self-2-1) → c.next-op.result ≡ op_of c.args.self.now c.args.who
op_is c = c.next-op.ensures.op ∙ ap (λ (m : Machine). next_op (rest m)) c.machine.ensures

-- the event of the code
does : (c : goal.After-self-2-1) → DoesEvent (orders_of c.args.self.now) (words_of c.args.self.now) c.args.payload.now (machine_of c.args.self.now c.args.who) c.took.new.self.machine c.took.result c.carry_out-value.new.words.list
    (moved_of c.args.self.now c.args.who) c.took.new.self.moved
does c =
    let page = c.args.self.now in
    let e = c.took.new.self in
    let was = c.of_mut.ensures.value in
    let m = machine_of page c.args.who in
    let here = subst (λ (x : End). DoesEvent (orders_of page) (words_of page) c.args.payload.now x.machine e.machine c.took.result c.carry_out-value.new.words.list x.moved e.moved) was in
    let same_op = ap (λ (x : End). next_op (rest x.machine)) (sym was) in
    here (record {
      busy = subst (λ (x : End). ¬ IsIdle x.machine) (sym was) c.requires.busy;
      leads = c.took.ensures.rest ∙ ap (λ (value : ℕ). after (rest c.of_mut.result.now.machine) value) (c.carry_out-value.ensures.value ∙ ap (λ (op : Op). value_taken (orders_of page) (words_of page) op) (op_is c ∙ same_op));
      idle = c.took.ensures.idle;
      stands = c.took.ensures.standing;
      words_are = c.carry_out-value.ensures.words ∙ ap (λ (op : Op). words_after (orders_of page) (words_of page) c.args.payload.now op) (op_is c ∙ same_op);
      sent_is = c.took.ensures.sent;
      got_is = c.took.ensures.got;
      low = c.took.ensures.low;
    })

pub returns-clause-stands : goal.returns-clause-stands
returns-clause-stands c =
    let page = c.args.self.now in
    λ core h has. stands_with core c.args.who page _ c.took.new.self c.args.payload.now c.took.result (in_place c.args.who page.ends _ c.took.new.self refl) h has (does c) c.carry_out-value.ensures.orders (c.took.ensures.turned ∙ ap (λ (x : End). x.turned) c.of_mut.ensures.value)

pub returns-clause-answer : goal.returns-clause-answer
returns-clause-answer c =
    let page = c.args.self.now in
    let d = does c in
    λ core h. answer_is core c.args.who (orders_of page) (words_of page) (machine_of page c.args.who) c.took.new.self.machine c.took.result (machine_stands core page c.args.who h) h.orders h.words d.busy d.leads d.idle

pub returns-clause-footprint : goal.returns-clause-footprint
returns-clause-footprint c =
    let page = c.args.self.now in
    let m = machine_of page c.args.who in
    let here = subst (λ (x : Machine). Fits x.orders (payload_needed x) (buffer_needed x) c.next-op.result) c.machine.ensures c.next-op.ensures.fits in
    let there = subst (λ (orders : Orders). Fits orders (payload_needed m) (buffer_needed m) c.next-op.result) (orders_at page c.args.who) here in
    let more = Fits_more (orders_of page) (payload_needed m) (buffer_needed m) (length c.args.payload.now) (length c.args.buf.now) c.next-op.result c.requires.payload c.requires.buf there in
    subst (λ (op : Op). Fits (orders_of page) (length c.args.payload.now) (length c.args.buf.now) op) (op_is c) more

pub returns-clause-invariant : goal.returns-clause-invariant
returns-clause-invariant c = λ core h honest kept. invariant_step core c.args.self.now c.args.who h honest c.requires.busy kept
