-- What an end's fields agree on, through a step.
use Rattle.std.proofs.Common.{◌≡◌, ℕ, ◌<◌, ◌↔◌, ◌||◌, Option, Some, None, IsSome, List, length, take, slice_index, refl, subst, sym, ap, ◌∙◌, inl, inr, arith}
use Rattle.std.proofs.lemmas.List.{get_or_default, get_or-take, length-take}
use Rattle.std.proofs.lemmas.List.Elements.{All-take}
use Rattle.vchan_protocol.specs.declared.op.Op.{Op}
use Rattle.vchan_protocol.specs.declared.op.Op.TheVariants.{Load, LoadByte, Store, StoreByte, Or, And, Swap, Nothing}
use Rattle.vchan_protocol.specs.declared.call.Answer.{Answer}
use Rattle.vchan_protocol.specs.declared.call.Call.{Call}
use Rattle.vchan_protocol.specs.declared.side.Side.{Side}
use Rattle.vchan_protocol.specs.declared.side.Begun.{Begun}
use Rattle.vchan_core.specs.declared.machine.Machine.{Machine}
use Rattle.vchan_protocol.specs.Table.Plan.{Plan, answers, does, next_op, after, GoesOn}
use Rattle.vchan_protocol.specs.Table.Ends.{Standing, standing_after}
use Rattle.vchan_protocol.specs.Table.Calls.{payload_of, plan_of}
use Rattle.vchan_protocol.specs.Table.Apply.{leaves}
use Rattle.vchan_protocol.specs.History.Core.{begins, made, settled, standing_of, op_next, plan_left, answer_in, begun_standing, side_after, sets_gone}
use Rattle.vchan_core.specs.OneMachine.Phases.{standing, rest, rest_or_answer, IsIdle}
use Rattle.vchan_core.specs.Page.StandsFor.{IsMachineOf, HasPayload}
use Rattle.vchan_protocol.specs.Honest.RingLaw.{AreBytes}
use Rattle.vchan_protocol.specs.Hostile.TurnedLaw.{LiesAtCount}
use Rattle.vchan_protocol.specs.OneEnd.OneEnd.{Enters}
use Rattle.vchan_protocol.specs.Honest.Reached.{MayBegin}
use Rattle.vchan_protocol.specs.OneEnd.OneEndLaw.{OwnLawful}
use Rattle.vchan_protocol.proofs.OneEnd.OneEndLaws.{own_begun, own_stepped}
use Rattle.vchan_protocol.proofs.History.EventLaws.{settled_payload, stored_most_payload, OwesNext}
use Rattle.vchan_protocol.proofs.Hostile.TurnedSteps.{lies_at_count}
use Rattle.vchan_protocol.proofs.Always.InvariantSteps.{retired_settled}
use Rattle.vchan_core.proofs.OneMachine.PhaseLaws.{GoesOn_machine}
use Rattle.vchan_core.proofs.Page.StepLaws.{in_call, plan_left_is, owed, made_stands, answer_in_rest}
use Rattle.vchan_rule.specs.Ends.{seen_by, Agrees, IsPending, Pays, IsSameEnd}
use Rattle.vchan_rule.specs.Seated.{SeatedEnd}

-- ---- what the core lacks of one end and its machine

-- the bytes that an end stores are those of its payload
leaves_same : (s : Side) (b : Begun) (source : List ℕ) (op : Op) → length s.payload ≡ payload_of b.call → HasPayload s source → OwesNext s b op → (n : ℕ) → leaves s.payload op n ≡ leaves source op n
leaves_same s b source (StoreByte word at) pays has owes n =
    let within : at < length s.payload = omega (arith, owes.1, pays, stored_most_payload (begun_standing s b) b.call) in
    sym (sym (get_or-take (length s.payload) source at 0 within) ∙ ap (λ (xs : List ℕ). slice_index xs at) has)
leaves_same s b source (Load word) pays has owes n = refl
leaves_same s b source (LoadByte word at) pays has owes n = refl
leaves_same s b source (Store word value) pays has owes n = refl
leaves_same s b source (Or word bits) pays has owes n = refl
leaves_same s b source (And word bits) pays has owes n = refl
leaves_same s b source (Swap word value) pays has owes n = refl
leaves_same s b source Nothing pays has owes n = refl

-- an end after its event: what an answer leaves as it is
settled_orders : (s : Side) (plan : Plan) → (settled s plan).orders ≡ s.orders
settled_orders s (answers answer) = refl
settled_orders s (does op next) = refl

settled_role : (s : Side) (plan : Plan) → (settled s plan).role ≡ s.role
settled_role s (answers answer) = refl
settled_role s (does op next) = refl

-- the machine stands for the end after that has begun the call
begins_stands : (call : Call) (m : Machine) (s : Side) (payload : List ℕ) → IsPending call m s → length payload ≡ payload_of call → IsMachineOf (begins s call payload) m
begins_stands call m s payload p pays =
    let plan : plan_of (standing_of s) call ≡ rest m = sym (p.plan ∙ ap (λ (e : Standing). plan_of e call) p.standing_is) in
    record { standing_is = p.standing_is; in_call = (p.busy, plan, pays, refl) }

-- ---- an end inside its call

pub record Inside (start : ℕ) (m : Machine) (v : Side) (payload : List ℕ) (s : Side) : Type 0 where
  pub stands : IsMachineOf s m
  pub has : HasPayload s payload
  pub enters : Enters v s
  pub own : OwnLawful start s
  pub orders_are : s.orders ≡ v.orders
  pub role_is : s.role ≡ v.role
  pub retired_is : s.retired ≡ v.retired

pub inside : (start : ℕ) (begun : Option Call) (m : Machine) (v : Side) (payload : List ℕ) → Agrees start begun m v → Pays begun v payload → ((k : ℕ) → slice_index payload k < 256) → Inside start m v payload (seen_by begun v payload)
inside start None m v payload g pays bytes = record { stands = g.stands; has = pays; enters = inl refl; own = g.own; orders_are = refl; role_is = refl; retired_is = refl }
inside start (Some call) m v payload g pays bytes =
    let few : length (take (payload_of call) payload) ≡ payload_of call = omega (arith, length-take (payload_of call) payload, pays) in
    let low : AreBytes (take (payload_of call) payload) = All-take (λ (byte : ℕ). byte < 256) (payload_of call) payload (λ k d below. subst (λ (byte : ℕ). byte < 256) (get_or_default payload k 0 d below) (bytes k)) in
    let may : MayBegin v.role v call (take (payload_of call) payload) = record { idle = g.stands.idle; allowed = g.stands.allowed; pays = few; bytes = low } in
    record {
      stands = begins_stands call m v (take (payload_of call) payload) g.stands few;
      has = ap (λ (n : ℕ). take n payload) few;
      enters = inr (call, take (payload_of call) payload, refl, may);
      own = own_begun start v call (take (payload_of call) payload) g.own may;
      orders_are = refl;
      role_is = refl;
      retired_is = refl;
    }

-- what the machine does next is what the end does next
pub plan_is : (start : ℕ) (m : Machine) (v s : Side) (payload : List ℕ) → Inside start m v payload s → ¬ IsIdle m → plan_left s ≡ rest m
plan_is start m v s payload h busy = plan_left_is s m (in_call s m h.stands busy)

pub goes_on : (start : ℕ) (m : Machine) (v s : Side) (payload : List ℕ) → Inside start m v payload s → ¬ IsIdle m → GoesOn (plan_left s)
goes_on start m v s payload h busy = subst GoesOn (sym (plan_is start m v s payload h busy)) (GoesOn_machine m busy)

pub stores_own : (start : ℕ) (m : Machine) (v s : Side) (payload : List ℕ) → Inside start m v payload s → ¬ IsIdle m → (op : Op) → op ≡ next_op (rest m) → (n : ℕ) → leaves s.payload op n ≡ leaves payload op n
stores_own start m v s payload h busy op is n =
    let c = in_call s m h.stands busy in
    subst (λ (o : Op). leaves s.payload o n ≡ leaves payload o n) (sym is) (leaves_same s c.begun payload (next_op (rest m)) c.pays h.has (owed s m c busy) n)

-- ---- after its event

pub record Stepped (start : ℕ) (m' : Machine) (s : Side) (taken : ℕ) (result : Option Answer) : Type 0 where
  pub agrees : Agrees start None m' (side_after s taken)
  pub answer : result ≡ answer_in (after (plan_left s) taken)
  pub orders_are : (side_after s taken).orders ≡ s.orders
  pub role_is : (side_after s taken).role ≡ s.role
  pub retired_is : (side_after s taken).retired ≡ (sets_gone (op_next s) s.role || s.retired)

pub after_step : (start : ℕ) (m m' : Machine) (v s : Side) (payload : List ℕ) (result : Option Answer) (taken : ℕ) → Inside start m v payload s → ¬ IsIdle m → rest_or_answer result m' ≡ after (rest m) taken → (IsSome result ↔ IsIdle m') →
    standing m' ≡ standing_after (standing m) (next_op (rest m)) → Stepped start m' s taken result
after_step start m m' v s payload result taken h busy leads idle stands =
    let plan = plan_is start m v s payload h busy in
    record {
      agrees = record {
        own = own_stepped start s taken h.own (goes_on start m v s payload h busy);
        stands = subst (λ (p : Plan). IsMachineOf (settled (made s (next_op p) taken) (after p taken)) m') (sym plan) (made_stands s m m' result taken h.stands busy leads idle stands);
      };
      answer = sym (answer_in_rest m' result idle) ∙ ap answer_in leads ∙ ap (λ (p : Plan). answer_in (after p taken)) (sym plan);
      orders_are = settled_orders (made s (op_next s) taken) (after (plan_left s) taken);
      role_is = settled_role (made s (op_next s) taken) (after (plan_left s) taken);
      retired_is = retired_settled (made s (op_next s) taken) (after (plan_left s) taken);
    }

-- the orders of a machine are those of its end
pub machine_orders : (start : ℕ) (m : Machine) (v s : Side) (payload : List ℕ) → Inside start m v payload s → m.orders ≡ v.orders
machine_orders start m v s payload h = ap (λ (e : Standing). e.orders) h.stands.standing_is ∙ h.orders_are

pub keeps_payload : (s : Side) (taken : ℕ) (source : List ℕ) → HasPayload s source → HasPayload (side_after s taken) source
keeps_payload s taken source has =
    subst (λ (xs : List ℕ). take (length xs) source ≡ xs) (sym (settled_payload (made s (op_next s) taken) (after (plan_left s) taken))) has

pub lies : (start : ℕ) (m : Machine) (v s : Side) (payload : List ℕ) → Inside start m v payload s → ¬ IsIdle m → LiesAtCount s (op_next s)
lies start m v s payload h busy = lies_at_count s h.own.call (goes_on start m v s payload h busy)

-- the same end of the same page, over two calls
pub same_end_then : (a b c : SeatedEnd) → IsSameEnd a b → IsSameEnd b c → IsSameEnd a c
same_end_then a b c one two = (two.0 ∙ one.0, two.1 ∙ one.1, two.2 ∙ one.2, two.3 ∙ one.3)
