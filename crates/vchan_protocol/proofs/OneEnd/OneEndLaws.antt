-- What an honest end can say of itself holds at the opening, and its begins and events keep it, whatever values these take.
use Rattle.std.proofs.Common.{◌≡◌, ◌≢◌, ℕ, ◌^◌, ◌<◌, ◌==◌, ◌&&◌, ◌⊎◌, inl, inr, Bool, true, false, cond, ◌||◌, Option, Some, None, List, [], ◌∷◌, ◌++◌, length, refl, subst, sym, ap, ◌∙◌, arith}
use Rattle.std.proofs.lemmas.Bool.{false≢true}
use Rattle.ring_words.specs.declared.order.Orders.{Orders}
use Rattle.ring_words.specs.declared.page.Role.{Role}
use Rattle.ring_words.specs.declared.page.Role.TheVariants.{Server, Client}
use Rattle.ring_words.specs.declared.page.WordName.{WordName}
use Rattle.ring_words.specs.declared.page.WordName.TheVariants.{CliLive}
use Rattle.vchan_protocol.specs.declared.op.Op.{Op}
use Rattle.vchan_protocol.specs.declared.op.Op.TheVariants.{Load, Store}
use Rattle.vchan_protocol.specs.declared.op.PastEvent.{PastEvent}
use Rattle.vchan_protocol.specs.declared.call.Answer.{Answer}
use Rattle.vchan_protocol.specs.declared.call.Answer.TheVariants.{Connected, BadOrders, Done}
use Rattle.vchan_protocol.specs.declared.call.Call.{Call}
use Rattle.vchan_protocol.specs.declared.call.Call.TheVariants.{Write, Send, Read, Recv, Drain, DataReady, BufferSpace, Connect, Close, TakeEvent, Retire, PeerGone}
use Rattle.vchan_protocol.specs.declared.call.EndState.{EndState}
use Rattle.vchan_protocol.specs.declared.call.EndState.TheVariants.{Fresh, Open, Shut}
use Rattle.vchan_protocol.specs.declared.side.Side.{Side}
use Rattle.vchan_protocol.specs.declared.side.Begun.{Begun}
use Rattle.vchan_protocol.specs.Table.Plan.{Plan, does, answers, next_op, after, past, Leads, GoesOn, EachDoes}
use Rattle.vchan_protocol.specs.Table.Ends.{Standing, standing_after, state_after, written_ring, read_ring, prod_word, cons_word, peer_pending, own_live, own_gone, low16}
use Rattle.vchan_protocol.specs.Table.Calls.{plan_of, close, retire, retire_shut, connect, connect_right, IsAllowed}
use Rattle.vchan_protocol.specs.History.Core.{Core, opened, new_side, event, begun, taken_next, begins, made, settled, side_after, side_of, plan_left, op_next, begun_standing, standing_along, sets_gone}
use Rattle.vchan_protocol.specs.Honest.Reached.{MayBegin}
use Rattle.vchan_protocol.specs.Always.Invariant.{Invariant, MayCome, opens, begins_call, makes_event, is_turned, strays}
use Rattle.vchan_protocol.specs.Hostile.Turned.{strayed}
use Rattle.vchan_protocol.specs.Hostile.TurnedLaw.{KeepsCounts, turned_core}
use Rattle.vchan_protocol.specs.OneEnd.OneEndLaw.{OwnLawful, HasCalled}
use Rattle.vchan_protocol.proofs.Table.PlanLaws.{Leads_more}
use Rattle.vchan_protocol.proofs.History.EventLaws.{settled_turned, standing_of_made, standing_along_push}
use Rattle.vchan_protocol.proofs.Honest.EndSteps.{InLawful, in_lawful, call_begins}
use Rattle.vchan_protocol.proofs.Hostile.TurnedSteps.{counts_go_on, turned_turned_side}
use Rattle.vchan_protocol.proofs.OneEnd.EndingSteps.{step_keeps_notes}
use Rattle.vchan_protocol.proofs.OneEnd.SideSteps.{notes_kept}
use Rattle.vchan_protocol.proofs.Always.InvariantSteps.{each_has_invariant}
use Rattle.vchan_protocol.proofs.OneEnd.EachEvent.{KindsHave, each_event}

-- ---- the state of an end along its call

-- an event sets the gone word only if its end is shut, and leaves a shut end shut
abbrev pub OwesState : Role → EndState → Op → Type 0
OwesState role state op = (sets_gone op role ≡ true → state ≡ Shut) × (state ≡ Shut → state_after op role state ≡ Shut)

-- whatever the values are, each event of the plan does so
unfoldable pub StateOwed : Role → EndState → Plan → Type 0
StateOwed role state (answers answer) = Unit {0}
StateOwed role state (does op next) = OwesState role state op × ((value : ℕ) → StateOwed role (state_after op role state) (next value))

owed_answers : (role : Role) (state : EndState) (answer : Answer) → StateOwed role state (answers answer)
unfolding StateOwed
owed_answers role state answer = tt

owed_does : (role : Role) (state : EndState) (op : Op) (next : ℕ → Plan) → OwesState role state op → ((value : ℕ) → StateOwed role (state_after op role state) (next value)) → StateOwed role state (does op next)
unfolding StateOwed
owed_does role state op next here on = (here, on)

-- an event that leaves both alone
record LeavesState (role : Role) (op : Op) : Type 0 where
  gone : sets_gone op role ≡ false
  state : (now : EndState) → state_after op role now ≡ now

owed_left : (role : Role) (state : EndState) (op : Op) → LeavesState role op → OwesState role state op
owed_left role state op h = (λ sets. absurd (false≢true (sym h.gone ∙ sets)), λ shut. h.state state ∙ shut)

owed_each : (role : Role) (state : EndState) (plan : Plan) → EachDoes (LeavesState role) plan → StateOwed role state plan
unfolding EachDoes StateOwed
owed_each role state (answers answer) each = tt
owed_each role state (does op next) each = (owed_left role state op each.0, λ value. owed_each role (state_after op role state) (next value) (each.1 value))

-- ---- the events that leave both alone

leaves_shows : (role : Role) (value : ℕ) → LeavesState role (Store (prod_word (written_ring role)) value)
leaves_shows Server value = record { gone = refl; state = λ now. refl }
leaves_shows Client value = record { gone = refl; state = λ now. refl }

leaves_releases : (role : Role) (value : ℕ) → LeavesState role (Store (cons_word (read_ring role)) value)
leaves_releases Server value = record { gone = refl; state = λ now. refl }
leaves_releases Client value = record { gone = refl; state = λ now. refl }

leaves_signals : (role : Role) (value : ℕ) → LeavesState role (Store (peer_pending role) value)
leaves_signals Server value = record { gone = refl; state = λ now. refl }
leaves_signals Client value = record { gone = refl; state = λ now. refl }

kinds_leave : (e : Standing) → KindsHave e (LeavesState e.role)
kinds_leave e = record {
  loads = λ word. record { gone = refl; state = λ now. refl };
  load_bytes = λ word at. record { gone = refl; state = λ now. refl };
  store_bytes = λ word at. record { gone = refl; state = λ now. refl };
  ors = λ word bits. record { gone = refl; state = λ now. refl };
  ands = λ word bits. record { gone = refl; state = λ now. refl };
  swaps = λ word value. record { gone = refl; state = λ now. refl };
  shows = leaves_shows e.role;
  releases = leaves_releases e.role;
  signals = leaves_signals e.role;
}

-- ---- the calls that open or shut their end

owed_signal : (role : Role) (state : EndState) (value : ℕ) (next : Plan) → StateOwed role state next → StateOwed role state (does (Store (peer_pending role) value) (λ _. next))
owed_signal Server state value next on = owed_does Server state _ _ (owed_left Server state _ (leaves_signals Server value)) (λ _. on)
owed_signal Client state value next on = owed_does Client state _ _ (owed_left Client state _ (leaves_signals Client value)) (λ _. on)

owed_close : (e : Standing) (state : EndState) (next : Plan) → StateOwed e.role Shut next → StateOwed e.role state (close e next)
owed_close e state next on = go e.role (owed_signal e.role Shut 1 next on)
  where
    go : (role : Role) → StateOwed role Shut (does (Store (peer_pending role) 1) (λ _. next)) → StateOwed role state (does (Store (own_live role) 0) (λ _. does (Store (peer_pending role) 1) (λ _. next)))
    go Server then_signals = owed_does Server state _ _ (λ sets. absurd (false≢true sets), λ shut. refl) (λ _. then_signals)
    go Client then_signals = owed_does Client state _ _ (λ sets. absurd (false≢true sets), λ shut. refl) (λ _. then_signals)

owed_retire_shut : (e : Standing) → StateOwed e.role Shut (retire_shut e)
owed_retire_shut e = go e.role (owed_signal e.role Shut 1 (answers Done) (owed_answers e.role Shut Done))
  where
    go : (role : Role) → StateOwed role Shut (does (Store (peer_pending role) 1) (λ _. answers Done)) → StateOwed role Shut (does (Store (own_gone role) 1) (λ _. does (Store (peer_pending role) 1) (λ _. answers Done)))
    go Server then_signals = owed_does Server Shut _ _ (λ sets. refl, λ shut. refl) (λ _. then_signals)
    go Client then_signals = owed_does Client Shut _ _ (λ sets. refl, λ shut. refl) (λ _. then_signals)

owed_retire : (e : Standing) (state : EndState) → StateOwed e.role state (retire e state)
owed_retire e Fresh = owed_close e Fresh _ (owed_retire_shut e)
owed_retire e Open = owed_close e Open _ (owed_retire_shut e)
owed_retire e Shut = owed_retire_shut e

owed_branch : (role : Role) (state : EndState) (b : Bool) (x y : Plan) → StateOwed role state x → StateOwed role state y → StateOwed role state (cond b x y)
owed_branch role state true x y one two = one
owed_branch role state false x y one two = two

owed_load : (role : Role) (state : EndState) (word : WordName) (next : ℕ → Plan) → ((value : ℕ) → StateOwed role state (next value)) → StateOwed role state (does (Load word) next)
owed_load role state word next on = owed_does role state _ _ (λ sets. absurd (false≢true sets), λ shut. shut) on

fresh_shut : Fresh ≢ Shut
fresh_shut is = cc

owed_connect : (e : Standing) → e.role ≡ Client → StateOwed e.role Fresh (connect e)
unfolding connect connect_right
owed_connect e client =
    owed_load e.role Fresh _ _ (λ v. owed_load e.role Fresh _ _ (λ w. owed_branch e.role Fresh ((low16 v == e.orders.left.number) && (low16 w == e.orders.right.number)) _ _ opens_it (owed_answers e.role Fresh (BadOrders (low16 v) (low16 w)))))
  where
    opens_it : StateOwed e.role Fresh (does (Store CliLive 1) (λ _. answers Connected))
    opens_it = subst (λ (r : Role). StateOwed r Fresh (does (Store CliLive 1) (λ _. answers Connected))) (sym client)
        (owed_does Client Fresh _ _ (λ sets. absurd (false≢true sets), λ shut. absurd (fresh_shut shut)) (λ _. owed_answers Client Open Connected))

-- each call that was allowed
owed_call : (e : Standing) (call : Call) → IsAllowed e.role e.state call → StateOwed e.role e.state (plan_of e call)
owed_call e Close allowed = owed_close e e.state _ (owed_answers e.role Shut Done)
owed_call e Retire allowed = owed_retire e e.state
owed_call e Connect allowed = go e.role e.state refl refl allowed
  where
    go : (role : Role) (state : EndState) → e.role ≡ role → e.state ≡ state → IsAllowed role state Connect → StateOwed e.role e.state (connect e)
    go Client Fresh r s ok = subst (λ (state : EndState). StateOwed e.role state (connect e)) (sym s) (owed_connect e r)
    go Client Open r s ok = absurd ok
    go Client Shut r s ok = absurd ok
    go Server state r s ok = absurd ok
owed_call e (Write n) allowed = owed_each e.role e.state _ (each_event e (LeavesState e.role) (kinds_leave e) (Write n) tt)
owed_call e (Send n) allowed = owed_each e.role e.state _ (each_event e (LeavesState e.role) (kinds_leave e) (Send n) tt)
owed_call e (Read n) allowed = owed_each e.role e.state _ (each_event e (LeavesState e.role) (kinds_leave e) (Read n) tt)
owed_call e (Recv n) allowed = owed_each e.role e.state _ (each_event e (LeavesState e.role) (kinds_leave e) (Recv n) tt)
owed_call e (Drain n) allowed = owed_each e.role e.state _ (each_event e (LeavesState e.role) (kinds_leave e) (Drain n) tt)
owed_call e DataReady allowed = owed_each e.role e.state _ (each_event e (LeavesState e.role) (kinds_leave e) DataReady tt)
owed_call e BufferSpace allowed = owed_each e.role e.state _ (each_event e (LeavesState e.role) (kinds_leave e) BufferSpace tt)
owed_call e TakeEvent allowed = owed_each e.role e.state _ (each_event e (LeavesState e.role) (kinds_leave e) TakeEvent tt)
owed_call e PeerGone allowed = owed_each e.role e.state _ (each_event e (LeavesState e.role) (kinds_leave e) PeerGone tt)

-- ---- along a trail

owed_Leads : (e : Standing) (plan : Plan) (events : List PastEvent) (rest : Plan) → StateOwed e.role e.state plan → Leads plan events rest → StateOwed (standing_along e events).role (standing_along e events).state rest
unfolding StateOwed standing_after
owed_Leads e plan [] rest owed led = subst (λ (p : Plan). StateOwed e.role e.state p) led owed
owed_Leads e (answers answer) (event ∷ events) rest owed led = absurd led
owed_Leads e (does op next) (event ∷ events) rest owed led =
    owed_Leads (standing_after e event.op) (next event.taken) events rest (subst (λ (x : Op). StateOwed e.role (state_after x e.role e.state) (next event.taken)) (sym led.0) (owed.1 event.taken)) led.1

owed_first : (role : Role) (state : EndState) (plan : Plan) → StateOwed role state plan → GoesOn plan → OwesState role state (next_op plan)
unfolding StateOwed
owed_first role state (answers answer) owed more = absurd more
owed_first role state (does op next) owed more = owed.0

-- what the next event of an end owes to its state
owed_now : (s : Side) (i : InLawful s) → GoesOn (plan_left s) → OwesState s.role s.state (op_next s)
owed_now s i more =
    let e = begun_standing s i.begun in
    owed_first s.role s.state (plan_left s)
    (subst (λ (x : Standing). StateOwed x.role x.state (plan_left s)) i.lawful.stands (owed_Leads e (plan_of e i.begun.call) s.trail (plan_left s) (owed_call e i.begun.call i.lawful.allowed) i.led)) more

-- ---- the laws

pub own_opened : (role : Role) (orders : Orders) (start : ℕ) (state : EndState) → start < 2 ^ 32 → OwnLawful start (new_side role orders start state)
own_opened role orders start state low = record {
  honest = refl;
  prod = omega (arith, low);
  cons = omega (arith, low);
  call = tt;
  called = λ none. inl refl;
  noted = notes_kept.opens role orders start state;
  retired = λ is. absurd (false≢true is);
}

pub own_begun : (start : ℕ) (s : Side) (call : Call) (payload : List ℕ) → OwnLawful start s → MayBegin s.role s call payload → OwnLawful start (begins s call payload)
own_begun start s call payload h may = record {
  honest = h.honest;
  prod = h.prod;
  cons = h.cons;
  call = call_begins s call payload may.allowed may.pays may.bytes;
  called = λ none. absurd (some_none none);
  noted = notes_kept.begins s call payload h.noted;
  retired = h.retired;
}
  where
    some_none : ◌≡◌ {A = Option Begun} (Some (record { call = call; state = s.state; prod = s.prod; cons = s.cons })) None → ⊥
    some_none is = cc

module _ (start : ℕ) (s : Side) (taken : ℕ) (h : OwnLawful start s) (more : GoesOn (plan_left s)) where
  inside : InLawful s
  inside = in_lawful s h.call more

  counts : KeepsCounts start (side_after s taken)
  counts = counts_go_on start s taken (record { prod = h.prod; cons = h.cons; call = h.call }) more

  -- after its answer the trail is the whole of the call
  whole : (answer : Answer) → after (plan_left s) taken ≡ answers answer → HasCalled (settled (made s (op_next s) taken) (answers answer))
  whole answer is = record {
    begun = inside.begun;
    answer = answer;
    allowed = inside.lawful.allowed;
    pays = inside.lawful.pays;
    trace = subst (λ (p : Plan). Leads (plan_of (begun_standing s inside.begun) inside.begun.call) (s.trail ++ past (op_next s) taken ∷ []) p) is
        (Leads_more (plan_of (begun_standing s inside.begun) inside.begun.call) s.trail (plan_left s) taken more inside.led);
    stands = standing_along_push (begun_standing s inside.begun) s.trail (past (op_next s) taken) ∙ ap (λ (n : Standing). standing_after n (op_next s)) inside.lawful.stands
        ∙ sym (standing_of_made s (op_next s) taken);
  }

  called_then : (plan : Plan) → after (plan_left s) taken ≡ plan → (settled (made s (op_next s) taken) plan).call ≡ None →
      ((settled (made s (op_next s) taken) plan).trail ≡ []) ⊎ HasCalled (settled (made s (op_next s) taken) plan)
  called_then (answers answer) is none = inr (whole answer is)
  called_then (does op next) is none = absurd (busy none)
    where
      busy : s.call ≡ None → ⊥
      busy idle = some_none (sym inside.is ∙ idle)
        where
          some_none : ◌≡◌ {A = Option Begun} (Some inside.begun) None → ⊥
          some_none e = cc

  shut_now : (sets : Bool) → sets_gone (op_next s) s.role ≡ sets → (sets || s.retired) ≡ true → s.state ≡ Shut
  shut_now true sets is = (owed_now s inside more).0 sets
  shut_now false sets is = h.retired is

  shut_then : (plan : Plan) → (settled (made s (op_next s) taken) plan).retired ≡ true → (settled (made s (op_next s) taken) plan).state ≡ Shut
  shut_then (answers answer) is = (owed_now s inside more).1 (shut_now (sets_gone (op_next s) s.role) refl is)
  shut_then (does op next) is = (owed_now s inside more).1 (shut_now (sets_gone (op_next s) s.role) refl is)

  pub own_stepped : OwnLawful start (side_after s taken)
  own_stepped = record {
    honest = settled_turned (made s (op_next s) taken) (after (plan_left s) taken) ∙ h.honest;
    prod = counts.prod;
    cons = counts.cons;
    call = counts.call;
    called = called_then (after (plan_left s) taken) refl;
    noted = step_keeps_notes s taken h.call more h.noted;
    retired = shut_then (after (plan_left s) taken);
  }

-- ---- whatever happens on a page

-- what an honest end can say of itself, for each honest end
abbrev EachOwn : Core → Type 0
EachOwn core = (who : Role) → (side_of core who).turned ≡ false → OwnLawful core.start (side_of core who)

opened_own : (orders : Orders) (start : ℕ) (said : ℕ × ℕ) (state : EndState) → start < 2 ^ 32 → EachOwn (opened orders start said state)
opened_own orders start said state low Server honest = own_opened Server orders start Open low
opened_own orders start said state low Client honest = own_opened Client orders start state low

begun_own : (core : Core) (one : Role) (call : Call) (payload : List ℕ) → Invariant core → MayBegin one (side_of core one) call payload → EachOwn core → EachOwn (begun core one call payload)
begun_own core Server call payload k may each Server honest = own_begun core.start core.server call payload (each Server honest) (subst (λ (r : Role). MayBegin r core.server call payload) (sym k.turned.server_end.role_is) may)
begun_own core Client call payload k may each Client honest = own_begun core.start core.client call payload (each Client honest) (subst (λ (r : Role). MayBegin r core.client call payload) (sym k.turned.client_end.role_is) may)
begun_own core Server call payload k may each Client honest = each Client honest
begun_own core Client call payload k may each Server honest = each Server honest

event_own : (core : Core) (one : Role) → (side_of core one).turned ≡ false → GoesOn (plan_left (side_of core one)) → EachOwn core → EachOwn (event core one)
unfolding event
event_own core Server fair more each Server honest = own_stepped core.start core.server (taken_next core Server) (each Server fair) more
event_own core Client fair more each Client honest = own_stepped core.start core.client (taken_next core Client) (each Client fair) more
event_own core Server fair more each Client honest = each Client honest
event_own core Client fair more each Server honest = each Server honest

turning_own : (core : Core) (one : Role) → EachOwn core → EachOwn (turned_core core one)
turning_own core Server each Server honest = absurd (false≢true (sym honest ∙ turned_turned_side core.server (length core.client.got)))
turning_own core Client each Client honest = absurd (false≢true (sym honest ∙ turned_turned_side core.client (length core.server.got)))
turning_own core Server each Client honest = each Client honest
turning_own core Client each Server honest = each Server honest

strayed_own : (core : Core) (one : Role) (op : Op) → EachOwn core → EachOwn (strayed core one op)
strayed_own core Server op each Server honest = absurd (false≢true (sym honest ∙ turned_turned_side core.server (length core.client.got)))
strayed_own core Client op each Client honest = absurd (false≢true (sym honest ∙ turned_turned_side core.client (length core.server.got)))
strayed_own core Server op each Client honest = each Client honest
strayed_own core Client op each Server honest = each Server honest

pub each_own : (core : Core) → MayCome core → (who : Role) → (side_of core who).turned ≡ false → OwnLawful core.start (side_of core who)
each_own core (opens orders start said state low left right fresh) = opened_own orders start said state low
each_own core (begins_call before one call payload there fair may) = begun_own before one call payload (each_has_invariant before there) may (each_own before there)
each_own core (makes_event before one there fair more) = event_own before one fair more (each_own before there)
each_own core (is_turned before one there) = turning_own before one (each_own before there)
each_own core (strays before one op there) = strayed_own before one op (each_own before there)
