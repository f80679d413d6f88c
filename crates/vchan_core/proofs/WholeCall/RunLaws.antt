-- A call that an end makes while the other makes no event: the loop over its events.
use Rattle.std.proofs.Common.{[], ◌∷◌, ◌++◌, ◌≡◌, ℕ, ◌≤◌, ◌↔◌, Option, Some, None, IsSome, is_some, true, List, length, take, subst, sym, ap, ◌∙◌}
use Rattle.std.proofs.lemmas.Bool.{false≢true}
use Rattle.ring_words.specs.declared.order.Orders.{Orders}
use Rattle.ring_words.specs.declared.page.Role.{Role}
use Rattle.vchan_protocol.specs.declared.op.Op.{Op}
use Rattle.vchan_protocol.specs.declared.op.Op.TheVariants.{Load, LoadByte, Store, StoreByte, Or, And, Swap, Nothing}
use Rattle.vchan_protocol.specs.declared.op.PastEvent.{PastEvent}
use Rattle.vchan_protocol.specs.declared.call.Answer.{Answer}
use Rattle.vchan_protocol.specs.declared.call.Call.{Call}
use Rattle.vchan_protocol.specs.declared.side.Side.{Side}
use Rattle.vchan_core.specs.declared.machine.Machine.{Machine}
use Rattle.vchan_core.specs.declared.plain.Plain.{Plain}
use Rattle.vchan_protocol.specs.Table.Plan.{past, Plan, answers, next_op, after, GoesOn}
use Rattle.vchan_protocol.specs.Table.Ends.{Standing}
use Rattle.vchan_protocol.specs.Table.Calls.{plan_of, payload_of}
use Rattle.vchan_protocol.specs.Table.Apply.{Fits, words_after, value_taken, buffer_after, filled}
use Rattle.vchan_core.specs.OneMachine.Phases.{standing, rest, rest_or_answer, IsIdle}
use Rattle.vchan_protocol.specs.History.Core.{Core, side_of, with_side, event, begun, made, answered, settled, carried_out, bytes_loaded}
use Rattle.vchan_protocol.specs.History.WholeCall.{alone, whole_call}
use Rattle.vchan_core.specs.Page.StandsFor.{IsMachineOf, HasPayload, StandsFor, machine_of, orders_of, words_of, op_of}
use Rattle.vchan_core.proofs.OneMachine.PhaseLaws.{GoesOn_machine}
use Rattle.vchan_core.proofs.Page.StepLaws.{InCall, end_stands, event_by_lem, in_call, owed}
use Rattle.vchan_protocol.proofs.History.EventLaws.{OwesNext, settled_payload, side_by, event_by_on, event_by_answers, settled_trail, side_of_with_side}
use Rattle.vchan_protocol.proofs.History.WholeCallLaws.{alone_after, alone_answers, FillsNext, fills_on, length_payload}

-- ---- one end of a core state

pub machine_stands : (core : Core) (page : Plain) (who : Role) → StandsFor core page → IsMachineOf (side_of core who) (machine_of page who)
machine_stands core page who h = (end_stands core page who h).machine

-- ---- the loop

-- the page stands where a core state does on the way of the call, after these events of it
pub record IsRunning (core : Core) (who : Role) (call : Call) (payload start : List ℕ) (page : Plain) (buffer : List ℕ) (events : List PastEvent) : Type 0 where
  pub now : Core
  pub stands : StandsFor now page
  pub pays : (side_of now who).payload ≡ payload
  pub on : alone now who (rest (machine_of page who)) ≡ whole_call core who call payload
  pub fills : buffer ≡ filled start (bytes_loaded (side_of now who).trail)
  pub trail : (side_of now who).trail ≡ events

has_payload : (s : Side) (call : Call) (source : List ℕ) → payload_of call ≤ length source → s.payload ≡ take (payload_of call) source → HasPayload s source
has_payload s call source enough pays =
    ap (λ (xs : List ℕ). take (length xs) source) pays ∙ ap (λ (n : ℕ). take n source) (length_payload call source enough) ∙ sym pays

pub runs_begun : (core : Core) (who : Role) (call : Call) (payload start : List ℕ) (page page' : Plain) → StandsFor core page → StandsFor (begun core who call payload) page' →
    rest (machine_of page' who) ≡ plan_of (standing (machine_of page who)) call → IsRunning core who call payload start page' start []
runs_begun core who call payload start page page' h stood plan = record {
  now = begun core who call payload;
  stands = stood;
  pays = ap (λ (s : Side). s.payload) (side_of_with_side core who _);
  on = ap (λ (p : Plan). alone (begun core who call payload) who p) (plan ∙ ap (λ (e : Standing). plan_of e call) (machine_stands core page who h).standing_is);
  fills = sym (ap (λ (s : Side). filled start (bytes_loaded s.trail)) (side_of_with_side core who _));
  trail = ap (λ (s : Side). s.trail) (side_of_with_side core who _);
}

-- what one step of the loop knows
pub record IsStep (who : Role) (source : List ℕ) (page page' : Plain) (result : Option Answer) (buffer buffer' : List ℕ) : Type 0 where
  pub busy : ¬ IsIdle (machine_of page who)
  pub stands : (core : Core) → StandsFor core page → HasPayload (side_of core who) source → StandsFor (event core who) page'
  pub footprint : Fits (orders_of page) (length source) (length buffer) (op_of page who)
  pub buffers : buffer' ≡ buffer_after (orders_of page) (words_of page) buffer (op_of page who)
  pub leads : rest_or_answer result (machine_of page' who) ≡ after (rest (machine_of page who)) (value_taken (orders_of page) (words_of page) (op_of page who))
  pub idle : IsSome result ↔ IsIdle (machine_of page' who)

-- the next event fills the next place of the buffer
pub fills_next : (s : Side) (m : Machine) (c : InCall s m) (orders : Orders) (out into : ℕ) → ¬ IsIdle m → Fits orders out into (next_op (rest m)) → FillsNext s.trail into (next_op (rest m))
fills_next s m c orders out into busy fits = go (next_op (rest m)) (owed s m c busy) fits
  where
    go : (op : Op) → OwesNext s c.begun op → Fits orders out into op → FillsNext s.trail into op
    go (LoadByte word at) owes f = (owes.0, f.1)
    go (Load word) owes f = tt
    go (Store word value) owes f = tt
    go (StoreByte word at) owes f = tt
    go (Or word bits) owes f = tt
    go (And word bits) owes f = tt
    go (Swap word value) owes f = tt
    go Nothing owes f = tt

-- the end of a core state after its event
pub side_of_event : (now : Core) (who : Role) (m : Machine) → InCall (side_of now who) m → side_of (event now who) who ≡ side_by now.orders now.words (side_of now who) (rest m)
side_of_event now who m c = ap (λ (k : Core). side_of k who) (event_by_lem now who m c) ∙ side_of_with_side (record now { words = words_after now.orders now.words (side_of now who).payload (next_op (rest m)) }) who _

-- one event of an end from a core state for which the page stands, whether an answer came or not
module _ (now : Core) (who : Role) (source start buffer buffer' : List ℕ) (page page' : Plain) (result : Option Answer) (stands : StandsFor now page) (long : length buffer ≡ length start) (d : IsStep who source page page' result buffer buffer') where
  pub event_here : InCall (side_of now who) (machine_of page who)
  event_here = in_call (side_of now who) (machine_of page who) (machine_stands now page who stands) d.busy

  abbrev next : Op
  next = next_op (rest (machine_of page who))

  abbrev value : ℕ
  value = value_taken now.orders now.words next

  pub event_side : side_of (event now who) who ≡ settled (made (side_of now who) next value) (after (rest (machine_of page who)) value)
  event_side = side_of_event now who (machine_of page who) event_here

  pub event_payload : (side_of (event now who) who).payload ≡ (side_of now who).payload
  event_payload = ap (λ (s : Side). s.payload) event_side ∙ settled_payload (made (side_of now who) _ _) _

  pub event_leads : rest_or_answer result (machine_of page' who) ≡ after (rest (machine_of page who)) value
  event_leads =
      d.leads ∙ ap (λ (o : Orders). after (rest (machine_of page who)) (value_taken o (words_of page) next)) stands.orders
      ∙ ap (λ (w : List ℕ). after (rest (machine_of page who)) (value_taken now.orders w next)) stands.words

  pub event_fills : buffer ≡ filled start (bytes_loaded (side_of now who).trail) → buffer' ≡ filled start (bytes_loaded (side_of (event now who) who).trail)
  event_fills filled_so =
      let fits : FillsNext (side_of now who).trail (length start) next =
      subst (λ (n : ℕ). FillsNext (side_of now who).trail n next) long (fills_next (side_of now who) (machine_of page who) event_here (orders_of page) (length source) (length buffer) d.busy d.footprint) in
      d.buffers ∙ ap (λ (o : Orders). buffer_after o (words_of page) buffer next) stands.orders ∙ ap (λ (w : List ℕ). buffer_after now.orders w buffer next) stands.words
      ∙ ap (λ (b : List ℕ). buffer_after now.orders now.words b next) filled_so
      ∙ fills_on now.orders now.words start (side_of now who).trail next fits
      ∙ sym (ap (λ (s : Side). filled start (bytes_loaded s.trail)) event_side ∙ ap (λ (t : List PastEvent). filled start (bytes_loaded t)) (settled_trail (made (side_of now who) next value) (after (rest (machine_of page who)) value)))

  -- the event of the page, with the value that it took there, comes after the events before
  pub event_trail : (side_of (event now who) who).trail ≡ (side_of now who).trail ++ past next (value_taken (orders_of page) (words_of page) next) ∷ []
  event_trail =
      ap (λ (s : Side). s.trail) event_side ∙ settled_trail (made (side_of now who) next value) (after (rest (machine_of page who)) value)
      ∙ sym (ap (λ (o : Orders). (side_of now who).trail ++ past next (value_taken o (words_of page) next) ∷ []) stands.orders
      ∙ ap (λ (w : List ℕ). (side_of now who).trail ++ past next (value_taken now.orders w next) ∷ []) stands.words)

-- one more event of a whole call, whether an answer came or not
module _ (core : Core) (who : Role) (call : Call) (source start buffer buffer' : List ℕ) (events : List PastEvent) (page page' : Plain) (result : Option Answer) (enough : payload_of call ≤ length source) (long : length buffer ≡ length start)
    (r : IsRunning core who call (take (payload_of call) source) start page buffer events) (d : IsStep who source page page' result buffer buffer') where
  here : InCall (side_of r.now who) (machine_of page who)
  here = event_here r.now who source start buffer buffer' page page' result r.stands long d

  pub then_stands : StandsFor (event r.now who) page'
  then_stands = d.stands r.now r.stands (has_payload (side_of r.now who) call source enough r.pays)

  then_leads : rest_or_answer result (machine_of page' who) ≡ after (rest (machine_of page who)) (value_taken r.now.orders r.now.words (next_op (rest (machine_of page who))))
  then_leads = event_leads r.now who source start buffer buffer' page page' result r.stands long d

  pub then_fills : buffer' ≡ filled start (bytes_loaded (side_of (event r.now who) who).trail)
  then_fills = event_fills r.now who source start buffer buffer' page page' result r.stands long d r.fills

  pub then_trail : (side_of (event r.now who) who).trail ≡ events ++ past (op_of page who) (value_taken (orders_of page) (words_of page) (op_of page who)) ∷ []
  then_trail =
      event_trail r.now who source start buffer buffer' page page' result r.stands long d
      ∙ ap (λ (t : List PastEvent). t ++ past (op_of page who) (value_taken (orders_of page) (words_of page) (op_of page who)) ∷ []) r.trail

  pub runs_on : result ≡ None → IsRunning core who call (take (payload_of call) source) start page' buffer' (events ++ past (op_of page who) (value_taken (orders_of page) (words_of page) (op_of page who)) ∷ [])
  runs_on none =
      let next = next_op (rest (machine_of page who)) in
      let value = value_taken r.now.orders r.now.words next in
      let awake : ¬ IsIdle (machine_of page' who) = λ quiet. false≢true (subst (λ (x : Option Answer). is_some x ≡ true) none (d.idle.1 quiet)) in
      let plan : rest (machine_of page' who) ≡ after (rest (machine_of page who)) value = subst (λ (x : Option Answer). rest_or_answer x (machine_of page' who) ≡ after (rest (machine_of page who)) value) none then_leads in
      let goes : GoesOn (after (rest (machine_of page who)) value) = subst GoesOn plan (GoesOn_machine (machine_of page' who) awake) in
      let there : event r.now who ≡ carried_out r.now who next = event_by_lem r.now who (machine_of page who) here ∙ event_by_on r.now who (rest (machine_of page who)) goes in
      record {
        now = event r.now who;
        stands = then_stands;
        pays = event_payload r.now who source start buffer buffer' page page' result r.stands long d ∙ r.pays;
        on = ap (λ (k : Core). alone k who (rest (machine_of page' who))) there ∙ ap (λ (p : Plan). alone (carried_out r.now who next) who p) plan
            ∙ alone_after r.now who (rest (machine_of page who)) (GoesOn_machine (machine_of page who) d.busy) ∙ r.on;
        fills = then_fills;
        trail = then_trail;
      }

  pub runs_out : (answer : Answer) → result ≡ Some answer → (event r.now who, answer) ≡ whole_call core who call (take (payload_of call) source)
  runs_out answer some =
      let next = next_op (rest (machine_of page who)) in
      let value = value_taken r.now.orders r.now.words next in
      let plan : answers answer ≡ after (rest (machine_of page who)) value = subst (λ (x : Option Answer). rest_or_answer x (machine_of page' who) ≡ after (rest (machine_of page who)) value) some then_leads in
      let there : event r.now who ≡ with_side (carried_out r.now who next) who (answered (side_of (carried_out r.now who next) who) answer) =
      event_by_lem r.now who (machine_of page who) here ∙ event_by_answers r.now who (rest (machine_of page who)) answer (sym plan) in
      let pair : Core → Core × Answer = λ k. (k, answer) in
      ap pair there ∙ sym (alone_answers (carried_out r.now who next) who answer) ∙ ap (λ (p : Plan). alone (carried_out r.now who next) who p) plan
      ∙ alone_after r.now who (rest (machine_of page who)) (GoesOn_machine (machine_of page who) d.busy) ∙ r.on
