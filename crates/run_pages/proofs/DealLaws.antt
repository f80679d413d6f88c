-- Dealing one page more.
use Rattle.std.proofs.Common.{◌≡◌, ◌≢◌, ◌⊎◌, inl, inr, ℕ, ◌+◌, ◌-◌, ◌<◌, ◌≤◌, List, [], ◌∷◌, ◌++◌, length, map, set, refl, ap, sym, ◌∙◌, subst, arith, append_assoc, length-append, length-set, Some}
use Rattle.std.specs.Prelude.{◌==◌, not, Bool, true, false, slice_get, if◌then◌else◌}
use Rattle.std.proofs.lemmas.List.{append-nil, map-append, length-map}
use Rattle.std.proofs.lemmas.List.Elements.{filter_map-append}
use Rattle.std.proofs.lemmas.Bool.{eq-eqb, ne_eqb}
use Rattle.std.proofs.lemmas.Bool.Decides.{eqb_tells}
use Rattle.std.proofs.lemmas.Option.{slice_get_within}
use Rattle.std.specs.List.{AllByRecursion as Each}
use Rattle.list_laws.proofs.Each.{each_push}
use Rattle.list_laws.proofs.Places.{get_push, get_set}
use Rattle.end_view.specs.EndView.{EndView, view_of, state_at_first}
use Rattle.vchan_rule.specs.Seated.{PageView, SeatView, SeatedEnd, view}
use Rattle.vchan_core.specs.OneMachine.Phases.{IsIdle}
use Rattle.vchan_protocol.specs.History.Core.{new_side}
use Rattle.ring_words.specs.declared.page.Role.{Role}
use Rattle.task_duties.specs.TaskOwes.{EndAt, all_ends, broker_ends}
use Rattle.task_duties.specs.GivenEnds.{all_given, given_at}
use Rattle.task_duties.specs.declared.ends.DataEnd.{DataEnd}
use Rattle.task_duties.specs.declared.place.PagePlace.TheVariants.{Control, Payload}
use Rattle.ring_words.specs.declared.page.Role.TheVariants.{Server, Client}
use Rattle.run_laws.specs.Laid.{server_of, client_of}
use Rattle.run_pages.specs.declared.deal.Hand.{Hand}
use Rattle.scenario_file.specs.Scenario.{Plan as Scenario}
use Rattle.run_pages.specs.Pages.{PageAt, new_end, end_on, new_ends}
use Rattle.run_pages.specs.Dealt.{hand_ends, HandsDealt, ControlsDealt, AreDealt, AddsHand, FitsDomain, Gives, HasOrders, HaveOrders}

-- a data end comes into the hand at a place
pub gives_set : (old : List Hand) (number : ℕ) (h h' : Hand) (end : DataEnd) → 1 ≤ number → slice_get old (number - 1) ≡ Some h
    → h'.control ≡ h.control → h'.payload.items ≡ h.payload.items ++ end ∷ [] → Gives number (given_at end) old (set old (number - 1) h')
gives_set old number h h' end some at control payload = record { count = length-set old (number - 1) h'; each = each }
  where
    ends_of : (domain : ℕ) → hand_ends domain h' ≡ hand_ends domain h ++ given_at end ∷ []
    ends_of domain =
        ap (λ c. all_ends domain (view c) (all_given h'.payload.items)) control ∙ ap (λ l. all_ends domain (view h.control) (map given_at l)) payload
        ∙ ap (λ l. all_ends domain (view h.control) l) (map-append given_at h.payload.items (end ∷ []))

    each : (k : ℕ) (hand : Hand) → slice_get (set old (number - 1) h') k ≡ Some hand
        → (before : Hand) × (slice_get old k ≡ Some before) × (hand_ends (k + 1) hand ≡ hand_ends (k + 1) before ++ (if k + 1 == number then given_at end ∷ [] else []))
    each k hand is = by (get_set old (number - 1) k h' hand is)
      where
        by : ((k ≡ number - 1) × (h' ≡ hand)) ⊎ ((k ≢ number - 1) × (slice_get old k ≡ Some hand))
            → (before : Hand) × (slice_get old k ≡ Some before) × (hand_ends (k + 1) hand ≡ hand_ends (k + 1) before ++ (if k + 1 == number then given_at end ∷ [] else []))
        by (inl e) = (
          h,
          subst (λ j. slice_get old j ≡ Some h) (sym e.0) at,
          subst (λ x. hand_ends (k + 1) x ≡ hand_ends (k + 1) h ++ (if k + 1 == number then given_at end ∷ [] else [])) e.1
              (rw (eq-eqb (k + 1) number (omega (arith, e.0, some))) (ends_of (k + 1))),
        )
        by (inr e) = (hand, e.1, rw (ne_eqb (k + 1) number (λ s. e.0 (omega (arith, s)))) (sym (append-nil (hand_ends (k + 1) hand))))

-- the ends of all hands still fit after a hand got one more end that fits
pub orders_set : (s : Scenario) (old : List Hand) (number : ℕ) (h h' : Hand) (end : DataEnd) → 1 ≤ number → slice_get old (number - 1) ≡ Some h
    → h'.control ≡ h.control → h'.payload.items ≡ h.payload.items ++ end ∷ [] → FitsDomain s number end.end → HaveOrders s old → HaveOrders s (set old (number - 1) h')
orders_set s old number h h' end some at control payload fits ordered k hand is = by (get_set old (number - 1) k h' hand is)
  where
    by : ((k ≡ number - 1) × (h' ≡ hand)) ⊎ ((k ≢ number - 1) × (slice_get old k ≡ Some hand)) → HasOrders s (k + 1) hand
    by (inr e) = ordered k hand e.1
    by (inl e) =
        let up : number - 1 + 1 ≡ k + 1 = omega (arith, e.0) in
        let now : number ≡ k + 1 = omega (arith, e.0, some) in
        let has : HasOrders s (k + 1) h = subst (λ n. HasOrders s n h) up (ordered (number - 1) h at) in
        subst (λ x. HasOrders s (k + 1) x) e.1 (record {
          of_control = ap (λ (c : SeatedEnd). c.side.orders) control ∙ has.of_control;
          of_payload = subst (Each (λ (e : DataEnd). FitsDomain s (k + 1) e.end)) (sym payload)
              (each_push (λ (e : DataEnd). FitsDomain s (k + 1) e.end) h.payload.items end has.of_payload (subst (λ n. FitsDomain s n end.end) now fits));
        })

-- a hand that has a control end alone comes after the others
pub adds_hand : (old : List Hand) (h : Hand) → h.payload.items ≡ [] → AddsHand h.control old (old ++ h ∷ [])
adds_hand old h none = record { count = length-append old (h ∷ []); each = each }
  where
    each : (k : ℕ) (hand : Hand) → slice_get (old ++ h ∷ []) k ≡ Some hand → (slice_get old k ≡ Some hand) ⊎ ((k ≡ length old) × (hand.control ≡ h.control) × (hand.payload.items ≡ []))
    each k hand is = by (get_push old h k hand is)
      where
        by : (slice_get old k ≡ Some hand) ⊎ ((k ≡ length old) × (h ≡ hand)) → (slice_get old k ≡ Some hand) ⊎ ((k ≡ length old) × (hand.control ≡ h.control) × (hand.payload.items ≡ []))
        by (inl e) = inl e
        by (inr e) = inr (e.0, ap (λ (x : Hand). x.control) (sym e.1), ap (λ (x : Hand). x.payload.items) (sym e.1) ∙ none)

-- the ends of all hands still fit then
pub orders_more : (s : Scenario) (old : List Hand) (h : Hand) → h.control.side.orders ≡ s.control → h.payload.items ≡ [] → HaveOrders s old → HaveOrders s (old ++ h ∷ [])
orders_more s old h control payload ordered k hand is = by (get_push old h k hand is)
  where
    by : (slice_get old k ≡ Some hand) ⊎ ((k ≡ length old) × (h ≡ hand)) → HasOrders s (k + 1) hand
    by (inl e) = ordered k hand e
    by (inr e) = subst (λ x. HasOrders s (k + 1) x) e.1 (record {
      of_control = control;
      of_payload = subst (Each (λ (e : DataEnd). FitsDomain s (k + 1) e.end)) (sym payload) tt;
    })

-- ---- the ends of one page more

pub ends_more : (pages : List PageAt) (p : PageAt) (number : ℕ) → new_ends (pages ++ p ∷ []) number ≡ new_ends pages number ++ new_ends (p ∷ []) number
ends_more pages p number = filter_map-append (end_on number) pages (p ∷ [])

-- the server's end is that of the server's domain, and the client's end that of the client's domain
pub ends_server : (p : PageAt) (number : ℕ) → server_of p.place ≡ number → new_ends (p ∷ []) number ≡ new_end p Server ∷ []
ends_server p number e = rw (eq-eqb (server_of p.place) number e) refl

pub ends_client : (p : PageAt) (number : ℕ) → server_of p.place ≢ number → client_of p.place ≡ number → new_ends (p ∷ []) number ≡ new_end p Client ∷ []
ends_client p number n e = rw (ne_eqb (server_of p.place) number n) (rw (eq-eqb (client_of p.place) number e) refl)

pub ends_none : (p : PageAt) (number : ℕ) → server_of p.place ≢ number → client_of p.place ≢ number → new_ends (p ∷ []) number ≡ []
ends_none p number n m = rw (ne_eqb (server_of p.place) number n) (rw (ne_eqb (client_of p.place) number m) refl)

-- ---- a control page

broker_more : (domain : ℕ) (vs : List EndView) (v : EndView) → broker_ends domain (vs ++ v ∷ []) ≡ broker_ends domain vs ++ record { place = Control (domain + length vs); view = v } ∷ []
broker_more domain [] v = ap (λ d. record { place = Control d; view = v } ∷ []) (omega arith)
broker_more domain (w ∷ vs) v =
    ap (λ l. record { place = Control domain; view = w } ∷ l)
    (broker_more (domain + 1) vs v ∙ ap (λ d. broker_ends (domain + 1) vs ++ record { place = Control d; view = v } ∷ []) (omega arith))

pub control_dealt : (pages : List PageAt) (controls : List SeatedEnd) (hands hands' : List Hand) (p : PageAt) (domain : ℕ) (server client : SeatedEnd)
    → AreDealt pages controls hands → p.place ≡ Control domain → domain ≡ length hands + 1
    → view server ≡ (new_end p Server).view → view client ≡ (new_end p Client).view → AddsHand server hands hands'
    → AreDealt (pages ++ p ∷ []) (controls ++ client ∷ []) hands'
control_dealt pages controls hands hands' p domain server client dealt place next server_is client_is adds =
    record { controls_are = controls_are_lem; hands_are = hands_are_lem; as_many = omega (arith, dealt.as_many, adds.count, length-append controls (client ∷ [])); beyond = beyond }
  where
    server_at : server_of p.place ≡ domain
    server_at = ap server_of place

    client_at : client_of p.place ≡ 0
    client_at = ap client_of place

    client_end : record { place = Control (1 + length (map view controls)); view = view client } ≡ new_end p Client
    client_end =
        ap (λ d. record { place = Control d; view = view client }) (omega (arith, next, dealt.as_many, length-map controls view))
        ∙ ap (λ place. record { place = place; view = view client }) (sym place) ∙ ap (λ v. record { place = p.place; view = v }) client_is

    controls_are_lem : ControlsDealt (pages ++ p ∷ []) (controls ++ client ∷ [])
    controls_are_lem =
        ap (broker_ends 1) (map-append view controls (client ∷ [])) ∙ broker_more 1 (map view controls) (view client)
        ∙ ap (λ l. l ++ record { place = Control (1 + length (map view controls)); view = view client } ∷ []) dealt.controls_are
        ∙ ap (λ e. new_ends pages 0 ++ e ∷ []) client_end
        ∙ sym (ap (λ l. new_ends pages 0 ++ l) (ends_client p 0 (λ e. absurd (omega (arith, e, server_at, next))) client_at))
        ∙ sym (ends_more pages p 0)

    server_end : (k : ℕ) → k ≡ length hands → record { place = Control (k + 1); view = view server } ≡ new_end p Server
    server_end k e =
        ap (λ d. record { place = Control d; view = view server }) (omega (arith, next, e))
        ∙ ap (λ place. record { place = place; view = view server }) (sym place) ∙ ap (λ v. record { place = p.place; view = v }) server_is

    hands_are_lem : HandsDealt (pages ++ p ∷ []) hands'
    hands_are_lem k hand is = by (adds.each k hand is)
      where
        by : (slice_get hands k ≡ Some hand) ⊎ ((k ≡ length hands) × (hand.control ≡ server) × (hand.payload.items ≡ [])) → hand_ends (k + 1) hand ≡ new_ends (pages ++ p ∷ []) (k + 1)
        by (inl old) =
            dealt.hands_are k hand old
            ∙ sym (ends_more pages p (k + 1) ∙ ap (λ l. new_ends pages (k + 1) ++ l) (ends_none p (k + 1)
            (λ e. absurd (omega (arith, e, server_at, next, slice_get_within hands k hand old))) (λ e. absurd (omega (arith, e, client_at))))
            ∙ append-nil (new_ends pages (k + 1)))
        by (inr new) =
            ap (λ c. all_ends (k + 1) (view c) (all_given hand.payload.items)) new.1 ∙ ap (λ l. all_ends (k + 1) (view server) (map given_at l)) new.2
            ∙ ap (λ e. e ∷ []) (server_end k new.0)
            ∙ sym (ends_more pages p (k + 1) ∙ ap (λ l. l ++ new_ends (p ∷ []) (k + 1)) (dealt.beyond (k + 1) (omega (arith, new.0)))
            ∙ ends_server p (k + 1) (omega (arith, server_at, next, new.0)))

    beyond : (number : ℕ) → length hands' < number → new_ends (pages ++ p ∷ []) number ≡ []
    beyond number far =
        ends_more pages p number
        ∙ ap (λ l. l ++ new_ends (p ∷ []) number) (dealt.beyond number (omega (arith, far, adds.count)))
        ∙ ends_none p number (λ e. absurd (omega (arith, e, server_at, next, far, adds.count))) (λ e. absurd (omega (arith, e, client_at, far)))

-- ---- a page of either kind

-- the end of a seat has done nothing
pub attached : (p : PageView) (role : Role) (seat : SeatView) (e : SeatedEnd) → seat ≡ record { page = p; role = role } → e.page ≡ p.table → e.side ≡ new_side seat.role p.orders p.start (state_at_first seat.role) → IsIdle e.machine
    → view e ≡ view_of p.table true (new_side role p.orders p.start (state_at_first role))
attached p role seat e is page side idle = λ i. view_of (page i) (not (idle i)) ((side ∙ ap (λ (s : SeatView). new_side s.role p.orders p.start (state_at_first s.role)) is) i)

pub is_no : (b : Bool) → not b ≡ true → b ≡ false
is_no true is = cc
is_no false is = refl

-- ---- a data page

-- what is given to a domain is its end of the page
pub end_at : (p : PageAt) (from to port : ℕ) (v : EndView) (role : Role) → p.place ≡ Payload from to port → v ≡ (new_end p role).view → record { place = Payload from to port; view = v } ≡ new_end p role
end_at p from to port v role place view = ap (λ place. record { place = place; view = v }) (sym place) ∙ ap (λ v. record { place = p.place; view = v }) view

-- an end, for one hand alone
abbrev added : ℕ → ℕ → EndAt → List EndAt
added number n end = if n == number then end ∷ [] else []

pub payload_dealt : (pages : List PageAt) (controls : List SeatedEnd) (hands between hands' : List Hand) (p : PageAt) (from to port : ℕ)
    → AreDealt pages controls hands → p.place ≡ Payload from to port → from ≢ to → 1 ≤ from → from ≤ length hands → 1 ≤ to → to ≤ length hands
    → Gives from (new_end p Server) hands between → Gives to (new_end p Client) between hands'
    → AreDealt (pages ++ p ∷ []) controls hands'
payload_dealt pages controls hands between hands' p from to port dealt place apart some_from few_from some_to few_to first second =
    record { controls_are = controls_are_lem; hands_are = hands_are_lem; as_many = omega (arith, dealt.as_many, first.count, second.count); beyond = beyond }
  where
    server_at : server_of p.place ≡ from
    server_at = ap server_of place

    client_at : client_of p.place ≡ to
    client_at = ap client_of place

    nothing_of : (number : ℕ) → from ≢ number → to ≢ number → new_ends (pages ++ p ∷ []) number ≡ new_ends pages number
    nothing_of number n m =
        ends_more pages p number ∙ ap (λ l. new_ends pages number ++ l) (ends_none p number (λ e. n (sym server_at ∙ e)) (λ e. m (sym client_at ∙ e)))
        ∙ append-nil (new_ends pages number)

    controls_are_lem : ControlsDealt (pages ++ p ∷ []) controls
    controls_are_lem = dealt.controls_are ∙ sym (nothing_of 0 (λ e. absurd (omega (arith, e, some_from))) (λ e. absurd (omega (arith, e, some_to))))

    beyond : (number : ℕ) → length hands' < number → new_ends (pages ++ p ∷ []) number ≡ []
    beyond number far =
        nothing_of number (λ e. absurd (omega (arith, e, far, few_from, first.count, second.count))) (λ e. absurd (omega (arith, e, far, few_to, first.count, second.count)))
        ∙ dealt.beyond number (omega (arith, far, first.count, second.count))

    -- what came into a hand is what the page has of its domain
    came : (n : ℕ) → added from n (new_end p Server) ++ added to n (new_end p Client) ≡ new_ends (p ∷ []) n
    came n = by (eqb_tells n from) (eqb_tells n to)
      where
        by : (((n == from) ≡ true) × (n ≡ from)) ⊎ (((n == from) ≡ false) × (n ≢ from)) → (((n == to) ≡ true) × (n ≡ to)) ⊎ (((n == to) ≡ false) × (n ≢ to))
            → added from n (new_end p Server) ++ added to n (new_end p Client) ≡ new_ends (p ∷ []) n
        by (inl a) (inl b) = absurd (apart (sym a.1 ∙ b.1))
        by (inl a) (inr b) = rw a.0 (rw b.0 (sym (ends_server p n (server_at ∙ sym a.1))))
        by (inr a) (inl b) = rw a.0 (rw b.0 (sym (ends_client p n (λ e. a.1 (sym e ∙ server_at)) (client_at ∙ sym b.1))))
        by (inr a) (inr b) = rw a.0 (rw b.0 (sym (ends_none p n (λ e. a.1 (sym e ∙ server_at)) (λ e. b.1 (sym e ∙ client_at)))))

    hands_are_lem : HandsDealt (pages ++ p ∷ []) hands'
    hands_are_lem k hand is = by (second.each k hand is)
      where
        by : (middle : Hand) × (slice_get between k ≡ Some middle) × (hand_ends (k + 1) hand ≡ hand_ends (k + 1) middle ++ added to (k + 1) (new_end p Client))
            → hand_ends (k + 1) hand ≡ new_ends (pages ++ p ∷ []) (k + 1)
        by s = by' (first.each k s.0 s.1)
          where
            by' : (before : Hand) × (slice_get hands k ≡ Some before) × (hand_ends (k + 1) s.0 ≡ hand_ends (k + 1) before ++ added from (k + 1) (new_end p Server))
                → hand_ends (k + 1) hand ≡ new_ends (pages ++ p ∷ []) (k + 1)
            by' f =
                s.2 ∙ ap (λ l. l ++ added to (k + 1) (new_end p Client)) (f.2 ∙ ap (λ l. l ++ added from (k + 1) (new_end p Server)) (dealt.hands_are k f.0 f.1))
                ∙ append_assoc (new_ends pages (k + 1)) (added from (k + 1) (new_end p Server)) (added to (k + 1) (new_end p Client))
                ∙ ap (λ l. new_ends pages (k + 1) ++ l) (came (k + 1)) ∙ sym (ends_more pages p (k + 1))
