-- The ends that are dealt are those that the tasks of a scenario may be given.
use Rattle.std.proofs.Common.{◌≡◌, ◌≢◌, ◌⊎◌, inl, inr, ℕ, zero, suc, ◌+◌, ◌≤◌, List, [], ◌∷◌, map, length, refl, ap, sym, ◌∙◌, subst, arith, Some, None}
use Rattle.std.specs.Prelude.{◌==◌, Bool, true, false, filter, is_some}
use Rattle.std.proofs.lemmas.Bool.Decides.{nat_tests}
use Rattle.std.specs.List.{AllByRecursion as Each}
use Rattle.std.proofs.lemmas.List.{length-map}
use Rattle.list_laws.specs.Lists.{AreDifferent}
use Rattle.ring_words.specs.declared.page.Role.{Role}
use Rattle.ring_words.specs.declared.page.Role.TheVariants.{Server, Client}
use Rattle.vchan_rule.specs.Seated.{SeatedEnd, view}
use Rattle.end_view.specs.EndView.{IsUnused}
use Rattle.scenario_file.specs.Scenario.{Plan as Scenario, domain_of, hostile_at}
use Rattle.task_duties.specs.declared.place.PagePlace.{PagePlace}
use Rattle.task_duties.specs.declared.place.PagePlace.TheVariants.{Control, Payload}
use Rattle.task_duties.specs.declared.ends.DataEnd.{DataEnd}
use Rattle.task_duties.specs.Places.{numbers}
use Rattle.task_duties.specs.TaskOwes.{Broker, EndAt, broker_ends, places_in}
use Rattle.task_duties.specs.GivenEnds.{all_given, fresh_view}
use Rattle.task_duties.proofs.Elements.{Has, each_of, has_filter_map, has_map_back}
use Rattle.broker_task.specs.Given.{IsNewClient}
use Rattle.agent_slots.specs.Slots.{IsEndOf, IsGiven}
use Rattle.run_laws.specs.Laid.{agent_plan, awaited_by, client_of, hostile_plan, hub_of, is_data, places_of, server_of}
use Rattle.run_laws.specs.Run.{IsPlace}
use Rattle.run_laws.specs.Results.{IsGivenTo}
use Rattle.run_laws.proofs.Scenarios.Numbers.{domain_is}
use Rattle.run_laws.proofs.Scenarios.Names.{below_there}
use Rattle.run_laws.proofs.Reports.WholeReport.{laid_place}
use Rattle.run_pages.specs.declared.deal.Hand.{Hand}
use Rattle.run_pages.specs.Pages.{AreLaid, PageAt, end_on, new_end, new_ends}
use Rattle.run_pages.specs.Dealt.{ControlsDealt, HandsDealt, HasOrders, HaveOrders, hand_ends}
use Rattle.run_pages.proofs.PlaceLaws.{broker_places, places_dealt}
use Rattle.scenario_run.specs.Tasks.{AreControlsOf, AreHandsOf, IsHandOf, domain_given}
use Rattle.scenario_run.specs.Answering.{ends_given}
use Rattle.scenario_run.proofs.PlaceLaws.{all_apart_lem, apart_by_index, places_differ}

-- ---- an end on which nothing has happened

-- an end of a task on a page: a server's if the page's server has that number, and a client's otherwise
record IsNew (s : Scenario) (number : ℕ) (e : EndAt) : Type 0 where
  lies : IsPlace s e.place
  unused : IsUnused e.view
  which : ((server_of e.place ≡ number) × (e.view.role ≡ Server)) ⊎ ((server_of e.place ≢ number) × (client_of e.place ≡ number) × (e.view.role ≡ Client))

unused : (p : PageAt) (role : Role) → IsUnused (new_end p role).view
unused p role = record { idle = refl; state = refl; sent = refl; got = refl; saw = refl; ended = refl; drained = refl; misled = refl; retired = refl; turned = refl }

end_is_new : (s : Scenario) (number : ℕ) (p : PageAt) (e : EndAt) → IsPlace s p.place → end_on number p ≡ Some e → IsNew s number e
end_is_new s number p e lies is = by (server_of p.place == number) refl (client_of p.place == number) refl
  where
    by : (a : Bool) → (server_of p.place == number) ≡ a → (b : Bool) → (client_of p.place == number) ≡ b → IsNew s number e
    by true x b y =
        let same : new_end p Server ≡ e = (let k : Some (new_end p Server) ≡ Some e = (let k' = rw x at is in k') in cc) in
        subst (IsNew s number) same (record { lies = lies; unused = unused p Server; which = inl ((grind (arith, nat_tests, x)), refl) })
    by false x true y =
        let same : new_end p Client ≡ e = (let k : Some (new_end p Client) ≡ Some e = (let k' = rw (x, y) at is in k') in cc) in
        subst (IsNew s number) same (record { lies = lies; unused = unused p Client; which = inr ((λ z. (let k : (server_of p.place == number) ≡ true = grind (arith, nat_tests, z) in let both : true ≡ false = sym k ∙ x in absurd cc)), grind (arith, nat_tests, y), refl) })
    by false x false y = absurd (let k : None ≡ Some e = (let k' = rw (x, y) at is in k') in cc)

ends_are_new : (s : Scenario) (pages : List PageAt) (number : ℕ) → AreLaid s pages → Each (IsNew s number) (new_ends pages number)
ends_are_new s pages number are =
    each_of (IsNew s number) (new_ends pages number) (λ e h.
    (let c = has_filter_map (end_on number) pages e h in
    end_is_new s number c.one e (laid_place s c.one.place (subst (λ places. Has places c.one.place) are.places (has_map_back (λ p. p.place) pages c.one c.there))) c.is))

-- ---- the controls

control_end : (s : Scenario) (e : EndAt) → IsNew s 0 e → IsUnused e.view × (e.view.role ≡ Client)
control_end s e new = (new.unused, by e.place new.lies new.which)
  where
    by : (place : PagePlace) → IsPlace s place → ((server_of place ≡ 0) × (e.view.role ≡ Server)) ⊎ ((server_of place ≢ 0) × (client_of place ≡ 0) × (e.view.role ≡ Client)) → e.view.role ≡ Client
    by place lies (inr client) = client.2
    by (Control d) lies (inl server) = absurd (let low = (domain_is s d lies).0 in omega (arith, low, server.0))
    by (Payload f t port) lies (inl server) = absurd (let low = (domain_is s f lies.1).0 in omega (arith, low, server.0))

each_control : (from : ℕ) (controls : List SeatedEnd) → Each (λ e. IsUnused e.view × (e.view.role ≡ Client)) (broker_ends from (map view controls)) → Each IsNewClient controls
each_control from [] each = tt
each_control from (c ∷ controls) each = (each.0, each_control (from + 1) controls each.1)

each_of_new : (s : Scenario) (ends : List EndAt) → Each (IsNew s 0) ends → Each (λ e. IsUnused e.view × (e.view.role ≡ Client)) ends
each_of_new s [] each = tt
each_of_new s (e ∷ ends) each = (control_end s e each.0, each_of_new s ends each.1)

pub controls_fit : (s : Scenario) (pages : List PageAt) (controls : List SeatedEnd) → AreLaid s pages → ControlsDealt pages controls → length controls ≡ length s.domains → AreControlsOf s controls
controls_fit s pages controls are dealt count =
    record {
      count = count;
      unused = each_control 1 controls (subst (Each (λ e. IsUnused e.view × (e.view.role ≡ Client))) (sym dealt) (each_of_new s (new_ends pages 0) (ends_are_new s pages 0 are)));
    }

-- ---- the hands

data_given : (s : Scenario) (d : ℕ) (payload : List DataEnd) → Each (IsNew s d) (all_given payload) → Each (IsGiven d) (all_given payload)
data_given s d [] each = tt
data_given s d (x ∷ payload) each = (record { of_domain = by each.0.which; unused = each.0.unused }, data_given s d payload each.1)
  where
    role : Role
    role = (fresh_view x.end).role

    by : ((x.from ≡ d) × (role ≡ Server)) ⊎ ((x.from ≢ d) × (x.to ≡ d) × (role ≡ Client)) → IsEndOf d (Payload x.from x.to x.port) role
    by (inl server) = subst (IsEndOf d (Payload x.from x.to x.port)) (sym server.1) (server.0, (λ e. each.0.lies.0 (server.0 ∙ sym e)))
    by (inr client) = subst (IsEndOf d (Payload x.from x.to x.port)) (sym client.2) (client.1, client.0)

-- the ends of a hand are all new, and lie where the domain has its pages
record IsNewHand (s : Scenario) (d : ℕ) (hand : Hand) : Type 0 where
  new : Each (IsNew s d) (hand_ends d hand)
  places : places_in (hand_ends d hand) ≡ places_of s d

new_hand : (s : Scenario) (pages : List PageAt) (d : ℕ) (hand : Hand) → 1 ≤ d → AreLaid s pages → hand_ends d hand ≡ new_ends pages d → IsNewHand s d hand
new_hand s pages d hand some are dealt = record {
  new = subst (Each (IsNew s d)) (sym dealt) (ends_are_new s pages d are);
  places = ap places_in dealt ∙ places_dealt s pages d some are;
}

hand_fits : (s : Scenario) (d : ℕ) (hand : Hand) → IsNewHand s d hand → HasOrders s d hand → IsHandOf s d hand
hand_fits s d hand new orders = record {
  server = by new.new.0.which;
  unused = new.new.0.unused;
  given = data_given s d hand.payload.items new.new.1;
  apart = apart_by_index (places_in (all_given hand.payload.items)) differ;
  all_apart = all_apart_lem (places_in (all_given hand.payload.items)) differ;
  orders = orders;
}
  where
    differ : AreDifferent (places_in (all_given hand.payload.items))
    differ = (subst (λ places. AreDifferent places) (sym new.places) (places_differ s d)).1

    by : ((d ≡ d) × ((view hand.control).role ≡ Server)) ⊎ ((d ≢ d) × (0 ≡ d) × ((view hand.control).role ≡ Client)) → (view hand.control).role ≡ Server
    by (inl server) = server.1
    by (inr client) = absurd (client.0 refl)

pub hands_fit : (s : Scenario) (pages : List PageAt) (hands : List Hand) → AreLaid s pages → HandsDealt pages hands → HaveOrders s hands → length hands ≡ length s.domains → AreHandsOf s hands
hands_fit s pages hands are dealt orders count =
    (count, λ k hand is. hand_fits s (k + 1) hand (new_hand s pages (k + 1) hand (omega arith) are (dealt k hand is)) (orders k hand is))

-- ---- what the tasks are given

pub broker_given_lem : (s : Scenario) (pages : List PageAt) (controls : List SeatedEnd) → ControlsDealt pages controls → length controls ≡ length s.domains
    → IsGivenTo s 0 (Broker (hub_of s) (awaited_by s) (broker_ends 1 (map view controls)))
broker_given_lem s pages controls dealt count =
    (refl, refl, refl, broker_places 1 (map view controls) ∙ ap (λ n. map Control (numbers 1 1 n)) (length-map controls view ∙ count))

data_places : (payload : List DataEnd) → filter is_data (places_in (all_given payload)) ≡ places_in (all_given payload)
data_places [] = refl
data_places (x ∷ payload) = ap (λ l. Payload x.from x.to x.port ∷ l) (data_places payload)

each_unused : (s : Scenario) (d : ℕ) (ends : List EndAt) → Each (IsNew s d) ends → Each (λ e. IsUnused e.view) ends
each_unused s d [] are = tt
each_unused s d (e ∷ ends) are = (are.0.unused, each_unused s d ends are.1)

pub domain_given_lem : (s : Scenario) (pages : List PageAt) (d : ℕ) (hand : Hand) → 1 ≤ d → d ≤ length s.domains → AreLaid s pages → hand_ends d hand ≡ new_ends pages d
    → IsGivenTo s d (domain_given s d hand) × (ends_given (domain_given s d hand) ≡ new_ends pages d)
domain_given_lem s pages d hand some within are dealt = by (hostile_at s d) refl
  where
    places : places_in (hand_ends d hand) ≡ places_of s d
    places = ap places_in dealt ∙ places_dealt s pages d some are

    there : (n : ℕ) → 1 ≤ n → n ≤ length s.domains → is_some (domain_of s n) ≡ true
    there zero low high = absurd (omega (arith, low))
    there (suc k) low high = below_there s.domains k (omega (arith, high))

    own : places_in (all_given hand.payload.items) ≡ filter is_data (places_of s d)
    own = sym (data_places hand.payload.items) ∙ ap (filter is_data) places

    by : (b : Bool) → hostile_at s d ≡ b → IsGivenTo s d (domain_given s d hand) × (ends_given (domain_given s d hand) ≡ new_ends pages d)
    by true is = rw is ((is, ap (λ l. record (hostile_plan s d) { places = l }) places, places, subst (Each (λ e. IsUnused e.view)) (sym dealt) (each_unused s d (new_ends pages d) (ends_are_new s pages d are))), dealt)
    by false is = rw is ((record { there = there d some within; honest = is }, ap (λ l. record (agent_plan s d) { places = l }) own, places), dealt)
