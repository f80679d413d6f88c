-- What is read off a run: the place of a page in the list, the port of a call, and the cause of a refusal.
use Rattle.std.proofs.Common.{◌≡◌, ℕ, ◌+◌, ◌<◌, ◌≤◌, suc, zero, List, [], ◌∷◌, length, map, refl, ap, sym, ◌∙◌, arith, ◌⊎◌, inl, inr, Option, Some, None, subst}
use Rattle.std.specs.Prelude.{true, false, Bool, ◌==◌, ◌&&◌, bytes_eq, slice_get, is_some, option_map, option_and_then, if◌then◌else◌}
use Rattle.std.specs.List.{flat_map, AllByRecursion as Each}
use Rattle.std.proofs.lemmas.Bool.Decides.{nat_tests}
use Rattle.std.proofs.lemmas.Option.{slice_get-map}
use Rattle.std.proofs.lemmas.Slice.Eq.{bytes_eq-Decides}
use Rattle.std.proofs.lemmas.Bool.{and_parts}
use Rattle.list_laws.proofs.Tests.{same_bytes}
use Rattle.call_broker.specs.declared.decision.Entry.{Entry}
use Rattle.call_broker.specs.declared.event.Event.{Event}
use Rattle.call_broker.specs.declared.event.Event.TheVariants.{Trigger, Terminated, Dropped}
use Rattle.call_broker.specs.declared.decision.Cause.{Cause}
use Rattle.call_broker.specs.declared.decision.Cause.TheVariants.{NoDomain, SameDomain, NoService}
use Rattle.call_broker.specs.declared.decision.Decision.{Decision}
use Rattle.call_broker.specs.declared.decision.Decision.TheVariants.{Accepted, Refused, Ended, PassedOver}
use Rattle.scenario_file.specs.Scenario.{Plan as Scenario, domain_of, hostile_at}
use Rattle.scenario_file.specs.declared.scenario.CallPlan.{CallPlan}
use Rattle.scenario_file.specs.declared.line.LineResult.{LineResult}
use Rattle.scenario_file.specs.declared.line.LineCause.{LineCause}
use Rattle.scenario_file.specs.declared.line.LineResult.TheVariants as line
use Rattle.scenario_file.specs.declared.line.LineCause.TheVariants as line_cause
use Rattle.task_duties.specs.declared.place.PagePlace.{PagePlace}
use Rattle.task_duties.specs.declared.place.PagePlace.TheVariants.{Control, Payload}
use Rattle.task_duties.specs.Places.{numbers, is_place}
use Rattle.task_duties.proofs.Elements.{Has, has_append, has_left, has_map, has_map_back, has_flat_map, each_at}
use Rattle.task_duties.proofs.ServedLaw.{same_place}
use Rattle.task_duties.proofs.Places.{same_self}
use Rattle.run_laws.specs.Laid.{all_domains, ports_between, laid_between, laid}
use Rattle.run_laws.specs.declared.report.CallResult.TheVariants.{Refused as IsRefused}
use Rattle.run_laws.specs.Run.{Run, IsRun, IsHonest}
use Rattle.run_laws.proofs.Scenarios.Facts.{IsClean}
use Rattle.run_laws.specs.Laws.{IsExpected}
use Rattle.run_laws.specs.ReadOff.{index_of, page_read, call_numbered, ports_of, port_of_end, end_of_call, cause_by, cause_in, cause_result}
use Rattle.run_laws.proofs.Scenarios.Calls.{OrderedBy, ordered_from}
use Rattle.run_laws.proofs.Scenarios.Places.{has_domain}
use Rattle.run_laws.proofs.Scenarios.Names.{below_there}
use Rattle.run_laws.proofs.Domains.Planned.{one_entry}

-- ---- pages

index_found : (place : PagePlace) (places : List PagePlace) → Has places place → slice_get places (index_of place places) ≡ Some place
index_found place [] h = absurd h
index_found place (p ∷ places) h = by_test (is_place place p) refl h (λ k. index_found place places k)
  where
    by_test : (b : Bool) → is_place place p ≡ b → (p ≡ place) ⊎ Has places place → (Has places place → slice_get places (index_of place places) ≡ Some place)
        → slice_get (p ∷ places) (if b then 0 else suc (index_of place places)) ≡ Some place
    by_test true is k more = ap Some (sym (same_place place p is))
    by_test false is (inl here) more = let s = same_self place in let bad : is_place place p ≡ true = ap (is_place place) here ∙ s in cc
    by_test false is (inr k) more = more k

pub page_found : (s : Scenario) (run : Run) (place : PagePlace) → Has (laid s) place → slice_get (map (page_read run) (laid s)) (index_of place (laid s)) ≡ Some (page_read run place)
page_found s run place there = slice_get-map (page_read run) (laid s) (index_of place (laid s)) ∙ ap (option_map (page_read run)) (index_found place (laid s) there)

pub control_laid : (s : Scenario) (d : ℕ) → is_some (domain_of s d) ≡ true → Has (laid s) (Control d)
control_laid s d there = has_left (map Control (all_domains s)) _ (Control d) (has_map_back Control (all_domains s) d (has_domain s d there))

number_within : (from count n : ℕ) → Has (numbers from 1 count) n → (from ≤ n) × (n < from + count)
number_within from zero n h = absurd h
number_within from (suc count) n (inl h) = (omega (arith, h), omega (arith, h))
number_within from (suc count) n (inr h) = let k = number_within (from + 1) count n h in (omega (arith, k), omega (arith, k))

pub number_there : (s : Scenario) (d : ℕ) → Has (all_domains s) d → is_some (domain_of s d) ≡ true
number_there s zero h = let k = number_within 1 (length s.domains) 0 h in absurd (let low = k.0 in omega (arith, low))
number_there s (suc k) h = let w = number_within 1 (length s.domains) (suc k) h in below_there s.domains k (let high = w.1 in omega (arith, high))

pub laid_control : (s : Scenario) (d : ℕ) → Has (laid s) (Control d) → is_some (domain_of s d) ≡ true
laid_control s d h = by_part (has_append (map Control (all_domains s)) (flat_map (λ from. flat_map (laid_between s from) (all_domains s)) (all_domains s)) (Control d) h)
  where
    by_part : Has (map Control (all_domains s)) (Control d) ⊎ Has (flat_map (λ from. flat_map (laid_between s from) (all_domains s)) (all_domains s)) (Control d) → is_some (domain_of s d) ≡ true
    by_part (inl k) = let c = has_map Control (all_domains s) (Control d) k in let is = c.is in let same : c.one ≡ d = cc in subst (λ x. is_some (domain_of s x) ≡ true) same (number_there s c.one c.there)
    by_part (inr k) =
        let a = has_flat_map (λ from. flat_map (laid_between s from) (all_domains s)) (all_domains s) (Control d) k in
        let b = has_flat_map (laid_between s a.one) (all_domains s) (Control d) a.is in
        let c = has_map (Payload a.one b.one) (ports_between s a.one b.one) (Control d) b.is in
        let is = c.is in cc

-- ---- ports

number_other : (calls : List CallPlan) (c : CallPlan) → Each (λ y. c.number < y.number) calls → (call : CallPlan) → Has calls call → (c.number == call.number) ≡ false
number_other calls c each call there = let less = each_at (λ y. c.number < y.number) calls call each there in grind (arith, nat_tests, less)

numbered : (calls : List CallPlan) → OrderedBy (λ a b. a.number < b.number) calls → (call : CallPlan) → Has calls call → call_numbered calls call.number ≡ Some call
numbered [] order call there = absurd there
numbered (c ∷ calls) order call (inl here) = let same : (c.number == call.number) ≡ true = let e : c.number ≡ call.number = ap (λ x. x.number) here in grind (arith, nat_tests) in rw same (ap Some here)
numbered (c ∷ calls) order call (inr later) = let other = number_other calls c order.0 call later in rw other (numbered calls order.1 call later)

pub ports_is : (s : Scenario) (run : Run) → IsClean s → (call : CallPlan) → Has s.calls call → ports_of s run call.number ≡ port_of_end (end_of_call run call)
ports_is s run h call there =
    let n = numbered s.calls (ordered_from (λ a b. a.number < b.number) s.calls h.numbers_rise) call there in
    ap (option_and_then (λ c. port_of_end (end_of_call run c))) n

-- ---- causes

pub record IsCauseOf (d : ℕ) (ident : List ℕ) (cause : Cause) (x : Entry) : Type 0 where
  pub target : List ℕ
  pub service : List ℕ
  pub event : x.event ≡ Trigger d target service ident
  pub refused : x.decision ≡ Refused cause

cause_view : (d : ℕ) (ident : List ℕ) (cause : Cause) (x : Entry) (e : Event) (dec : Decision) → x.event ≡ e → x.decision ≡ dec → cause_by d ident e dec ≡ Some cause → IsCauseOf d ident cause x
cause_view d ident cause x (Trigger from target service i) (Refused c) event decision h = by_test (from == d && bytes_eq i ident) refl h
  where
    by_test : (b : Bool) → (from == d && bytes_eq i ident) ≡ b → (if b then Some c else None) ≡ Some cause → IsCauseOf d ident cause x
    by_test false is e = cc
    by_test true is e =
        let parts = and_parts (from == d) (bytes_eq i ident) is in
        let first = parts.0 in
        let from_is : from ≡ d = grind (arith, nat_tests, first) in
        let ident_is : i ≡ ident = (bytes_eq-Decides i ident).0 parts.1 in
        let cause_is : c ≡ cause = cc in
        record {
          target = target;
          service = service;
          event = event ∙ ap (λ f. Trigger f target service i) from_is ∙ ap (λ j. Trigger d target service j) ident_is;
          refused = decision ∙ ap Refused cause_is;
        }
cause_view d ident cause x (Trigger from target service i) (Accepted to p) event decision h = cc
cause_view d ident cause x (Trigger from target service i) (Ended a b p) event decision h = cc
cause_view d ident cause x (Trigger from target service i) PassedOver event decision h = cc
cause_view d ident cause x (Terminated from other p) dec event decision h = cc
cause_view d ident cause x (Dropped domain) dec event decision h = cc

first_is : (d : ℕ) (ident : List ℕ) (cause : Cause) (journal : List Entry) (x : Entry) → ((y : Entry) (c : Cause) → Has journal y → cause_by d ident y.event y.decision ≡ Some c → c ≡ cause) → Has journal x
    → cause_by d ident x.event x.decision ≡ Some cause → cause_in journal d ident ≡ Some cause
first_is d ident cause [] x only there is = absurd there
first_is d ident cause (y ∷ journal) x only there is = by_option (cause_by d ident y.event y.decision) refl there (λ k. first_is d ident cause journal x (λ z c h e. only z c (inr h) e) k is)
  where
    by_option : (o : Option Cause) → cause_by d ident y.event y.decision ≡ o → (y ≡ x) ⊎ Has journal x → (Has journal x → cause_in journal d ident ≡ Some cause) → cause_in (y ∷ journal) d ident ≡ Some cause
    by_option (Some c) some k more = rw some (ap Some (only y c (inl refl) some))
    by_option None none (inl here) more = let bad : None ≡ Some cause = sym none ∙ ap (λ z. cause_by d ident z.event z.decision) here ∙ is in cc
    by_option None none (inr later) more = rw none (more later)

pub cause_found : (s : Scenario) (run : Run) (h : IsRun s run) (d : ℕ) → IsHonest s d → (x : Entry) (target service ident : List ℕ) (cause : Cause) → Has run.journal x
    → x.event ≡ Trigger d target service ident → x.decision ≡ Refused cause → cause_in run.journal d ident ≡ Some cause
cause_found s run h d honest x target service ident cause there event decision =
    let dd : (d == d) ≡ true = grind (arith, nat_tests) in
    let self = same_bytes ident in
    let here : cause_by d ident x.event x.decision ≡ Some cause = rw (event, decision, dd, self) refl in
    first_is d ident cause run.journal x
    (λ y c hy e.
    let v = cause_view d ident c y y.event y.decision refl refl e in
    let same = one_entry s run h d honest y x ident hy there (v.target, v.service, v.event) (target, service, event) in
    let decisions : Refused c ≡ Refused cause = sym v.refused ∙ ap (λ z. z.decision) same ∙ decision in
    cc)
    there here

-- the cause is that of the line
pub record RefusedAs (result : LineResult) (cause : Cause) : Type 0 where
  pub as_line : LineCause
  pub line_is : result ≡ line.Refused as_line
  pub result_is : cause_result (Some cause) ≡ IsRefused as_line

pub refused_line : (s : Scenario) (f : ℕ) (o : Option ℕ) (result : LineResult) (cause : Cause) → IsExpected s f o result (Refused cause) → ((to : ℕ) → o ≡ Some to → hostile_at s to ≡ false) → RefusedAs result cause
refused_line s f o (line.Refused line_cause.NoDomain) cause h plain = let is : cause ≡ NoDomain = cc in record { as_line = line_cause.NoDomain; line_is = refl; result_is = ap (λ c. cause_result (Some c)) is }
refused_line s f o (line.Refused line_cause.SameDomain) cause h plain = let is : cause ≡ SameDomain = cc in record { as_line = line_cause.SameDomain; line_is = refl; result_is = ap (λ c. cause_result (Some c)) is }
refused_line s f o (line.Refused line_cause.NoService) cause h plain = let is : cause ≡ NoService = cc in record { as_line = line_cause.NoService; line_is = refl; result_is = ap (λ c. cause_result (Some c)) is }
refused_line s f None (line.Done code stdout stderr) cause h plain = absurd h
refused_line s f (Some to) (line.Done code stdout stderr) cause (inl h) plain = let bad = h.1 in cc
refused_line s f (Some to) (line.Done code stdout stderr) cause (inr h) plain = let a = h.1 in let b = plain to refl in cc
