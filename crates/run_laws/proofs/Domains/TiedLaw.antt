-- The answers that an honest domain has heard are those that its journal entries gave, and so its calls to one domain are never too many.
use Rattle.std.proofs.Common.{◌≡◌, ◌≢◌, ℕ, suc, zero, List, [], ◌∷◌, take, refl, ap, sym, ◌∙◌, arith, ◌⊎◌, inl, inr, Option, Some, None, subst}
use Rattle.std.specs.Prelude.{true, false, Bool, ◌==◌, ◌&&◌, ◌||◌, bytes_eq, filter, filter_map, option_map, slice_get, unwrap_or, if◌then◌else◌}
use Rattle.std.specs.Option.{option_map_or}
use Rattle.std.proofs.lemmas.Bool.Decides.{nat_tests}
use Rattle.std.proofs.lemmas.Slice.Eq.{bytes_eq-Decides}
use Rattle.std.specs.List.{AllByRecursion as Each}
use Rattle.std.proofs.lemmas.Bool.{and_parts}
use Rattle.list_laws.proofs.Tests.{same_bytes}
use Rattle.qrexec_frame.specs.declared.message.Message.{Message}
use Rattle.qrexec_frame.specs.declared.message.Message.TheVariants as m
use Rattle.call_broker.specs.declared.decision.Entry.{Entry}
use Rattle.call_broker.specs.declared.event.Event.{Event}
use Rattle.call_broker.specs.declared.event.Event.TheVariants.{Trigger, Terminated, Dropped}
use Rattle.call_broker.specs.declared.decision.Decision.{Decision}
use Rattle.call_broker.specs.declared.decision.Decision.TheVariants.{Accepted, Refused, Ended, PassedOver}
use Rattle.call_broker.specs.Domains.{target_of}
use Rattle.call_broker.specs.Journal.{events, drops, is_dropped}
use Rattle.call_broker.proofs.PortLaws.{own_port}
use Rattle.scenario_file.specs.Scenario.{Plan as Scenario, domain_named, place_named, name_at}
use Rattle.scenario_file.specs.declared.scenario.Domain.{Domain}
use Rattle.scenario_file.specs.declared.scenario.CallPlan.{CallPlan}
use Rattle.task_duties.specs.Words.{ident_of}
use Rattle.task_duties.specs.Agent.Answers.{Answer, Waits, IsRefused, At, Asked, answer_in, takes_all, nothing_heard}
use Rattle.task_duties.specs.Broker.Outbox.{event_of, is_from}
use Rattle.task_duties.proofs.Elements.{Has, has_from, each_of}
use Rattle.task_duties.proofs.JournalLaw.{keeps_first}
use Rattle.task_duties.proofs.LimitLaw.{FitsAt, IsOwn, IsTied, KeepsOn, NotFull, keeps_on, limits_kept}
use Rattle.run_laws.specs.Laid.{hub_of, calls_from, agent_plan}
use Rattle.run_laws.specs.Run.{Run, IsRun, IsHonest}
use Rattle.run_laws.specs.Laws.{agent_heard}
use Rattle.run_laws.proofs.Scenarios.Numbers.{is_domain_lem}
use Rattle.run_laws.proofs.Scenarios.Names.{target_is_lem, target_there}
use Rattle.run_laws.proofs.Scenarios.Calls.{own_call}
use Rattle.run_laws.proofs.Sessions.CallLaw.{AreHeard, IsHeard, all_heard}
use Rattle.run_laws.proofs.Domains.ControlLaws.{own_end, control_ends}
use Rattle.run_laws.proofs.Domains.Planned.{broker_clean, entry_call, one_entry, is_called}
use Rattle.run_laws.proofs.Sessions.ServedAllLaw.{heard_entry}
use Rattle.run_laws.proofs.Scenarios.Facts.{facts}

-- ---- one name is one domain

named_name : (domains : List Domain) (name : List ℕ) (k : ℕ) → place_named domains name ≡ Some k → option_map_or (λ domain. domain.name) (slice_get domains k) [] ≡ name
named_name [] name k h = cc
named_name (x ∷ domains) name k h = by_name (bytes_eq x.name name) refl (λ j is. named_name domains name j is) h
  where
    by_rest : (o : Option ℕ) → ((j : ℕ) → o ≡ Some j → option_map_or (λ domain. domain.name) (slice_get domains j) [] ≡ name) → (k' : ℕ) → option_map suc o ≡ Some k'
        → option_map_or (λ domain. domain.name) (slice_get (x ∷ domains) k') [] ≡ name
    by_rest None more k' e = cc
    by_rest (Some j) more zero e = cc
    by_rest (Some j) more (suc k') e = let same : j ≡ k' = cc in subst (λ i. option_map_or (λ domain. domain.name) (slice_get domains i) [] ≡ name) same (more j refl)

    by_name : (b : Bool) → bytes_eq x.name name ≡ b → ((j : ℕ) → place_named domains name ≡ Some j → option_map_or (λ domain. domain.name) (slice_get domains j) [] ≡ name)
        → (if b then Some 0 else option_map suc (place_named domains name)) ≡ Some k → option_map_or (λ domain. domain.name) (slice_get (x ∷ domains) k) [] ≡ name
    by_name true is more e = let zero_is : 0 ≡ k = cc in rw (← zero_is) ((bytes_eq-Decides x.name name).0 is)
    by_name false is more e = by_rest (place_named domains name) more k e

pub name_of : (s : Scenario) (name : List ℕ) (t : ℕ) → domain_named s name ≡ Some t → name_at s t ≡ name
name_of s name zero h = by_place (place_named s.domains name) h
  where
    by_place : (o : Option ℕ) → option_map suc o ≡ Some 0 → [] ≡ name
    by_place None e = cc
    by_place (Some k) e = cc
name_of s name (suc k) h = by_place (place_named s.domains name) refl h
  where
    by_place : (o : Option ℕ) → place_named s.domains name ≡ o → option_map suc o ≡ Some (suc k) → name_at s (suc k) ≡ name
    by_place None is e = cc
    by_place (Some j) is e = let same : j ≡ k = cc in named_name s.domains name k (is ∙ ap Some same)

-- ---- the answer to an ident was heard

abbrev pub WasHeard : List Message → List ℕ → Answer → Type 0
WasHeard heard ident Waits = Unit {0}
WasHeard heard ident IsRefused = Has heard (m.Refused ident)
WasHeard heard ident (At to port) = Has heard (m.Connect to port ident)

was_heard : (heard : List Message) (call : CallPlan) (answer : Answer) → IsHeard heard call answer → WasHeard heard (ident_of call.number) answer
was_heard heard call Waits h = tt
was_heard heard call IsRefused h = has_from heard _ h
was_heard heard call (At to port) h = has_from heard _ h

pub answer_heard : (heard : List Message) (calls : List CallPlan) (asked : List Asked) → AreHeard heard calls asked → (ident : List ℕ) → WasHeard heard ident (answer_in asked ident)
answer_heard heard [] [] are ident = tt
answer_heard heard [] (a ∷ asked) are ident = absurd are
answer_heard heard (c ∷ calls) [] are ident = absurd are
answer_heard heard (c ∷ calls) (a ∷ asked) are ident = by_test (bytes_eq (ident_of a.call.number) ident) refl (answer_heard heard calls asked are.1 ident)
  where
    by_test : (b : Bool) → bytes_eq (ident_of a.call.number) ident ≡ b → WasHeard heard ident (answer_in asked ident) → WasHeard heard ident (if b then a.answer else answer_in asked ident)
    by_test false is more = more
    by_test true is more =
        let same : ident_of c.number ≡ ident = ap (λ x. ident_of x.number) (sym are.0.0) ∙ (bytes_eq-Decides (ident_of a.call.number) ident).0 is in
        subst (λ i. WasHeard heard i a.answer) same (was_heard heard c a.answer are.0.1)

-- ---- the port of an ident

abbrev pub port_by : ℕ → List ℕ → Event → Decision → Option ℕ
port_by d ident (Trigger from target service i) (Accepted to port) = if from == d && bytes_eq i ident then Some port else None
port_by d ident event decision = None

abbrev pub first_some : {A : Type 0} → (A → Option ℕ) → List A → ℕ
first_some g [] = 0
first_some g (x ∷ xs) = unwrap_or (g x) (first_some g xs)

abbrev pub port_for : ℕ → List Entry → List ℕ → ℕ
port_for d journal ident = first_some (λ x. port_by d ident x.event x.decision) journal

first_is : {A : Type 0} (g : A → Option ℕ) (q : ℕ) (xs : List A) (x : A) → ((y : A) (p : ℕ) → Has xs y → g y ≡ Some p → p ≡ q) → Has xs x → g x ≡ Some q → first_some g xs ≡ q
first_is g q [] x only there is = absurd there
first_is {A} g q (y ∷ xs) x only there is = by_option (g y) refl there (λ k. first_is g q xs x (λ z p h e. only z p (inr h) e) k is)
  where
    by_option : (o : Option ℕ) → g y ≡ o → (y ≡ x) ⊎ Has xs x → (Has xs x → first_some g xs ≡ q) → first_some g (y ∷ xs) ≡ q
    by_option (Some p) some k more = rw some (only y p (inl refl) some)
    by_option None none (inl here) more = let no' : None ≡ Some q = sym none ∙ ap g here ∙ is in cc
    by_option None none (inr later) more = rw none (more later)

pub record IsPortOf (d : ℕ) (ident : List ℕ) (port : ℕ) (x : Entry) : Type 0 where
  pub target : List ℕ
  pub service : List ℕ
  pub to : ℕ
  pub event : x.event ≡ Trigger d target service ident
  pub accepted : x.decision ≡ Accepted to port

port_view : (d : ℕ) (ident : List ℕ) (port : ℕ) (x : Entry) (e : Event) (dec : Decision) → x.event ≡ e → x.decision ≡ dec → port_by d ident e dec ≡ Some port → IsPortOf d ident port x
port_view d ident port x (Trigger from target service i) (Accepted to p) event decision h = by_test (from == d && bytes_eq i ident) refl h
  where
    by_test : (b : Bool) → (from == d && bytes_eq i ident) ≡ b → (if b then Some p else None) ≡ Some port → IsPortOf d ident port x
    by_test false is e = cc
    by_test true is e =
        let parts = and_parts (from == d) (bytes_eq i ident) is in
        let first = parts.0 in
        let from_is : from ≡ d = grind (arith, nat_tests, first) in
        let ident_is : i ≡ ident = (bytes_eq-Decides i ident).0 parts.1 in
        let port_is : p ≡ port = cc in
        record {
          target = target;
          service = service;
          to = to;
          event = event ∙ ap (λ f. Trigger f target service i) from_is ∙ ap (λ j. Trigger d target service j) ident_is;
          accepted = decision ∙ ap (λ q. Accepted to q) port_is;
        }
port_view d ident port x (Trigger from target service i) (Refused cause) event decision h = cc
port_view d ident port x (Trigger from target service i) (Ended a b p) event decision h = cc
port_view d ident port x (Trigger from target service i) PassedOver event decision h = cc
port_view d ident port x (Terminated from other p) dec event decision h = cc
port_view d ident port x (Dropped domain) dec event decision h = cc

port_found : (s : Scenario) (run : Run) (h : IsRun s run) (d : ℕ) → IsHonest s d → (x : Entry) (target service ident : List ℕ) (t q : ℕ) → Has run.journal x
    → x.event ≡ Trigger d target service ident → x.decision ≡ Accepted t q → port_for d run.journal ident ≡ q
port_found s run h d honest x target service ident t q there event decision =
    let dd : (d == d) ≡ true = grind (arith, nat_tests) in
    let self = same_bytes ident in
    let here : port_by d ident x.event x.decision ≡ Some q = rw (event, decision, dd, self) refl in
    first_is (λ y. port_by d ident y.event y.decision) q run.journal x
    (λ y p hy e.
    let v = port_view d ident p y y.event y.decision refl refl e in
    let same = one_entry s run h d honest y x ident hy there (v.target, v.service, v.event) (target, service, event) in
    let decisions : Accepted v.to p ≡ Accepted t q = sym v.accepted ∙ ap (λ z. z.decision) same ∙ decision in
    cc)
    there here

-- ---- the ties

fits_at : (s : Scenario) (run : Run) (h : IsRun s run) (d : ℕ) → IsHonest s d → (x : Entry) (target service ident : List ℕ) (t q : ℕ) → Has run.journal x
    → x.event ≡ Trigger d target service ident → x.decision ≡ Accepted t q → (a : Answer) → WasHeard (agent_heard s run d) ident a → FitsAt t q a
fits_at s run h d honest x target service ident t q there event decision Waits heard = tt
fits_at s run h d honest x target service ident t q there event decision IsRefused heard =
    let c = heard_entry s run h d honest (m.Refused ident) heard in
    let put = c.is in
    let same = one_entry s run h d honest c.one x ident c.there there (put.target, put.service, put.event) (target, service, event) in
    let decisions : Refused put.cause ≡ Accepted t q = sym put.refused ∙ ap (λ z. z.decision) same ∙ decision in
    cc
fits_at s run h d honest x target service ident t q there event decision (At to port) heard =
    let c = heard_entry s run h d honest (m.Connect to port ident) heard in
    let put = c.is in
    let same = one_entry s run h d honest c.one x ident c.there there (put.target, put.service, put.event) (target, service, event) in
    let decisions : Accepted to port ≡ Accepted t q = sym put.accepted ∙ ap (λ z. z.decision) same ∙ decision in
    let to_is : to ≡ t = cc in
    let port_is : port ≡ q = cc in
    (to_is, port_is)

any_at : (d : ℕ) (journal : List Entry) (x : Entry) → Has journal x → drops d x.event ≡ true → is_dropped journal d ≡ true
any_at d [] x there is = absurd there
any_at d (y ∷ journal) x (inl here) is = let e : drops d y.event ≡ true = ap (λ z. drops d z.event) here ∙ is in rw e refl
any_at d (y ∷ journal) x (inr later) is = by_test (drops d y.event) (any_at d journal x later is)
  where
    by_test : (b : Bool) → is_dropped journal d ≡ true → (b || is_dropped journal d) ≡ true
    by_test true more = refl
    by_test false more = more

abbrev pub asked_at : Scenario → Run → ℕ → List Asked
asked_at s run d = (takes_all d (nothing_heard (agent_plan s d)) (agent_heard s run d)).asked

entry_tied : (s : Scenario) (run : Run) (h : IsRun s run) (d t : ℕ) → IsHonest s d → d ≢ t → (target : List ℕ) → domain_named s target ≡ Some t → (x : Entry) → Has run.journal x → (e : Event) → x.event ≡ e
    → IsTied (hub_of s) d t target (answer_in (asked_at s run d)) (port_for d run.journal) e x.decision
entry_tied s run h d t honest apart target named x there (Trigger from text service ident) event = λ is.
    let event' : x.event ≡ Trigger d text service ident = event ∙ ap (λ f. Trigger f text service ident) is in
    let c = entry_call s run h d honest x text service ident there event' in
    let own = own_call s (facts s run h) d c.one c.there in
    let text_is : c.one.to ≡ text = ap (λ a. a.target) c.is in
    let hub_is : target_of (hub_of s) text ≡ domain_named s text = subst (λ z. target_of (hub_of s) z ≡ domain_named s z) text_is (target_is_lem s c.one.to own.well.to) in (
      (λ to. let same : text ≡ target = sym (name_of s text t (sym hub_is ∙ to)) ∙ name_of s target t named in ap (λ z. bytes_eq z target) same ∙ same_bytes target),
      (λ q decision.
          let called = is_called s run h x there d text service ident t q event' decision in
          let a = called.accepted in
          let port_is = a.port_is in (
            port_found s run h d honest x text service ident t q there event' decision,
            fits_at s run h d honest x text service ident t q there event' decision (answer_in (asked_at s run d) ident) (answer_heard (agent_heard s run d) (calls_from s d) (asked_at s run d) (all_heard s run d (agent_heard s run d)) ident),
            subst (λ p. IsOwn (hub_of s) d t p) (sym port_is) (own_port (hub_of s) d t a.call apart (is_domain_lem s t (target_there s text t a.named))),
          )),
    )
entry_tied s run h d t honest apart target named x there (Terminated from other q) event = tt
entry_tied s run h d t honest apart target named x there (Dropped domain) event = λ is.
    let same : (domain == d) ≡ true = grind (arith, nat_tests) in
    let dropped = any_at d run.journal x there (let e : drops d x.event ≡ true = ap (drops d) event ∙ same in e) in
    let kept = (control_ends s run h d honest).kept in
    cc

-- none of its triggers to the other domain finds the pair full
pub none_full : (s : Scenario) (run : Run) (h : IsRun s run) (d t : ℕ) → IsHonest s d → d ≢ t → (target : List ℕ) → domain_named s target ≡ Some t
    → Each (λ x. NotFull (hub_of s) d t x.event x.decision) run.journal
none_full s run h d t honest apart target named =
    let agent = h.agent d honest in
    let clean = broker_clean s run h d honest in
    let keeps = rw (own_end run d) at (agent.keeps target) in
    let read : filter (is_from d) (events run.journal) ≡ filter_map (event_of d) (take clean.count agent.said) = h.broker.reads d (is_domain_lem s d honest.there) ∙ ap (filter_map (event_of d)) clean.messages in
    let kept : KeepsOn (answer_in (asked_at s run d)) target [] (filter (is_from d) (events run.journal)) =
    subst (λ l. KeepsOn (answer_in (asked_at s run d)) target [] l) (sym read) (keeps_on d (answer_in (asked_at s run d)) target (take clean.count agent.said) [] (keeps_first (answer_in (asked_at s run d)) target clean.count agent.said [] keeps)) in
    limits_kept (hub_of s) d t apart target (answer_in (asked_at s run d)) (port_for d run.journal) run.journal [] [] []
    (record { live = refl; sub = tt; fits = tt; up = refl }) h.broker.decided
    (each_of (λ x. IsTied (hub_of s) d t target (answer_in (asked_at s run d)) (port_for d run.journal) x.event x.decision) run.journal (λ x there. entry_tied s run h d t honest apart target named x there x.event refl))
    kept
