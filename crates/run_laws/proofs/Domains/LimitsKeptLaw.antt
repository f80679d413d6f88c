-- Limits-kept of a run: a planned call is refused for the cause that its names give, or because its hostile target was dropped, or it is accepted.
use Rattle.std.proofs.Common.{◌≡◌, ◌≢◌, ℕ, ◌≤◌, [], ◌∷◌, ◌++◌, length, refl, ap, sym, ◌∙◌, arith, inl, inr, Option, Some, None, subst}
use Rattle.std.specs.Prelude.{true, false, Bool, not, nat_le, ◌==◌, is_some, if◌then◌else◌}
use Rattle.std.specs.List.{list_any}
use Rattle.std.proofs.lemmas.Bool.Decides.{nat_tests}
use Rattle.service_gate.specs.Triple.{Triple}
use Rattle.service_gate.specs.ServiceResult.{service}
use Rattle.call_broker.specs.declared.decision.Entry.{Entry}
use Rattle.call_broker.specs.declared.event.Event.{Event}
use Rattle.call_broker.specs.declared.event.Event.TheVariants.{Trigger}
use Rattle.call_broker.specs.declared.decision.Cause.TheVariants.{NoService, TargetDropped, PairFull, PortsSpent}
use Rattle.call_broker.specs.declared.decision.Decision.{Decision}
use Rattle.call_broker.specs.declared.decision.Decision.TheVariants.{Accepted, Refused}
use Rattle.call_broker.specs.Domains.{Domains, target_of, is_service, pages_of, port_after}
use Rattle.call_broker.specs.Pair.{Pair, Ordered, Alone, PairState, has, state_after, decision}
use Rattle.call_broker.specs.Journal.{drops}
use Rattle.call_broker.proofs.StateLaws.{IsDecidedAt, still_up, none_before, dropped_events}
use Rattle.scenario_file.specs.Scenario.{Plan as Scenario, domain_of, domain_named, hostile_at}
use Rattle.scenario_file.specs.Lines.{by_domain, by_service}
use Rattle.scenario_file.specs.declared.line.LineResult.TheVariants as line
use Rattle.scenario_file.specs.declared.line.LineCause.TheVariants as line_cause
use Rattle.task_duties.specs.Words.{ident_of}
use Rattle.task_duties.proofs.Elements.{Has, has_from, each_at}
use Rattle.task_duties.proofs.LimitLaw.{NotFull}
use Rattle.run_laws.specs.Laid.{hub_of, calls_from}
use Rattle.run_laws.specs.Run.{Run, IsRun, IsHonest}
use Rattle.run_laws.specs.Laws.{LimitsKept, IsExpected}
use Rattle.run_laws.proofs.Scenarios.Names.{target_is_lem, target_there}
use Rattle.run_laws.proofs.Scenarios.Calls.{IsOwnCall, own_call}
use Rattle.run_laws.proofs.Domains.ControlLaws.{control_ends}
use Rattle.service_gate.proofs.EveryService.{known_anyway}
use Rattle.run_laws.proofs.Domains.SpentLaw.{decided_at, not_spent}
use Rattle.run_laws.proofs.Domains.TiedLaw.{none_full}
use Rattle.run_laws.proofs.Scenarios.Facts.{facts}

-- an honest domain isn't dropped for any pair when an entry is decided
pub up_at : (s : Scenario) (run : Run) (h : IsRun s run) (d : ℕ) → IsHonest s d → (x : Entry) (at : IsDecidedAt (hub_of s) [] run.journal x) (pair : Pair) → has d (state_after (hub_of s) at.before pair).dropped ≡ false
up_at s run h d honest x at pair =
    let kept = (control_ends s run h d honest).kept in
    let all : list_any (drops d) (at.before ++ x.event ∷ at.rest) ≡ false = ap (list_any (drops d)) (sym at.all) ∙ dropped_events d run.journal ∙ kept in
    still_up (hub_of s) pair d at.before (none_before d at.before (x.event ∷ at.rest) all)

-- what is decided in a state of the pair on a call to another domain
abbrev pub taken : Bool → Bool → Bool → Bool → ℕ → ℕ → ℕ → Decision
taken serves gone full spent live to port =
    if not serves then Refused NoService else if gone then Refused TargetDropped else if full then Refused (PairFull live) else if spent then Refused (PortsSpent port) else Accepted to port

-- the decision by the four tests
by_tests : (s : Scenario) (f to : ℕ) (o : Option Triple) (serves gone full spent : Bool) (live port : ℕ) → is_some o ≡ serves → (gone ≡ true → hostile_at s to ≡ true)
    → ((n : ℕ) → taken serves gone full spent live to port ≢ Refused (PairFull n)) → (spent ≡ true → ⊥) → IsExpected s f (Some to) (by_service o) (taken serves gone full spent live to port)
by_tests s f to None false gone full spent live port known hostile few left = refl
by_tests s f to None true gone full spent live port known hostile few left = cc
by_tests s f to (Some t) false gone full spent live port known hostile few left = cc
by_tests s f to (Some t) true true full spent live port known hostile few left = inr (refl, hostile refl)
by_tests s f to (Some t) true false true spent live port known hostile few left = absurd (few live refl)
by_tests s f to (Some t) true false false true live port known hostile few left = absurd (left refl)
by_tests s f to (Some t) true false false false live port known hostile few left = inl (port, refl)

pub limits_kept : LimitsKept
limits_kept s run h d honest call planned decided there = by_named (domain_named s call.to) refl
  where
    hub : Domains
    hub = hub_of s

    e : Event
    e = Trigger d call.to call.service (ident_of call.number)

    x : Entry
    x = record { event = Trigger d call.to call.service (ident_of call.number); decision = decided }

    hx : Has run.journal (record { event = Trigger d call.to call.service (ident_of call.number); decision = decided })
    hx = has_from run.journal (record { event = Trigger d call.to call.service (ident_of call.number); decision = decided }) there

    at : IsDecidedAt (hub_of s) [] run.journal (record { event = Trigger d call.to call.service (ident_of call.number); decision = decided })
    at = decided_at (hub_of s) [] run.journal (record { event = Trigger d call.to call.service (ident_of call.number); decision = decided }) h.broker.decided hx

    own : IsOwnCall s d call
    own = own_call s (facts s run h) d call (has_from (calls_from s d) call planned)

    hub_is : target_of (hub_of s) call.to ≡ domain_named s call.to
    hub_is = target_is_lem s call.to own.well.to

    up : (pair : Pair) → has d (state_after (hub_of s) at.before pair).dropped ≡ false
    up pair = up_at s run h d honest x at pair

    known : is_some (service call.service call.stdin) ≡ is_service call.service
    known = let clean = own.well.service_clean in known_anyway call.service call.stdin [] ∙ ap (λ n. is_some (service n [])) (sym clean)

    on_pair : (to : ℕ) → domain_named s call.to ≡ Some to → (to == d) ≡ false → IsExpected s d (Some to) (by_service (service call.service call.stdin)) decided
    on_pair to named other =
        let named' : target_of (hub_of s) call.to ≡ Some to = hub_is ∙ named in
        let apart : d ≢ to = λ same. let bad : (to == d) ≡ true = grind (arith, nat_tests) in cc in
        let t_there = target_there s call.to to named' in
        let st : PairState = state_after (hub_of s) at.before (Ordered d to) in
        let up' = up (Ordered d to) in
        let is : decision (hub_of s) at.before (Trigger d call.to call.service (ident_of call.number))
        ≡ taken (is_service call.service) (has to (state_after (hub_of s) at.before (Ordered d to)).dropped) (nat_le 16 (length (state_after (hub_of s) at.before (Ordered d to)).live))
        (nat_le (pages_of (hub_of s) d to) (state_after (hub_of s) at.before (Ordered d to)).calls) (length (state_after (hub_of s) at.before (Ordered d to)).live) to (port_after d to (state_after (hub_of s) at.before (Ordered d to)).calls) =
        rw (named', other, up') refl in
        let all : decided ≡ _ = at.decided ∙ is in
        let nf = each_at (λ y. NotFull (hub_of s) d to y.event y.decision) run.journal x (none_full s run h d to honest apart call.to named) hx in
        let left = not_spent s run h d honest to apart t_there x call.to call.service (ident_of call.number) refl named' at in
        subst (λ z. IsExpected s d (Some to) (by_service (service call.service call.stdin)) z) (sym all)
        (by_tests s d to (service call.service call.stdin) (is_service call.service) _ _ _ _ _ known
        (λ gone. by_host to t_there gone (hostile_at s to) refl)
        (λ n bad. nf refl named' n (all ∙ bad))
        (λ spent. let few : pages_of (hub_of s) d to ≤ (state_after (hub_of s) at.before (Ordered d to)).calls = grind (arith, nat_tests, spent) in absurd (omega (arith, few, left))))
      where
        by_host : (t : ℕ) → is_some (domain_of s t) ≡ true → has t (state_after (hub_of s) at.before (Ordered d t)).dropped ≡ true → (b : Bool) → hostile_at s t ≡ b → hostile_at s t ≡ true
        by_host t t_there gone true is = is
        by_host t t_there gone false is = let stays = up_at s run h t (record { there = t_there; honest = is }) x at (Ordered d t) in cc

    on_domain : (to : ℕ) → domain_named s call.to ≡ Some to → (b : Bool) → (to == d) ≡ b → IsExpected s d (Some to) (if b then line.Refused line_cause.SameDomain else by_service (service call.service call.stdin)) decided
    on_domain to named true same =
        let named' : target_of (hub_of s) call.to ≡ Some to = hub_is ∙ named in
        let up' = up (Alone d) in
        at.decided ∙ rw (named', same, up') refl
    on_domain to named false other = on_pair to named other

    by_named : (o : Option ℕ) → domain_named s call.to ≡ o → IsExpected s d o (by_domain call o) decided
    by_named None named =
        let named' : target_of (hub_of s) call.to ≡ None = hub_is ∙ named in
        let up' = up (Alone d) in
        at.decided ∙ rw (named', up') refl
    by_named (Some to) named = let from_is = own.from in rw from_is (on_domain to named (to == d) refl)
