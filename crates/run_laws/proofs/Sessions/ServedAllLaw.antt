-- Served-all of a run: a call that was answered with a Connect to an honest domain was told to it, and served.
use Rattle.std.proofs.Common.{◌≡◌, ℕ, List, [], refl, ap, sym, ◌∙◌, arith, ◌⊎◌, inl, inr, Some, subst}
use Rattle.std.specs.Prelude.{true, false, ◌==◌, Contains, is_some}
use Rattle.std.proofs.lemmas.Bool.Decides.{nat_tests}
use Rattle.qrexec_frame.specs.Names.{cleaned_service}
use Rattle.qrexec_frame.specs.declared.message.Message.{Message}
use Rattle.qrexec_frame.specs.declared.message.Message.TheVariants as m
use Rattle.service_gate.specs.ServiceResult.{service}
use Rattle.call_broker.specs.declared.decision.Entry.{Entry}
use Rattle.call_broker.specs.declared.event.Event.TheVariants.{Trigger}
use Rattle.call_broker.specs.declared.decision.Decision.TheVariants.{Accepted}
use Rattle.call_broker.specs.Domains.{name_of, target_of}
use Rattle.call_broker.specs.Journal.{port_in, is_dropped}
use Rattle.scenario_file.specs.Scenario.{Plan as Scenario, domain_named, name_at, version_at}
use Rattle.scenario_file.specs.declared.scenario.CallPlan.{CallPlan}
use Rattle.task_duties.specs.declared.place.PagePlace.TheVariants.{Payload}
use Rattle.task_duties.specs.Words.{ident_of, exec_line, service_of_line}
use Rattle.task_duties.specs.Agent.Answers.{Served, takes_all, nothing_heard}
use Rattle.task_duties.specs.Agent.Owes.{ReportsServed}
use Rattle.task_duties.specs.Agent.Sessions.{ServingOwes}
use Rattle.task_duties.specs.Broker.Outbox.{outbox}
use Rattle.task_duties.proofs.Elements.{Has, Comes, has_from, contains_from, has_part, pair_of, one_of, one_key}
use Rattle.task_duties.proofs.LineLaw.{line_served}
use Rattle.task_duties.proofs.OutboxLaw.{IsExec, PutBy, put_by_entry}
use Rattle.task_duties.proofs.ServedLaw.{serves_each}
use Rattle.run_laws.specs.Laid.{hub_of, calls_from, agent_plan}
use Rattle.run_laws.specs.Run.{Run, IsRun, IsHonest, IsPlace, end_of}
use Rattle.run_laws.specs.Laws.{ServedAll, WasServed, agent_heard}
use Rattle.run_laws.proofs.Scenarios.Numbers.{is_domain_lem}
use Rattle.run_laws.proofs.Scenarios.Names.{target_is_lem, name_is, name_well, word_is, no_spaces, service_bytes, service_byte}
use Rattle.run_laws.proofs.Scenarios.Calls.{calls_differ, IsOwnCall, own_call}
use Rattle.run_laws.proofs.Domains.ControlLaws.{own_end, control_ends}
use Rattle.run_laws.proofs.Domains.Planned.{heard_is, heard_part, entry_call, is_called, ports_differ, heard_apart, heard_unused}
use Rattle.run_laws.proofs.Scenarios.Facts.{facts}

-- ---- the entry of a message that was heard

pub heard_entry : (s : Scenario) (run : Run) (h : IsRun s run) (d : ℕ) → IsHonest s d → (x : Message) → Has (agent_heard s run d) x → Comes Entry run.journal (λ y. PutBy (hub_of s) d y.event y.decision x)
heard_entry s run h d honest x there = put_by_entry (hub_of s) run.journal d x (has_part (agent_heard s run d) (outbox (hub_of s) run.journal d) x (heard_part s run h d honest) there)

-- a trigger with the ident of a planned call is of that call
pub record IsOf (call : CallPlan) (target service : List ℕ) : Type 0 where
  pub target_is : target ≡ call.to
  pub service_is : service ≡ call.service

pub is_of : (s : Scenario) (run : Run) (h : IsRun s run) (d : ℕ) → IsHonest s d → (call : CallPlan) → Has (calls_from s d) call → (x : Entry) (target service : List ℕ) → Has run.journal x
    → x.event ≡ Trigger d target service (ident_of call.number) → IsOf call target service
is_of s run h d honest call planned x target service hx is =
    let c = entry_call s run h d honest x target service (ident_of call.number) hx is in
    let same = one_key (λ c'. ident_of c'.number) (calls_from s d) (calls_differ s (facts s run h) d) c.one call c.there planned (ap (λ a. a.ident) c.is) in
    record { target_is = ap (λ a. a.target) (sym c.is) ∙ ap (λ c'. c'.to) same; service_is = ap (λ a. a.service) (sym c.is) ∙ ap (λ c'. c'.service) same }

-- ---- a planned call that was accepted

pub record IsAnsweredAt (s : Scenario) (run : Run) (f t port : ℕ) (call : CallPlan) : Type 0 where
  pub one : Entry
  pub there : Has run.journal one
  pub event : one.event ≡ Trigger f call.to call.service (ident_of call.number)
  pub accepted : one.decision ≡ Accepted t port
  pub place : IsPlace s (Payload f t port)
  pub named : domain_named s call.to ≡ Some t
  pub known : is_some (service call.service []) ≡ true

pub answered_at : (s : Scenario) (run : Run) (h : IsRun s run) (f t port : ℕ) → IsHonest s f → (call : CallPlan) → Has (calls_from s f) call
    → Has (agent_heard s run f) (m.Connect t port (ident_of call.number)) → IsAnsweredAt s run f t port call
answered_at s run h f t port honest call planned heard =
    let c = heard_entry s run h f honest (m.Connect t port (ident_of call.number)) heard in
    let put = c.is in
    let called = is_called s run h c.one c.there f put.target put.service (ident_of call.number) t port put.event put.accepted in
    let of = is_of s run h f honest call planned c.one put.target put.service c.there put.event in
    let own = own_call s (facts s run h) f call planned in
    let named = called.accepted.named in
    let serves = called.accepted.serves in
    let serves' : is_some (service (cleaned_service call.service) []) ≡ true = subst (λ x. is_some (service (cleaned_service x) []) ≡ true) of.service_is serves in
    record {
      one = c.one;
      there = c.there;
      event = put.event ∙ ap (λ x. Trigger f x put.service (ident_of call.number)) of.target_is ∙ ap (λ x. Trigger f call.to x (ident_of call.number)) of.service_is;
      accepted = put.accepted;
      place = called.place;
      named = sym (target_is_lem s call.to own.well.to) ∙ ap (target_of (hub_of s)) (sym of.target_is) ∙ named;
      known = subst (λ x. is_some (service x []) ≡ true) own.well.service_clean serves';
    }

-- ---- the Exec of the same entry

pub port_is_lem : (f t port : ℕ) (x : Entry) (target svc ident : List ℕ) → x.event ≡ Trigger f target svc ident → x.decision ≡ Accepted t port → port_in f t x.event x.decision ≡ Some port
port_is_lem f t port x target svc ident event decision =
    let ff : (f == f) ≡ true = grind (arith, nat_tests) in
    let tt' : (t == t) ≡ true = grind (arith, nat_tests) in
    rw (event, decision, ff, tt') refl

-- the line of the Exec of the call
exec_line_lem : (s : Scenario) (run : Run) (h : IsRun s run) (f t port : ℕ) → IsHonest s f → (call : CallPlan) → IsOwnCall s f call → IsAnsweredAt s run f t port call → (line : List ℕ)
    → Comes Entry run.journal (λ y. IsExec (hub_of s) t f port line y.event y.decision) → line ≡ exec_line call.service (name_at s f)
exec_line_lem s run h f t port honest call own a line e =
    let put = e.is in
    let same = one_of (λ x. port_in f t x.event x.decision) run.journal (ports_differ s run h f t) a.one e.one port a.there e.there
    (port_is_lem f t port a.one call.to call.service (ident_of call.number) a.event a.accepted) (port_is_lem f t port e.one put.target put.service put.ident put.event put.accepted) in
    let events : Trigger f call.to call.service (ident_of call.number) ≡ Trigger f put.target put.service put.ident = sym a.event ∙ ap (λ x. x.event) same ∙ put.event in
    let service_is : call.service ≡ put.service = cc in
    let name = name_is s f honest.there in
    put.line_is ∙ ap (λ x. exec_line (cleaned_service x) (name_of (hub_of s) f)) (sym service_is) ∙ ap (λ x. exec_line x (name_of (hub_of s) f)) own.well.service_clean
    ∙ ap (exec_line call.service) name

-- ---- what is served

was_served : (s : Scenario) (run : Run) (h : IsRun s run) (f t port : ℕ) → IsHonest s f → IsHonest s t → (call : CallPlan) → IsOwnCall s f call → IsAnsweredAt s run f t port call → (line : List ℕ)
    → line ≡ exec_line call.service (name_at s f) → Has (agent_heard s run t) (m.Exec f port line) → WasServed s run f t port call
was_served s run h f t port f_honest t_honest call own a line line_is heard =
    let word = word_is (name_at s f) (name_well s (facts s run h) f f_honest.there) in
    let spaces = no_spaces service_byte refl call.service (service_bytes call.service own.well.service_clean) in
    let read : service_of_line line ≡ Some call.service = ap service_of_line line_is ∙ line_served call.service (name_at s f) spaces word a.known in
    let x : Served = record { from = f; port = port; service = call.service } in
    let there = serves_each t f port line call.service read (nothing_heard (agent_plan s t)) (agent_heard s run t) (heard_apart s run h t t_honest) (heard_unused s run h t t_honest) heard in
    let agent = h.agent t t_honest in
    let reports = rw (own_end run t) at agent.serves in
    let c = pair_of (ReportsServed (agent_plan s t) (end_of run t)) (takes_all t (nothing_heard (agent_plan s t)) (agent_heard s run t)).served (run.served t) x reports
    (has_from (takes_all t (nothing_heard (agent_plan s t)) (agent_heard s run t)).served x there) in
    let apart = a.place.0 in
    let other : (f == t) ≡ false = grind (arith, nat_tests) in
    let end : end_of run t (Payload f t port) ≡ (run.page (Payload f t port)).client = rw other refl in
    record {
      place = a.place;
      named = a.named;
      told = contains_from (agent_heard s run t) _ (subst (λ l. Has (agent_heard s run t) (m.Exec f port l)) line_is heard);
      done = c.one;
      served = contains_from (run.served t) c.one c.there;
      from = c.is.0;
      port_is = c.is.1;
      owes = subst (λ e. ServingOwes (version_at s t) call.service c.one.outcome c.one.got e) end c.is.2;
    }

pub served_all : ServedAll
served_all s run h f t port f_honest t_honest call planned heard = by_first (h.broker.exec_first f t port (ident_of call.number) (is_domain_lem s f f_honest.there) said)
  where
    there : Has (agent_heard s run f) (m.Connect t port (ident_of call.number))
    there = has_from (agent_heard s run f) (m.Connect t port (ident_of call.number)) heard

    said : Contains (h.broker.said f) (m.Connect t port (ident_of call.number))
    said = subst (λ l. Contains l (m.Connect t port (ident_of call.number))) (heard_is s run h f f_honest) heard

    own : IsOwnCall s f call
    own = own_call s (facts s run h) f call (has_from (calls_from s f) call planned)

    a : IsAnsweredAt s run f t port call
    a = answered_at s run h f t port f_honest call (has_from (calls_from s f) call planned) there

    by_first : (is_dropped run.journal t ≡ true) ⊎ ((line : List ℕ) × Contains (h.broker.said t) (m.Exec f port line)) → WasServed s run f t port call
    by_first (inl dropped) = let kept = (control_ends s run h t t_honest).kept in cc
    by_first (inr e) =
        let line = e.0 in
        let told : Has (agent_heard s run t) (m.Exec f port line) = has_from (agent_heard s run t) (m.Exec f port line) (subst (λ l. Contains l (m.Exec f port line)) (sym (heard_is s run h t t_honest)) e.1) in
        let line_is = exec_line_lem s run h f t port f_honest call own a line (heard_entry s run h t t_honest (m.Exec f port line) told) in
        was_served s run h f t port f_honest t_honest call own a line line_is told
