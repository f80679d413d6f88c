-- Control-bytes and control-end.
use Rattle.std.proofs.Common.{◌≡◌, ℕ, refl, ◌∙◌, arith, ◌⊎◌, inl, inr}
use Rattle.std.specs.Prelude.{true, false, Bool, IsSome, ◌==◌}
use Rattle.std.proofs.lemmas.Bool.Decides.{nat_tests}
use Rattle.end_view.specs.Settled.{IsHonestPage}
use Rattle.call_broker.specs.Journal.{is_dropped}
use Rattle.scenario_file.specs.Scenario.{Plan as Scenario, version_at}
use Rattle.task_duties.specs.declared.place.PagePlace.TheVariants.{Control}
use Rattle.task_duties.specs.Hearing.{to_agent, to_broker, hears}
use Rattle.task_duties.specs.declared.done.ControlEnd.{ControlEnd}
use Rattle.task_duties.specs.declared.done.ControlEnd.TheVariants.{Drained, Gone, Fault}
use Rattle.task_duties.specs.Agent.Owes.{ControlOver}
use Rattle.task_duties.proofs.ControlLaw.{control_bytes_lem, agent_on_control, broker_on_control}
use Rattle.run_laws.specs.Run.{Run, IsRun, IsHonest, end_of, broker_end}
use Rattle.run_laws.specs.Laws.{ControlBytes, ControlEnds, NoFaults, WasAllHeard}
use Rattle.run_laws.proofs.Scenarios.Numbers.{is_domain_lem, version_is}
use Rattle.run_laws.proofs.Scenarios.Facts.{facts}

pub own_end : (run : Run) (d : ℕ) → end_of run d (Control d) ≡ (run.page (Control d)).server
own_end run d = let same : (d == d) ≡ true = grind (arith, nat_tests) in rw same refl

-- the control page of an honest domain is one of two honest ends
pub honest_page : (s : Scenario) (run : Run) → IsRun s run → (d : ℕ) → IsHonest s d → IsHonestPage (run.page (Control d)).server (run.page (Control d)).client
honest_page s run h d honest = (h.settled (Control d) honest.there).honest (h.server_turned (Control d) honest.there ∙ honest.honest) (h.client_turned (Control d) honest.there)

pub control_bytes : ControlBytes
control_bytes s run h d honest =
    let page = honest_page s run h d honest in
    let agent = h.agent d honest in
    let spoken = version_is s (facts s run h) d in
    let there = is_domain_lem s d honest.there in
    let says = rw (own_end run d) at agent.says in
    record {
      left = (control_bytes_lem (version_at s d) 3 to_agent agent_on_control (h.broker.said d) (run.page (Control d)).client.sent (run.page (Control d)).server.got (omega arith) (omega arith) (h.broker.says d there) page.left.in_order).fault;
      right = (control_bytes_lem 3 (version_at s d) to_broker broker_on_control agent.said (run.page (Control d)).server.sent (run.page (Control d)).client.got spoken.least (omega (arith, spoken.most)) says page.right.in_order).fault;
    }

pub control_ends : ControlEnds
control_ends s run h d honest = by_end (run.control d) over
  where
    page : IsHonestPage (run.page (Control d)).server (run.page (Control d)).client
    page = honest_page s run h d honest

    clean : NoFaults s run d
    clean = control_bytes s run h d honest

    over : ControlOver (run.page (Control d)).server (hears (version_at s d) to_agent (run.page (Control d)).server.got) (run.control d)
    over = let o = (h.agent d honest).over in rw (own_end run d) at o

    ruled : (((run.page (Control d)).client.saw ≡ true) → ⊥) → (((broker_end run d).saw ≡ true) ⊎ ((broker_end run d).misled ≡ true) ⊎ IsSome (hears 3 to_broker (broker_end run d).got).fault) → ⊥
    ruled unseen (inl saw) = unseen saw
    ruled unseen (inr (inl lost)) = let found = page.client_found in cc
    ruled unseen (inr (inr bad)) = let fine = rw clean.right at bad in cc

    by_drop : (((run.page (Control d)).client.saw ≡ true) → ⊥) → (b : Bool) → is_dropped run.journal d ≡ b → is_dropped run.journal d ≡ false
    by_drop unseen false is = is
    by_drop unseen true is = absurd (ruled unseen (h.broker.drops d (is_domain_lem s d honest.there) is))

    from_saw : (run.page (Control d)).server.saw ≡ true → IsSome (run.page (Control d)).server.ended → WasAllHeard run d
    from_saw saw ended =
        let unseen : (run.page (Control d)).client.saw ≡ true → ⊥ = λ other. page.not_both saw other in
        record { all_got = page.left.whole (page.left.over ended); unseen = unseen; found = page.client_found; kept = by_drop unseen (is_dropped run.journal d) refl }

    by_end : (e : ControlEnd) → ControlOver (run.page (Control d)).server (hears (version_at s d) to_agent (run.page (Control d)).server.got) e → WasAllHeard run d
    by_end Drained o = from_saw o.0 (rw o.1 refl)
    by_end Gone o = from_saw o.0 (rw o.1 refl)
    by_end (Fault fault) o = let fine = clean.left in cc
