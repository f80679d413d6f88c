-- What the tasks answer, with the pages that are settled by it, is the result of a run.
use Rattle.std.proofs.Common.{◌≡◌, ℕ, zero, suc, ◌+◌, ◌<◌, ◌≤◌, List, [], ◌∷◌, map, length, refl, ap, sym, ◌∙◌, subst, arith, Some}
use Rattle.std.specs.Prelude.{slice_get, Contains}
use Rattle.std.specs.List.{AllZip, AllByRecursion as Each, AllZip as EachPair}
use Rattle.std.proofs.lemmas.List.{length-map}
use Rattle.std.proofs.lemmas.Option.{none-some}
use Rattle.std.proofs.lemmas.Slice.Zip.{AllZip-long}
use Rattle.list_laws.proofs.Each.{each_weaker}
use Rattle.list_laws.proofs.Places.{get_within}
use Rattle.vchan_rule.specs.Seated.{SeatedEnd, view}
use Rattle.scenario_file.specs.Scenario.{Plan as Scenario, IsScenario}
use Rattle.task_duties.specs.TaskOwes.{Agent, AgentDone, Broker, BrokerDone, EndAt, Hostile, HostileDone, IsReport, IsSameEnd, NoMemory, TaskDone as Answer, TaskGiven, TaskOwes, broker_given}
use Rattle.domain_task.specs.declared.done.TaskDone.{TaskDone}
use Rattle.domain_task.specs.Owes.{answer_of}
use Rattle.run_laws.specs.Laid.{awaited_by, client_of, hub_of, server_of}
use Rattle.run_laws.specs.Report.{SettledPage}
use Rattle.run_laws.specs.Results.{AreResults, IsJoined, answer_at, ends_of}
use Rattle.run_pages.specs.declared.deal.Hand.{Hand}
use Rattle.run_pages.specs.Pages.{AreLaid, PageAt, new_ends}
use Rattle.run_pages.specs.Dealt.{ControlsDealt, HandsDealt, hand_ends}
use Rattle.run_pages.specs.Settling.{AreSettledBy, HandsBack, IsSettledBy, hand_of}
use Rattle.scenario_run.specs.Tasks.{AreTasksOf, domain_given}
use Rattle.scenario_run.specs.Turns.{Owes, RunState, Waits, given_in}
use Rattle.scenario_run.specs.Answering.{Answers, AreAnswers, ends_given}
use Rattle.scenario_run.proofs.DealtLaws.{broker_given_lem, domain_given_lem}

-- ---- what the pool answers

-- the task at a place owed the answer there
owed_at : (tasks : List RunState) (dones : List TaskDone) (k : ℕ) (task : RunState) → AllZip Owes tasks dones → slice_get tasks k ≡ Some task → TaskOwes (given_in task) (answer_at (map answer_of dones) k)
owed_at [] dones k task owes is = absurd (none-some task is)
owed_at (t ∷ tasks) [] k task owes is = absurd owes
owed_at (t ∷ tasks) (d ∷ dones) zero task owes is = let same : t ≡ task = (let e : Some t ≡ Some task = is in cc) in subst (λ (x : RunState). Owes x d) same owes.0
owed_at (t ∷ tasks) (d ∷ dones) (suc k) task owes is = owed_at tasks dones k task owes.1 is

pub answers_are : (s : Scenario) (pages : List PageAt) (controls : List SeatedEnd) (hands : List Hand) (tasks : List RunState) (dones : List TaskDone)
    → AreLaid s pages → ControlsDealt pages controls → HandsDealt pages hands → length controls ≡ length s.domains → length hands ≡ length s.domains
    → AreTasksOf s (map view controls) hands tasks → AllZip Owes tasks dones → AreAnswers s pages (map answer_of dones)
answers_are s pages controls hands tasks dones are by_controls by_hands many all given owes = record {
  count = length-map dones answer_of ∙ AllZip-long Owes tasks dones owes ∙ given.count ∙ ap (λ n. n + 1) all;
  each = each;
}
  where
    each : (number : ℕ) → number ≤ length s.domains → Answers s pages (map answer_of dones) number
    each zero within = (broker_given (hub_of s) (awaited_by s) (map view controls), broker_given_lem s pages controls by_controls many, by_controls, owed_at tasks dones 0 (Waits (broker_given (hub_of s) (awaited_by s) (map view controls))) owes given.broker)
    each (suc k) within =
        let h = get_within hands k (omega (arith, within, all)) in
        let hand : Hand = h.0 in
        let next : suc k ≡ k + 1 = omega arith in
        let dealt : hand_ends (suc k) hand ≡ new_ends pages (suc k) = subst (λ d. hand_ends d hand ≡ new_ends pages d) (sym next) (by_hands k hand h.1) in
        let is = domain_given_lem s pages (suc k) hand (omega arith) within are dealt in
        let at : slice_get tasks (suc k) ≡ Some (Waits (domain_given s (suc k) hand)) = subst (λ d. slice_get tasks d ≡ Some (Waits (domain_given s d hand))) (sym next) (given.domains k hand h.1) in
        (domain_given s (suc k) hand, is.0, is.1, owed_at tasks dones (suc k) (Waits (domain_given s (suc k) hand)) owes at)

-- ---- the ends come back

same_ends : (given : TaskGiven) (done : Answer) → TaskOwes given done → EachPair IsSameEnd (ends_given given) (ends_of done)
same_ends (Agent plan ends) (NoMemory back) owes = owes.same
same_ends (Broker hub awaited ends) (NoMemory back) owes = owes.same
same_ends (Hostile plan ends) (NoMemory back) owes = owes.1.same
same_ends (Agent plan ends) (AgentDone report) owes = owes.2.back.same
same_ends (Broker hub awaited ends) (BrokerDone broker back) owes = owes.2.back.same
same_ends (Hostile plan ends) (HostileDone domain back) owes = owes.2.back.same
same_ends _ _ owes = absurd owes

each_index : (P : Answer → Type 0) (dones : List Answer) (k : ℕ) → k < length dones → Each P dones → P (answer_at dones k)
each_index P [] k less each = absurd (omega (arith, less))
each_index P (d ∷ dones) zero less each = each.0
each_index P (d ∷ dones) (suc k) less each = each_index P dones k (omega (arith, less)) each.1

index_ends : (dones : List Answer) (k : ℕ) → hand_of (map ends_of dones) k ≡ ends_of (answer_at dones k)
index_ends (d ∷ dones) (suc k) = index_ends dones k
index_ends _ _ = refl

get_ends : (dones : List Answer) (k : ℕ) (hand : List EndAt) → slice_get (map ends_of dones) k ≡ Some hand → (k < length dones) × (hand ≡ ends_of (answer_at dones k))
get_ends [] k hand is = absurd (none-some hand is)
get_ends (d ∷ dones) zero hand is = (omega arith, sym (let e : Some (ends_of d) ≡ Some hand = is in cc))
get_ends (d ∷ dones) (suc k) hand is = let more = get_ends dones k hand is in (omega (arith, more.0), more.1)

pub ends_back : (s : Scenario) (pages : List PageAt) (dones : List Answer) → AreAnswers s pages dones → HandsBack pages (map ends_of dones)
ends_back s pages dones are k hand is =
    let at = get_ends dones k hand is in
    let a = are.each k (omega (arith, at.0, are.count)) in
    subst (λ ends. EachPair IsSameEnd ends hand) a.2 (subst (EachPair IsSameEnd (ends_given a.0)) (sym at.1) (same_ends a.0 (answer_at dones k) a.3))

-- ---- the results

joined : (s : Scenario) (dones : List Answer) (page : SettledPage) → IsSettledBy s (map ends_of dones) page → IsJoined s dones page
joined s dones page by = record {
  settled = by.settled;
  begun = by.begun;
  server = subst (λ ends. Contains ends (record { place = page.place; view = page.settled.server })) (index_ends dones (server_of page.place)) by.server;
  client = subst (λ ends. Contains ends (record { place = page.place; view = page.settled.client })) (index_ends dones (client_of page.place)) by.client;
}

pub are_results : (s : Scenario) (pages : List PageAt) (dones : List Answer) (settled : List SettledPage) → IsScenario s → AreLaid s pages → AreAnswers s pages dones → Each IsReport dones
    → AreSettledBy s pages (map ends_of dones) settled → AreResults s dones settled
are_results s pages dones settled scenario laid are some by = record {
  scenario = scenario;
  answered = λ number within. (let a = are.each number within in (a.0, a.1, each_index IsReport dones number (omega (arith, within, are.count)) some, a.3));
  places = by.places ∙ laid.places;
  joined = each_weaker (IsSettledBy s (map ends_of dones)) (IsJoined s dones) (joined s dones) settled by.each;
}
