-- What tasks answered and settled pages make up a run.
use Rattle.std.proofs.Common.{◌≡◌, ◌≢◌, ℕ, ◌≤◌, zero, suc, List, [], ◌∷◌, length, map, refl, ap, sym, ◌∙◌, arith, ◌⊎◌, inl, inr, Option, Some, None, subst}
use Rattle.std.specs.Prelude.{true, false, Bool, ◌==◌, ◌||◌, is_some, Contains}
use Rattle.std.proofs.lemmas.Bool.Decides.{nat_tests}
use Rattle.end_view.specs.EndView.{EndView, IsUnused}
use Rattle.end_view.specs.Settled.{IsSettled}
use Rattle.scenario_file.specs.Scenario.{Plan as Scenario, domain_of, is_hostile, hostile_at}
use Rattle.scenario_file.specs.declared.scenario.Domain.{Domain}
use Rattle.std.specs.Option.{option_map_or}
use Rattle.std.specs.List.{AllByRecursion as Each, AllZip as EachPair}
use Rattle.task_duties.specs.declared.place.PagePlace.{PagePlace}
use Rattle.task_duties.specs.declared.place.PagePlace.TheVariants.{Control, Payload}
use Rattle.task_duties.specs.Places.{is_place, has_place}
use Rattle.task_duties.specs.Agent.Owes.{AgentOwes}
use Rattle.task_duties.specs.Broker.Owes.{BrokerOwes}
use Rattle.task_duties.specs.Hostile.Given.{HostilePlan}
use Rattle.task_duties.specs.Hostile.Trail.{IsTrail}
use Rattle.task_duties.specs.TaskOwes.{EndAt, IsSameEnd, IsTurnedFrom, AreEnds, before_turned, TaskGiven, Agent, Broker, Hostile, TaskDone, AgentDone, BrokerDone, HostileDone, NoMemory, IsReport, places_in, TaskOwes}
use Rattle.task_duties.proofs.Elements.{Has, has_from, each_at, has_map, has_map_back, has_filter, has_filter_back}
use Rattle.task_duties.proofs.ServedLaw.{same_place}
use Rattle.task_duties.proofs.OwesLaws.{agent_owes_same, broker_owes_same}
use Rattle.task_duties.proofs.Places.{same_self}
use Rattle.run_laws.specs.Laid.{all_domains, laid, places_of, is_data, is_end_of, server_of, client_of, hub_of, awaited_by, agent_plan, hostile_plan}
use Rattle.run_laws.specs.Report.{SettledPage}
use Rattle.run_laws.specs.Lawful.{IsActedOn, IsLawful}
use Rattle.run_laws.specs.HostileSessions.{session_line}
use Rattle.run_laws.specs.Run.{IsPlace, IsHonest, end_of, broker_end}
use Rattle.run_laws.specs.ReadOff.{page_read}
use Rattle.run_laws.specs.Results.{answer_at, ends_of, journal_of, calls_of, served_of, control_of, view_in, view_at, page_at, run_of, IsGivenTo, IsJoined, AreResults, ResultsAreRuns, ResultsAreLawful, report_by}
use Rattle.run_laws.proofs.Scenarios.Numbers.{domain_is}
use Rattle.run_laws.proofs.Scenarios.Names.{domain_there}
use Rattle.run_laws.proofs.Scenarios.Places.{is_laid, has_domain}
use Rattle.run_laws.proofs.Reports.ReadLaws.{control_laid}
use Rattle.run_laws.proofs.Reports.SessionLines.{sorted_sessions_are_lawful}
use Rattle.run_laws.proofs.Reports.WholeReport.{laid_place}

-- ---- the view at a place is that of an end that was given back

in_view : (P : PagePlace → EndView → Type 0) (ends : List EndAt) → Each (λ e. P e.place e.view) ends → (place : PagePlace) → Has (places_in ends) place → P place (view_in ends place)
in_view P [] each place there = absurd there
in_view P (e ∷ ends) each place there = by_place (is_place e.place place) refl there (in_view P ends each.1 place)
  where
    by_place : (b : Bool) → is_place e.place place ≡ b → Has (places_in (e ∷ ends)) place → (Has (places_in ends) place → P place (view_in ends place)) → P place (view_in (e ∷ ends) place)
    by_place true is h more = rw is (subst (λ p. P p e.view) (same_place e.place place is) each.0)
    by_place false is (inl same) more = let self : is_place e.place place ≡ true = ap (is_place e.place) (sym same) ∙ same_self e.place in let both : false ≡ true = sym is ∙ self in cc
    by_place false is (inr later) more = rw is (more later)

same_places : (given ends : List EndAt) → EachPair IsSameEnd given ends → places_in ends ≡ places_in given
same_places [] [] h = refl
same_places [] (e ∷ ends) h = absurd h
same_places (g ∷ given) [] h = absurd h
same_places (g ∷ given) (e ∷ ends) h = let first = h.0.place in let more = same_places given ends h.1 in rw (first, more) refl

place_there : (place : PagePlace) (places : List PagePlace) → has_place place places ≡ true → Has places place
place_there place [] h = cc
place_there place (p ∷ places) h = by_place (is_place place p) refl h (place_there place places)
  where
    by_place : (b : Bool) → is_place place p ≡ b → (b || has_place place places) ≡ true → (has_place place places ≡ true → Has places place) → Has (p ∷ places) place
    by_place true is h' more = inl (sym (same_place place p is))
    by_place false is h' more = inr (more h')

-- ---- the ends of one task

-- a place at which the task of a number has an end
abbrev IsOwn : Scenario → ℕ → PagePlace → Type 0
IsOwn s zero (Control c) = is_some (domain_of s c) ≡ true
IsOwn s zero (Payload f t port) = ⊥
IsOwn s (suc k) place = IsPlace s place × (is_end_of (suc k) place ≡ true)

record EndFacts (s : Scenario) (number : ℕ) (done : TaskDone) : Type 0 where
  pub end : PagePlace → EndView
  pub are : AreEnds end (ends_of done)
  pub turned : Each (λ e. e.view.turned ≡ hostile_at s number) (ends_of done)
  pub own : (place : PagePlace) → IsOwn s number place → Has (places_in (ends_of done)) place

place_laid : (s : Scenario) (place : PagePlace) → IsPlace s place → Has (laid s) place
place_laid s (Control d) there = control_laid s d there
place_laid s (Payload f t port) there = is_laid s f t port there

each_turned : (s : Scenario) (number : ℕ) (turned : Bool) → hostile_at s number ≡ turned → (ends : List EndAt) → Each (λ e. e.view.turned ≡ turned) ends → Each (λ e. e.view.turned ≡ hostile_at s number) ends
each_turned s number turned is ends each = subst (λ b. Each (λ e. e.view.turned ≡ b) ends) (sym is) each

own_there : (s : Scenario) (number : ℕ) (ends : List EndAt) → number ≢ 0 → places_in ends ≡ places_of s number → (place : PagePlace) → IsOwn s number place → Has (places_in ends) place
own_there s zero ends some is place own = absurd (some refl)
own_there s (suc k) ends some is place own =
    subst (λ l. Has l place) (sym is) (has_filter_back (is_end_of (suc k)) (laid s) place (place_laid s place own.0) own.1)

no_zero : (s : Scenario) (number : ℕ) → is_some (domain_of s number) ≡ true → number ≢ 0
no_zero s zero there = cc
no_zero s (suc k) there = λ e. cc

hostile_there : (s : Scenario) (number : ℕ) → hostile_at s number ≡ true → number ≢ 0
hostile_there s zero bad = cc
hostile_there s (suc k) bad = λ e. cc

broker_own : (s : Scenario) (ends : List EndAt) → places_in ends ≡ map Control (all_domains s) → (place : PagePlace) → IsOwn s 0 place → Has (places_in ends) place
broker_own s ends is (Payload f t port) own = absurd own
broker_own s ends is (Control c) own = subst (λ l. Has l (Control c)) (sym is) (all_controls c own)
  where
    all_controls : (c : ℕ) → is_some (domain_of s c) ≡ true → Has (map Control (all_domains s)) (Control c)
    all_controls c there = has_map_back Control (all_domains s) c (has_domain s c there)

ends_are : (s : Scenario) (number : ℕ) (given : TaskGiven) (done : TaskDone) → IsGivenTo s number given → IsReport done → TaskOwes given done → EndFacts s number done
ends_are s number given (NoMemory ends) is some owes = absurd some
ends_are s number (Agent plan given) (AgentDone report) is some owes = record {
  end = owes.0;
  are = owes.2.are;
  turned = each_turned s number false is.0.honest report.ends owes.2.back.turned_are;
  own = own_there s number report.ends (no_zero s number is.0.there) (same_places given report.ends owes.2.back.same ∙ is.2);
}
ends_are s number (Broker hub awaited given) (BrokerDone broker ends) is some owes = record {
  end = owes.0;
  are = owes.2.are;
  turned = each_turned s number false (ap (hostile_at s) is.0) ends owes.2.back.turned_are;
  own = λ place own. broker_own s ends (same_places given ends owes.2.back.same ∙ is.3) place (subst (λ n. IsOwn s n place) is.0 own);
}
ends_are s number (Hostile plan given) (HostileDone domain ends) is some owes = record {
  end = owes.0;
  are = owes.2.are;
  turned = each_turned s number true is.0 ends owes.2.back.turned_are;
  own = own_there s number ends (hostile_there s number is.0) (same_places given ends owes.2.back.same ∙ is.2);
}
ends_are s number (Agent plan given) (BrokerDone broker ends) is some owes = absurd owes
ends_are s number (Agent plan given) (HostileDone domain ends) is some owes = absurd owes
ends_are s number (Broker hub awaited given) (AgentDone report) is some owes = absurd owes
ends_are s number (Broker hub awaited given) (HostileDone domain ends) is some owes = absurd owes
ends_are s number (Hostile plan given) (AgentDone report) is some owes = absurd owes
ends_are s number (Hostile plan given) (BrokerDone broker ends) is some owes = absurd owes

task_ends : (s : Scenario) (dones : List TaskDone) (pages : List SettledPage) → AreResults s dones pages → (number : ℕ) → number ≤ length s.domains → EndFacts s number (answer_at dones number)
task_ends s dones pages h number within = let a = h.answered number within in ends_are s number a.0 (answer_at dones number) a.1 a.2 a.3

-- ---- the two ends of a page

domain_own : (s : Scenario) (d : ℕ) (place : PagePlace) → is_some (domain_of s d) ≡ true → IsPlace s place → is_end_of d place ≡ true → IsOwn s d place
domain_own s zero place there lies own = cc
domain_own s (suc k) place there lies own = (lies, own)

is_end : (f t d : ℕ) → (d ≡ f) ⊎ (d ≡ t) → (f == d || t == d) ≡ true
is_end f t d (inl e) = let same : (f == d) ≡ true = grind (arith, nat_tests, e) in rw same refl
is_end f t d (inr e) = by_test (f == d) (grind (arith, nat_tests, e))
  where
    by_test : (b : Bool) → (t == d) ≡ true → (b || t == d) ≡ true
    by_test true same = refl
    by_test false same = same

server_own : (s : Scenario) (place : PagePlace) → IsPlace s place → IsOwn s (server_of place) place
server_own s (Control d) lies = domain_own s d (Control d) lies lies (let same : (d == d) ≡ true = grind (arith, nat_tests) in same)
server_own s (Payload f t port) lies = domain_own s f (Payload f t port) lies.1 lies (is_end f t f (inl refl))

client_own : (s : Scenario) (place : PagePlace) → IsPlace s place → IsOwn s (client_of place) place
client_own s (Control d) lies = lies
client_own s (Payload f t port) lies = domain_own s t (Payload f t port) lies.2 lies (is_end f t t (inr refl))

server_within : (s : Scenario) (place : PagePlace) → IsPlace s place → server_of place ≤ length s.domains
server_within s (Control d) lies = (domain_is s d lies).1
server_within s (Payload f t port) lies = (domain_is s f lies.1).1

client_within : (s : Scenario) (place : PagePlace) → IsPlace s place → client_of place ≤ length s.domains
client_within s (Control d) lies = omega arith
client_within s (Payload f t port) lies = (domain_is s t lies.2).1

-- the view of an end that a task gave back
given_view : (s : Scenario) (number : ℕ) (done : TaskDone) → EndFacts s number done → (place : PagePlace) → IsOwn s number place → (view : EndView) → Contains (ends_of done) (record { place = place; view = view })
    → view ≡ view_in (ends_of done) place
given_view s number done facts place own view there =
    let is = each_at (λ e. e.view ≡ facts.end e.place) (ends_of done) (record { place = place; view = view }) facts.are (has_from (ends_of done) _ there) in
    let at = in_view (λ p v. v ≡ facts.end p) (ends_of done) facts.are place (facts.own place own) in
    is ∙ sym at

view_turned : (s : Scenario) (number : ℕ) (done : TaskDone) → EndFacts s number done → (place : PagePlace) → IsOwn s number place → (view_in (ends_of done) place).turned ≡ hostile_at s number
view_turned s number done facts place own = in_view (λ p v. v.turned ≡ hostile_at s number) (ends_of done) facts.turned place (facts.own place own)

-- ---- pages

page_same : (s : Scenario) (dones : List TaskDone) (pages : List SettledPage) → AreResults s dones pages → (p : SettledPage) → IsPlace s p.place → IsJoined s dones p → p.settled ≡ page_at s dones p.place
page_same s dones pages h p lies j =
    let server = given_view s (server_of p.place) (answer_at dones (server_of p.place)) (task_ends s dones pages h (server_of p.place) (server_within s p.place lies)) p.place (server_own s p.place lies) p.settled.server j.server in
    let client = given_view s (client_of p.place) (answer_at dones (client_of p.place)) (task_ends s dones pages h (client_of p.place) (client_within s p.place lies)) p.place (client_own s p.place lies) p.settled.client j.client in
    λ i. record { orders = j.begun.orders i; start = j.begun.start i; server = server i; client = client i }

page_there : (s : Scenario) (dones : List TaskDone) (pages : List SettledPage) → AreResults s dones pages → (p : SettledPage) → Has pages p → IsPlace s p.place
page_there s dones pages h p there = laid_place s p.place (subst (λ l. Has l p.place) h.places (has_map_back (λ q. q.place) pages p there))

settled_at : (s : Scenario) (dones : List TaskDone) (pages : List SettledPage) → AreResults s dones pages → (place : PagePlace) → IsPlace s place → IsSettled (page_at s dones place)
settled_at s dones pages h place lies =
    let c = has_map (λ p. p.place) pages place (subst (λ l. Has l place) (sym h.places) (place_laid s place lies)) in
    let j = each_at (IsJoined s dones) pages c.one h.joined c.there in
    let same = page_same s dones pages h c.one (page_there s dones pages h c.one c.there) j in
    subst (λ p. IsSettled (page_at s dones p)) c.is (subst IsSettled same j.settled)

pages_same : (s : Scenario) (dones : List TaskDone) (all : List SettledPage) → AreResults s dones all → (pages : List SettledPage) → ((p : SettledPage) → Has pages p → Has all p) → Each (IsJoined s dones) pages
    → map (page_read (run_of s dones)) (map (λ p. p.place) pages) ≡ pages
pages_same s dones all h [] go joined = refl
pages_same s dones all h (p ∷ pages) go joined =
    let same = page_same s dones all h p (page_there s dones all h p (go p (inl refl))) joined.0 in
    let more = pages_same s dones all h pages (λ q there. go q (inr there)) joined.1 in
    let first : page_read (run_of s dones) p.place ≡ p = λ i. record { place = p.place; settled = sym same i } in
    rw first (ap (λ r. p ∷ r) more)

-- ---- what each task owes, of the ends of the run

own_view : (s : Scenario) (dones : List TaskDone) (d : ℕ) (place : PagePlace) → is_end_of d place ≡ true → view_at dones d place ≡ end_of (run_of s dones) d place
own_view s dones d (Control c) own =
    let same : c ≡ d = grind (arith, nat_tests, own) in
    rw own (ap (λ n. view_at dones n (Control c)) (sym same))
own_view s dones d (Payload f t port) own = by_caller (f == d) refl own
  where
    by_caller : (b : Bool) → (f == d) ≡ b → (b || t == d) ≡ true → view_at dones d (Payload f t port) ≡ end_of (run_of s dones) d (Payload f t port)
    by_caller true is h' = let same : f ≡ d = grind (arith, nat_tests, is) in rw is (ap (λ n. view_at dones n (Payload f t port)) (sym same))
    by_caller false is h' = let same : t ≡ d = grind (arith, nat_tests, h') in rw is (ap (λ n. view_at dones n (Payload f t port)) (sym same))

agent_same : (s : Scenario) (dones : List TaskDone) (d : ℕ) → IsHonest s d → (given : TaskGiven) (done : TaskDone) → answer_at dones d ≡ done → IsGivenTo s d given → IsReport done → TaskOwes given done
    → AgentOwes (agent_plan s d) (end_of (run_of s dones) d) (calls_of done) (served_of done) (control_of done)
unfolding ends_are
agent_same s dones d honest given (NoMemory ends) at is some owes = absurd some
agent_same s dones d honest (Agent plan given) (AgentDone report) at is some owes =
    let facts = ends_are s d (Agent plan given) (AgentDone report) is some owes in
    let agent : AgentOwes (agent_plan s d) facts.end report.calls report.served report.control = subst (λ p. AgentOwes p facts.end report.calls report.served report.control) is.1 owes.3 in
    let same : (place : PagePlace) → IsPlace s place → is_end_of d place ≡ true → facts.end place ≡ end_of (run_of s dones) d place = λ place lies own.
    sym (in_view (λ p v. v ≡ facts.end p) report.ends facts.are place (facts.own place (domain_own s d place honest.there lies own)))
    ∙ ap (λ done'. view_in (ends_of done') place) (sym at) ∙ own_view s dones d place own in
    agent_owes_same (agent_plan s d) facts.end (end_of (run_of s dones) d) report.calls report.served report.control
    (same (Control d) honest.there (let self : (d == d) ≡ true = grind (arith, nat_tests) in self))
    (λ place there.
    let a = has_filter is_data (places_of s d) place (place_there place (agent_plan s d).places there) in
    let b = has_filter (is_end_of d) (laid s) place a.0 in
    same place (laid_place s place b.0) b.1)
    agent
agent_same s dones d honest (Broker hub awaited given) done at is some owes = absurd (no_zero s d honest.there is.0)
agent_same s dones d honest (Hostile plan given) done at is some owes = let both : false ≡ true = sym honest.honest ∙ is.0 in cc
agent_same s dones d honest (Agent plan given) (BrokerDone broker ends) at is some owes = absurd owes
agent_same s dones d honest (Agent plan given) (HostileDone domain ends) at is some owes = absurd owes

broker_same : (s : Scenario) (dones : List TaskDone) (given : TaskGiven) (done : TaskDone) → answer_at dones 0 ≡ done → IsGivenTo s 0 given → IsReport done → TaskOwes given done
    → BrokerOwes (hub_of s) (awaited_by s) (journal_of done) (broker_end (run_of s dones))
unfolding ends_are
broker_same s dones given (NoMemory ends) at is some owes = absurd some
broker_same s dones (Broker hub awaited given) (BrokerDone broker ends) at is some owes =
    let facts = ends_are s 0 (Broker hub awaited given) (BrokerDone broker ends) is some owes in
    let by_hub : BrokerOwes (hub_of s) awaited broker.journal (λ d. facts.end (Control d)) = subst (λ x. BrokerOwes x awaited broker.journal (λ d. facts.end (Control d))) is.1 owes.3 in
    let by_awaited : BrokerOwes (hub_of s) (awaited_by s) broker.journal (λ d. facts.end (Control d)) = subst (λ x. BrokerOwes (hub_of s) x broker.journal (λ d. facts.end (Control d))) is.2 by_hub in
    broker_owes_same (hub_of s) (awaited_by s) broker.journal (λ d. facts.end (Control d)) (broker_end (run_of s dones))
    (λ d there.
    sym (in_view (λ p v. v ≡ facts.end p) ends facts.are (Control d) (facts.own (Control d) (domain_there s d there)))
    ∙ ap (λ done'. view_in (ends_of done') (Control d)) (sym at))
    by_awaited
broker_same s dones (Agent plan given) done at is some owes = absurd (no_zero s 0 is.0.there refl)
broker_same s dones (Hostile plan given) done at is some owes = absurd (hostile_there s 0 is.0 refl)
broker_same s dones (Broker hub awaited given) (AgentDone report) at is some owes = absurd owes
broker_same s dones (Broker hub awaited given) (HostileDone domain ends) at is some owes = absurd owes

-- an end that is as an unused one but for being turned
unused_before : (given retired : EndView) → IsUnused given → before_turned retired ≡ before_turned given → IsUnused (before_turned retired)
unused_before given retired unused same = subst IsUnused (sym same) (record {
  idle = refl;
  state = unused.state;
  sent = unused.sent;
  got = unused.got;
  saw = unused.saw;
  ended = unused.ended;
  drained = unused.drained;
  misled = unused.misled;
  retired = unused.retired;
  turned = refl;
})

acted_on : (plan : HostilePlan) (given ends : List EndAt) → Each (λ e. IsUnused e.view) given → Each (λ e. IsTrail plan e.place e.view.trail) ends → EachPair IsTurnedFrom given ends → Each (λ e. IsActedOn plan e.place e.view) ends
acted_on plan [] [] unused trails from = tt
acted_on plan [] (e ∷ ends) unused trails from = absurd from
acted_on plan (g ∷ given) [] unused trails from = tt
acted_on plan (g ∷ given) (e ∷ ends) unused trails from = (record { unused = unused_before g.view e.view unused.0 from.0.before; trail = trails.0 }, acted_on plan given ends unused.1 trails.1 from.1)

hostile_same : (s : Scenario) (dones : List TaskDone) (d : ℕ) → hostile_at s d ≡ true → is_some (domain_of s d) ≡ true → (given : TaskGiven) (done : TaskDone) → answer_at dones d ≡ done → IsGivenTo s d given
    → IsReport done → TaskOwes given done → (place : PagePlace) → IsPlace s place → is_end_of d place ≡ true → IsActedOn (hostile_plan s d) place (end_of (run_of s dones) d place)
hostile_same s dones d bad exists given (NoMemory ends) at is some owes place lies own = absurd some
hostile_same s dones d bad exists (Hostile plan given) (HostileDone domain ends) at is some owes place lies own =
    let facts = ends_are s d (Hostile plan given) (HostileDone domain ends) is some owes in
    let acted : Each (λ e. IsActedOn (hostile_plan s d) e.place e.view) ends = subst (λ p. Each (λ e. IsActedOn p e.place e.view) ends) is.1 (acted_on plan given ends is.3 owes.3 owes.4) in
    let end = in_view (λ p v. IsActedOn (hostile_plan s d) p v) ends acted place (facts.own place (domain_own s d place exists lies own)) in
    subst (λ v. IsActedOn (hostile_plan s d) place v) (ap (λ done'. view_in (ends_of done') place) (sym at) ∙ own_view s dones d place own) end
hostile_same s dones d bad exists (Agent plan given) done at is some owes place lies own = let both : false ≡ true = sym is.0.honest ∙ bad in cc
hostile_same s dones d bad exists (Broker hub awaited given) done at is some owes place lies own = absurd (hostile_there s d bad is.0)
hostile_same s dones d bad exists (Hostile plan given) (AgentDone report) at is some owes place lies own = absurd owes
hostile_same s dones d bad exists (Hostile plan given) (BrokerDone broker ends) at is some owes place lies own = absurd owes

-- a domain that is hostile is there
hostile_exists : (s : Scenario) (d : ℕ) → hostile_at s d ≡ true → is_some (domain_of s d) ≡ true
hostile_exists s d bad = by_domain (domain_of s d) bad
  where
    by_domain : (o : Option Domain) → option_map_or is_hostile o false ≡ true → is_some o ≡ true
    by_domain None h = cc
    by_domain (Some domain) h = refl

-- ---- the whole

pub results_are_runs : ResultsAreRuns
results_are_runs s dones pages h = (
  record {
    scenario = h.scenario;
    settled = settled_at s dones pages h;
    begun = λ place lies. record { orders = refl; start = refl };
    server_turned = λ place lies. view_turned s (server_of place) (answer_at dones (server_of place)) (task_ends s dones pages h (server_of place) (server_within s place lies)) place (server_own s place lies);
    client_turned = λ place lies. view_turned s (client_of place) (answer_at dones (client_of place)) (task_ends s dones pages h (client_of place) (client_within s place lies)) place (client_own s place lies);
    broker = (let a = h.answered 0 (omega arith) in broker_same s dones a.0 (answer_at dones 0) refl a.1 a.2 a.3);
    agent = λ d honest. (let a = h.answered d (domain_is s d honest.there).1 in agent_same s dones d honest a.0 (answer_at dones d) refl a.1 a.2 a.3);
    hostile = λ d bad place lies own. (let exists = hostile_exists s d bad in let a = h.answered d (domain_is s d exists).1 in hostile_same s dones d bad exists a.0 (answer_at dones d) refl a.1 a.2 a.3 place lies own);
  },
  ap (map (page_read (run_of s dones))) (sym h.places) ∙ pages_same s dones pages h pages (λ p there. there) h.joined,
)

pub results_are_lawful : ResultsAreLawful
results_are_lawful s dones pages h sorted permuted order' =
    let both = results_are_runs s dones pages h in
    subst (λ ps. IsLawful s (report_by s dones ps (map (session_line s) sorted))) both.1 (sorted_sessions_are_lawful s (run_of s dones) both.0 sorted permuted order')
