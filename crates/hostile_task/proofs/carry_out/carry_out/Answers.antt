-- Each act keeps what is known of all pages.
use Rattle.std.proofs.Common.{◌≡◌, ℕ, ◌+◌, ◌<◌, ◌≤◌, List, Some, None, false, true, nat_le, slice_get, refl, sym, subst, ap, ◌∙◌, arith}
use Rattle.std.proofs.lemmas.Bool.Decides.{nat_tests}
use Rattle.list_laws.proofs.Each.{each_weaker}
use Rattle.vchan_protocol.specs.declared.op.PastEvent.{PastEvent}
use Rattle.scenario_file.specs.declared.acts.Act.{Act}
use Rattle.scenario_file.specs.declared.acts.Act.TheVariants.{Poke, Scribble, Signal, Rest}
use Rattle.task_duties.specs.declared.place.PagePlace.{PagePlace}
use Rattle.task_duties.specs.Hostile.Stores.{stores_of, role_at}
use Rattle.task_duties.specs.Hostile.Saying.{Voice}
use Rattle.task_duties.specs.Hostile.Trail.{words_of}
use Rattle.hostile_task.specs.declared.pages.Pages.{Pages}
use Rattle.hostile_task.specs.declared.progress.Progress.{Progress}
use Rattle.hostile_task.specs.Plan.{plan_of}
use Rattle.hostile_task.specs.Pages.{places_in, AreAfter}
use Rattle.hostile_task.specs.Saying.{after_turn, SaysSoFar, SaysOn}
use Rattle.hostile_task.specs.UnderWay.{HaveRoles, IsUnderWay, IsPageSoFar, most_turns}
use Rattle.hostile_task.specs.Turns.{TakesTurn}
use Rattle.hostile_task.proofs.PageLaws.{are_same_after}
use Rattle.hostile_task.proofs.TurnLaws.{takes_last, takes_rest, takes_said, turn_left}
use Rattle.hostile_task.proofs.WayLaws.{way_stores, way_rests, way_says, with_control, act_at, says_some}
use Rattle.hostile_task.proofs.carry_out.carry_out.Goals.{After-index-list-progress}
use Rattle.hostile_task.proofs.carry_out.carry_out.Goals as goal

-- the act that is carried out
is_at : (c : After-index-list-progress) (act : Act) → c.index-list-progress.result ≡ act → slice_get c.args.domain.now.acts c.args.progress.now.acts ≡ Some act
is_at c act is = act_at c.args.domain.now.acts c.list.result.now c.args.progress.now.acts c.index-list-progress.result act c.list.ensures.list c.requires.left c.index-list-progress.is is

few_turns : (c : After-index-list-progress) (act : Act) → c.index-list-progress.result ≡ act → c.args.progress.now.turns < most_turns act
few_turns c act is = turn_left c.args.domain.now.acts act c.args.progress.now c.args.spelled.now.items c.list.result.now c.list.ensures.list c.list.ensures.fit (is_at c act is) c.requires.way.begun

-- an act of stores, which is done in one turn
abbrev stores : After-index-list-progress → Act → PagePlace → List PastEvent
stores c act place = stores_of (plan_of c.args.domain.now (places_in c.args.pages.now)) place act

stores_way : (c : After-index-list-progress) (act : Act) (new : Pages) (next : Progress) → c.index-list-progress.result ≡ act → words_of act ≡ None → AreAfter (stores c act) c.args.pages.now new
    → next ≡ record { acts = c.args.progress.now.acts + 1; turns = 0; said = 0; own = c.args.progress.now.own } → IsUnderWay c.args.domain.now new next c.args.spelled.now.items
stores_way c act new next is none after done = way_stores c.args.domain.now act c.args.pages.now new c.args.progress.now next c.args.spelled.now.items c.requires.way (is_at c act is) c.requires.left none after done

stores_turn : (c : After-index-list-progress) (act : Act) (next : Progress) → c.index-list-progress.result ≡ act → most_turns act ≡ 1
    → next ≡ record { acts = c.args.progress.now.acts + 1; turns = 0; said = 0; own = c.args.progress.now.own } → TakesTurn c.args.domain.now.acts c.args.progress.now.acts c.args.progress.now.turns next.acts next.turns
stores_turn c act next is one done =
    let few = few_turns c act is in
    takes_last c.args.domain.now.acts act _ _ _ _ (is_at c act is) few (λ silent. omega (arith, few, one)) (ap (λ (q : Progress). q.acts) done) (ap (λ (q : Progress). q.turns) done)

-- each end has the role of its place
roles : (c : After-index-list-progress) → HaveRoles c.args.domain.now.number c.args.pages.now
roles c = (
  c.requires.way.so_far.0.role,
  each_weaker (IsPageSoFar (plan_of c.args.domain.now (places_in c.args.pages.now)) c.args.progress.now) (λ p. p.end.side.role ≡ role_at c.args.domain.now.number p.place) (λ p so_far. so_far.role) c.args.pages.now.payload.items c.requires.way.so_far.1,
)

pub returns-in-Poke-clause-way : goal.returns-in-Poke-clause-way
returns-in-Poke-clause-way c = stores_way (goal.at.returns-in-Poke-clause-way c).After-index-list-progress (Poke c.in-Poke.page c.in-Poke.word c.in-Poke.value) c.poke.new.self c.end_turn.new.self c.in-Poke.is refl c.poke.ensures c.end_turn.ensures

pub returns-in-Poke-clause-same : goal.returns-in-Poke-clause-same
returns-in-Poke-clause-same c = are_same_after (stores (goal.at.returns-in-Poke-clause-same c).After-index-list-progress (Poke c.in-Poke.page c.in-Poke.word c.in-Poke.value)) _ _ c.poke.ensures

pub returns-in-Poke-clause-turn : goal.returns-in-Poke-clause-turn
returns-in-Poke-clause-turn c = stores_turn (goal.at.returns-in-Poke-clause-turn c).After-index-list-progress (Poke c.in-Poke.page c.in-Poke.word c.in-Poke.value) c.end_turn.new.self c.in-Poke.is refl c.end_turn.ensures

pub returns-in-Scribble-clause-way : goal.returns-in-Scribble-clause-way
returns-in-Scribble-clause-way c = stores_way (goal.at.returns-in-Scribble-clause-way c).After-index-list-progress (Scribble c.in-Scribble.seed c.in-Scribble.count) c.scribble.new.self c.end_turn-in-Scribble.new.self c.in-Scribble.is refl (c.scribble.ensures (plan_of c.args.domain.now (places_in c.args.pages.now)) refl) c.end_turn-in-Scribble.ensures

pub returns-in-Scribble-clause-same : goal.returns-in-Scribble-clause-same
returns-in-Scribble-clause-same c = are_same_after (stores (goal.at.returns-in-Scribble-clause-same c).After-index-list-progress (Scribble c.in-Scribble.seed c.in-Scribble.count)) _ _ (c.scribble.ensures (plan_of c.args.domain.now (places_in c.args.pages.now)) refl)

pub returns-in-Scribble-clause-turn : goal.returns-in-Scribble-clause-turn
returns-in-Scribble-clause-turn c = stores_turn (goal.at.returns-in-Scribble-clause-turn c).After-index-list-progress (Scribble c.in-Scribble.seed c.in-Scribble.count) c.end_turn-in-Scribble.new.self c.in-Scribble.is refl c.end_turn-in-Scribble.ensures

pub returns-in-Signal-clause-way : goal.returns-in-Signal-clause-way
returns-in-Signal-clause-way c = stores_way (goal.at.returns-in-Signal-clause-way c).After-index-list-progress Signal c.signal.new.self c.end_turn-in-Signal.new.self c.in-Signal.is refl (c.signal.ensures c.args.domain.now.number (roles (goal.at.returns-in-Signal-clause-way c).After-index-list-progress)) c.end_turn-in-Signal.ensures

pub returns-in-Signal-clause-same : goal.returns-in-Signal-clause-same
returns-in-Signal-clause-same c = are_same_after (stores (goal.at.returns-in-Signal-clause-same c).After-index-list-progress Signal) _ _ (c.signal.ensures c.args.domain.now.number (roles (goal.at.returns-in-Signal-clause-same c).After-index-list-progress))

pub returns-in-Signal-clause-turn : goal.returns-in-Signal-clause-turn
returns-in-Signal-clause-turn c = stores_turn (goal.at.returns-in-Signal-clause-turn c).After-index-list-progress Signal c.end_turn-in-Signal.new.self c.in-Signal.is refl c.end_turn-in-Signal.ensures

pub returns-in-Rest-clause-way : goal.returns-in-Rest-clause-way
returns-in-Rest-clause-way c =
    let act : Act = Rest c.in-Rest.turns in
    let at = is_at (goal.at.returns-in-Rest-clause-way c).After-index-list-progress act c.in-Rest.is in
    let p : Progress = c.args.progress.now in
    let left : nat_le c.in-Rest.turns (p.turns + 1) ≡ false → p.turns + 1 < c.in-Rest.turns = λ is. grind (arith, nat_tests, is) in
    way_rests c.args.domain.now c.in-Rest.turns c.args.pages.now p c.end_turn-in-Rest.new.self (nat_le c.in-Rest.turns (p.turns + 1)) c.args.spelled.now.items c.requires.way at c.requires.left left
    (c.end_turn-in-Rest.ensures ∙ ap (λ (q : Progress). after_turn (nat_le c.in-Rest.turns q.turns) q) c.rest.ensures)

pub returns-in_ok-prepare-in_default-clause-way : goal.returns-in_ok-prepare-in_default-clause-way
returns-in_ok-prepare-in_default-clause-way c =
    let act : Act = c.index-list-progress.result in
    let at = is_at (goal.at.returns-in_ok-prepare-in_default-clause-way c).After-index-list-progress act refl in
    let pages = c.args.pages.now in
    let spelled = c.prepare.new.spelled.items in
    let words = says_some act c.in_default.not-Poke c.in_default.not-Scribble c.in_default.not-Signal c.in_default.not-Rest in
    let Turn : List ℕ → Type 0 = λ bs. (v : Voice) (events : List PastEvent) → v.orders ≡ pages.control.end.side.orders → SaysSoFar v bs c.args.progress.now events → SaysOn v bs events c.say-over.result c.say-over.new.progress pages.control.end c.say-over.new.control in
    subst (λ (q : Progress). IsUnderWay c.args.domain.now (with_control pages c.say-over.new.control) q spelled) (sym c.end_turn-in_default.ensures)
    (way_says c.args.domain.now act words.0 pages c.say-over.new.control c.args.progress.now c.say-over.new.progress c.say-over.result c.args.spelled.now.items spelled c.requires.way at c.requires.left words.1
    c.in_ok-prepare-in_default.ensures.ready (subst Turn c.deref.ensures.value c.say-over.ensures.says) c.say-over.ensures.acts c.say-over.ensures.turns)

pub returns-in-Rest-clause-turn : goal.returns-in-Rest-clause-turn
returns-in-Rest-clause-turn c =
    let act : Act = Rest c.in-Rest.turns in
    let p : Progress = c.args.progress.now in
    let w = (goal.at.returns-in-Rest-clause-turn c).After-index-list-progress in
    let last : nat_le c.in-Rest.turns (p.turns + 1) ≡ true → c.in-Rest.turns ≤ p.turns + 1 = λ is. grind (arith, nat_tests, is) in
    takes_rest c.args.domain.now.acts c.in-Rest.turns p c.end_turn-in-Rest.new.self (nat_le c.in-Rest.turns (p.turns + 1)) (is_at w act c.in-Rest.is) (few_turns w act c.in-Rest.is) last
    (c.end_turn-in-Rest.ensures ∙ ap (λ (next : Progress). after_turn (nat_le c.in-Rest.turns next.turns) next) c.rest.ensures)

pub returns-in_ok-prepare-in_default-clause-turn : goal.returns-in_ok-prepare-in_default-clause-turn
returns-in_ok-prepare-in_default-clause-turn c =
    let act : Act = c.index-list-progress.result in
    let w = (goal.at.returns-in_ok-prepare-in_default-clause-turn c).After-index-list-progress in
    let words = says_some act c.in_default.not-Poke c.in_default.not-Scribble c.in_default.not-Signal c.in_default.not-Rest in
    takes_said c.args.domain.now.acts act words.0 c.args.progress.now c.say-over.new.progress c.end_turn-in_default.new.self c.say-over.result (is_at w act refl) words.1 (few_turns w act refl) c.say-over.ensures.acts (λ more. (c.say-over.ensures.turns more).0) c.end_turn-in_default.ensures
