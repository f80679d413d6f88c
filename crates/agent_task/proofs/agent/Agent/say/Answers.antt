use Rattle.std.proofs.Common.{◌≡◌, ◌∙◌, ℕ, refl, ap, subst}
use Rattle.std.specs.Prelude.{◌-◌, min}
use Rattle.agent_slots.specs.Slots.{late_count}
use Rattle.agent_task.specs.Moving.{SaysNoMore, asked_at_most, HasStopped}
use Rattle.agent_task.proofs.MovingLaws.{says_on}
use Rattle.agent_task.proofs.RoundLaws.{hearing_rests, still_rests, says_up}
use Rattle.agent_task.proofs.agent.Agent.say.Goals as goal

pub returns-in_ok-say_on-clause-up : goal.returns-in_ok-say_on-clause-up
returns-in_ok-say_on-clause-up c = says_up c.args.self.now c.say_on.new.self _ c.requires.up c.in_ok-say_on.ensures.more

pub returns-in_ok-say_on-clause-says : goal.returns-in_ok-say_on-clause-says
returns-in_ok-say_on-clause-says c =
    let calls : c.min.result ≡ asked_at_most (late_count c.args.self.now.slots) = c.min.ensures ∙ ap (λ (n : ℕ). min n 1) (c.saturating_sub-more.ensures ∙ ap (λ (n : ℕ). 8 - n) c.pages_in_use.ensures) in
    let h = c.requires.up.hearing in
    let sent = says_on c.args.self.now.control c.say_on.new.self _ h.heard h.said c.in_ok-say_on.ensures.more h.stands.speaks in
    subst (λ (n : ℕ). SaysNoMore n c.args.self.now.control c.say_on.new.self) calls (HasStopped c.in_ok-say_on.ensures.more sent c.in_ok-say_on.ensures.why)

pub returns-in_ok-say_on-clause-retire : goal.returns-in_ok-say_on-clause-retire
returns-in_ok-say_on-clause-retire c = still_rests c.args.self.now _ c.requires.up.hearing (refl, refl, refl) c.say_on.ensures.end c.say_on.ensures.open

pub returns-in_err-say_on-clause-retire : goal.returns-in_err-say_on-clause-retire
returns-in_err-say_on-clause-retire c = still_rests c.args.self.now _ c.requires.up.hearing (refl, refl, refl) c.say_on.ensures.end c.say_on.ensures.open

pub returns-else-greeted-clause-retire : goal.returns-else-greeted-clause-retire
returns-else-greeted-clause-retire c = hearing_rests c.args.self.now c.requires.up.hearing
