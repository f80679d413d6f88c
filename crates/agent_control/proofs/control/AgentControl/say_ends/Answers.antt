use Rattle.std.proofs.Common.{◌≡◌, ◌∷◌, drop, refl, sym, ap, ◌∙◌, inl, subst}
use Rattle.vchan_packet.specs.Packet.{FailsToSend}
use Rattle.qrexec_frame.specs.Messages.{written}
use Rattle.agent_control.specs.Speaking.{Tells, terminated}
use Rattle.agent_control.specs.Stopping.{Unless}
use Rattle.agent_control.proofs.SpeakingLaws.{says_same, says_then, tells_first, tells_not, first_of, none_of}
use Rattle.agent_control.proofs.StoppingLaws.{end_waits, waits_after}
use Rattle.agent_control.proofs.control.AgentControl.say_ends.Goals as goal

pub ends-init : goal.ends-init
ends-init c = (says_same c.args.self.now c.requires.can, refl)

pub ends-preserved : goal.ends-preserved
ends-preserved c =
    let old = c.ends.self in
    let tells = subst (Tells old c.tell.new.self c.in-Some.end) c.if-not-branch.false c.in_ok-tell.ensures.tells in
    let waits : old.unsaid.items ≡ c.in-Some.end ∷ drop 1 old.unsaid.items = first_of old.unsaid.items c.front.result c.in-Some.end c.front.ensures.item (sym c.copied.ensures ∙ c.in-Some.is) in
    let more = tells_first old c.tell.new.self _ c.in-Some.end (drop 1 old.unsaid.items) tells (ap (λ u. u.items) tells.unsaid ∙ waits) (c.pop_front-told.ensures.rest ∙ ap (λ u. drop 1 u.items) tells.unsaid) refl in
    (says_then 0 0 c.args.self.now old _ (inl refl) c.ends.invariant.0 more, c.in_ok-tell.ensures.next ∙ c.ends.invariant.1)

pub returns-then-not-branch-clause-more : goal.returns-then-not-branch-clause-more
returns-then-not-branch-clause-more c =
    let old = c.ends.self in
    let tells = subst (Tells old c.tell.new.self c.in-Some.end) c.if-not-branch.true c.in_ok-tell.ensures.tells in
    says_then 0 0 c.args.self.now old c.tell.new.self (inl refl) c.ends.invariant.0
    (tells_not old c.tell.new.self c.in-Some.end _ tells (first_of old.unsaid.items c.front.result c.in-Some.end c.front.ensures.item (sym c.copied.ensures ∙ c.in-Some.is)))

pub returns-then-not-branch-clause-next : goal.returns-then-not-branch-clause-next
returns-then-not-branch-clause-next c = c.in_ok-tell.ensures.next ∙ c.ends.invariant.1

pub returns-then-not-branch-clause-why : goal.returns-then-not-branch-clause-why
returns-then-not-branch-clause-why c =
    let old = c.ends.self in
    let tells = subst (Tells old c.tell.new.self c.in-Some.end) c.if-not-branch.true c.in_ok-tell.ensures.tells in
    waits_after c.args.self.now old c.tell.new.self c.ends.invariant.0.end
    (end_waits old c.tell.new.self c.in-Some.end _ tells.unsaid (first_of old.unsaid.items c.front.result c.in-Some.end c.front.ensures.item (sym c.copied.ensures ∙ c.in-Some.is))
    (subst (λ b. Unless b (FailsToSend (written (terminated c.in-Some.end)) old.port.end c.tell.new.self.port.end)) c.if-not-branch.true c.in_ok-tell.ensures.why))

pub returns-clause-all : goal.returns-clause-all
returns-clause-all c = λ all. none_of c.ends.self.unsaid.items c.front.result c.front.ensures.item (sym c.copied.ensures ∙ c.in_default.is)
