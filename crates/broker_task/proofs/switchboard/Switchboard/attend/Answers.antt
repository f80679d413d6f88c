use Rattle.std.proofs.Common.{◌≡◌, ◌-◌, ◌∙◌, ap, sym, subst, true, false, None, Bool}
use Rattle.std.specs.Prelude.{is_none}
use Rattle.call_broker.specs.Brokered.{Brokered}
use Rattle.call_broker.specs.Domains.{Domains, is_domain}
use Rattle.broker_task.specs.Letters.{IsAt}
use Rattle.broker_task.specs.Lines.{end_of, is_gone, IsGoing}
use Rattle.broker_task.specs.Replies.{HasShortNames}
use Rattle.vchan_rule.specs.Seated.{SeatedEnd, view}
use Rattle.broker_task.specs.Rounds.{IsThere}
use Rattle.broker_task.proofs.PostLaws.{on_ok, each_moved}
use Rattle.broker_task.proofs.HearingSteps.{place_of_domain}
use Rattle.broker_task.proofs.RoundSteps.{each_here, still_there, heard_fine, no_fault, goes_nowhere, goes_on_ok}
use Rattle.broker_task.proofs.KeepingSteps.{keeps_none, keeps_all, keeps_ends, keeps_through}
use Rattle.broker_task.specs.Moving.{Steps, ListensAsTold}
use Rattle.broker_task.specs.Posting.{EachAt, EachMoves, SameEnd, IsPosting, IsHearing}
use Rattle.broker_task.proofs.MovingLaws.{gone_turns, drop_turns, send_turns}
use Rattle.broker_task.proofs.switchboard.Switchboard.attend.Goals as goal

pub listen-requires-clause-up : goal.listen-requires-clause-up
listen-requires-clause-up c =
    let place = place_of_domain c.args.self.now.broker.hub c.args.self.now.daemons.items c.args.domain c.requires.number c.requires.ready.posting.count in
    each_here (λ y. is_gone y ≡ false) c.args.domain c.args.self.now.daemons.items (c.args.domain - 1) c.index.result.now (record { within = place.0; is = c.index.ensures }) place.1 (sym c.is_gone.ensures ∙ c.if-is_gone.false)

pub hear-requires-clause-posting : goal.hear-requires-clause-posting
hear-requires-clause-posting c = subst (λ (b : Brokered). IsPosting b.hub b.journal c.listen.new.self.daemons.items) (sym c.listen.ensures.broker) c.in_ok-there.ensures.listened.posting

pub hear-requires-clause-names : goal.hear-requires-clause-names
hear-requires-clause-names c = subst (λ (b : Brokered). HasShortNames b.hub) (sym c.listen.ensures.broker) c.requires.ready.names

pub hear-requires-clause-number : goal.hear-requires-clause-number
hear-requires-clause-number c = subst (λ (b : Brokered). is_domain b.hub c.args.domain ≡ true) (sym c.listen.ensures.broker) c.requires.number

pub hear-requires-clause-hearing : goal.hear-requires-clause-hearing
hear-requires-clause-hearing c = subst (λ (b : Brokered). IsHearing c.args.domain b.journal c.listen.new.self.daemons.items) (sym c.listen.ensures.broker) c.in_ok-there.ensures.listened.hearing

pub drop_domain-requires-clause-number : goal.drop_domain-requires-clause-number
drop_domain-requires-clause-number c = subst (λ (h : Domains). is_domain h c.args.domain ≡ true) (sym (c.hear.ensures.hub ∙ ap (λ (b : Brokered). b.hub) c.listen.ensures.broker)) c.requires.number

pub drop_domain-requires-clause-cause : goal.drop_domain-requires-clause-cause
drop_domain-requires-clause-cause c =
    let ds = c.hear.new.self.daemons.items in
    subst (λ (b : Bool). EachAt (λ d y. d ≡ c.args.domain → IsThere b y) ds) c.if-not-there.true (still_there c.args.domain c.in_ok-there.there c.listen.new.self.daemons.items ds c.hear.ensures.ends c.in_ok-there.ensures.listened.whether)

pub drop_domain-requires-then-not-is_fine-clause-number : goal.drop_domain-requires-then-not-is_fine-clause-number
drop_domain-requires-then-not-is_fine-clause-number c = subst (λ (h : Domains). is_domain h c.args.domain ≡ true) (sym (c.hear.ensures.hub ∙ ap (λ (b : Brokered). b.hub) c.listen.ensures.broker)) c.requires.number

pub send-requires-clause-number : goal.send-requires-clause-number
send-requires-clause-number c = subst (λ (h : Domains). is_domain h c.args.domain ≡ true) (sym (c.hear.ensures.hub ∙ ap (λ (b : Brokered). b.hub) c.listen.ensures.broker)) c.requires.number

pub returns-in_err-hear-clause-idle : goal.returns-in_err-hear-clause-idle
returns-in_err-hear-clause-idle c = each_moved (λ d x. (end_of x).idle ≡ true) (λ d x. (end_of x).idle ≡ true) SameEnd c.listen.new.self.daemons.items c.hear.new.self.daemons.items c.hear.ensures.ends (λ d x y m idle. ap (λ (e : SeatedEnd). (view e).idle) m.0 ∙ idle) c.listen.ensures.idle

pub returns-then-is_gone-clause-goes : goal.returns-then-is_gone-clause-goes
returns-then-is_gone-clause-goes c = goes_nowhere c.args.self.now c.requires.ready

pub returns-then-is_gone-clause-kept : goal.returns-then-is_gone-clause-kept
returns-then-is_gone-clause-kept c = keeps_none c.args.self.now.daemons.items

pub returns-in_err-hear-clause-kept : goal.returns-in_err-hear-clause-kept
returns-in_err-hear-clause-kept c =
    keeps_all c.args.self.now.daemons.items c.listen.new.self.daemons.items c.hear.new.self.daemons.items c.listen.ensures.kept (keeps_ends c.listen.new.self.daemons.items c.hear.new.self.daemons.items c.hear.ensures.ends)

pub returns-then-not-there-clause-kept : goal.returns-then-not-there-clause-kept
returns-then-not-there-clause-kept c =
    keeps_through c.args.self.now.daemons.items c.listen.new.self.daemons.items c.hear.new.self.daemons.items c.drop_domain.new.self.daemons.items c.listen.ensures.kept c.hear.ensures.ends c.drop_domain.ensures.kept

pub returns-then-not-is_fine-clause-kept : goal.returns-then-not-is_fine-clause-kept
returns-then-not-is_fine-clause-kept c =
    keeps_through c.args.self.now.daemons.items c.listen.new.self.daemons.items c.hear.new.self.daemons.items c.drop_domain-then-not-is_fine.new.self.daemons.items c.listen.ensures.kept c.hear.ensures.ends
    c.drop_domain-then-not-is_fine.ensures.kept

pub returns-clause-kept : goal.returns-clause-kept
returns-clause-kept c =
    keeps_through c.args.self.now.daemons.items c.listen.new.self.daemons.items c.hear.new.self.daemons.items c.send.new.self.daemons.items c.listen.ensures.kept c.hear.ensures.ends c.send.ensures.kept

pub returns-then-not-there-clause-goes : goal.returns-then-not-there-clause-goes
returns-then-not-there-clause-goes c =
    goes_on_ok c.drop_domain.result c.args.self.now c.listen.new.self c.hear.new.self c.drop_domain.new.self c.requires.ready c.listen.ensures.broker c.in_ok-there.ensures.same c.hear.ensures.hub c.hear.ensures.ends
    c.drop_domain.ensures.hub c.drop_domain.ensures.same c.drop_domain.ensures.posting c.drop_domain.ensures.read c.drop_domain.ensures.holds

pub returns-then-not-is_fine-clause-goes : goal.returns-then-not-is_fine-clause-goes
returns-then-not-is_fine-clause-goes c =
    goes_on_ok c.drop_domain-then-not-is_fine.result c.args.self.now c.listen.new.self c.hear.new.self c.drop_domain-then-not-is_fine.new.self c.requires.ready c.listen.ensures.broker c.in_ok-there.ensures.same c.hear.ensures.hub
    c.hear.ensures.ends c.drop_domain-then-not-is_fine.ensures.hub c.drop_domain-then-not-is_fine.ensures.same c.drop_domain-then-not-is_fine.ensures.posting c.drop_domain-then-not-is_fine.ensures.read c.drop_domain-then-not-is_fine.ensures.holds

pub send-requires-clause-sending : goal.send-requires-clause-sending
send-requires-clause-sending c =
    let s = c.hear.new.self in
    let ds = s.daemons.items in
    let x = c.index-2.result.now in
    let hub_is = c.hear.ensures.hub ∙ ap (λ (b : Brokered). b.hub) c.listen.ensures.broker in
    let number = subst (λ (h : Domains). is_domain h c.args.domain ≡ true) (sym hub_is) c.requires.number in
    let place = place_of_domain s.broker.hub ds c.args.domain number c.in_ok-hear.ensures.posting.count in
    let there : IsAt ds (c.args.domain - 1) x = record { within = place.0; is = c.index-2.ensures } in
    let fine : is_none x.port.fault ≡ true = sym c.is_fine.ensures ∙ c.if-not-is_fine.false in
    let up = c.if-not-there.false in
    let here = subst (λ (b : Bool). EachAt (λ d y. d ≡ c.args.domain → IsThere b y) ds) up (still_there c.args.domain c.in_ok-there.there c.listen.new.self.daemons.items ds c.hear.ensures.ends c.in_ok-there.ensures.listened.whether) in
    let going = (here (c.args.domain - 1) x there place.1).1 in
    record {
      posting = c.in_ok-hear.ensures.posting;
      read = heard_fine c.args.domain s.broker.journal ds c.in_ok-hear.ensures.heard (each_here (λ y. (y.port.fault ≡ None) × IsGoing (end_of y)) c.args.domain ds (c.args.domain - 1) x there place.1 (no_fault x.port.fault fine, going));
      opened = λ i y at same. (here i y at same).0;
    }

pub returns-clause-goes : goal.returns-clause-goes
returns-clause-goes c =
    goes_on_ok c.send.result c.args.self.now c.listen.new.self c.hear.new.self c.send.new.self c.requires.ready c.listen.ensures.broker c.in_ok-there.ensures.same c.hear.ensures.hub c.hear.ensures.ends
    (ap (λ (b : Brokered). b.hub) c.send.ensures.broker) c.send.ensures.same (on_ok c.send.result c.send.ensures.sending (λ p. p.posting)) (on_ok c.send.result c.send.ensures.sending (λ p. p.read)) c.send.ensures.holds

pub returns-then-is_gone-clause-turns : goal.returns-then-is_gone-clause-turns
returns-then-is_gone-clause-turns c =
    let ds = c.args.self.now.daemons.items in
    let x = c.index.result.now in
    let place = place_of_domain c.args.self.now.broker.hub ds c.args.domain c.requires.number c.requires.ready.posting.count in
    let there : IsAt ds (c.args.domain - 1) x = record { within = place.0; is = c.index.ensures } in
    gone_turns c.args.domain ds (c.args.domain - 1) x there place.1 (sym c.is_gone.ensures ∙ c.if-is_gone.true)

pub returns-then-not-there-clause-turns : goal.returns-then-not-there-clause-turns
returns-then-not-there-clause-turns c =
    on_ok c.drop_domain.result c.drop_domain.ensures.steps
    (λ drop. drop_turns c.args.domain c.in_ok-there.there c.args.self.now.daemons.items c.listen.new.self.daemons.items c.hear.new.self.daemons.items c.drop_domain.new.self.daemons.items c.in_ok-there.ensures.steps c.in_ok-hear.ensures.steps drop)

pub returns-then-not-is_fine-clause-turns : goal.returns-then-not-is_fine-clause-turns
returns-then-not-is_fine-clause-turns c =
    on_ok c.drop_domain-then-not-is_fine.result c.drop_domain-then-not-is_fine.ensures.steps
    (λ drop.
    drop_turns c.args.domain c.in_ok-there.there c.args.self.now.daemons.items c.listen.new.self.daemons.items c.hear.new.self.daemons.items c.drop_domain-then-not-is_fine.new.self.daemons.items c.in_ok-there.ensures.steps
    c.in_ok-hear.ensures.steps drop)

pub returns-clause-turns : goal.returns-clause-turns
returns-clause-turns c =
    let up = c.if-not-there.false in
    on_ok c.send.result c.send.ensures.steps
    (λ sends.
    send_turns c.args.domain c.args.self.now.daemons.items c.listen.new.self.daemons.items c.hear.new.self.daemons.items c.send.new.self.daemons.items
    (subst (λ (b : Bool). EachMoves (Steps c.args.domain (ListensAsTold b)) c.args.self.now.daemons.items c.listen.new.self.daemons.items) up c.in_ok-there.ensures.steps) c.in_ok-hear.ensures.steps sends)
