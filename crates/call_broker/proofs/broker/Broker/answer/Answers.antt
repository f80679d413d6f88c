use Rattle.std.proofs.Common.{◌≡◌, ◌∙◌, sym, Some, None, true, false}
use Rattle.qrexec_frame.specs.Names.{cleaned_target}
use Rattle.call_broker.specs.Domains.{target_of, is_service}
use Rattle.call_broker.specs.Journal.{events}
use Rattle.call_broker.proofs.OpenLaws.{domain_found}
use Rattle.call_broker.proofs.AnswerLaws.{caller_gone, no_domain, same_domain, no_service, goes_on}
use Rattle.call_broker.proofs.broker.Broker.answer.Goals as goal

pub returns-then-is_dropped : goal.returns-then-is_dropped
returns-then-is_dropped c = λ ident.
    let now = c.args.self.now in
    caller_gone now.hub (events now.journal) c.args.from c.args.target.now c.args.service.now ident (sym c.if-is_dropped.ensures)

pub returns-in_default : goal.returns-in_default
returns-in_default c = λ ident.
    let now = c.args.self.now in
    let named : target_of now.hub c.args.target.now ≡ None = sym c.in_ok-to.ensures.domain ∙ c.in_default.is in
    c.refused.ensures ∙ no_domain now.hub (events now.journal) c.args.from c.args.target.now c.args.service.now ident (sym c.if-is_dropped.ensures) named

pub returns-then-to-from : goal.returns-then-to-from
returns-then-to-from c = λ ident.
    let now = c.args.self.now in
    let named : target_of now.hub c.args.target.now ≡ Some c.in-Some.to = sym c.in_ok-to.ensures.domain ∙ c.in-Some.is in
    c.refused-then-to-from.ensures
    ∙ same_domain now.hub (events now.journal) c.args.from c.args.target.now c.args.service.now ident c.in-Some.to (sym c.if-is_dropped.ensures) named c.if-to-from.true

pub returns-then-not-branch : goal.returns-then-not-branch
returns-then-not-branch c = λ ident.
    let now = c.args.self.now in
    let named : target_of now.hub c.args.target.now ≡ Some c.in-Some.to = sym c.in_ok-to.ensures.domain ∙ c.in-Some.is in
    let none : is_service c.args.service.now ≡ false = sym c.in_ok-is_service.ensures ∙ c.if-not-branch.true in
    c.refused-then-not-branch.ensures
    ∙ no_service now.hub (events now.journal) c.args.from c.args.target.now c.args.service.now ident c.in-Some.to (sym c.if-is_dropped.ensures) named c.if-to-from.false none

pub take_call-requires-clause-to : goal.take_call-requires-clause-to
take_call-requires-clause-to c =
    domain_found c.args.self.now.hub (cleaned_target c.args.target.now) c.in-Some.to (sym c.in_ok-to.ensures.domain ∙ c.in-Some.is)

pub returns : goal.returns
returns c = λ ident.
    let now = c.args.self.now in
    let named : target_of now.hub c.args.target.now ≡ Some c.in-Some.to = sym c.in_ok-to.ensures.domain ∙ c.in-Some.is in
    let known : is_service c.args.service.now ≡ true = sym c.in_ok-is_service.ensures ∙ c.if-not-branch.false in
    c.take_call.ensures
    ∙ goes_on now.hub (events now.journal) c.args.from c.args.target.now c.args.service.now ident c.in-Some.to (sym c.if-is_dropped.ensures) named c.if-to-from.false known
