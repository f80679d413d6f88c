use Rattle.std.proofs.Common.{◌≡◌, ◌∙◌, ap, refl, sym, subst, rules}
use Rattle.qrexec_frame.specs.Texts.{FitsText}
use Rattle.qrexec_frame.specs.Names.{cleaned_service}
use Rattle.call_broker.specs.Domains.{name_of}
use Rattle.call_broker.specs.Journal.{IsNumbered}
use Rattle.task_duties.specs.Words.{exec_line}
use Rattle.broker_task.specs.Lines.{HasRoom}
use Rattle.broker_task.proofs.ReplyLaws.{line_fits}
use Rattle.broker_task.proofs.reply.reply_to.Goals as goal

pub returns-in_ok-ident-in-Accepted-clause-fits : goal.returns-in_ok-ident-in-Accepted-clause-fits
returns-in_ok-ident-in-Accepted-clause-fits c =
    let hub = c.args.broker.now.hub in
    let is = c.in-Trigger.is in
    let line_is : c.in_ok-line-in-Accepted.line ≡ exec_line (cleaned_service c.in-Trigger.service) (name_of hub c.in-Trigger.from) =
    c.in_ok-line-in-Accepted.ensures.line ∙ ap (λ s. exec_line s c.name.result.now) c.in_ok-service-in-Accepted.ensures ∙ ap (λ n. exec_line (cleaned_service c.in-Trigger.service) n) c.name.ensures in
    let fits = line_fits hub c.args.event.now c.in-Trigger.from c.in-Trigger.target c.in-Trigger.service c.in-Trigger.ident c.in_ok-line-in-Accepted.line is c.requires.numbered c.requires.room c.requires.names line_is
    c.in_ok-line-in-Accepted.ensures.no_nul in
    let numbered = subst (IsNumbered hub) is c.requires.numbered in
    let room = subst HasRoom is c.requires.room in
    let ident : FitsText 31 c.in_ok-ident-in-Accepted.ident = subst (FitsText 31) (sym c.in_ok-ident-in-Accepted.ensures.cases) room.0 in
    (((refl, (fits, (search rules, search rules))), numbered), ((refl, (ident, (search rules, search rules))), tt))
