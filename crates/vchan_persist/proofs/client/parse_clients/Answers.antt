-- The line that was read, and those that are left.
use Rattle.std.proofs.Common.{ℕ, ◌+◌, Ok, ap, subst, sym, ◌∙◌}
use Rattle.script_words.specs.Words.{lines_of}
use Rattle.vchan_persist.specs.Clients.{BeginsWell, clients_from, clients_of}
use Rattle.vchan_persist.proofs.ListLaws.{begins_later, read_all, read_bad, read_line}
use Rattle.vchan_persist.proofs.client.parse_clients.Goals as goal

pub loop-text-preserved : goal.loop-text-preserved
loop-text-preserved c =
    let inv = c.loop-text.invariant in
    let number = c.loop-text.list.lines + 1 in
    let before = c.loop-text.list.clients.items in
    let now = c.take.new.self.clients.items in
    let rest = lines_of c.loop-text.rest.now in
    let more = lines_of c.in-Some.more.now in
    let ok = c.in-Ok.ensures in
    record {
      list = ok.list;
      read = inv.read ∙ read_line number before now c.in-Some.text.now rest more c.in-Some.ensures.lines ok.clients ∙ ap (λ (n : ℕ). clients_from (n + 1) now more) (sym ok.line);
      begun = λ later. inv.begun (begins_later number before now c.in-Some.text.now rest more c.in-Some.ensures.lines ok.clients later);
    }

pub returns-in-Err-clause-bad : goal.returns-in-Err-clause-bad
returns-in-Err-clause-bad c =
    read_bad (c.loop-text.list.lines + 1) c.loop-text.list.clients.items c.in-Some.text.now (lines_of c.loop-text.rest.now) (lines_of c.in-Some.more.now) c.in-Err.refused (clients_of c.args.bytes.now)
    c.in-Some.ensures.lines c.in-Err.ensures.bad c.loop-text.invariant.read

pub returns-clause-clients : goal.returns-clause-clients
returns-clause-clients c =
    read_all (c.loop-text.list.lines + 1) c.loop-text.list.clients.items (lines_of c.loop-text.rest.now) (clients_of c.args.bytes.now) c.in_default.ensures.lines c.loop-text.invariant.read
    ∙ ap (λ v. Ok v.items) (sym c.into_clients.ensures)

pub returns-clause-begins : goal.returns-clause-begins
returns-clause-begins c = c.loop-text.invariant.begun (subst BeginsWell (sym c.in_default.ensures.lines) tt)
