use Rattle.std.proofs.Common.{Option, ap, sym, subst, ◌∙◌}
use Rattle.std.specs.Prelude.{IfSome}
use Rattle.vchan_persist.specs.declared.client.Client.{Client}
use Rattle.vchan_persist.specs.Clients.{IsServable, added, too_many}
use Rattle.vchan_persist.proofs.ListLaws.{line_within, list_more}
use Rattle.vchan_persist.proofs.lines.ClientList.add.Goals as goal

pub returns-in-Some-clause-list : goal.returns-in-Some-clause-list
returns-in-Some-clause-list c =
    let list = c.requires.list in
    let clients = c.args.self.now.clients.items in
    let room = sym c.is_full.ensures ∙ c.if-is_full.false in
    let room' = ap (λ (o : Option Client). too_many c.args.line (added clients o)) (sym c.in-Some.is) ∙ room in
    let more = list_more c.args.line clients c.push.new.self.items c.in-Some.client c.args.self.now.bytes c.stdin_len-more.result list.clients list.bytes
    (subst (λ (o : Option Client). IfSome o IsServable) c.in-Some.is c.requires.servable) room' c.in_ok-push.ensures.items c.stdin_len-more.ensures in
    record { lines = line_within c.args.line (added clients c.args.entry) room; clients = more.0; bytes = more.1; few = more.2 }
