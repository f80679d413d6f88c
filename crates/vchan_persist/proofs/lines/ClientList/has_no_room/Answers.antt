use Rattle.std.proofs.Common.{◌≡◌, length, Option, ap, sym, ◌∙◌, arith}
use Rattle.vchan_persist.specs.declared.client.Client.{Client}
use Rattle.vchan_persist.specs.Clients.{added, has_too_many}
use Rattle.vchan_persist.proofs.ListLaws.{room_left}
use Rattle.vchan_persist.proofs.lines.ClientList.has_no_room.Goals as goal

pub returns-else-len-eq-MOST_CLIENTS : goal.returns-else-len-eq-MOST_CLIENTS
returns-else-len-eq-MOST_CLIENTS c =
    let list = c.requires.list in
    let clients = c.args.self.now.clients.items in
    let count : c.len.result ≡ length clients = omega (arith, c.len.ensures, c.args.self.now.clients.ok.0) in
    room_left clients c.in-Some.client c.args.self.now.bytes c.stdin_len.result c.len.result list.bytes list.few list.clients.0 count c.if-len-eq-MOST_CLIENTS.false c.stdin_len.ensures
    ∙ ap (λ (o : Option Client). has_too_many (added clients o)) (sym c.in-Some.is)
