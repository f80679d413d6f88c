-- The two threads brought all bytes through.
use Rattle.std.proofs.Common.{◌≡◌, ◌+◌, subst, length, vec_len, arith}
use Rattle.ring_words.specs.declared.page.Role.TheVariants.{Server, Client}
use Rattle.vchan_rule.specs.Seated.{last_view}
use Rattle.vchan_block.specs.Pipe.{HasPiped}
use Rattle.vchan_block.proofs.PipeLaws.{piped}
use Rattle.vchan_block.proofs.piping.pipe.Given.{Over}
use Rattle.vchan_block.proofs.piping.pipe.Goals as goal
use Rattle.vchan_lifecycle.specs.Ended.{GetsAll, IsEndOf, SendsAll}

through : (g : Over) (c : goal.After-drop-bytes-2 g) → (c.in_ok-client.received.bytes.items ≡ c.args.bytes.items) × HasPiped (record { orders = c.args.orders; start = c.args.start }) c.args.bytes.items c.finish-settled.result
through g c =
    let client = c.in_ok-client.client in
    let server = c.in_ok-client.received.end in
    let back = c.in_ok-client.received.bytes.items in
    let wrote : IsEndOf c.in_ok-page.page.table Client client × SendsAll (last_view client) c.as_slice.result.now = c.in_ok-client.ensures.client in
    let read : IsEndOf c.in_ok-page.page.table Server server × GetsAll (last_view server) back (vec_len c.in_ok-buf.buf) = c.in_ok-client.ensures.server in
    let room : vec_len c.in_ok-buf.buf ≡ length c.args.bytes.items + 1 = omega (arith, c.in_ok-buf.ensures.len, c.len.ensures, c.args.bytes.ok.0) in
    piped c.in_ok-page.page server client c.finish-settled.result (record { orders = c.args.orders; start = c.args.start }) c.args.bytes.items back (vec_len c.in_ok-buf.buf) c.finish-settled.ensures (λ i. record { orders = c.in_ok-page.ensures.0 i; start = c.in_ok-page.ensures.1 i }) room read.0 wrote.0
    (subst (SendsAll (last_view client)) c.as_slice.ensures.value wrote.1) read.1 c.promise.ensures

pub returns-clause-bytes : goal.returns-clause-bytes
returns-clause-bytes g c = (through g c).0

pub returns-clause-page : goal.returns-clause-page
returns-clause-page g c = (through g c).1
