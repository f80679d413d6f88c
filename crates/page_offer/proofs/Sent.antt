-- The sides of a page may go from thread to thread: what each consists of may.
use denote.Builtin.{unit}
use denote.Param.Send.{IsSend, sendable, view_send}
use denote.Param.SendFields.{FieldsHave, VariantsHave, declared_send, variants_send}
use Rattle.std.proofs.Crossing.{crosses}
use Rattle.std.below.core.proofs.snapshot.Sent.{snapshot_send}
use Rattle.atomic_table.proofs.owned.Table.TheSendSync as table
use Rattle.atomic_table.specs.contracts.shared.Seat as place
use Rattle.rtrb.proofs.producer.Producer.TheSendSync as producer
use Rattle.rtrb.proofs.consumer.Consumer.TheSendSync as consumer
use Rattle.ring_words.proofs.order.Orders.TheSendSync as orders
use Rattle.vchan_rule.proofs.page.StartWords.TheSendSync as words
use Rattle.vchan_rule.proofs.page.IdleSeat.TheSendSync as seat
use Rattle.vchan_rule.proofs.turned.Retired.TheSendSync as retired
use Rattle.vchan_rule.specs.contracts.turned.Retired as retired_end
use Rattle.vchan_rule.specs.contracts.page.Settled as settled
use Rattle.vchan_rule.specs.contracts.page.Settled.TheInside as settled_inside
use Rattle.vchan_rule.specs.contracts.rule.View as seen
use Rattle.vchan_rule.specs.contracts.held.HeldPage as held
use Rattle.vchan_rule.specs.contracts.held.HeldPage.TheInside as held_inside
use Rattle.page_offer.proofs.left.Left.TheSendSync as left
use Rattle.page_offer.specs.contracts.back.Back as back
use Rattle.page_offer.specs.contracts.offer.Offer as offer
use Rattle.page_offer.specs.contracts.server.UnlaidServer as server
use Rattle.page_offer.specs.contracts.server.UnlaidServer.TheInside as server_inside
use Rattle.page_offer.specs.contracts.server.OpenServer as open_server
use Rattle.page_offer.specs.contracts.server.OpenServer.TheInside as open_server_inside
use Rattle.page_offer.specs.contracts.server.ServerLast as server_last
use Rattle.page_offer.specs.contracts.server.DoneServer as done_server
use Rattle.page_offer.specs.contracts.server.DoneServer.TheInside as done_server_inside
use Rattle.page_offer.specs.contracts.client.UnlaidClient as client
use Rattle.page_offer.specs.contracts.client.UnlaidClient.TheInside as client_inside
use Rattle.page_offer.specs.contracts.client.OpenClient as open_client
use Rattle.page_offer.specs.contracts.client.OpenClient.TheInside as open_client_inside
use Rattle.page_offer.specs.contracts.client.ClientLast as client_last
use Rattle.page_offer.specs.contracts.client.DoneClient as done_client
use Rattle.page_offer.specs.contracts.client.DoneClient.TheInside as done_client_inside

held_send : IsSend held.the_row
held_send =
    let fields : FieldsHave IsSend held_inside.the_type.parts = (search (sendable, crosses, table.the_send, table.the_sync) depth 20, (orders.the_send, (search sendable, tt))) in
    view_send held_inside.the_row _ _ _ _ (declared_send held_inside.the_type fields)

settled_send : IsSend settled.the_row
settled_send =
    let fields : FieldsHave IsSend settled_inside.the_type.parts = (snapshot_send (place.the_row unit seen.the_row), (orders.the_send, (search sendable, (search sendable, (search sendable, tt))))) in
    view_send settled_inside.the_row _ _ _ _ (declared_send settled_inside.the_type fields)

back_send : IsSend back.the_row
back_send = variants_send back.enum ((snapshot_send held.the_row, tt), ((retired.the_send, tt), tt))

offer_send : IsSend offer.the_row
offer_send =
    let fields : FieldsHave IsSend offer.the_type.parts = (held_send, (seat.the_send, (search (sendable, crosses, producer.the_send, back_send) depth 20, (snapshot_send held.the_row, tt)))) in
    declared_send offer.the_type fields

-- ---- the server's side

pub server_send : (κ : _) → IsSend (server.the_row κ)
server_send κ =
    let fields : FieldsHave IsSend (server_inside.the_type κ).parts = (search (sendable, crosses, producer.the_send, offer_send) depth 20, (search (sendable, words.the_sync) depth 20, (orders.the_send, (search sendable, (left.the_send, tt))))) in
    view_send (server_inside.the_row κ) _ _ _ _ (declared_send (server_inside.the_type κ) fields)

pub open_server_send : IsSend open_server.the_row
open_server_send =
    let fields : FieldsHave IsSend open_server_inside.the_type.parts = (search (sendable, crosses, producer.the_send, offer_send) depth 20, (orders.the_send, (search sendable, (held_send, (search (sendable, crosses, consumer.the_send, back_send) depth 20, (left.the_send, tt)))))) in
    view_send open_server_inside.the_row _ _ _ _ (declared_send open_server_inside.the_type fields)

server_last_send : IsSend server_last.the_row
server_last_send =
    let fields : VariantsHave IsSend server_last.enum.parts = (tt, ((held_send, (retired.the_send, (search (sendable, crosses, consumer.the_send, back_send) depth 20, tt))), ((settled_send, (search (sendable, crosses, consumer.the_send, back_send) depth 20, tt)), tt))) in
    variants_send server_last.enum fields

pub done_server_send : IsSend done_server.the_row
done_server_send =
    let fields : FieldsHave IsSend done_server_inside.the_type.parts = (search (sendable, crosses, producer.the_send, offer_send) depth 20, (orders.the_send, (search sendable, (server_last_send, tt)))) in
    view_send done_server_inside.the_row _ _ _ _ (declared_send done_server_inside.the_type fields)

-- ---- the client's side

pub client_send : IsSend client.the_row
client_send =
    let fields : FieldsHave IsSend client_inside.the_type.parts = (search (sendable, crosses, consumer.the_send, offer_send) depth 20, (orders.the_send, (search sendable, (left.the_send, tt)))) in
    view_send client_inside.the_row _ _ _ _ (declared_send client_inside.the_type fields)

pub open_client_send : IsSend open_client.the_row
open_client_send =
    let fields : FieldsHave IsSend open_client_inside.the_type.parts = (search (sendable, crosses, consumer.the_send, offer_send) depth 20, (orders.the_send, (search sendable, (search (sendable, crosses, producer.the_send, back_send) depth 20, (snapshot_send offer.the_row, tt))))) in
    view_send open_client_inside.the_row _ _ _ _ (declared_send open_client_inside.the_type fields)

client_last_send : IsSend client_last.the_row
client_last_send = variants_send client_last.enum (tt, ((snapshot_send retired_end.the_row, (search (sendable, crosses, producer.the_send, back_send) depth 20, tt)), tt))

pub done_client_send : IsSend done_client.the_row
done_client_send =
    let fields : FieldsHave IsSend done_client_inside.the_type.parts = (search (sendable, crosses, consumer.the_send, offer_send) depth 20, (orders.the_send, (search sendable, (client_last_send, tt)))) in
    view_send done_client_inside.the_row _ _ _ _ (declared_send done_client_inside.the_type fields)
