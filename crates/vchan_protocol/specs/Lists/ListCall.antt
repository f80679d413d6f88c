-- A channel as lists, without words, indices or events, and what each whole call does to it.
-- Source: libxenvchan's io.c for what a call moves and answers, and init.c for the check of the orders. Drain, PeerGone and Retire are this project's.
use Rattle.std.specs.Prelude.{ℕ, ◌+◌, ◌-◌, ◌%◌, ◌^◌, ◌==◌, nat_lt, min, Bool, true, ◌&&◌, Option, Some, None, List, [], ◌∷◌, ◌++◌, length, take, drop, if◌then◌else◌}
use Rattle.ring_words.specs.Rings.{size}
use Rattle.ring_words.specs.Page.{order_of}
use Rattle.ring_words.specs.declared.order.Orders.{Orders}
use Rattle.ring_words.specs.declared.page.Role.{Role}
use Rattle.ring_words.specs.declared.page.Role.TheVariants.{Server, Client}
use Rattle.vchan_protocol.specs.declared.call.Answer.{Answer}
use Rattle.vchan_protocol.specs.declared.call.Answer.TheVariants.{Wrote, Full, Sent, NoRoom, Got, Empty, Short, PeerClosed, Ready, Space, Connected, BadOrders, Done, NotYet, AllRead, Gone}
use Rattle.vchan_protocol.specs.declared.call.Call.{Call}
use Rattle.vchan_protocol.specs.declared.call.Call.TheVariants.{Write, Send, Read, Recv, Drain, DataReady, BufferSpace, Connect, Close, TakeEvent, Retire, PeerGone}
use Rattle.vchan_protocol.specs.declared.call.EndState.{EndState}
use Rattle.vchan_protocol.specs.declared.call.EndState.TheVariants.{Open, Shut}
use Rattle.vchan_protocol.specs.declared.side.Side.{Side}
use Rattle.vchan_protocol.specs.Table.Ends.{written_ring}
use Rattle.vchan_protocol.specs.History.Core.{Core, is_shut}
use Rattle.vchan_protocol.specs.History.Peer.{peer}

-- an end: its state, whether it has retired, all bytes that it sent into its ring and all that it got from its peer's
pub record ListEnd : Type 0 where
  pub state : EndState
  pub retired : Bool
  pub sent : List ℕ
  pub got : List ℕ

-- a channel: where all indices began, what the order words held then, the orders of the page, and its two ends
pub record ChannelLists : Type 0 where
  pub start : ℕ
  pub said : ℕ × ℕ
  pub orders : Orders
  pub server : ListEnd
  pub client : ListEnd

abbrev pub end_of : ChannelLists → Role → ListEnd
end_of channel Server = channel.server
end_of channel Client = channel.client

-- the channel with another value for this end
abbrev pub with_end : ChannelLists → Role → ListEnd → ChannelLists
with_end channel Server it = record channel { server = it }
with_end channel Client it = record channel { client = it }

-- ---- what an end finds

-- the bytes that wait for an end: its peer sent them, and it has not got them
abbrev pub waiting : ChannelLists → Role → List ℕ
waiting channel who = drop (length (end_of channel who).got) (end_of channel (peer who)).sent

-- how many bytes wait for it, and how many it has room for
abbrev pub avail : ChannelLists → Role → ℕ
avail channel who = length (end_of channel (peer who)).sent - length (end_of channel who).got

abbrev pub free : ChannelLists → Role → ℕ
free channel who = size (order_of channel.orders (written_ring who)) - (length (end_of channel who).sent - length (end_of channel (peer who)).got)

abbrev pub peer_is_shut : ChannelLists → Role → Bool
peer_is_shut channel who = is_shut (end_of channel (peer who)).state

-- the index that a list has come to
abbrev pub index : ℕ → List ℕ → ℕ
index start list = (start + length list) % 2 ^ 32

-- an answer with the two indices of the ring that an end writes, and of the one that it reads
abbrev pub of_written : (ℕ → ℕ → Answer) → ChannelLists → Role → Answer
of_written answer channel who = answer (index channel.start (end_of channel who).sent) (index channel.start (end_of channel (peer who)).got)

abbrev pub of_read : (ℕ → ℕ → Answer) → ChannelLists → Role → Answer
of_read answer channel who = answer (index channel.start (end_of channel (peer who)).sent) (index channel.start (end_of channel who).got)

-- ---- what an end does

-- it sends the first bytes of its payload
abbrev pub sends : ChannelLists → Role → List ℕ → ℕ → ChannelLists
sends channel who payload count = with_end channel who (record (end_of channel who) { sent = (end_of channel who).sent ++ take count payload })

-- it gets the first bytes that wait
abbrev pub gets : ChannelLists → Role → ℕ → ChannelLists
gets channel who count = with_end channel who (record (end_of channel who) { got = (end_of channel who).got ++ take count (waiting channel who) })

abbrev pub comes_to : ChannelLists → Role → EndState → ChannelLists
comes_to channel who state = with_end channel who (record (end_of channel who) { state = state })

abbrev pub retires : ChannelLists → Role → ChannelLists
retires channel who = with_end channel who (record (end_of channel who) { state = Shut; retired = true })

-- ---- the calls

-- the channel after a call, and the call's answer if the lists tell it
abbrev pub Outcome : Type 0
Outcome = ChannelLists × Option Answer

-- only an answer
abbrev pub only : ChannelLists → Answer → Outcome
only channel answer = (channel, Some answer)

abbrev pub sent_out : ChannelLists → Role → List ℕ → ℕ → (ℕ → Answer) → Outcome
sent_out channel who payload count answer = (sends channel who payload count, Some (answer count))

abbrev pub got_in : ChannelLists → Role → ℕ → Outcome
got_in channel who count = (gets channel who count, Some (Got count))

-- a whole call of an end: one row for each call. Order words that a check refuses differ from a page's orders; the lists don't tell whether a signal was pending.
abbrev pub list_call : ChannelLists → Role → Call → List ℕ → Outcome
list_call channel who (Write n) payload =
    if peer_is_shut channel who then only channel PeerClosed
    else (if n == 0 then only channel (Wrote 0)
    else (if free channel who == 0 then only channel (of_written Full channel who)
    else sent_out channel who payload (min n (free channel who)) Wrote))
list_call channel who (Send n) payload =
    if peer_is_shut channel who then only channel PeerClosed
    else (if nat_lt (free channel who) n then only channel (of_written NoRoom channel who)
    else sent_out channel who payload n Sent)
list_call channel who (Read n) payload =
    if avail channel who == 0
    then (if peer_is_shut channel who then only channel PeerClosed else only channel (of_read Empty channel who))
    else got_in channel who (min n (avail channel who))
list_call channel who (Recv n) payload =
    if nat_lt (avail channel who) n
    then (if peer_is_shut channel who then only channel PeerClosed else only channel (of_read Short channel who))
    else got_in channel who n
list_call channel who (Drain n) payload =
    if avail channel who == 0
    then (if peer_is_shut channel who then only channel AllRead else only channel (of_read NotYet channel who))
    else got_in channel who (min n (avail channel who))
list_call channel who DataReady payload = only channel (Ready (avail channel who))
list_call channel who BufferSpace payload = only channel (Space (free channel who))
list_call channel who Connect payload =
    if (channel.said.0 == channel.orders.left.number) && (channel.said.1 == channel.orders.right.number)
    then (comes_to channel who Open, Some Connected)
    else only channel (BadOrders channel.said.0 channel.said.1)
list_call channel who Close payload = (comes_to channel who Shut, Some Done)
list_call channel who Retire payload = (retires channel who, Some Done)
list_call channel who PeerGone payload = only channel (Gone (end_of channel (peer who)).retired)
list_call channel who TakeEvent payload = (channel, None)

-- ---- calls in a row

pub record EndCall : Type 0 where
  pub who : Role
  pub call : Call
  pub payload : List ℕ

-- the channel after these calls, one after the other, and their answers
abbrev pub list_calls : ChannelLists → List EndCall → ChannelLists × List (Option Answer)
list_calls channel [] = (channel, [])
list_calls channel (one ∷ more) =
    let outcome = list_call channel one.who one.call one.payload in
    let others = list_calls outcome.0 more in
    (others.0, outcome.1 ∷ others.1)

-- ---- the lists of a core state

abbrev pub list_end : Side → ListEnd
list_end side = record { state = side.state; retired = side.retired; sent = side.sent; got = side.got }

abbrev pub lists_of : Core → ChannelLists
lists_of core = record {
  start = core.start;
  said = core.said;
  orders = core.orders;
  server = list_end core.server;
  client = list_end core.client;
}
