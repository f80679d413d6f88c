-- Rows of whole calls on lists, computed: what the table gives for small pages.
use Rattle.std.proofs.Common.{◌≡◌, ℕ, true, Option, Some, List, [], ◌∷◌, ◌++◌, length, map, replicate, refl, arith}
use Rattle.ring_words.specs.declared.order.Orders.{Orders}
use Rattle.ring_words.specs.Rings.{size}
use Rattle.ring_words.specs.declared.page.Role.{Role}
use Rattle.ring_words.specs.declared.page.Role.TheVariants.{Server, Client}
use Rattle.vchan_protocol.specs.declared.call.Answer.{Answer}
use Rattle.vchan_protocol.specs.declared.call.Answer.TheVariants.{Wrote, Full, Sent, NoRoom, Got, Empty, Short, PeerClosed, Ready, Space, Connected, BadOrders, Done, NotYet, AllRead, Gone}
use Rattle.vchan_protocol.specs.declared.call.Call.{Call}
use Rattle.vchan_protocol.specs.declared.call.Call.TheVariants.{Write, Send, Read, Recv, Drain, DataReady, BufferSpace, Connect, Close, Retire, PeerGone}
use Rattle.vchan_protocol.specs.declared.call.EndState.TheVariants.{Fresh, Open}
use Rattle.vchan_protocol.specs.History.Core.{opened}
use Rattle.vchan_protocol.specs.Lists.ListCall.{ChannelLists, EndCall, lists_of, list_calls}

small : Orders
small = record { left = record { number = 10; in_range = (omega arith, omega arith) }; right = record { number = 11; in_range = (omega arith, omega arith) }; distinct = λ e. absurd (omega (arith, e)) }

-- the page of orders 10 and 11, its client open, all indices at this number
page : ℕ → ChannelLists
page start = lists_of (opened small start (10, 11) Open)

by : Role → Call → List ℕ → EndCall
by who call payload = record { who = who; call = call; payload = payload }

-- the answers, and how much of the left and of the right ring was sent and got
tells : ChannelLists → List EndCall → List (Option Answer) × List ℕ
tells channel calls =
    let end = list_calls channel calls in
    (end.1, length end.0.client.sent ∷ length end.0.server.got ∷ length end.0.server.sent ∷ length end.0.client.got ∷ [])

answers : List Answer → List (Option Answer)
answers list = map (λ (answer : Answer). Some answer) list

hello : List ℕ
hello = 104 ∷ 101 ∷ 108 ∷ 108 ∷ 111 ∷ []

hello_is_read : tells (page 0) (by Client (Write 5) hello ∷ by Server (Read 5) [] ∷ []) ≡ (answers (Wrote 5 ∷ Got 5 ∷ []), 5 ∷ 5 ∷ 0 ∷ 0 ∷ [])
unfolding page small by tells answers hello size
hello_is_read = refl

hello_came : (list_calls (page 0) (by Client (Write 5) hello ∷ by Server (Read 5) [] ∷ [])).0.server.got ≡ hello
unfolding page small by hello size
hello_came = refl

a_full_ring : tells (page 0) (by Client (Write 1025) (replicate 1025 97) ∷ by Client (Write 1) (98 ∷ []) ∷ []) ≡ (answers (Wrote 1024 ∷ Full 1024 0 ∷ []), 1024 ∷ 0 ∷ 0 ∷ 0 ∷ [])
unfolding page small by tells answers size
a_full_ring = refl

all_or_none : tells (page 0) (by Client (Send 1024) (replicate 1024 97) ∷ by Client (Send 1) (98 ∷ []) ∷ by Server (Recv 4) [] ∷ by Server (Recv 1021) [] ∷ []) ≡
    (answers (Sent 1024 ∷ NoRoom 1024 0 ∷ Got 4 ∷ Short 1024 4 ∷ []), 1024 ∷ 4 ∷ 0 ∷ 0 ∷ [])
unfolding page small by tells answers size
all_or_none = refl

more_than_a_ring : tells (page 0) (by Client (Send 1025) (replicate 1025 97) ∷ []) ≡ (answers (NoRoom 0 0 ∷ []), 0 ∷ 0 ∷ 0 ∷ 0 ∷ [])
unfolding page small by tells answers size
more_than_a_ring = refl

read_before_the_end : tells (page 0) (by Client (Write 2) (97 ∷ 98 ∷ []) ∷ by Client Close [] ∷ by Server (Read 0) [] ∷ by Server (Drain 8) [] ∷ by Server (Drain 8) [] ∷ by Server (Read 1) [] ∷ by Server (Write 1) (99 ∷ []) ∷ []) ≡
    (answers (Wrote 2 ∷ Done ∷ Got 0 ∷ Got 2 ∷ AllRead ∷ PeerClosed ∷ PeerClosed ∷ []), 2 ∷ 2 ∷ 0 ∷ 0 ∷ [])
unfolding page small by tells answers size
read_before_the_end = refl

over_the_wrap : tells (page 4294967290) (by Client (Write 10) (replicate 10 48) ∷ by Server (Recv 4) [] ∷ by Server (Recv 7) [] ∷ by Server (Read 6) [] ∷ by Server (Read 1) [] ∷ []) ≡
    (answers (Wrote 10 ∷ Got 4 ∷ Short 4 4294967294 ∷ Got 6 ∷ Empty 4 4 ∷ []), 10 ∷ 10 ∷ 0 ∷ 0 ∷ [])
unfolding page small by tells answers size
over_the_wrap = refl

-- a fresh client, if the order words held these numbers
connects : ℕ × ℕ → List (Option Answer) × List ℕ
connects said = tells (lists_of (opened small 0 said Fresh)) (by Client Connect [] ∷ [])

orders_are_compared : (connects (10, 10)).0 ++ (connects (21, 12)).0 ++ (connects (10, 11)).0 ≡ answers (BadOrders 10 10 ∷ BadOrders 21 12 ∷ Connected ∷ [])
unfolding connects small by tells answers
orders_are_compared = refl

coming_and_going : tells (page 0) (by Server (Drain 1) [] ∷ by Server DataReady [] ∷ by Client BufferSpace [] ∷ by Client Retire [] ∷ by Server PeerGone [] ∷ by Server (Drain 1) [] ∷ []) ≡
    (answers (NotYet 0 0 ∷ Ready 0 ∷ Space 1024 ∷ Done ∷ Gone true ∷ AllRead ∷ []), 0 ∷ 0 ∷ 0 ∷ 0 ∷ [])
unfolding page small by tells answers size
coming_and_going = refl
