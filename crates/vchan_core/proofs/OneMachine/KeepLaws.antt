-- The numbers of a machine tell that machine.
use Rattle.std.proofs.Common.{◌≡◌, ◌<◌, ◌%◌, ◌^◌, ℕ, Option, Some, None, true, false, refl, ap, sym, ◌∙◌, arith}
use Rattle.std.specs.Prelude.{option_map}
use Rattle.ring_words.specs.declared.page.Role.{Role}
use Rattle.ring_words.specs.declared.page.Role.TheVariants.{Server, Client}
use Rattle.ring_words.specs.declared.order.Orders.{Orders}
use Rattle.ring_words.specs.Rings.{number_of}
use Rattle.ring_words.proofs.OrderLaws.{same_order, same_rings}
use Rattle.vchan_protocol.specs.declared.call.Answer.{Answer}
use Rattle.vchan_protocol.specs.declared.call.Answer.TheVariants.{Wrote, Full, Sent, NoRoom, Got, Empty, Short, PeerClosed, Ready, Space, Connected, BadOrders, Done, Event, NotYet, AllRead, PeerGone, Gone}
use Rattle.vchan_protocol.specs.declared.call.EndState.{EndState}
use Rattle.vchan_protocol.specs.declared.call.EndState.TheVariants.{Fresh, Open, Shut}
use Rattle.vchan_protocol.specs.declared.call.Bit.TheVariants.{Written, Consumed}
use Rattle.vchan_core.specs.declared.machine.Machine.{Machine}
use Rattle.vchan_core.specs.declared.phase.Phase.{Phase}
use Rattle.vchan_core.specs.declared.phase.Phase.TheVariants.{WriteLive, WriteLook, WriteAsk, WriteLookAgain, SendLive, SendLook, SendAsk, SendLookAgain, ReadLook, ReadAsk, ReadLookAgain, ReadLive, RecvLook, RecvAsk, RecvLookAgain, RecvLive, DrainLook, DrainAsk, DrainSecond, DrainLive, DrainFurther, DrainGone, DrainLast, ReadyAsk, ReadyLook, SpaceAsk, SpaceLook, ConnectLeft, ConnectRight, ConnectStore, CloseStore, TakePending, LoadGone, RetireStore, RetireSignal, GoneStore, Put, Take, Notify, Signal}
use Rattle.vchan_core.specs.declared.kept.Kept.{Kept}
use Rattle.vchan_core.specs.OneMachine.Keeping.{role_number, role_told, state_number, state_told, numbers_of_answer, answer_told, numbers_at, answer_at, phase_at_told, kept_of, IsShort, IsShortAnswer, IsShortAt}

pub role_back : (role : Role) → role_told (role_number role) ≡ Some role
role_back Server = refl
role_back Client = refl

pub state_back : (state : EndState) → state_told (state_number state) ≡ Some state
state_back Fresh = refl
state_back Open = refl
state_back Shut = refl

short : (n : ℕ) → n < 2 ^ 16 → n % 65536 ≡ n
short n h = omega arith

answer_back : (a : Answer) → IsShortAnswer a → answer_told (numbers_of_answer a).0 (numbers_of_answer a).1 (numbers_of_answer a).2 ≡ Some a
answer_back (Wrote count) h = refl
answer_back (Full prod cons) h = refl
answer_back (Sent count) h = refl
answer_back (NoRoom prod cons) h = refl
answer_back (Got count) h = refl
answer_back (Empty prod cons) h = refl
answer_back (Short prod cons) h = refl
answer_back PeerClosed h = refl
answer_back (Ready count) h = refl
answer_back (Space count) h = refl
answer_back Connected h = refl
answer_back (BadOrders left right) (l, r) = ap (λ (n : ℕ). Some (BadOrders n (right % 65536))) (short left l) ∙ ap (λ (n : ℕ). Some (BadOrders left n)) (short right r)
answer_back Done h = refl
answer_back (Event true) h = refl
answer_back (Event false) h = refl
answer_back (NotYet prod cons) h = refl
answer_back AllRead h = refl
answer_back (PeerGone prod cons) h = refl
answer_back (Gone true) h = refl
answer_back (Gone false) h = refl

-- where a machine is in its call, or between two
pub place_back : (at : Option Phase) → IsShortAt at
    → phase_at_told (numbers_at at).0 (numbers_at at).1 (numbers_at at).2 (answer_told (answer_at at).0 (answer_at at).1 (answer_at at).2) ≡ Some at
place_back None h = refl
place_back (Some (WriteLive len)) h = refl
place_back (Some (WriteLook len)) h = refl
place_back (Some (WriteAsk len)) h = refl
place_back (Some (WriteLookAgain len)) h = refl
place_back (Some (SendLive len)) h = refl
place_back (Some (SendLook len)) h = refl
place_back (Some (SendAsk len)) h = refl
place_back (Some (SendLookAgain len)) h = refl
place_back (Some (ReadLook most)) h = refl
place_back (Some (ReadAsk most)) h = refl
place_back (Some (ReadLookAgain most)) h = refl
place_back (Some (ReadLive prod)) h = refl
place_back (Some (RecvLook len)) h = refl
place_back (Some (RecvAsk len)) h = refl
place_back (Some (RecvLookAgain len)) h = refl
place_back (Some (RecvLive prod)) h = refl
place_back (Some (DrainLook most)) h = refl
place_back (Some (DrainAsk most)) h = refl
place_back (Some (DrainSecond most)) h = refl
place_back (Some (DrainLive most prod)) h = refl
place_back (Some (DrainFurther most)) h = refl
place_back (Some (DrainGone most prod)) h = refl
place_back (Some (DrainLast most)) h = refl
place_back (Some ReadyAsk) h = refl
place_back (Some ReadyLook) h = refl
place_back (Some SpaceAsk) h = refl
place_back (Some SpaceLook) h = refl
place_back (Some ConnectLeft) h = refl
place_back (Some (ConnectRight left)) h = ap (λ (n : ℕ). Some (Some (ConnectRight n))) (short left h)
place_back (Some ConnectStore) h = refl
place_back (Some CloseStore) h = refl
place_back (Some TakePending) h = refl
place_back (Some LoadGone) h = refl
place_back (Some RetireStore) h = refl
place_back (Some RetireSignal) h = refl
place_back (Some GoneStore) h = refl
place_back (Some (Put at count answer)) h = ap (λ (a : Option Answer). option_map (λ (p : Phase). Some p) (option_map (Put at count) a)) (answer_back answer h)
place_back (Some (Take at count answer)) h = ap (λ (a : Option Answer). option_map (λ (p : Phase). Some p) (option_map (Take at count) a)) (answer_back answer h)
place_back (Some (Notify Written answer)) h = ap (λ (a : Option Answer). option_map (λ (p : Phase). Some p) (option_map (Notify Written) a)) (answer_back answer h)
place_back (Some (Notify Consumed answer)) h = ap (λ (a : Option Answer). option_map (λ (p : Phase). Some p) (option_map (Notify Consumed) a)) (answer_back answer h)
place_back (Some (Signal answer)) h = ap (λ (a : Option Answer). option_map (λ (p : Phase). Some p) (option_map Signal a)) (answer_back answer h)

pub same_orders : (a b : Orders) → number_of a.left ≡ number_of b.left → number_of a.right ≡ number_of b.right → a ≡ b
same_orders a b left right = same_rings a b (same_order a.left b.left left) (same_order a.right b.right right)

-- a machine is told by its parts
pub same_machine : (m : Machine) (role : Role) (orders : Orders) (state : EndState) (prod cons : ℕ) (phase : Option Phase)
    → role ≡ m.role → orders ≡ m.orders → state ≡ m.state → prod ≡ m.prod → cons ≡ m.cons → phase ≡ m.phase
    → (let whole : Machine = record { role = role; orders = orders; state = state; prod = prod; cons = cons; phase = phase } in whole) ≡ m
same_machine m role orders state prod cons phase r o s p c f = rw r (rw o (rw s (rw p (rw c (rw f refl)))))

-- no two machines have the same numbers
pub same_kept : (a b : Machine) → IsShort a → IsShort b → kept_of a ≡ kept_of b → a ≡ b
same_kept a b short other is =
    let role_is : Some a.role ≡ Some b.role = sym (role_back a.role) ∙ (ap (λ (k : Kept). role_told k.role) is ∙ role_back b.role) in
    let state_is : Some a.state ≡ Some b.state = sym (state_back a.state) ∙ (ap (λ (k : Kept). state_told k.state) is ∙ state_back b.state) in
    let phase_is : Some a.phase ≡ Some b.phase = sym (place_back a.phase short)
    ∙ (ap (λ (k : Kept). phase_at_told k.phase k.first k.second (answer_told k.answer k.answer_first k.answer_second)) is ∙ place_back b.phase other) in
    let role : a.role ≡ b.role = cc in
    let state : a.state ≡ b.state = cc in
    let phase : a.phase ≡ b.phase = cc in
    let orders : a.orders ≡ b.orders = same_orders _ _ (ap (λ (k : Kept). k.left_order) is) (ap (λ (k : Kept). k.right_order) is) in
    same_machine b a.role a.orders a.state a.prod a.cons a.phase role orders state (ap (λ (k : Kept). k.prod) is) (ap (λ (k : Kept). k.cons) is) phase
