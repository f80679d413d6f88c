-- The bytes that a hostile user stores one after another.
use Rattle.std.proofs.Common.{◌≡◌, ℕ, ◌+◌, ◌%◌, ◌^◌, ◌<◌, List, [], ◌∷◌, ◌++◌, length, take, slice_index, refl, sym, ap, ◌∙◌, arith, append_assoc}
use Rattle.std.proofs.lemmas.List.{length-take, take_more, append-nil}
use Rattle.ring_words.specs.Rings.{place}
use Rattle.ring_words.specs.Page.{order_of}
use Rattle.ring_words.specs.declared.order.Orders.{Orders}
use Rattle.ring_words.specs.declared.page.Role.{Role}
use Rattle.ring_words.specs.declared.page.WordName.TheVariants.{RingByte}
use Rattle.ring_words.proofs.RingLaws.{place_wraps}
use Rattle.vchan_protocol.specs.declared.op.Op.{Op}
use Rattle.vchan_protocol.specs.declared.side.Side.{Side}
use Rattle.vchan_protocol.specs.Hostile.Turned.{strays}
use Rattle.vchan_protocol.specs.declared.op.Op.TheVariants.{Store}
use Rattle.vchan_protocol.specs.declared.op.PastEvent.{PastEvent}
use Rattle.vchan_protocol.specs.Table.Plan.{past}
use Rattle.vchan_protocol.specs.Table.Ends.{written_ring}
use Rattle.hostile_seat.specs.Hostile.{strays_along, byte_stores}

-- one more byte after the others
pub byte_stores_push : (role : Role) (orders : Orders) (index : ℕ) (bytes : List ℕ) (byte : ℕ) →
    byte_stores role orders index (bytes ++ byte ∷ []) ≡ byte_stores role orders index bytes ++ past (Store (RingByte (written_ring role) (place (index + length bytes) (order_of orders (written_ring role)))) byte) 0 ∷ []
byte_stores_push role orders index [] byte = ap (λ (n : ℕ). past (Store (RingByte (written_ring role) (place n (order_of orders (written_ring role)))) byte) 0 ∷ []) (omega arith)
byte_stores_push role orders index (first ∷ bytes) byte =
    ap (λ (events : List PastEvent). past (Store (RingByte (written_ring role) (place index (order_of orders (written_ring role)))) first) 0 ∷ events)
    (byte_stores_push role orders (index + 1) bytes byte
    ∙ ap (λ (n : ℕ). byte_stores role orders (index + 1) bytes ++ past (Store (RingByte (written_ring role) (place n (order_of orders (written_ring role)))) byte) 0 ∷ []) (omega arith))

-- ---- an end along the events of its hostile user

pub along_push : (s : Side) (events : List PastEvent) (op : Op) (taken : ℕ) → strays_along s (events ++ past op taken ∷ []) ≡ strays (strays_along s events) op taken
along_push s [] op taken = refl
along_push s (event ∷ events) op taken = along_push (strays s event.op event.taken) events op taken

pub along_role : (s : Side) (events : List PastEvent) → (strays_along s events).role ≡ s.role
along_role s [] = refl
along_role s (event ∷ events) = along_role (strays s event.op event.taken) events

pub along_orders : (s : Side) (events : List PastEvent) → (strays_along s events).orders ≡ s.orders
along_orders s [] = refl
along_orders s (event ∷ events) = along_orders (strays s event.op event.taken) events

-- one more byte is stored
pub stored_more : (s now : Side) (index at byte lies : ℕ) (bytes : List ℕ) → now ≡ strays_along s (byte_stores s.role s.orders index (take at bytes)) → at < length bytes → byte ≡ slice_index bytes at →
    lies ≡ place ((index + at) % 2 ^ 32) (order_of s.orders (written_ring s.role)) →
    strays now (Store (RingByte (written_ring s.role) lies) byte) 0 ≡ strays_along s (byte_stores s.role s.orders index (take (at + 1) bytes))
stored_more s now index at byte lies bytes is less value there =
    let order = order_of s.orders (written_ring s.role) in
    let few : length (take at bytes) ≡ at = omega (arith, length-take at bytes, less) in
    let lies_at : lies ≡ place (index + length (take at bytes)) order = there ∙ place_wraps (index + at) order ∙ ap (λ (n : ℕ). place (index + n) order) (sym few) in
    (λ i. strays (is i) (Store (RingByte (written_ring s.role) (lies_at i)) (value i)) 0)
    ∙ sym (along_push s (byte_stores s.role s.orders index (take at bytes)) (Store (RingByte (written_ring s.role) (place (index + length (take at bytes)) order)) (slice_index bytes at)) 0)
    ∙ ap (λ (events : List PastEvent). strays_along s events) (sym (byte_stores_push s.role s.orders index (take at bytes) (slice_index bytes at)) ∙ ap (λ (xs : List ℕ). byte_stores s.role s.orders index xs) (sym (take_more bytes at 0 less)))

pub along_trail : (s : Side) (events : List PastEvent) → (strays_along s events).trail ≡ s.trail ++ events
along_trail s [] = sym (append-nil s.trail)
along_trail s (event ∷ events) = along_trail (strays s event.op event.taken) events ∙ append_assoc s.trail (event ∷ []) events

pub along_turned : (s : Side) (events : List PastEvent) → (strays_along s events).turned ≡ s.turned
along_turned s [] = refl
along_turned s (event ∷ events) = along_turned (strays s event.op event.taken) events
