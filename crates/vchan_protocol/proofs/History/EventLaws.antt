-- The next event of an end: what it owes, and how the end and the core state stand after it.
use Rattle.std.proofs.Common.{◌≡◌, ℕ, ◌^◌, ◌<◌, ◌≤◌, List, [], ◌∷◌, ◌++◌, length, take, slice_index, refl, sym, ap, ◌∙◌, arith}
use Rattle.std.proofs.lemmas.Bool.Decides.{nat_tests}
use Rattle.std.proofs.lemmas.List.{get_or-take}
use Rattle.ring_words.specs.Rings.{diff}
use Rattle.ring_words.proofs.RingLaws.{size_within}
use Rattle.ring_words.specs.declared.order.Orders.{Orders}
use Rattle.ring_words.specs.declared.page.Role.{Role}
use Rattle.ring_words.specs.declared.page.Role.TheVariants.{Server, Client}
use Rattle.vchan_protocol.specs.declared.op.Op.{Op}
use Rattle.vchan_protocol.specs.declared.op.Op.TheVariants.{Load, LoadByte, Store, StoreByte, Or, And, Swap, Nothing}
use Rattle.vchan_protocol.specs.declared.op.PastEvent.{PastEvent}
use Rattle.vchan_protocol.specs.declared.call.Answer.{Answer}
use Rattle.vchan_protocol.specs.declared.call.Call.{Call}
use Rattle.vchan_protocol.specs.declared.call.Call.TheVariants.{Write, Send, Read, Recv, Drain, DataReady, BufferSpace, Connect, Close, TakeEvent, Retire, PeerGone}
use Rattle.vchan_protocol.specs.declared.side.Side.{Side}
use Rattle.vchan_protocol.specs.declared.side.Begun.{Begun}
use Rattle.vchan_protocol.specs.Table.Plan.{Plan, answers, does, next_op, after, GoesOn}
use Rattle.vchan_protocol.specs.Table.Ends.{Standing, read_order, write_order, standing_after, prod_after, cons_after}
use Rattle.vchan_protocol.specs.Table.Calls.{payload_of, stored_most, loaded_most}
use Rattle.vchan_protocol.specs.Table.Apply.{Fits, leaves, words_after, value_taken}
use Rattle.vchan_protocol.specs.History.Core.{Core, side_of, with_side, event, begun_standing, standing_of, standing_along, made, settled, answered, carried_out, count_stored, bytes_loaded}
use Rattle.vchan_protocol.proofs.Table.Counted.{Counted, Owes}

-- ---- what the next event owes

pub owes_next : (e : Standing) (out into : ℕ) (now : Standing) (s l : ℕ) (plan : Plan) → Counted e out into now s l plan → GoesOn plan → Owes e out into now s l (next_op plan)
unfolding Counted
owes_next e out into now s l (answers answer) w more = absurd more
owes_next e out into now s l (does op next) w more = w.0

pub stored_most_payload : (e : Standing) (call : Call) → stored_most e call ≤ payload_of call
stored_most_payload e (Write n) = omega arith
stored_most_payload e (Send n) = omega arith
stored_most_payload e (Read n) = omega arith
stored_most_payload e (Recv n) = omega arith
stored_most_payload e (Drain n) = omega arith
stored_most_payload e DataReady = omega arith
stored_most_payload e BufferSpace = omega arith
stored_most_payload e Connect = omega arith
stored_most_payload e Close = omega arith
stored_most_payload e TakeEvent = omega arith
stored_most_payload e PeerGone = omega arith
stored_most_payload e Retire = omega arith

-- a call moves no more than a ring holds
pub most_small : (e : Standing) (call : Call) → (stored_most e call < 2 ^ 32) × (loaded_most e call < 2 ^ 32)
most_small e (Write n) = let fits = size_within (write_order e) in (omega (arith, fits.1), omega arith)
most_small e (Send n) = let fits = size_within (write_order e) in (omega (arith, fits.1), omega arith)
most_small e (Read n) = let fits = size_within (read_order e) in (omega arith, omega (arith, fits.1))
most_small e (Recv n) = let fits = size_within (read_order e) in (omega arith, omega (arith, fits.1))
most_small e (Drain n) = let fits = size_within (read_order e) in (omega arith, omega (arith, fits.1))
most_small e DataReady = (omega arith, omega arith)
most_small e BufferSpace = (omega arith, omega arith)
most_small e Connect = (omega arith, omega arith)
most_small e Close = (omega arith, omega arith)
most_small e TakeEvent = (omega arith, omega arith)
most_small e PeerGone = (omega arith, omega arith)
most_small e Retire = (omega arith, omega arith)

-- what the next event owes, by the end's own standing now and by what its trail has moved
abbrev pub OwesNext : (s : Side) (b : Begun) → Op → Type 0
OwesNext s b op =
    Owes (begun_standing s b) (stored_most (begun_standing s b) b.call) (loaded_most (begun_standing s b) b.call) (standing_of s) (count_stored s.trail) (length (bytes_loaded s.trail)) op

-- what an event leaves in its word is the same by the end's own payload and by bytes that begin with it
pub leaves_same : (s : Side) (b : Begun) (source : List ℕ) (op : Op) → length s.payload ≡ payload_of b.call → take (length s.payload) source ≡ s.payload → OwesNext s b op → (old : ℕ) →
    leaves s.payload op old ≡ leaves source op old
leaves_same s b source (StoreByte word at) pays has owes old =
    let within : at < length s.payload = omega (arith, owes.1, pays, stored_most_payload (begun_standing s b) b.call) in
    sym (ap (λ (xs : List ℕ). slice_index xs at) has) ∙ get_or-take (length s.payload) source at 0 within
leaves_same s b source (Load word) pays has owes old = refl
leaves_same s b source (LoadByte word at) pays has owes old = refl
leaves_same s b source (Store word value) pays has owes old = refl
leaves_same s b source (Or word bits) pays has owes old = refl
leaves_same s b source (And word bits) pays has owes old = refl
leaves_same s b source (Swap word value) pays has owes old = refl
leaves_same s b source Nothing pays has owes old = refl

-- ---- an end after an event of its own

pub settled_on : (s : Side) (plan : Plan) → GoesOn plan → settled s plan ≡ s
settled_on s (answers answer) more = absurd more
settled_on s (does op next) more = refl

pub settled_sent : (s : Side) (plan : Plan) → (settled s plan).sent ≡ s.sent
settled_sent s (answers answer) = refl
settled_sent s (does op next) = refl

pub settled_got : (s : Side) (plan : Plan) → (settled s plan).got ≡ s.got
settled_got s (answers answer) = refl
settled_got s (does op next) = refl

pub settled_turned : (s : Side) (plan : Plan) → (settled s plan).turned ≡ s.turned
settled_turned s (answers answer) = refl
settled_turned s (does op next) = refl

pub settled_payload : (s : Side) (plan : Plan) → (settled s plan).payload ≡ s.payload
settled_payload s (answers answer) = refl
settled_payload s (does op next) = refl

pub settled_trail : (s : Side) (plan : Plan) → (settled s plan).trail ≡ s.trail
settled_trail s (answers answer) = refl
settled_trail s (does op next) = refl

pub standing_of_made : (s : Side) (op : Op) (taken : ℕ) → standing_of (made s op taken) ≡ standing_after (standing_of s) op
unfolding standing_after
standing_of_made s op taken = refl

pub standing_along_push : (e : Standing) (events : List PastEvent) (event : PastEvent) → standing_along e (events ++ event ∷ []) ≡ standing_after (standing_along e events) event.op
standing_along_push e [] event = refl
standing_along_push e (first ∷ events) event = standing_along_push (standing_after e first.op) events event

-- the own counts, by the machine's event
pub prod_after_lem : (e : Standing) (op : Op) → (standing_after e op).prod ≡ prod_after op e.role e.prod
unfolding standing_after
prod_after_lem e op = refl

pub cons_after_lem : (e : Standing) (op : Op) → (standing_after e op).cons ≡ cons_after op e.role e.cons
unfolding standing_after
cons_after_lem e op = refl

pub diff_same : (count : ℕ) → diff count count ≡ 0
unfolding diff
diff_same count = grind (arith, nat_tests)

-- more payload and more buffer fit as well
pub Fits_more : (orders : Orders) (out into out' into' : ℕ) (op : Op) → out ≤ out' → into ≤ into' → Fits orders out into op → Fits orders out' into' op
Fits_more orders out into out' into' (Load word) a b f = f
Fits_more orders out into out' into' (LoadByte word at) a b f = (f.0, omega (arith, f.1))
Fits_more orders out into out' into' (Store word value) a b f = f
Fits_more orders out into out' into' (StoreByte word at) a b f = (f.0, omega (arith, f.1))
Fits_more orders out into out' into' (Or word bits) a b f = f
Fits_more orders out into out' into' (And word bits) a b f = f
Fits_more orders out into out' into' (Swap word value) a b f = f
Fits_more orders out into out' into' Nothing a b f = f

-- ---- a core state after an event of an end

-- the end after an event by what is left of its call
abbrev pub side_by : Orders → List ℕ → Side → Plan → Side
side_by orders words s plan = settled (made s (next_op plan) (value_taken orders words (next_op plan))) (after plan (value_taken orders words (next_op plan)))

abbrev pub event_by : Core → Role → Plan → Core
event_by core who plan =
    with_side (record core { words = words_after core.orders core.words (side_of core who).payload (next_op plan) }) who (side_by core.orders core.words (side_of core who) plan)

pub side_of_with_side : (core : Core) (who : Role) (s : Side) → side_of (with_side core who s) who ≡ s
side_of_with_side core Server s = refl
side_of_with_side core Client s = refl

with_side_twice : (core : Core) (who : Role) (s t : Side) → with_side (with_side core who s) who t ≡ with_side core who t
with_side_twice core Server s t = refl
with_side_twice core Client s t = refl

pub event_by_on : (core : Core) (who : Role) (plan : Plan) → GoesOn (after plan (value_taken core.orders core.words (next_op plan))) → event_by core who plan ≡ carried_out core who (next_op plan)
event_by_on core who plan on =
    ap (λ (s : Side). with_side (record core { words = words_after core.orders core.words (side_of core who).payload (next_op plan) }) who s)
    (settled_on (made (side_of core who) (next_op plan) (value_taken core.orders core.words (next_op plan))) (after plan (value_taken core.orders core.words (next_op plan))) on)

pub event_by_answers : (core : Core) (who : Role) (plan : Plan) (answer : Answer) → after plan (value_taken core.orders core.words (next_op plan)) ≡ answers answer →
    event_by core who plan ≡ with_side (carried_out core who (next_op plan)) who (answered (side_of (carried_out core who (next_op plan)) who) answer)
event_by_answers core who plan answer is =
    let value = value_taken core.orders core.words (next_op plan) in
    let s = made (side_of core who) (next_op plan) value in
    let new = record core { words = words_after core.orders core.words (side_of core who).payload (next_op plan) } in
    ap (λ (p : Plan). with_side new who (settled s p)) is ∙ sym (with_side_twice new who s (answered s answer))
    ∙ ap (λ (t : Side). with_side (with_side new who s) who (answered t answer)) (sym (side_of_with_side new who s))
