-- A whole call of an end while the other makes no event, one event at a time.
use Rattle.std.proofs.Common.{◌≡◌, ℕ, suc, ◌%◌, ◌<◌, ◌≤◌, List, [], ◌∷◌, ◌++◌, length, take, drop, slice_index, slice_set, get_or, refl, subst, sym, ap, ◌∙◌, arith, append_assoc, append-nil}
use Rattle.std.proofs.lemmas.List.{length-take, length-append}
use Rattle.std.proofs.Math.Seq.{drop-cons, set-append_seam}
use Rattle.ring_words.specs.declared.order.Orders.{Orders}
use Rattle.ring_words.specs.declared.page.Role.{Role}
use Rattle.ring_words.specs.Page.{index_of}
use Rattle.vchan_protocol.specs.declared.op.Op.{Op}
use Rattle.vchan_protocol.specs.declared.op.Op.TheVariants.{Load, LoadByte, Store, StoreByte, Or, And, Swap, Nothing}
use Rattle.vchan_protocol.specs.declared.op.PastEvent.{PastEvent}
use Rattle.vchan_protocol.specs.declared.call.Answer.{Answer}
use Rattle.vchan_protocol.specs.declared.call.Call.{Call}
use Rattle.vchan_protocol.specs.Table.Plan.{Plan, answers, does, next_op, after, past, GoesOn}
use Rattle.vchan_protocol.specs.Table.Calls.{payload_of}
use Rattle.vchan_protocol.specs.Table.Apply.{value_taken, buffer_after, filled}
use Rattle.vchan_protocol.specs.History.Core.{Core, side_of, with_side, event, answered, carried_out, loaded_by, bytes_loaded}
use Rattle.vchan_protocol.specs.History.WholeCall.{alone}

-- ---- the plan, one event at a time

pub alone_after : (core : Core) (who : Role) (plan : Plan) → GoesOn plan →
    alone (carried_out core who (next_op plan)) who (after plan (value_taken core.orders core.words (next_op plan))) ≡ alone core who plan
unfolding alone
alone_after core who (answers answer) more = absurd more
alone_after core who (does op next) more = refl

pub alone_answers : (core : Core) (who : Role) (answer : Answer) → alone core who (answers answer) ≡ (with_side core who (answered (side_of core who) answer), answer)
unfolding alone
alone_answers core who answer = refl

-- ---- the bytes that are loaded

-- the next byte goes to the next place of the buffer
abbrev pub FillsNext : List PastEvent → ℕ → Op → Type 0
FillsNext events most (LoadByte word at) = (at ≡ length (bytes_loaded events)) × (at < most)
FillsNext events most _ = Unit {0}

pub bytes_loaded_push : (events : List PastEvent) (op : Op) (taken : ℕ) → bytes_loaded (events ++ past op taken ∷ []) ≡ bytes_loaded events ++ loaded_by op taken
bytes_loaded_push [] op taken = append-nil (loaded_by op taken)
bytes_loaded_push (event ∷ events) op taken =
    ap (λ (xs : List ℕ). loaded_by event.op event.taken ++ xs) (bytes_loaded_push events op taken) ∙ sym (append_assoc (loaded_by event.op event.taken) (bytes_loaded events) (loaded_by op taken))

pub set_next : (bytes buffer : List ℕ) (value : ℕ) → length bytes < length buffer → slice_set (bytes ++ drop (length bytes) buffer) (length bytes) value ≡ filled buffer (bytes ++ value ∷ [])
set_next bytes buffer value within =
    let n = length bytes in
    let more : suc n ≡ length (bytes ++ value ∷ []) = omega (arith, length-append bytes (value ∷ [])) in
    ap (λ (l : List ℕ). slice_set (bytes ++ l) n value) (drop-cons buffer n 0 within) ∙ set-append_seam bytes (get_or buffer n 0) (drop (suc n) buffer) value
    ∙ ap (λ (k : ℕ). bytes ++ value ∷ drop k buffer) more ∙ sym (append_assoc bytes (value ∷ []) (drop (length (bytes ++ value ∷ [])) buffer))

-- the buffer goes on being filled
pub fills_on : (orders : Orders) (words start : List ℕ) (events : List PastEvent) (op : Op) → FillsNext events (length start) op →
    buffer_after orders words (filled start (bytes_loaded events)) op ≡ filled start (bytes_loaded (events ++ past op (value_taken orders words op) ∷ []))
fills_on orders words start events op fills = go op fills ∙ ap (λ (xs : List ℕ). filled start xs) (sym (bytes_loaded_push events op (value_taken orders words op)))
  where
    bytes : List ℕ
    bytes = bytes_loaded events

    same : bytes_loaded events ≡ bytes_loaded events ++ []
    same = sym (append-nil (bytes_loaded events))

    go : (op : Op) → FillsNext events (length start) op → buffer_after orders words (filled start (bytes_loaded events)) op ≡ filled start (bytes_loaded events ++ loaded_by op (value_taken orders words op))
    go (LoadByte word at) f =
        ap (λ (n : ℕ). slice_set (filled start (bytes_loaded events)) n (slice_index words (index_of orders word) % 256)) f.0
        ∙ set_next (bytes_loaded events) start (slice_index words (index_of orders word) % 256) (subst (λ (n : ℕ). n < length start) f.0 f.1)
    go (Load word) f = ap (λ (xs : List ℕ). filled start xs) same
    go (Store word value) f = ap (λ (xs : List ℕ). filled start xs) same
    go (StoreByte word at) f = ap (λ (xs : List ℕ). filled start xs) same
    go (Or word bits) f = ap (λ (xs : List ℕ). filled start xs) same
    go (And word bits) f = ap (λ (xs : List ℕ). filled start xs) same
    go (Swap word value) f = ap (λ (xs : List ℕ). filled start xs) same
    go Nothing f = ap (λ (xs : List ℕ). filled start xs) same

pub length_payload : (call : Call) (source : List ℕ) → payload_of call ≤ length source → length (take (payload_of call) source) ≡ payload_of call
length_payload call source enough = omega (arith, length-take (payload_of call) source)
