-- A turn of a reader is a drain into the room that it has left.
use Rattle.std.proofs.Common.{◌≡◌, ◌++◌, ℕ, List, length, take, drop, ap, subst, ◌∙◌, arith}
use Rattle.std.proofs.lemmas.List.{length-take-le, take_at}
use Rattle.atomic_table.specs.Seated.{TableId}
use Rattle.vchan_relay.specs.declared.task.HopDone.{HopDone}
use Rattle.vchan_relay.specs.Owes.{ReaderHands}
use Rattle.vchan_relay.specs.States.{ReaderState}
use Rattle.vchan_relay.specs.Tasks.{Drains}
use Rattle.vchan_relay.proofs.reader.Reader.turn.Goals.{After-drain_behind}
use Rattle.vchan_relay.proofs.reader.Reader.turn.Goals as goal

drains : (c : After-drain_behind) → Drains c.args.self c.drain_behind.new.end
drains c =
    let inside = c.self.inside in
    let v = c.self.invariant in
    let d = c.drain_behind.ensures.drained in
    let got = ap (λ (xs : List ℕ). length xs) v.3 ∙ length-take-le inside.count inside.room.items (omega (arith, v.2)) in
    let room = ap (λ (xs : List ℕ). length xs) c.as_mut_slice.ensures.value in
    subst (λ (r : ReaderState). Drains r c.drain_behind.new.end) c.self.view_is (record { answer = c.drain_behind.result; bytes = d.0; room = omega (arith, d.1, got, room); drained = d.2 })

-- its end and its room are those that it had
kept : (c : After-drain_behind) (done : HopDone) → ReaderHands c.drain_behind.new.end.page (length (take c.self.inside.room.len (c.drain_behind.new.room ++ drop (length c.drain_behind.new.room) c.self.inside.room.items))) done → ReaderHands c.args.self.end.page c.args.self.room done
kept c done hands =
    let inside = c.self.inside in
    let e = c.drain_behind.ensures in
    let rest : List ℕ = drop (length c.drain_behind.new.room) inside.room.items in
    let after : List ℕ = take inside.room.len (c.drain_behind.new.room ++ rest) in
    let room : length after ≡ length inside.room.items =
    ap (λ (xs : List ℕ). length xs) (take_at c.drain_behind.new.room rest inside.room.len (e.long ∙ c.as_mut_slice.ensures.len)) ∙ e.long ∙ ap (λ (xs : List ℕ). length xs) c.as_mut_slice.ensures.value in
    subst (λ (r : ReaderState). ReaderHands r.end.page r.room done) c.self.view_is
    (subst (λ (n : ℕ). ReaderHands inside.end.page n done) room (subst (λ (t : TableId). ReaderHands t (length after) done) e.same.0 hands))

pub returns-then-count-len-clause-turns : goal.returns-then-count-len-clause-turns
returns-then-count-len-clause-turns c = (c.drain_behind.new.end, drains (goal.at.returns-then-count-len-clause-turns c).After-drain_behind, c.hand_back.ensures.gives)

pub returns-in-AllRead-clause-turns : goal.returns-in-AllRead-clause-turns
returns-in-AllRead-clause-turns c = (c.drain_behind.new.end, drains (goal.at.returns-in-AllRead-clause-turns c).After-drain_behind, c.hand_back-in-AllRead.ensures.gives)

pub returns-in-PeerGone-clause-turns : goal.returns-in-PeerGone-clause-turns
returns-in-PeerGone-clause-turns c = (c.drain_behind.new.end, drains (goal.at.returns-in-PeerGone-clause-turns c).After-drain_behind, c.hand_back-in-PeerGone.ensures.gives)

pub returns-else-count-len-clause-pays : goal.returns-else-count-len-clause-pays
returns-else-count-len-clause-pays c = kept (goal.at.returns-else-count-len-clause-pays c).After-drain_behind

pub returns-in-NotYet-clause-pays : goal.returns-in-NotYet-clause-pays
returns-in-NotYet-clause-pays c = kept (goal.at.returns-in-NotYet-clause-pays c).After-drain_behind
