use Rattle.std.proofs.Common.{rules, ◌≡◌, ◌+◌, ◌≤◌, ℕ, List, drop, length, ◌++◌, refl, sym, ap, subst, ◌∙◌, arith}
use Rattle.std.specs.List.{slice_range}
use Rattle.std.proofs.lemmas.List.{length-drop}
use Rattle.end_view.specs.EndView.{EndView}
use Rattle.vchan_rule.specs.Seated.{view}
use Rattle.vchan_stream.specs.Stream.{wrote_to}
use Rattle.vchan_stream.specs.declared.WriteAnswer.{WriteAnswer}
use Rattle.vchan_stream.specs.declared.WriteAnswer.TheVariants.{Wrote, Full as NoRoom, PeerClosed}
use Rattle.vchan_relay.specs.Relay.{IsLawful, RelayState}
use Rattle.vchan_relay.specs.Turns.{HasTurned, HasWritten, IsLeft, by_write, ends_relay, held_by_write, wrote}
use Rattle.vchan_relay.specs.declared.turn.RelayTurn.{RelayTurn}
use Rattle.vchan_relay.specs.declared.turn.RelayTurn.TheVariants.{FarClosed}
use Rattle.vchan_relay.proofs.RelayLaws.{turned_at, turned_with, length_range, range_drop, passed_on, not_none, has_written}
use Rattle.vchan_relay.proofs.relay.Relay.pass.Goals.{After-write}
use Rattle.vchan_relay.proofs.relay.Relay.pass.Goals as goal

abbrev held : After-write → List ℕ
held c = slice_range c.self.inside.room.items c.self.inside.passed c.self.inside.taken

given_held : (c : After-write) → slice_range c.as_slice.result.now c.self.inside.passed c.self.inside.taken ≡ held c
given_held c = ap (λ (xs : List ℕ). slice_range xs c.self.inside.passed c.self.inside.taken) c.as_slice.ensures.value

turned : (c : After-write) (answer : WriteAnswer) (turn : RelayTurn) (now : RelayState) → c.write.result ≡ answer → turn ≡ by_write (length (held c)) answer → now.held ≡ held_by_write answer (held c)
    → IsLeft (ends_relay turn) c.self.inside.near now.near → IsLeft (ends_relay turn) c.write.new.end now.far → HasTurned c.args.self.now turn now
turned c answer turn now result is left near far =
    let some : 1 ≤ length (held c) = search rules in
    let e = c.write.ensures in
    let has = has_written c.self.inside.far c.write.new.end c.write.result (slice_range c.as_slice.result.now c.self.inside.passed c.self.inside.taken) (held c) (given_held c) e.view e.trail in
    turned_at _ _ _ _ c.self.view_is (wrote answer c.write.new.end (not_none (held c) some) (subst (λ (a : WriteAnswer). HasWritten c.self.inside.far a (held c) c.write.new.end) result has) is left near far)

-- the bytes that were written are some of the held ones
within : (c : After-write) (count : ℕ) → c.write.result ≡ Wrote count → c.self.inside.passed + count ≤ c.self.inside.taken
within c count is =
    let v = c.self.invariant in
    let few : count ≤ length (held c) = subst (λ (xs : List ℕ). count ≤ length xs) (given_held c) (c.write.ensures.few count is) in
    omega (arith, length_range c.self.inside.room.items c.self.inside.passed c.self.inside.taken v.0 v.1, few, v.0)

left_held : (c : After-write) (count : ℕ) → c.write.result ≡ Wrote count → slice_range c.self.inside.room.items (c.self.inside.passed + count) c.self.inside.taken ≡ drop count (held c)
left_held c count is = range_drop c.self.inside.room.items c.self.inside.passed count c.self.inside.taken (within c count is)

pub invariant_of-self : goal.invariant_of-self
invariant_of-self c =
    let w = (goal.at.invariant_of-self c).After-write in
    let v = c.self.invariant in
    let count = c.in-Wrote.count in
    let less = left_held w count c.in-Wrote.is in
    let r = v.4 in
    let sent = c.in-Wrote.ensures.view ∙ ap (λ (xs : List ℕ). wrote_to (view c.self.inside.far) (Wrote count) xs) (given_held w) in
    let lawful : IsLawful (view c.self.inside.near) (view c.write.new.end) (slice_range c.self.inside.room.items (c.self.inside.passed + count) c.self.inside.taken) =
    passed_on (view c.self.inside.near).got (view c.self.inside.far).sent (held w) count r.lawful ∙ (λ i. (sym sent i).sent ++ sym less i) in (
      within w count c.in-Wrote.is,
      v.1,
      v.2,
      v.3,
      record {
        lawful = lawful;
        near = r.near;
        far = (ap (λ (e : EndView). e.idle) sent ∙ r.far.0, ap (λ (e : EndView). e.state) sent ∙ r.far.1);
        few = let fewer = ap (λ (xs : List ℕ). length xs) less ∙ length-drop count (held w) in omega (arith, fewer, r.few);
      },
    )

pub returns-in-Wrote-clause-turned : goal.returns-in-Wrote-clause-turned
returns-in-Wrote-clause-turned c =
    let w = (goal.at.returns-in-Wrote-clause-turned c).After-write in
    turned w (Wrote c.in-Wrote.count) _ _ c.in-Wrote.is refl (left_held w c.in-Wrote.count c.in-Wrote.is) refl refl

pub returns-in-Full-clause-turned : goal.returns-in-Full-clause-turned
returns-in-Full-clause-turned c =
    turned (goal.at.returns-in-Full-clause-turned c).After-write (NoRoom c.in-Full.prod c.in-Full.cons) _ _ c.in-Full.is refl refl refl refl

pub returns-in-PeerClosed-clause-turned : goal.returns-in-PeerClosed-clause-turned
returns-in-PeerClosed-clause-turned c =
    let w = (goal.at.returns-in-PeerClosed-clause-turned c).After-write in
    let e = c.end.ensures in
    let long = length_range c.self.inside.room.items c.self.inside.passed c.self.inside.taken c.self.invariant.0 c.self.invariant.1 in
    turned_with _ _ _ _ e.turn (turned w PeerClosed _ _ c.in-PeerClosed.is (ap FarClosed (sym long)) e.same.0 e.near.1 e.far.1)
