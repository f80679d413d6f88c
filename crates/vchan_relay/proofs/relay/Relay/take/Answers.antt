use Rattle.std.proofs.Common.{◌≡◌, ℕ, List, [], take, length, refl, subst, ap, ◌∙◌}
use Rattle.std.specs.List.{slice_range}
use Rattle.std.proofs.lemmas.List.{take_at}
use Rattle.vchan_lifecycle.specs.declared.DrainAnswer.{DrainAnswer}
use Rattle.vchan_lifecycle.specs.declared.DrainAnswer.TheVariants.{More, NotYet as NothingYet, AllRead, PeerGone}
use Rattle.vchan_relay.specs.Relay.{RelayState}
use Rattle.vchan_relay.specs.Turns.{HasDrained, HasTurned, IsLeft, by_drain, drained, ends_relay, held_by_drain}
use Rattle.vchan_relay.specs.declared.turn.RelayTurn.{RelayTurn}
use Rattle.vchan_relay.proofs.RelayLaws.{turned_at, turned_with, range_front, range_still_none, has_drained, gone_empty, gone_behind}
use Rattle.vchan_relay.proofs.relay.Relay.take.Goals.{After-drain}
use Rattle.vchan_relay.proofs.relay.Relay.take.Goals as goal

none_held : (c : After-drain) → slice_range c.self.inside.room.items c.self.inside.passed c.self.inside.taken ≡ []
none_held c = ap (λ (r : RelayState). r.held) c.self.view_is ∙ c.requires.none

-- nor do other bytes at these places count as held
still_none : (c : After-drain) (items : List ℕ) → slice_range items c.self.inside.passed c.self.inside.taken ≡ []
still_none c items = range_still_none c.self.inside.room.items items c.self.inside.passed c.self.inside.taken c.self.invariant.0 c.self.invariant.1 (none_held c)

turned : (c : After-drain) (answer : DrainAnswer) (turn : RelayTurn) (now : RelayState) → c.drain.result ≡ answer → turn ≡ by_drain answer → now.held ≡ held_by_drain answer c.drain.new.buf
    → IsLeft (ends_relay turn) c.drain.new.end now.near → IsLeft (ends_relay turn) c.self.inside.far now.far → HasTurned c.args.self.now turn now
turned c answer turn now result is held near far =
    let e = c.drain.ensures in
    let room : length c.drain.new.buf ≡ length c.self.inside.room.items = e.long ∙ ap (λ (xs : List ℕ). length xs) c.as_mut_slice.ensures.value in
    let has = has_drained c.self.inside.near c.drain.new.end c.drain.result c.as_mut_slice.result.now c.drain.new.buf e.long e.view e.saw e.trail in
    turned_at _ _ _ _ c.self.view_is (drained answer c.drain.new.buf c.drain.new.end (none_held c) room (subst (λ (a : DrainAnswer). HasDrained c.self.inside.near a c.drain.new.buf c.drain.new.end) result has) is held near far)

pub returns-in-More-clause-turned : goal.returns-in-More-clause-turned
returns-in-More-clause-turned c =
    turned (goal.at.returns-in-More-clause-turned c).After-drain (More c.in-More.count) _ _ c.in-More.is refl
    (range_front _ c.in-More.count ∙ ap (λ (xs : List ℕ). take c.in-More.count xs) (take_at c.drain.new.buf _ c.self.inside.room.len (c.in-More.ensures.long ∙ c.as_mut_slice.ensures.len))) refl refl

pub returns-in-NotYet-clause-turned : goal.returns-in-NotYet-clause-turned
returns-in-NotYet-clause-turned c =
    let w = (goal.at.returns-in-NotYet-clause-turned c).After-drain in
    turned w (NothingYet c.in-NotYet.prod c.in-NotYet.cons) _ _ c.in-NotYet.is refl (still_none w _) refl refl

pub returns-in-AllRead-clause-turned : goal.returns-in-AllRead-clause-turned
returns-in-AllRead-clause-turned c =
    let w = (goal.at.returns-in-AllRead-clause-turned c).After-drain in
    let e = c.end.ensures in
    turned_with _ _ _ _ e.turn (turned w AllRead _ _ c.in-AllRead.is refl (e.same.0 ∙ still_none w _) e.near.1 e.far.1)

pub returns-in-PeerGone-clause-turned : goal.returns-in-PeerGone-clause-turned
returns-in-PeerGone-clause-turned c =
    let w = (goal.at.returns-in-PeerGone-clause-turned c).After-drain in
    let e = c.end-in-PeerGone.ensures in
    turned_with _ _ _ _ e.turn (turned w (PeerGone c.in-PeerGone.prod c.in-PeerGone.cons) _ _ c.in-PeerGone.is (gone_empty _ _ c.if-prod-cons.true) (e.same.0 ∙ still_none w _) e.near.1 e.far.1)

pub returns-in-PeerGone-2-clause-turned : goal.returns-in-PeerGone-2-clause-turned
returns-in-PeerGone-2-clause-turned c =
    let w = (goal.at.returns-in-PeerGone-2-clause-turned c).After-drain in
    let e = c.end-in-PeerGone-2.ensures in
    turned_with _ _ _ _ e.turn (turned w (PeerGone c.in-PeerGone.prod c.in-PeerGone.cons) _ _ c.in-PeerGone.is (gone_behind _ _ c.if-prod-cons.false) (e.same.0 ∙ still_none w _) e.near.1 e.far.1)
