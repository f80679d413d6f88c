-- Two quiet turns of a session, one of each side, can't both be still so.
use Rattle.std.proofs.Common.{◌≡◌, ◌≢◌, ℕ, Bool, true, List, subst, sym, ap, ◌∙◌}
use Rattle.ring_words.specs.declared.page.Role.{Role}
use Rattle.ring_words.specs.declared.page.Role.TheVariants.{Server, Client}
use Rattle.service_gate.specs.Owing.{builtin_owes}
use Rattle.service_gate.specs.declared.builtin.Builtin.{Builtin}
use Rattle.vchan_protocol.specs.declared.side.Side.{Side}
use Rattle.vchan_protocol.specs.declared.call.Answer.TheVariants.{PeerClosed}
use Rattle.vchan_protocol.specs.declared.call.EndState.TheVariants.{Shut}
use Rattle.vchan_protocol.specs.Table.Ends.{Standing}
use Rattle.vchan_protocol.specs.Answering.Loads.{Loads, loads_of}
use Rattle.vchan_protocol.specs.Answering.Causes.{WriteCause, FoundShut, write_closed, wrote_none, write_full, wrote_some}
use Rattle.vchan_protocol.specs.History.Core.{Core, side_of, standing_of}
use Rattle.vchan_protocol.specs.Honest.Lawful.{Lawful, IsEnd}
use Rattle.vchan_protocol.specs.History.Peer.{peer}
use Rattle.vchan_rule.specs.Seated.{SeatedEnd}
use Rattle.vchan_rule.specs.Ends.{IsSameEnd}
use Rattle.vchan_rule.specs.Called.{most_asked}
use Rattle.channel_session.specs.Turning.{IsQuiet, SendsNone, NothingWaits, WasShut, RingIsFull, PeerIsShut}
use Rattle.qrexec_data.specs.CallerSide.{CallerStandsFor}
use Rattle.qrexec_data.specs.ServingSide.{ServingStandsFor}
use Rattle.standstill_laws.specs.Page.{IsStanding, FoundNothing, IsFull, StandsStill}
use Rattle.standstill_laws.specs.Turns.{SendsStill, IsQuietStill, NoSessionStandsStill}
use Rattle.standstill_laws.proofs.PageLaws.{stands_still}
use Rattle.qrexec_data.proofs.GoingLaws.{sessions_go_on_lem}

-- a write answers that the peer is shut only if it found it so
closed_by : (e : Standing) (n : ℕ) (loads : Loads) → WriteCause e n loads PeerClosed → FoundShut loads
closed_by e n loads (write_closed shut is) = shut
closed_by e n loads (wrote_none there none is) = cc
closed_by e n loads (write_full last last_is there some none is) = cc
closed_by e n loads (wrote_some last last_is there some room is) = cc

-- an end of the page by its role has that role and the page's orders
is_end : (core : Core) (who : Role) → Lawful core → IsEnd who core.orders (side_of core who)
is_end core Server lawful = lawful.server_end
is_end core Client lawful = lawful.client_end

-- so had it before its last calls
stood : (core : Core) (who : Role) (before now : SeatedEnd) → Lawful core → IsSameEnd before now → now.side ≡ side_of core who → IsStanding core who (standing_of before.side)
stood core who before now lawful same is =
    let end = is_end core who lawful in
    (sym same.1 ∙ ap (λ (x : Side). x.role) is ∙ end.role_is, sym same.2 ∙ ap (λ (x : Side). x.orders) is ∙ end.orders_are)

-- an end that has seen its peer's end has a peer that is shut
peer_is_shut : (core : Core) (who : Role) → Lawful core → (side_of core who).saw ≡ true → (side_of core (peer who)).state ≡ Shut
peer_is_shut core Server lawful saw = lawful.lives.server_sight.saw saw
peer_is_shut core Client lawful saw = lawful.lives.client_sight.saw saw

-- the drain of a quiet turn that is still so
pub found_nothing : (core : Core) (who : Role) {still : Type 0} {waiting : List ℕ} {was_shut : Bool} {before now : SeatedEnd} (q : IsQuiet still waiting was_shut before now) → Lawful core → IsQuietStill core who q → FoundNothing core who
found_nothing core who {now = now} q lawful h = record {
  begun = standing_of q.found.side;
  stood = stood core who q.found now lawful (q.same_now.0 ∙ q.same_left.0, q.same_now.1 ∙ q.same_left.1, q.same_now.2 ∙ q.same_left.2, q.same_now.3 ∙ q.same_left.3) h.is_now;
  most = q.not_yet.most;
  loads = loads_of (standing_of q.found.side) q.left.side.trail;
  prod = q.not_yet.prod;
  cons = q.not_yet.cons;
  cause = q.not_yet.cause;
  still = h.drained;
}

-- where the page stands still and the peer is open, nothing went since there was nothing to send
sends_nothing : (core : Core) (who : Role) {still : Type 0} {waiting : List ℕ} {was_shut : Bool} {before now : SeatedEnd} → Lawful core → StandsStill core → (side_of core (peer who)).state ≢ Shut
    → IsSameEnd before now → now.side ≡ side_of core who → (sends : SendsNone still waiting was_shut before now) → SendsStill core who sends → still
sends_nothing core who lawful page there same is (NothingWaits none kept) h = none
sends_nothing core who lawful page there same is (WasShut was saw kept) h =
    absurd (there (peer_is_shut core who lawful (sym (ap (λ (x : Side). x.saw) is) ∙ ap (λ (e : SeatedEnd). e.side.saw) kept ∙ saw)))
sends_nothing core who {waiting = waiting} {before = before} {now = now} lawful page there same is (RingIsFull some full) h =
    absurd (page.has_room who (record {
      begun = standing_of before.side;
      stood = stood core who before now lawful same is;
      loads = loads_of (standing_of before.side) now.side.trail;
      prod = full.prod;
      cons = full.cons;
      lacks = IsFull (most_asked waiting) full.cause;
      still = h;
    }))
sends_nothing core who {waiting = waiting} {before = before} {now = now} lawful page there same is (PeerIsShut some shut) h =
    absurd (there (page.is_shut who (record {
      loads = loads_of (standing_of before.side) now.side.trail;
      shut = closed_by (standing_of before.side) (most_asked waiting) (loads_of (standing_of before.side) now.side.trail) shut.cause;
      still = h;
    })))

pub nothing_waits : (core : Core) (who : Role) {still : Type 0} {waiting : List ℕ} {was_shut : Bool} {before now : SeatedEnd} (q : IsQuiet still waiting was_shut before now) → Lawful core → StandsStill core → (side_of core (peer who)).state ≢ Shut
    → IsQuietStill core who q → still
nothing_waits core who q lawful page there h = sends_nothing core who lawful page there q.same_now h.is_now q.sends h.sends

pub no_session_stands_still_lem : NoSessionStandsStill
no_session_stands_still_lem core owed c c' s s' b =
    sessions_go_on_lem Builtin builtin_owes owed c.half s.half core.server.sent core.client.sent
    (record {
      calls = subst (λ sent. CallerStandsFor c.half sent) (sym b.caller.turn.0.1 ∙ ap (λ (x : Side). x.sent) b.caller.still.is_now) b.calls.stands;
      serves = subst (λ sent. ServingStandsFor builtin_owes owed s.half sent) (sym b.serving.turn.0.1 ∙ ap (λ (x : Side). x.sent) b.serving.still.is_now) b.serves.stands;
      caller_got = b.calls.got ∙ sym b.caller.turn.0.0 ∙ ap (λ (x : Side). x.got) b.caller.still.is_now ∙ page.server_got;
      serving_got = b.serves.got ∙ sym b.serving.turn.0.0 ∙ ap (λ (x : Side). x.got) b.serving.still.is_now ∙ page.client_got;
      caller_version = b.caller_version;
      serving_version = b.serving_version;
      caller_undecided = b.caller.undecided;
      serving_undecided = b.serving.undecided;
    }) (nothing_waits core Server b.caller.turn.2 b.lawful page b.serving.opened b.caller.still tt b.calls, nothing_waits core Client b.serving.turn.2 b.lawful page b.caller.opened b.serving.still owed b.serves)
  where
    page : StandsStill core
    page = stands_still core b.lawful (found_nothing core Server b.caller.turn.2 b.lawful b.caller.still) (found_nothing core Client b.serving.turn.2 b.lawful b.serving.still)
