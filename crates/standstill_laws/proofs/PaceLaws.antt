-- The sides of an open session don't both make eight turns in a row in which nothing moved.
use Rattle.std.proofs.Common.{◌≡◌, ◌≢◌, ℕ, Bool, true, false, List, length, Some, if◌then◌else◌, sym, ap, ◌∙◌, subst}
use Rattle.std.proofs.lemmas.Bool.{false_from_ne_true}
use Rattle.ring_words.specs.declared.page.Role.{Role}
use Rattle.ring_words.specs.declared.page.Role.TheVariants.{Server, Client}
use Rattle.vchan_protocol.specs.declared.call.Answer.TheVariants.{NotYet}
use Rattle.vchan_protocol.specs.declared.call.EndState.{EndState}
use Rattle.vchan_protocol.specs.declared.call.EndState.TheVariants.{Open, Shut}
use Rattle.vchan_protocol.specs.declared.side.Side.{Side}
use Rattle.vchan_protocol.specs.Table.Ends.{Standing, read_ring, written_ring, peer_gone}
use Rattle.vchan_protocol.specs.Answering.Loads.{Loads, loads_of}
use Rattle.vchan_protocol.specs.Answering.Causes.{DrainCause, FoundHere, drain_got, drain_all_read, drain_not_yet, drain_peer_gone}
use Rattle.vchan_protocol.specs.History.Core.{Core, side_of, standing_of}
use Rattle.vchan_protocol.specs.History.Peer.{peer}
use Rattle.vchan_protocol.specs.Honest.Lawful.{Lawful}
use Rattle.vchan_protocol.specs.Honest.RingLaw.{word_at}
use Rattle.vchan_protocol.proofs.Honest.GoneWords.{gone_tells_retired}
use Rattle.vchan_rule.specs.Seated.{SeatedEnd}
use Rattle.vchan_lifecycle.specs.Lifecycle.{FindsNotYet}
use Rattle.service_gate.specs.Owing.{builtin_owes}
use Rattle.service_gate.specs.declared.builtin.Builtin.{Builtin}
use Rattle.qrexec_data.specs.CallerSide.{CallerStandsFor}
use Rattle.qrexec_data.specs.ServingSide.{ServingStandsFor}
use Rattle.qrexec_data.proofs.GoingLaws.{sessions_go_on_lem}
use Rattle.channel_session.specs.Session.{HasNothing}
use Rattle.channel_session.specs.Turning.{IsQuiet, SendsNone, NothingWaits, WasShut, RingIsFull, PeerIsShut}
use Rattle.standstill_laws.specs.Page.{FoundNothing, StandsStill}
use Rattle.standstill_laws.specs.Sides.{SideAt, half_at, HoldsEnd}
use Rattle.standstill_laws.specs.Turns.{SendsStill, IsQuietStill}
use Rattle.standstill_laws.specs.Moments.{AreMoments, IsBetween, WasSo}
use Rattle.standstill_laws.specs.Pace.{IsGoneStill, IsQuietBetween, FoundBetween, RestsLong, NoSessionRests}
use Rattle.standstill_laws.proofs.PageLaws.{stands_still}
use Rattle.standstill_laws.proofs.TurnLaws.{found_nothing, nothing_waits}
use Rattle.standstill_laws.proofs.SideLaws.{HasSameBytes, all_same, QuietOne, quiet_one, end_bytes, end_open}
use Rattle.standstill_laws.proofs.MomentLaws.{PageRested, KeepsFindings, moments_rest, last_between, not_shut}

-- ---- a peer that was there

-- a drain that finds nothing yet has found the peer here
here_by : (e : Standing) (n : ℕ) (loads : Loads) (prod cons : ℕ) → DrainCause e n loads (NotYet prod cons) → FoundHere loads
here_by e n loads prod cons (drain_got last older pairs none unread some is) = cc
here_by e n loads prod cons (drain_all_read all is) = cc
here_by e n loads prod cons (drain_not_yet last last_is none unread here is) = here
here_by e n loads prod cons (drain_peer_gone last last_is none unread gone is) = cc

gone_told : (core : Core) → Lawful core → (who : Role) → word_at core.orders core.words (peer_gone who) ≡ (if (side_of core (peer who)).retired then 1 else 0)
gone_told core l Server = l.lives.client_words.gone.word
gone_told core l Client = l.lives.server_words.gone.word

-- if what it loaded is still so, the peer isn't retired
not_retired : (core : Core) (who : Role) (before now : SeatedEnd) → Lawful core → (f : FindsNotYet before now) → IsGoneStill core who (loads_of (standing_of before.side) now.side.trail) → (side_of core (peer who)).retired ≡ true → ⊥
not_retired core who before now lawful f still retired =
    let here : FoundHere (loads_of (standing_of before.side) now.side.trail) = here_by (standing_of before.side) f.most (loads_of (standing_of before.side) now.side.trail) f.prod f.cons f.cause in
    let same : Some 0 ≡ Some (word_at core.orders core.words (peer_gone who)) = sym here ∙ still in
    let word : 0 ≡ word_at core.orders core.words (peer_gone who) = cc in
    let one : ◌≡◌ {A = ℕ} 0 1 = word ∙ (gone_told core lawful who ∙ ap (λ (b : Bool). if b then 1 else 0) retired) in
    cc

-- nor was it at the first moment
peer_was_there : (first last : Core) (who : Role) (before now : SeatedEnd) → FindsNotYet before now → WasSo first last (λ core. IsGoneStill core who (loads_of (standing_of before.side) now.side.trail)) → (side_of first (peer who)).retired ≡ false
peer_was_there first last who before now not_yet here =
    false_from_ne_true (side_of first (peer who)).retired (λ is. not_retired here.0 who before now here.1.since.moments.lawful_now not_yet here.2 ((here.1.since.ends (peer who)).retired is))

-- ---- what a quiet turn found, at the moment that has the end as it left it

abbrev Keeps : Core → Core → Type 0
Keeps first last = (one other : Core) → IsBetween first last one → IsBetween first last other → KeepsFindings one other

sends_still : (one other : Core) → KeepsFindings one other → (who : Role) {still : Type 0} {waiting : List ℕ} {was_shut : Bool} {before now : SeatedEnd} (s : SendsNone still waiting was_shut before now) → SendsStill one who s → SendsStill other who s
sends_still one other keeps who (NothingWaits none same) h = tt
sends_still one other keeps who (WasShut was saw same) h = tt
sends_still one other keeps who (RingIsFull some full) h = keeps.indices (written_ring who) full.prod full.cons h
sends_still one other keeps who {before = before} {now = now} (PeerIsShut some shut) h = keeps.live who (loads_of (standing_of before.side) now.side.trail) h

still_then : (first last : Core) → Keeps first last → (who : Role) {still : Type 0} {waiting : List ℕ} {was_shut : Bool} {before now : SeatedEnd} (q : IsQuiet still waiting was_shut before now) → (f : IsQuietBetween first last who q) → IsQuietStill f.left.0 who q
still_then first last keeps who q f = record {
  is_now = f.left.2;
  drained = (keeps f.drained.0 f.left.0 f.drained.1 f.left.1).indices (read_ring who) q.not_yet.prod q.not_yet.cons f.drained.2;
  sends = sends_still f.sends.0 f.left.0 (keeps f.sends.0 f.left.0 f.sends.1 f.left.1) who q.sends f.sends.2;
}

-- ---- a page whose ends are open

-- an end is open at both moments, with as many bytes
record StaysOpen (before now : Side) : Type 0 where
  pub was : before.state ≡ Open
  pub is : now.state ≡ Open
  pub got : length now.got ≡ length before.got
  pub sent : length now.sent ≡ length before.sent

open_unshut : (state : EndState) → state ≡ Open → state ≢ Shut
open_unshut state up is = let bad : Open ≡ Shut = sym up ∙ is in cc

open_unretired : (core : Core) → Lawful core → (who : Role) → (side_of core who).state ≡ Open → (side_of core who).retired ≡ false
open_unretired core lawful who up = false_from_ne_true (side_of core who).retired (λ is. let shut : Shut ≡ Open = sym ((gone_tells_retired core who lawful.lives).shut is) ∙ up in cc)

stays_open : (who : Role) (from to : SideAt who) (before now : Side) → HoldsEnd who from before → HoldsEnd who to now → HasSameBytes who from to → StaysOpen before now
stays_open who from to before now old new same =
    let had = end_bytes who from before old.2 in
    let has = end_bytes who to now new.2 in
    record {
      was = end_open who from before old;
      is = end_open who to now new;
      got = ap (λ (l : List ℕ). length l) (sym has.0 ∙ same.0 ∙ had.0);
      sent = ap (λ (l : List ℕ). length l) (sym has.1 ∙ same.1 ∙ had.1);
    }

page_rested : (before now : Core) → AreMoments before now → ((who : Role) → StaysOpen (side_of before who) (side_of now who)) → PageRested before now
page_rested before now moments ends = record {
  start = moments.start;
  orders = moments.orders;
  ends = λ who. record {
    got = (ends who).got;
    sent = (ends who).sent;
    state = (ends who).is ∙ sym (ends who).was;
    retired = open_unretired now moments.lawful_now who (ends who).is ∙ sym (open_unretired before moments.lawful who (ends who).was);
  };
}

-- ---- both sides

module _ (first last : Core) (moments : AreMoments first last) (sides : (who : Role) → RestsLong first last who) where
  quiet : (who : Role) → QuietOne who (FoundBetween first last who) (sides who).from (sides who).to
  quiet who = quiet_one who (FoundBetween first last who) (sides who).turns (sides who).from (sides who).to (sides who).rests (sides who).long

  opens : (who : Role) → StaysOpen (side_of first who) (side_of last who)
  opens who =
      let s = sides who in
      stays_open who s.from s.to (side_of first who) (side_of last who) s.first_held s.last_held (all_same who (FoundBetween first last who) s.turns s.from s.to s.rests)

  rested : PageRested first last
  rested = page_rested first last moments opens

  keeps : Keeps first last
  keeps one other is also = moments_rest first last one other is also rested

  found_at : (mid : Core) → IsBetween first last mid → (who : Role) → FoundNothing mid who
  found_at mid is who =
      let f = (quiet who).found.found in
      let q = (quiet who).turn.2 in
      (keeps f.left.0 mid f.left.1 is).nothing who (found_nothing f.left.0 who q f.left.1.since.moments.lawful_now (still_then first last keeps who q f))

  -- the page stands still at each moment between
  page_at : (mid : Core) → IsBetween first last mid → StandsStill mid
  page_at mid is = stands_still mid is.since.moments.lawful_now (found_at mid is Server) (found_at mid is Client)

  -- neither side has anything to send
  none_waits : (who : Role) → HasNothing (half_at who) (quiet who).before
  none_waits who =
      let f = (quiet who).found.found in
      let q = (quiet who).turn.2 in
      nothing_waits f.left.0 who q f.left.1.since.moments.lawful_now (page_at f.left.0 f.left.1) (not_shut first last f.left.0 f.left.1 (peer who) (open_unshut (side_of last (peer who)).state (opens (peer who)).is)) (still_then first last keeps who q f)

  both_rest : ⊥
  both_rest =
      let x = quiet Server in
      let y = quiet Client in
      let page = page_at last (last_between first last moments rested) in
      let up = end_bytes Server (sides Server).to last.server (sides Server).last_held.2 in
      let down = end_bytes Client (sides Client).to last.client (sides Client).last_held.2 in
      sessions_go_on_lem Builtin builtin_owes y.found.stands.1.0 x.before.half y.before.half last.server.sent last.client.sent
      (record {
        calls = subst (λ (sent : List ℕ). CallerStandsFor x.before.half sent) (sym x.same.1 ∙ up.1) x.found.stands.1.1.stands;
        serves = subst (λ (sent : List ℕ). ServingStandsFor builtin_owes y.found.stands.1.0 y.before.half sent) (sym y.same.1 ∙ down.1) y.found.stands.1.1.stands;
        caller_got = x.found.stands.1.1.got ∙ sym x.same.0 ∙ up.0 ∙ page.server_got;
        serving_got = y.found.stands.1.1.got ∙ sym y.same.0 ∙ down.0 ∙ page.client_got;
        caller_version = x.found.version;
        serving_version = y.found.version;
        caller_undecided = x.undecided (sides Server).first_held.1;
        serving_undecided = y.undecided (sides Client).first_held.1;
      }) (none_waits Server tt x.found.stands.1.1, none_waits Client y.found.stands.1.0 y.found.stands.1.1)

pub no_session_rests_lem : NoSessionRests
no_session_rests_lem = record {
  both = both_rest;
  alone = λ first last who n from to rests long.
      let x = quiet_one who (FoundBetween first last who) n from to rests long in
      let q = x.turn.2 in
      peer_was_there first last who q.found q.left q.not_yet x.found.found.here;
}
