-- Each step of a page, by honest ends and by hostile users, keeps what holds of it, and what holds at its end.
use Rattle.std.proofs.Common.{◌≡◌, ◌≢◌, ℕ, ◌^◌, ◌<◌, Bool, true, false, cond, List, length, refl, subst, sym, ap, ◌∙◌, arith}
use Rattle.std.proofs.lemmas.Bool.{false≢true}
use Rattle.ring_words.specs.declared.order.Orders.{Orders}
use Rattle.ring_words.specs.declared.page.Role.{Role}
use Rattle.ring_words.specs.declared.page.Role.TheVariants.{Server, Client}
use Rattle.vchan_protocol.specs.declared.op.Op.{Op}
use Rattle.vchan_protocol.specs.declared.call.Call.{Call}
use Rattle.vchan_protocol.specs.declared.call.EndState.{EndState}
use Rattle.vchan_protocol.specs.declared.call.EndState.TheVariants.{Shut}
use Rattle.vchan_protocol.specs.declared.side.Side.{Side}
use Rattle.vchan_protocol.specs.Table.Plan.{Plan, answers, does, GoesOn}
use Rattle.vchan_protocol.specs.History.Core.{Core, opened, begun, event, side_of, plan_left, plan_next, op_next, taken_next, made, settled}
use Rattle.vchan_protocol.specs.Hostile.Turned.{strayed, turns, turned_side}
use Rattle.vchan_protocol.specs.Honest.Lawful.{Lawful, Honest}
use Rattle.vchan_protocol.specs.Honest.Reached.{MayBegin, opens as reaches}
use Rattle.vchan_protocol.specs.Signals.SignalLaw.{HasEnds}
use Rattle.vchan_protocol.specs.Hostile.TurnedLaw.{TurnedLawful, turned_core}
use Rattle.vchan_protocol.specs.Always.Invariant.{Invariant, RetiredIsSetOnce, MayCome, opens, begins_call, makes_event, is_turned, strays, PageSettled}
use Rattle.vchan_protocol.proofs.Honest.LawfulSteps.{lawful_opened, lawful_event, lawful_begun}
use Rattle.vchan_protocol.proofs.Signals.SignalLaws.{event_keeps, begin_keeps, no_signal_lost}
use Rattle.vchan_protocol.proofs.Hostile.TurnedSteps.{turned_event, turned_begin, first_turn, second_turn, stray, event_grows, turned_core_again, turned_turned_side}
use Rattle.vchan_protocol.specs.History.Peer.{peer}

-- ---- the opening

-- a lawful page with honest ends has what holds of a page whose ends may be turned
lawful_turned : (core : Core) → Lawful core → Honest core → TurnedLawful core
lawful_turned core h honest = record {
  sized = h.sized;
  server_end = h.server_end;
  client_end = h.client_end;
  server = λ is. record { prod = h.right.lawful.own_prod; cons = h.left.lawful.own_cons; call = h.server_call };
  client = λ is. record { prod = h.left.lawful.own_prod; cons = h.right.lawful.own_cons; call = h.client_call };
  left = λ given is. absurd (false≢true (sym honest.1 ∙ given));
  right = λ given is. absurd (false≢true (sym honest.0 ∙ given));
}

pub invariant_opened : (orders : Orders) (start : ℕ) (said : ℕ × ℕ) (state : EndState) → start < 2 ^ 32 → said.0 < 2 ^ 16 → said.1 < 2 ^ 16 → state ≢ Shut → Invariant (opened orders start said state)
invariant_opened orders start said state low left right fresh =
    let h = lawful_opened orders start said state low left right fresh in
    record {
      lawful = λ honest. h;
      signals = λ honest. no_signal_lost (opened orders start said state) (reaches orders start said state low left right fresh);
      turned = lawful_turned (opened orders start said state) h (refl, refl);
    }

-- ---- honest steps

ends_of : (core : Core) → TurnedLawful core → HasEnds core
ends_of core h = record { header = omega (arith, h.sized); server_is = h.server_end.role_is; client_is = h.client_end.role_is }

honest_begun : (core : Core) (who : Role) (call : Call) (payload : List ℕ) → Honest (begun core who call payload) → Honest core
honest_begun core Server call payload honest = honest
honest_begun core Client call payload honest = honest

pub invariant_begun : (core : Core) (who : Role) (call : Call) (payload : List ℕ) → Invariant core → (side_of core who).turned ≡ false → MayBegin who (side_of core who) call payload → Invariant (begun core who call payload)
invariant_begun core who call payload h honest may = record {
  lawful = λ both. lawful_begun core who call payload (h.lawful (honest_begun core who call payload both)) may;
  signals = λ both. begin_keeps core who call payload may.idle (h.signals (honest_begun core who call payload both));
  turned = turned_begin core who call payload h.turned honest may.idle may.allowed may.pays may.bytes;
}

honest_event : (core : Core) (who : Role) → Honest (event core who) → Honest core
honest_event core Server both =
    let on = event_grows core Server in
    (sym on.1.turned ∙ both.0, ap (λ (s : Side). s.turned) (sym on.0) ∙ both.1)
honest_event core Client both =
    let on = event_grows core Client in
    (ap (λ (s : Side). s.turned) (sym on.0) ∙ both.0, sym on.1.turned ∙ both.1)

pub invariant_event : (core : Core) (who : Role) → Invariant core → (side_of core who).turned ≡ false → GoesOn (plan_left (side_of core who)) → Invariant (event core who)
invariant_event core who h honest more = record {
  lawful = λ both. lawful_event core who (h.lawful (honest_event core who both)) more;
  signals = λ both. event_keeps core who (ends_of core h.turned) more (h.signals (honest_event core who both));
  turned = turned_event core who h.turned honest more;
}

-- ---- an end is turned

not_honest : (core : Core) (who : Role) → (side_of core who).turned ≡ true → Honest core → ⊥
not_honest core Server given both = false≢true (sym both.0 ∙ given)
not_honest core Client given both = false≢true (sym both.1 ∙ given)

both_honest : (core : Core) (who : Role) → (side_of core who).turned ≡ false → (side_of core (peer who)).turned ≡ false → Honest core
both_honest core Server mine theirs = (mine, theirs)
both_honest core Client mine theirs = (theirs, mine)

turned_core_given : (core : Core) (who : Role) → (side_of (turned_core core who) who).turned ≡ true
turned_core_given core Server = turned_turned_side core.server (length core.client.got)
turned_core_given core Client = turned_turned_side core.client (length core.server.got)

turned_turned_core : (core : Core) (who : Role) → Invariant core → TurnedLawful (turned_core core who)
turned_turned_core core who h = go (side_of core who).turned (side_of core (peer who)).turned refl refl
  where
    go : (mine theirs : Bool) → (side_of core who).turned ≡ mine → (side_of core (peer who)).turned ≡ theirs → TurnedLawful (turned_core core who)
    go true theirs m t = subst TurnedLawful (sym (turned_core_again core who m)) h.turned
    go false true m t = second_turn core who h.turned t
    go false false m t = let both = both_honest core who m t in first_turn core who (h.lawful both) both

pub invariant_turned_core : (core : Core) (who : Role) → Invariant core → Invariant (turned_core core who)
invariant_turned_core core who h = record {
  lawful = λ both. absurd (not_honest (turned_core core who) who (turned_core_given core who) both);
  signals = λ both. absurd (not_honest (turned_core core who) who (turned_core_given core who) both);
  turned = turned_turned_core core who h;
}

-- ---- a hostile user's event

strayed_given : (core : Core) (who : Role) (op : Op) → (side_of (strayed core who op) who).turned ≡ true
strayed_given core Server op = turned_turned_side core.server (length core.client.got)
strayed_given core Client op = turned_turned_side core.client (length core.server.got)

pub invariant_strayed : (core : Core) (who : Role) (op : Op) → Invariant core → Invariant (strayed core who op)
invariant_strayed core who op h = record {
  lawful = λ both. absurd (not_honest (strayed core who op) who (strayed_given core who op) both);
  signals = λ both. absurd (not_honest (strayed core who op) who (strayed_given core who op) both);
  turned = stray core who op (turned_turned_core core who h);
}

-- ---- retirement

pub retired_settled : (s : Side) (plan : Plan) → (settled s plan).retired ≡ s.retired
retired_settled s (answers answer) = refl
retired_settled s (does op next) = refl

retired_turned_side : (s : Side) (consumed : ℕ) → (turned_side s consumed).retired ≡ s.retired
retired_turned_side s consumed = go s.turned
  where
    go : (b : Bool) → (cond b s (turns s consumed)).retired ≡ s.retired
    go true = refl
    go false = refl

-- an end is retired by its own store to its gone word, and by nothing else
pub retires_once : (core : Core) (who : Role) → RetiredIsSetOnce core who
unfolding event
retires_once core Server = record {
  event = retired_settled (made core.server (op_next core.server) (taken_next core Server)) (plan_next core Server);
  begin = λ call payload. refl;
  turn = retired_turned_side core.server (length core.client.got);
  stray = λ op. retired_turned_side core.server (length core.client.got);
}
retires_once core Client = record {
  event = retired_settled (made core.client (op_next core.client) (taken_next core Client)) (plan_next core Client);
  begin = λ call payload. refl;
  turn = retired_turned_side core.client (length core.server.got);
  stray = λ op. retired_turned_side core.client (length core.server.got);
}

-- ---- all that may happen

pub each_has_invariant : (core : Core) → MayCome core → Invariant core
each_has_invariant core (opens orders start said state low left right fresh) = invariant_opened orders start said state low left right fresh
each_has_invariant core (begins_call before who call payload there honest may) = invariant_begun before who call payload (each_has_invariant before there) honest may
each_has_invariant core (makes_event before who there honest more) = invariant_event before who (each_has_invariant before there) honest more
each_has_invariant core (is_turned before who there) = invariant_turned_core before who (each_has_invariant before there)
each_has_invariant core (strays before who op there) = invariant_strayed before who op (each_has_invariant before there)

-- ---- the end of a page

pub page_settles : (core : Core) → Invariant core → PageSettled core.orders core.said core.server core.client
page_settles core h = record {
  left = record {
    prefix = λ w r. (h.lawful (r, w)).left.lawful.prefix;
    all = λ w r. (h.lawful (r, w)).lives.left.all;
    shut = λ w r. (h.lawful (r, w)).lives.left.shut;
    ended = λ w r. (h.lawful (r, w)).lives.left.ended;
    consumed = h.turned.left;
  };
  right = record {
    prefix = λ w r. (h.lawful (w, r)).right.lawful.prefix;
    all = λ w r. (h.lawful (w, r)).lives.right.all;
    shut = λ w r. (h.lawful (w, r)).lives.right.shut;
    ended = λ w r. (h.lawful (w, r)).lives.right.ended;
    consumed = h.turned.right;
  };
  not_both_saw = λ s c. (h.lawful (s, c)).lives.not_both_saw;
  none_misled = λ s c. (h.lawful (s, c)).lives.none_misled;
}
