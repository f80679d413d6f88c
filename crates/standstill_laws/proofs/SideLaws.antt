-- What the turns of a side of a session in which nothing moved leave: its bytes, and of eight in a row what a quiet one found.
use Rattle.std.proofs.Common.{◌≡◌, ◌≢◌, ℕ, ◌+◌, suc, ◌≤◌, Option, None, refl, sym, ap, ◌∙◌, subst, arith}
use Rattle.ring_words.specs.declared.page.Role.{Role}
use Rattle.vchan_protocol.specs.declared.call.EndState.TheVariants.{Open}
use Rattle.vchan_protocol.specs.declared.side.Side.{Side}
use Rattle.end_view.specs.EndView.{EndView}
use Rattle.vchan_rule.specs.Seated.{view}
use Rattle.qrexec_data.specs.declared.outcome.Outcome.{Outcome}
use Rattle.channel_session.specs.declared.pause.Turned.{Turned}
use Rattle.channel_session.specs.declared.pause.Turned.TheVariants.{Moved, Quiet, Passed}
use Rattle.channel_session.specs.Turning.{Pace}
use Rattle.channel_session.specs.Session.{EndsBy}
use Rattle.standstill_laws.specs.Sides.{SideAt, half_at, IsUndecided, HoldsEnd, SideTurns, SideRests, NoTurn, QuietTurn, PassedTurn}

-- ---- its bytes

abbrev pub HasSameBytes : (who : Role) → SideAt who → SideAt who → Type 0
HasSameBytes who old new = ((view new.end).got ≡ (view old.end).got) × ((view new.end).sent ≡ (view old.end).sent)

turn_same : (who : Role) (turned : Turned) (before now : SideAt who) → SideTurns who turned before now → turned ≢ Moved → HasSameBytes who before now
turn_same who Moved before now turn did = absurd (did refl)
turn_same who Quiet before now turn did = (turn.0.0, turn.0.1)
turn_same who Passed before now turn did = (ap (λ (v : EndView). v.got) turn.1.no_event.view_is, ap (λ (v : EndView). v.sent) turn.1.no_event.view_is)

pub end_bytes : (who : Role) (at : SideAt who) (side : Side) → at.end.side ≡ side → ((view at.end).got ≡ side.got) × ((view at.end).sent ≡ side.sent)
end_bytes who at side h = (ap (λ (s : Side). s.got) h, ap (λ (s : Side). s.sent) h)

pub end_open : (who : Role) (at : SideAt who) (side : Side) → HoldsEnd who at side → side.state ≡ Open
end_open who at side h =
    let connects = (half_at who).connects in
    let ends : EndsBy connects None (view at.end) = subst (λ (o : Option Outcome). EndsBy connects o (view at.end)) h.1 h.0.0.ends in
    sym (ap (λ (s : Side). s.state) h.2) ∙ ends.0

undecided_stays : (who : Role) (before now : SideAt who) → SideTurns who Passed before now → IsUndecided who before → IsUndecided who now
undecided_stays who before now turn none = ap (half_at who).outcome turn.0 ∙ none

-- ---- turns in a row

module _ (who : Role) (Finds : (before now : SideAt who) → SideTurns who Quiet before now → Type 0) where
  pub all_same : (n : ℕ) (from to : SideAt who) → SideRests who Finds n from to → HasSameBytes who from to
  all_same n from to (NoTurn at) = (refl, refl)
  all_same n from to (QuietTurn m before now then turn found rest) =
      let one = turn_same who Quiet before now turn (λ is. cc) in
      let all = all_same m now then rest in
      (all.0 ∙ one.0, all.1 ∙ one.1)
  all_same n from to (PassedTurn m before now then turn rest) =
      let one = turn_same who Passed before now turn (λ is. cc) in
      let all = all_same m now then rest in
      (all.0 ∙ one.0, all.1 ∙ one.1)

  -- a quiet one of them: before it nothing was decided, and behind it nothing came or went
  pub record QuietOne (from to : SideAt who) : Type 0 where
    pub before : SideAt who
    pub now : SideAt who
    pub turn : SideTurns who Quiet before now
    pub found : Finds before now turn
    pub undecided : IsUndecided who from → IsUndecided who before
    pub same : HasSameBytes who before to

  quiet_first : (n : ℕ) (before now then : SideAt who) (turn : SideTurns who Quiet before now) → Finds before now turn → SideRests who Finds n now then → QuietOne before then
  quiet_first n before now then turn found rest =
      record { before = before; now = now; turn = turn; found = found; undecided = λ none. none; same = all_same (suc n) before then (QuietTurn n before now then turn found rest) }

  quiet_later : (before now then : SideAt who) → SideTurns who Passed before now → QuietOne now then → QuietOne before then
  quiet_later before now then turn q = record { before = q.before; now = q.now; turn = q.turn; found = q.found; undecided = λ none. q.undecided (undecided_stays who before now turn none); same = q.same }

  -- no more than seven are passed over
  quiet_behind : (n : ℕ) (from to : SideAt who) → SideRests who Finds n from to → 8 ≤ n + from.pace.passed → from.pace.passed ≤ 7 → QuietOne from to
  quiet_behind n from to (NoTurn at) long few = absurd (omega (arith, long, few))
  quiet_behind n from to (QuietTurn m before now then turn found rest) long few = quiet_first m before now then turn found rest
  quiet_behind n from to (PassedTurn m before now then turn rest) long few =
      let more : now.pace.passed ≡ before.pace.passed + 1 = ap (λ (p : Pace). p.passed) turn.1.pace in
      quiet_later before now then turn (quiet_behind m now then rest (omega (arith, long, more)) (omega (arith, turn.1.may.1, more)))

  pub quiet_one : (n : ℕ) (from to : SideAt who) → SideRests who Finds n from to → 8 ≤ n → QuietOne from to
  quiet_one n from to (NoTurn at) long = absurd (omega (arith, long))
  quiet_one n from to (QuietTurn m before now then turn found rest) long = quiet_first m before now then turn found rest
  quiet_one n from to (PassedTurn m before now then turn rest) long = quiet_behind (suc m) before then (PassedTurn m before now then turn rest) (omega (arith, long)) (omega (arith, turn.1.may.1))
