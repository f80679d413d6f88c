use Rattle.std.proofs.Common.{refl, ap, ◌∙◌, sym, inr, rules}
use Rattle.std.specs.Prelude.{is_none, [], if◌then◌else◌}
use Rattle.vchan_rule.specs.Called.{most_asked}
use Rattle.qrexec_data.specs.Half.{Lends}
use Rattle.channel_session.specs.Turning.{NothingWaits, RingIsFull}
use Rattle.channel_session.proofs.TurningLaws.{told_ok, none_from, finds_full, finds_shut}
use Rattle.channel_session.proofs.session.Session.write_on.Goals as goal

pub returns-then-is_some-clause-went : goal.returns-then-is_some-clause-went
returns-then-is_some-clause-went g c = (refl, refl, NothingWaits (λ owed on. search rules) refl)

pub returns-in-Full-clause-went : goal.returns-in-Full-clause-went
returns-in-Full-clause-went g c =
    let h = g.S.Half.half in
    let undecided = sym c.outcome.ensures.is ∙ none_from c.outcome.result (sym c.is_some.ensures ∙ c.if-is_some.false) in
    let lends = told_ok (λ p. Lends h c.self.inside.half c.front.follows.lender-at-none p.now) c.front.result c.in_ok-piece.piece c.in_ok-piece.was c.front.follows.holds-at-none in
    let waits = lends.piece_is ∙ ap (λ o. if is_none o then h.waiting c.front.follows.lender-at-none else []) undecided in (
      search rules,
      search rules,
      RingIsFull (search rules)
          (finds_full c.args.self.now.end c.self.inside.end c.write.new.end c.in_ok-piece.piece.now (h.waiting c.front.follows.lender-at-none) c.in-Full.prod c.in-Full.cons (ap (λ s. s.end) c.self.view_is) (sym waits)
          c.in-Full.ensures.trail c.in-Full.ensures.cause),
    )

pub returns-in-PeerClosed-clause-shut : goal.returns-in-PeerClosed-clause-shut
returns-in-PeerClosed-clause-shut g c = (
  λ was. refl,
  λ shut. inr (c.self.inside.end, most_asked c.in_ok-piece.piece.now, search rules, finds_shut c.self.inside.end c.write.new.end c.in_ok-piece.piece.now c.in-PeerClosed.ensures.trail c.in-PeerClosed.ensures.cause),
)
