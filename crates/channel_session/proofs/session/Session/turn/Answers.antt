use Rattle.std.proofs.Common.{◌≡◌, subst, sym, ◌∙◌}
use Rattle.std.specs.Prelude.{IsSome}
use Rattle.vchan_rule.specs.Seated.{view}
use Rattle.vchan_rule.specs.Ends.{IsSameEnd}
use Rattle.channel_session.specs.Session.{SessionAt, Turns, Writes}
use Rattle.channel_session.specs.Turning.{Pace, KeepsShut}
use Rattle.channel_session.proofs.TurningLaws.{turns, keeps_shut}
use Rattle.channel_session.proofs.session.Session.turn.Goals as goal

pub returns-clause-turned : goal.returns-clause-turned
returns-clause-turned g c =
    let h = g.S.Half.half in
    let At = SessionAt g.row.S.Denot in
    let old = c.args.self.now in
    let a = c.is_due.new.self in
    let b = c.read_on.new.self in
    let inside = c.self-2.inside in
    let end : At = record { half = inside.half; end = inside.end; pace = record { peer_shut = inside.peer_shut; quiet = inside.pause.quiet; passed = inside.pause.passed } } in
    let pace : Pace = record { peer_shut = inside.peer_shut; quiet = c.note.new.self.quiet; passed = c.note.new.self.passed } in
    let new : At = record { half = inside.half; end = inside.end; pace = pace } in
    subst (λ t. Turns h t old new) (sym c.note.ensures.turned)
    (turns h c.in_ok-came.came c.in_ok-went.went old a b end pace c.is_due.ensures.end c.in_ok-came.ensures.end
    (subst (λ (s : At). IsSameEnd b.end s.end) (sym c.self-2.view_is) c.in_ok-went.ensures.end) c.is_due.ensures.view c.is_due.ensures.same.0 c.is_due.ensures.same.1 c.requires.undecided
    c.in_ok-came.ensures.came c.in_ok-came.ensures.kept.0 c.in_ok-came.ensures.kept.1
    (subst (λ (s : At). Writes h c.in_ok-went.went b s) (sym c.self-2.view_is) c.in_ok-went.ensures.went)
    (subst (λ (s : At). (view s.end).got ≡ (view b.end).got) (sym c.self-2.view_is) c.in_ok-went.ensures.kept)
    (subst (λ (s : At). IsSome (h.outcome b.half) → IsSome (h.outcome s.half)) (sym c.self-2.view_is) c.in_ok-went.ensures.outcome) c.note.ensures.made)

pub returns-clause-shut : goal.returns-clause-shut
returns-clause-shut g c =
    let inside = c.self-2.inside in
    let pace : Pace = record { peer_shut = inside.peer_shut; quiet = inside.pause.quiet; passed = inside.pause.passed } in
    keeps_shut c.args.self.now.pace c.read_on.new.self.pace pace c.args.self.now.end c.is_due.new.self.end c.read_on.new.self.end inside.end (c.in_ok-came.ensures.kept.0 ∙ c.is_due.ensures.same.1)
    c.is_due.ensures.end c.in_ok-came.ensures.end
    (subst (λ (s : SessionAt g.row.S.Denot). KeepsShut c.read_on.new.self.pace s.pace c.read_on.new.self.end s.end) (sym c.self-2.view_is) c.in_ok-went.ensures.shut)
