use Rattle.std.proofs.Common.{ℕ, refl, subst}
use Rattle.ring_words.specs.declared.page.Role.TheVariants.{Server}
use Rattle.session_drive.specs.Page.{Drains}
use Rattle.session_drive.proofs.SidesLaws.{on_ok, both_ok, caller_read_none, caller_read_some}
use Rattle.session_drive.proofs.sides.Sides.read_replies.Goals as goal

pub returns-then-count-eq0-clause-reads : goal.returns-then-count-eq0-clause-reads
returns-then-count-eq0-clause-reads c = λ input owed core h none.
    caller_read_none input owed core _ _ h refl refl c.drain-count.new.buffer
    (subst (λ (k : ℕ). Drains core Server c.drain-count.new.page c.drain-count.new.buffer k) c.if-count-eq0.true (c.drain-count.ensures.drains core h.rested))

pub returns-clause-reads : goal.returns-clause-reads
returns-clause-reads c = λ input owed core h none.
    both_ok c.take.result (c.take.ensures.got none) (c.take.ensures.stands tt core.server.sent h.calls)
    (λ got stands. caller_read_some input owed core _ _ h refl c.drain-count.new.buffer c.drain-count.result c.if-count-eq0.false (c.drain-count.ensures.drains core h.rested) got (c.take.ensures.kept, c.take.ensures.same.own) stands (c.take.ensures.bytes h.caller_read))

pub returns-clause-rests : goal.returns-clause-rests
returns-clause-rests c = on_ok c.take.result c.drain-count.ensures.rests
