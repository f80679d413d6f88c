use Rattle.std.proofs.Common.{ℕ, refl, subst, sym, ◌∙◌}
use Rattle.ring_words.specs.declared.page.Role.TheVariants.{Client}
use Rattle.session_drive.specs.Page.{Drains}
use Rattle.session_drive.proofs.SidesLaws.{none_from, some_from, on_ok, both_ok, serving_over, serving_read_none, serving_read_some}
use Rattle.session_drive.proofs.sides.Sides.read_requests.Goals as goal

pub returns-then-is_some-clause-reads : goal.returns-then-is_some-clause-reads
returns-then-is_some-clause-reads c = λ input owed core h. serving_over input owed core _ _ h refl refl refl (λ none. some_from c.outcome.result (sym c.is_some.ensures ∙ c.if-is_some.true) (c.outcome.ensures.is ∙ none))

pub returns-then-count-eq0-clause-reads : goal.returns-then-count-eq0-clause-reads
returns-then-count-eq0-clause-reads c = λ input owed core h.
    serving_read_none input owed core _ _ h refl refl c.drain-count.new.buffer
    (subst (λ (k : ℕ). Drains core Client c.drain-count.new.page c.drain-count.new.buffer k) c.if-count-eq0.true (c.drain-count.ensures.drains core h.rested))

pub returns-clause-reads : goal.returns-clause-reads
returns-clause-reads c = λ input owed core h.
    both_ok c.take.result (c.take.ensures.got (sym c.outcome.ensures.is ∙ none_from c.outcome.result (sym c.is_some.ensures ∙ c.if-is_some.false))) (c.take.ensures.stands owed core.client.sent h.serves)
    (λ got stands. serving_read_some input owed core _ _ h refl c.drain-count.new.buffer c.drain-count.result c.if-count-eq0.false (c.drain-count.ensures.drains core h.rested) got c.take.ensures.same.own stands (c.take.ensures.bytes h.serving_read))

pub returns-clause-rests : goal.returns-clause-rests
returns-clause-rests c = on_ok c.take.result c.drain-count.ensures.rests
