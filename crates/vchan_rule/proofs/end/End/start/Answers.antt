use Rattle.std.proofs.Common.{rules, refl, Some, None, sym, subst}
use Rattle.vchan_core.specs.declared.machine.Machine.{Machine}
use Rattle.vchan_rule.specs.Seated.{SeatedEnd, driven}
use Rattle.vchan_rule.specs.declared.rule.Opening.{Opening}
use Rattle.vchan_rule.specs.Going.{Goes, Starts}
use Rattle.vchan_rule.proofs.GoingLaws.{starts_in, starts_from}
use Rattle.vchan_rule.proofs.end.End.start.Goals as goal

pub returns-in-Some-clause-starts : goal.returns-in-Some-clause-starts
returns-in-Some-clause-starts g c =
    let begun = driven c.self.inside.words.key.start c.begin.new.self c.inside-machine.result in
    let went = driven c.self.inside.words.key.start c.quickly-first.new.self c.quickly-first.new.machine in
    let goes = subst (λ (k : Opening). Goes (driven k.start c.begin.new.self c.inside-machine.result) c.args.payload.now c.args.buf.now (Some c.in-Some.answer) (driven k.start c.quickly-first.new.self c.quickly-first.new.machine) c.quickly-first.new.buf) c.get-words.ensures.1 c.in-Some.ensures.goes in
    let b = c.begin.ensures in
    let i = starts_in (driven c.self.inside.words.key.start c.self.inside.seat c.self.inside.machine) c.args.call c.args.payload.now c.args.buf.now begun b.same.0 refl b.same.1 b.begun c.inside-machine.ensures.busy c.inside-machine.ensures.payload_left (search rules) c.requires.pays (search rules) in
    subst (λ (m : Machine). Starts c.args.self.now c.args.call c.args.payload.now c.args.buf.now (Some c.in-Some.answer) (driven c.self.inside.words.key.start c.quickly-first.new.self m) c.quickly-first.new.buf) (sym c.take_over.ensures)
    (subst (λ (w : SeatedEnd). Starts w c.args.call c.args.payload.now c.args.buf.now (Some c.in-Some.answer) went c.quickly-first.new.buf) c.self.view_is
    (starts_from (driven c.self.inside.words.key.start c.self.inside.seat c.self.inside.machine) c.args.call c.args.payload.now c.args.buf.now begun (Some c.in-Some.answer) went c.quickly-first.new.buf i goes))

pub returns-clause-starts : goal.returns-clause-starts
returns-clause-starts g c =
    let begun = driven c.self.inside.words.key.start c.begin.new.self c.inside-machine.result in
    let went = driven c.self.inside.words.key.start c.quickly-first.new.self c.quickly-first.new.machine in
    let goes = subst (λ (k : Opening). Goes (driven k.start c.begin.new.self c.inside-machine.result) c.args.payload.now c.args.buf.now None (driven k.start c.quickly-first.new.self c.quickly-first.new.machine) c.quickly-first.new.buf) c.get-words.ensures.1 c.in_default.ensures.goes in
    let b = c.begin.ensures in
    let i = starts_in (driven c.self.inside.words.key.start c.self.inside.seat c.self.inside.machine) c.args.call c.args.payload.now c.args.buf.now begun b.same.0 refl b.same.1 b.begun c.inside-machine.ensures.busy c.inside-machine.ensures.payload_left (search rules) c.requires.pays (search rules) in
    subst (λ (w : SeatedEnd). Starts w c.args.call c.args.payload.now c.args.buf.now None went c.quickly-first.new.buf) c.self.view_is
    (starts_from (driven c.self.inside.words.key.start c.self.inside.seat c.self.inside.machine) c.args.call c.args.payload.now c.args.buf.now begun None went c.quickly-first.new.buf i goes)
