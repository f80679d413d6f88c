use Rattle.std.proofs.Common.{subst, sym}
use Rattle.ring_words.specs.declared.page.WordName.{WordName}
use Rattle.vchan_protocol.specs.Hostile.Turned.{MayPoke}
use Rattle.hostile_task.proofs.DrawLaws.{field_at, field_may}
use Rattle.hostile_task.proofs.pages.field_of.Goals as goal

pub returns-clause-field : goal.returns-clause-field
returns-clause-field c = field_at c.args.number

pub returns-clause-reached : goal.returns-clause-reached
returns-clause-reached c orders = subst (λ (w : WordName). MayPoke orders w) (sym (field_at c.args.number)) (field_may orders c.args.number)
