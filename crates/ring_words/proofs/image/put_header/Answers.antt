use Rattle.std.proofs.Common.{refl}
use Rattle.ring_words.specs.declared.page.WordName.TheVariants.{LeftCons, LeftProd, RightCons, RightProd, CliLive, SrvLive, CliNotify, SrvNotify}
use Rattle.ring_words.specs.Image.{field_at, left_order, right_order}
use Rattle.ring_words.proofs.ImageLaws.{puts_field}
use Rattle.ring_words.proofs.PieceLaws.{puts_nothing}
use Rattle.ring_words.proofs.image.put_header.Goals as goal

pub returns : goal.returns
returns c =
    let page = c.args.words.now in
    let puts_0 = puts_nothing c.args.image.now in
    let puts_1 = puts_field page (field_at 0 4 LeftCons) puts_0 c.put_field.ensures c.load.ensures.value refl in
    let puts_2 = puts_field page (field_at 4 4 LeftProd) puts_1 c.put_field-2.ensures c.load-2.ensures.value refl in
    let puts_3 = puts_field page (field_at 8 4 RightCons) puts_2 c.put_field-3.ensures c.load-3.ensures.value refl in
    let puts_4 = puts_field page (field_at 12 4 RightProd) puts_3 c.put_field-4.ensures c.load-4.ensures.value refl in
    let puts_5 = puts_field page left_order puts_4 c.put_field-5.ensures c.load-5.ensures.value refl in
    let puts_6 = puts_field page right_order puts_5 c.put_field-6.ensures c.load-6.ensures.value refl in
    let puts_7 = puts_field page (field_at 20 1 CliLive) puts_6 c.put_field-7.ensures c.load-7.ensures.value refl in
    let puts_8 = puts_field page (field_at 21 1 SrvLive) puts_7 c.put_field-8.ensures c.load-8.ensures.value refl in
    let puts_9 = puts_field page (field_at 22 1 CliNotify) puts_8 c.put_field-9.ensures c.load-9.ensures.value refl in
    puts_field page (field_at 23 1 SrvNotify) puts_9 c.put_field-10.ensures c.load-10.ensures.value refl
