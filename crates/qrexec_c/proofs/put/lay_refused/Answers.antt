use Rattle.std.proofs.Common.{rules, ◌≡◌, length, take, sym, arith}
use Rattle.qrexec_frame.specs.Texts.{padded}
use Rattle.qrexec_frame.proofs.WrittenLaws.{length_padded}
use Rattle.qrexec_c.proofs.PutLaws.{laid_one}
use Rattle.qrexec_c.proofs.put.lay_refused.Goals as goal

pub returns : goal.returns
returns c =
    let size : length c.put_field.new.out ≡ 40 = search rules in
    let len : 32 ≡ length (padded 32 c.args.ident.now) = sym (length_padded 32 c.args.ident.now (omega (arith, c.requires.ident))) in
    laid_one 0x203 32 40 (take 8 c.put_header.new.out) (padded 32 c.args.ident.now) c.put_field.new.out c.put_header.ensures c.put_field.ensures size len
