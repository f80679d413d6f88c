use Rattle.std.proofs.Common.{rules, ◌≡◌, ◌++◌, length, take, arith}
use Rattle.qrexec_frame.specs.Messages.{four}
use Rattle.qrexec_frame.specs.Texts.{padded}
use Rattle.qrexec_frame.proofs.WrittenLaws.{length_padded}
use Rattle.qrexec_c.proofs.PutLaws.{laid_three}
use Rattle.qrexec_c.proofs.put.lay_connect.Goals as goal

pub returns : goal.returns
returns c =
    let size : length c.put_field.new.out ≡ 48 = search rules in
    let len : 40 ≡ length (four c.args.domain ++ (four c.args.port ++ padded 32 c.args.ident.now)) = omega (arith, length_padded 32 c.args.ident.now (omega (arith, c.requires.ident))) in
    laid_three 0x202 40 48 (take 8 c.put_header.new.out) (four c.args.domain) (four c.args.port) (padded 32 c.args.ident.now) (take 12 c.put_number.new.out) (take 16 c.put_number-2.new.out) c.put_field.new.out
    c.put_header.ensures c.put_number.ensures c.put_number-2.ensures c.put_field.ensures size len
