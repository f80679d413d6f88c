use Rattle.std.proofs.Common.{rules, ◌≡◌, ◌++◌, length, take, arith, length-append}
use Rattle.qrexec_frame.specs.Texts.{padded}
use Rattle.qrexec_frame.proofs.WrittenLaws.{length_padded}
use Rattle.qrexec_c.proofs.PutLaws.{laid_three}
use Rattle.qrexec_c.proofs.put.lay_trigger.Goals as goal

pub returns : goal.returns
returns c =
    let size : length c.put_field-3.new.out ≡ 136 = search rules in
    let service = length_padded 64 c.args.service.now (omega (arith, c.requires.service)) in
    let target = length_padded 32 c.args.target.now (omega (arith, c.requires.target)) in
    let ident = length_padded 32 c.args.ident.now (omega (arith, c.requires.ident)) in
    let all = length-append (padded 64 c.args.service.now) (padded 32 c.args.target.now ++ padded 32 c.args.ident.now) in
    let rest = length-append (padded 32 c.args.target.now) (padded 32 c.args.ident.now) in
    let len : 128 ≡ length (padded 64 c.args.service.now ++ (padded 32 c.args.target.now ++ padded 32 c.args.ident.now)) = omega (arith, service, target, ident, all, rest) in
    laid_three 0x210 128 136 (take 8 c.put_header.new.out) (padded 64 c.args.service.now) (padded 32 c.args.target.now) (padded 32 c.args.ident.now)
    (take 72 c.put_field.new.out) (take 104 c.put_field-2.new.out) c.put_field-3.new.out c.put_header.ensures c.put_field.ensures c.put_field-2.ensures c.put_field-3.ensures size len
