use Rattle.std.proofs.Common.{rules, ◌≡◌, ◌+◌, ◌++◌, [], ◌∷◌, length, take, arith, length-append}
use Rattle.qrexec_frame.specs.Texts.{padded, ended}
use Rattle.qrexec_frame.proofs.WrittenLaws.{length_padded}
use Rattle.qrexec_c.proofs.PutLaws.{laid_three}
use Rattle.qrexec_c.proofs.put.lay_trigger3.Goals as goal

pub returns : goal.returns
returns c =
    let size : length c.put_ended.new.out ≡ 104 + (length c.args.service.now + 1) = search rules in
    let target = length_padded 64 c.args.target.now (omega (arith, c.requires.target)) in
    let ident = length_padded 32 c.args.ident.now (omega (arith, c.requires.ident)) in
    let all = length-append (padded 64 c.args.target.now) (padded 32 c.args.ident.now ++ ended c.args.service.now) in
    let rest = length-append (padded 32 c.args.ident.now) (ended c.args.service.now) in
    let len : 97 + length c.args.service.now ≡ length (padded 64 c.args.target.now ++ (padded 32 c.args.ident.now ++ ended c.args.service.now))
    = omega (arith, target, ident, all, rest, length-append c.args.service.now (0 ∷ [])) in
    laid_three 0x212 (97 + length c.args.service.now) (104 + (length c.args.service.now + 1)) (take 8 c.put_header.new.out) (padded 64 c.args.target.now) (padded 32 c.args.ident.now) (ended c.args.service.now)
    (take 72 c.put_field.new.out) (take 104 c.put_field-2.new.out) c.put_ended.new.out c.put_header.ensures c.put_field.ensures c.put_field-2.ensures c.put_ended.ensures size len
