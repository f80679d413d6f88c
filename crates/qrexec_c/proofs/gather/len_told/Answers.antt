use Rattle.std.proofs.Common.{◌≡◌, [], length, rules, arith}
use Rattle.qrexec_c.proofs.GatherLaws.{number_begun, header_split}
use Rattle.qrexec_c.proofs.gather.len_told.Goals as goal

pub returns-then-got-ge-HEADER : goal.returns-then-got-ge-HEADER
returns-then-got-ge-HEADER c = let begun = number_begun c.args.got c.args.bytes.now c.args.piece.now c.if-got-ge-HEADER.true c.requires.within in cc

pub returns : goal.returns
returns c =
    let size : length c.fill-2.new.bytes ≡ 8 = search rules in
    let whole = header_split c.args.got c.args.bytes.now c.args.piece.now c.fill.new.bytes c.fill-2.new.bytes [] (omega (arith, c.if-got-ge-HEADER.false)) c.requires.there c.requires.within size c.fill.ensures c.fill-2.ensures in
    cc
