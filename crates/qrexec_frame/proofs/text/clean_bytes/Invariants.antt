use Rattle.std.proofs.Common.{◌≡◌, take}
use Rattle.qrexec_frame.specs.Names.{cleaned}
use Rattle.qrexec_frame.proofs.text.clean_bytes.Given as goal

abbrev pub invariant-loop-byte : goal.invariant-loop-byte
invariant-loop-byte l = l.clean.items ≡ cleaned l.letters (take l.byte-index l.bytes)
