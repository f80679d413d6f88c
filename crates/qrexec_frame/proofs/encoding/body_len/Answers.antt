use Rattle.std.proofs.Common.{ap, sym, ◌∙◌, ◌+◌, length}
use Rattle.qrexec_frame.proofs.WrittenLaws.{size_of, has_size}
use Rattle.qrexec_frame.proofs.encoding.body_len.Goals as goal

pub returns-in-Connect-clause-len : goal.returns-in-Connect-clause-len
returns-in-Connect-clause-len c = sym (has_size c.args.message.now c.requires ∙ ap size_of c.in-Connect.is)

pub returns-in-Refused-clause-len : goal.returns-in-Refused-clause-len
returns-in-Refused-clause-len c = sym (has_size c.args.message.now c.requires ∙ ap size_of c.in-Refused.is)

pub returns-in-Trigger-clause-len : goal.returns-in-Trigger-clause-len
returns-in-Trigger-clause-len c = sym (has_size c.args.message.now c.requires ∙ ap size_of c.in-Trigger.is)

pub returns-in-Exec-clause-len : goal.returns-in-Exec-clause-len
returns-in-Exec-clause-len c = ap (λ text. 9 + length text) c.bytes.ensures.bytes ∙ sym (has_size c.args.message.now c.requires ∙ ap size_of c.in-Exec.is)

pub returns-in-JustExec-clause-len : goal.returns-in-JustExec-clause-len
returns-in-JustExec-clause-len c = ap (λ text. 9 + length text) c.bytes-in-JustExec.ensures.bytes ∙ sym (has_size c.args.message.now c.requires ∙ ap size_of c.in-JustExec.is)

pub returns-in-Trigger3-clause-len : goal.returns-in-Trigger3-clause-len
returns-in-Trigger3-clause-len c = ap (λ text. 97 + length text) c.bytes-in-Trigger3.ensures.bytes ∙ sym (has_size c.args.message.now c.requires ∙ ap size_of c.in-Trigger3.is)
