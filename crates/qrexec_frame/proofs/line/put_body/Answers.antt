use Rattle.std.proofs.Common.{◌≡◌, ◌∙◌, ap, sym, ◌++◌}
use Rattle.std.proofs.lemmas.List.{append-nil}
use Rattle.std.proofs.lemmas.Result.{on_ok_weaker}
use Rattle.qrexec_frame.specs.declared.kind.Kind.TheVariants as kind
use Rattle.qrexec_frame.specs.declared.message.Message.TheVariants.{Terminated}
use Rattle.qrexec_frame.specs.Fronts.{made}
use Rattle.qrexec_frame.specs.Grammar.{number_at}
use Rattle.qrexec_frame.specs.Lines.{line_of, head_of}
use Rattle.qrexec_frame.proofs.line.put_body.Goals as goal

pub returns-in-Terminated-clause-ok : goal.returns-in-Terminated-clause-ok
returns-in-Terminated-clause-ok c =
    let same : c.args.kind ≡ kind.Terminated = c.in-Terminated.is in
    let bytes = c.args.bytes.now in
    let domain = c.u32_at-in-Terminated.result in
    let port = c.u32_at-in-Terminated-2.result in
    let line : head_of (Terminated domain port) ≡ line_of (Terminated domain port) = sym (append-nil (head_of (Terminated domain port))) in
    let numbers : line_of (Terminated domain port) ≡ line_of (Terminated (number_at 0 bytes) (number_at 4 bytes))
    = ap (λ n. line_of (Terminated n port)) c.u32_at-in-Terminated.ensures ∙ ap (λ n. line_of (Terminated (number_at 0 bytes) n)) c.u32_at-in-Terminated-2.ensures in
    on_ok_weaker c.put_terminated.result (λ is. is ∙ ap (λ text. c.args.out.now.items ++ text) (line ∙ numbers ∙ ap (λ k. line_of (made k bytes)) (sym same))) c.put_terminated.ensures.ok
