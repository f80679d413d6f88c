use Rattle.std.proofs.Common.{◌≡◌, List, ℕ, [], ◌++◌, ◌∙◌, ap, append_assoc, w32}
use Rattle.std.proofs.lemmas.Int.{to_z-of_z}
use Rattle.std.proofs.lemmas.Result.{on_ok_weaker}
use Rattle.qrexec_frame.specs.Messages.{written}
use Rattle.qrexec_frame.specs.declared.message.Message.TheVariants.{Stdout, Stderr, ExitCode}
use Rattle.qrexec_data.proofs.answering.pack_end.Goals as goal

-- three messages after others
three : (w out err code one two all : List ℕ) → one ≡ w ++ out → two ≡ one ++ err → all ≡ two ++ code → all ≡ w ++ (out ++ (err ++ code))
three w out err code one two all a b c =
    c ∙ ap (λ x. x ++ code) (b ∙ ap (λ x. x ++ err) a) ∙ append_assoc (w ++ out) err code ∙ append_assoc w out (err ++ code)

pub returns : goal.returns
returns c =
    on_ok_weaker c.put_code.result (λ is. three c.args.waiting.now (written (Stdout [])) (written (Stderr [])) (written (ExitCode c.args.code)) c.put_data.new.self c.put_data-2.new.self c.put_code.new.self
    c.in_ok-put_data.ensures.ok c.in_ok-put_data-2.ensures.ok (is ∙ ap (λ n. c.put_data-2.new.self ++ written (ExitCode n)) (to_z-of_z w32 c.args.code c.ranges.code))) c.put_code.ensures
