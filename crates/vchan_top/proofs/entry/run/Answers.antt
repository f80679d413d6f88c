use Rattle.std.proofs.Common.{map, string_bytes, sym, ◌∙◌}
use Rattle.vchan_top.proofs.Endings.{bad_words_end, no_command}
use Rattle.vchan_top.proofs.entry.run.Goals as goal

pub returns-in_default : goal.returns-in_default
returns-in_default g c =
    let none = sym c.command_in.ensures.command ∙ no_command _ (λ command is. c.in_default.not-Some command is) in
    rw c.of.ensures (bad_words_end (map string_bytes c.args.words.now) (g.S.Source.left c.args.source.now) (g.S.Source.faults c.args.source.now) (g.K.Sink.held c.args.out.now) (g.K.Sink.faults c.args.out.now) none)
