-- How a run ends that has nothing to do.
use Rattle.std.proofs.Common.{◌≡◌, ℕ, ◌<◌, List, [], Option, Some, None, refl, arith}
use Rattle.vchan_io.proofs.Streaming.{Takes_none}
use Rattle.vchan_top.specs.declared.command.Command.{Command}
use Rattle.vchan_top.specs.declared.status.Status.TheVariants.{BadWords, TooLong}
use Rattle.vchan_top.specs.Command.{command_of}
use Rattle.vchan_top.specs.Top.{IsRun, greatest_input}

-- an answer that is no value is `None`
pub no_command : (answer : Option Command) → ((command : Command) → answer ≡ Some command → ⊥) → answer ≡ None
no_command None never = refl
no_command (Some command) never = absurd (never command refl)

not_too_long : BadWords ≡ TooLong → ⊥
not_too_long is = cc

none_long : greatest_input < 0 → ⊥
none_long long = omega arith

-- words that are no command are bad words, for any source and sink
pub bad_words_end : (words : List (List ℕ)) (left : Option (List ℕ)) (reads : ℕ) (held : Option (List ℕ)) (writes : ℕ) → command_of words ≡ None →
    IsRun words left left reads reads held held writes writes (record { status = BadWords; report = None; settled = [] })
bad_words_end words left reads held writes is = record {
  taken = [];
  takes = Takes_none left;
  unread = λ _. refl;
  bad_words = (λ _. is, λ _. refl);
  too_long = (λ same. absurd (not_too_long same), λ long. absurd (none_long long));
  ends = (refl, refl, refl);
  reads_stay = λ _. refl;
  writes_stay = λ _. refl;
}
