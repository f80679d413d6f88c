use Rattle.std.proofs.Common.{ap, ◌∙◌, ℕ, eqb}
use Rattle.script_words.proofs.FirstWord.{first_word, left_behind, no_byte, only_word}
use Rattle.script_words.proofs.words.WordsOfLine.behind.Goals as goal

pub returns-in_default : goal.returns-in_default
returns-in_default c =
    let found = c.in_ok-behind.ensures.cases in
    left_behind c.args.self.now c.in_ok-self.field-0 c.in_ok-self.was
    ∙ only_word (λ b. eqb b 32) c.in_ok-self.field-0.now c.args.word.now c.in_ok-behind.behind.now c.requires.spaceless found.0 found.1 (no_byte c.in_ok-behind.behind.now c.in_default.ensures.cases)

pub returns-then-first-eq32 : goal.returns-then-first-eq32
returns-then-first-eq32 c =
    let found = c.in_ok-behind.ensures.cases in
    left_behind c.args.self.now c.in_ok-self.field-0 c.in_ok-self.was
    ∙ first_word (λ b. eqb b 32) c.in_ok-self.field-0.now c.args.word.now c.in_ok-behind.behind.now c.in-Some.rest.now c.in-Some.first.now c.requires.spaceless found.0 found.1 c.in-Some.ensures.cases.0 (ap (λ (b : ℕ). eqb b 32) c.if-first-eq32.true)
