use Rattle.std.proofs.Common.{◌≡◌, ◌∙◌, ap, ℕ, ◌<◌, ◌%◌, ◌+◌, ◌++◌, drop, length, slice_index, slice_set, List, arith}
use Rattle.std.proofs.lemmas.Grind.{common_steps, get_or_default_zero}
use Rattle.ring_words.specs.PageWords.{PageWords}
use Rattle.ring_words.specs.Overwritten.{low_bytes}
use Rattle.ring_words.proofs.OverwrittenLaws.{loaded_more}
use Rattle.ring_words.proofs.words.Words.load_bytes.Goals as goal

pub loop-i-preserved : goal.loop-i-preserved
loop-i-preserved c =
    let within : c.word-first.result + c.loop-i.i < length c.self.inside.list.items = grind (arith, common_steps) in
    let word : c.index.result.now ≡ slice_index c.args.self.now.list (c.word-first.result + c.loop-i.i) =
    c.index.ensures ∙ get_or_default_zero c.self.inside.list.items (c.word-first.result + c.loop-i.i) c.index.result.now within
    ∙ ap (λ (w : PageWords). slice_index w.list (c.word-first.result + c.loop-i.i)) c.self.view_is in
    ap (λ (l : List ℕ). slice_set l c.loop-i.i (c.index.result.now % 256)) c.loop-i.invariant
    ∙ ap (λ (v : ℕ). slice_set (low_bytes c.args.self.now.list c.word-first.result c.loop-i.i ++ drop c.loop-i.i c.args.buf.now) c.loop-i.i (v % 256)) word
    ∙ loaded_more c.args.self.now.list c.args.buf.now c.word-first.result c.loop-i.i c.loop-i-test.true
