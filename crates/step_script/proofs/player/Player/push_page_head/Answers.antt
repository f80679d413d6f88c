use Rattle.std.proofs.Common.{◌≡◌, ℕ, List, take, refl, ap, sym, ◌∙◌}
use Rattle.ring_words.specs.declared.order.Orders.{Orders}
use Rattle.ring_words.specs.Image.{image_of}
use Rattle.ring_words.specs.PageWords.{PageWords}
use Rattle.step_script.specs.declared.player.Player.{Player}
use Rattle.step_script.specs.Meaning.Output.{heads}
use Rattle.step_script.specs.Meaning.Played.{line_done, prints}
use Rattle.step_script.specs.Language.Script.{head}
use Rattle.step_script.proofs.Parts.DoesLaws.{on_ok_map}
use Rattle.step_script.proofs.Parts.PlayerLaws.{plays_print}
use Rattle.step_script.proofs.player.Player.push_page_head.Goals as goal

same_words : (page : PageWords) (orders : Orders) (words : List ℕ) → page.orders ≡ orders → page.list ≡ words → page ≡ record { orders = orders; list = words }
same_words page orders words laid held =
    ap (λ (o : Orders). let there : PageWords = record { orders = o; list = page.list } in there) laid ∙ ap (λ (l : List ℕ). let there : PageWords = record { orders = orders; list = l } in there) held

pub returns : goal.returns
returns c =
    let player = c.args.self.now in
    let after : Player = record { page = player.page; ends = player.ends; text = c.push_head.new.out } in
    on_ok_map c.push_head.result c.push_head.ensures
    (plays_print (line_done head) player after (heads (take 24 c.page_image-image.result))
    (λ core stands.
    ap (λ (l : List ℕ). prints core (heads (take 24 l)))
    (sym (c.page_image-image.ensures ∙ ap image_of (same_words c.words.result.now core.orders core.words (c.words.ensures.orders ∙ stands.orders) (c.words.ensures.list ∙ stands.words)))))
    refl refl)
