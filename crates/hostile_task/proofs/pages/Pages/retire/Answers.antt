-- Each end that retires is the next of the domain's, the control page's first.
use Rattle.std.proofs.Common.{◌≡◌, List, [], ◌∷◌, ◌++◌, subst, sym, ap, ◌∙◌, arith}
use Rattle.std.proofs.lemmas.Grind.{common_steps}
use Rattle.std.specs.List.{AllZip as EachPair}
use Rattle.list_laws.proofs.Pairs.{pairs_push}
use Rattle.task_duties.specs.declared.ends.RetiredEnd.{RetiredEnd}
use Rattle.hostile_task.specs.declared.page.TurnedPage.{TurnedPage}
use Rattle.hostile_task.specs.Pages.{IsRetiredOf}
use Rattle.hostile_task.proofs.pages.Pages.retire.Goals as goal

pub loop-page-init : goal.loop-page-init
loop-page-init c = record {
  left = grind (arith, common_steps);
  room = grind (arith, common_steps);
  pairs = subst (λ (ends : List RetiredEnd). EachPair IsRetiredOf (c.args.self.control ∷ []) ends)
      (sym (c.push_reserved.ensures.items ∙ ap (λ (ends : List RetiredEnd). ends ++ c.retire.result ∷ []) c.requires.empty)) (c.retire.ensures, tt);
}

pub loop-page-preserved : goal.loop-page-preserved
loop-page-preserved c = record {
  left = grind (arith, common_steps);
  room = grind (arith, common_steps);
  pairs = subst (λ (ends : List RetiredEnd). EachPair IsRetiredOf (c.args.self.control ∷ (c.loop-page.yielded ++ c.in-Some.page ∷ [])) ends) (sym c.push_reserved-in-loop-page.ensures.items)
      (pairs_push IsRetiredOf (c.args.self.control ∷ c.loop-page.yielded) c.loop-page.ends.items c.in-Some.page c.retire-in-loop-page.result c.loop-page.invariant.pairs c.retire-in-loop-page.ensures);
}

pub returns : goal.returns
returns c =
    let all : c.loop-page.yielded ≡ c.args.self.payload.items = grind (arith, common_steps) in
    subst (λ (pages : List TurnedPage). EachPair IsRetiredOf (c.args.self.control ∷ pages) c.loop-page.ends.items) all c.loop-page.invariant.pairs
