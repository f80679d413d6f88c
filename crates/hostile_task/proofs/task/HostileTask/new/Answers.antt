-- A task begins with its ends turned over.
use Rattle.std.proofs.Common.{◌%◌, List, refl, sym, subst, ap, arith}
use Rattle.std.proofs.lemmas.Slice.Zip.{AllZip-long}
use Rattle.list_laws.proofs.Each.{each_weaker}
use Rattle.task_duties.specs.declared.place.PagePlace.{PagePlace}
use Rattle.hostile_task.specs.declared.progress.Progress.{Progress}
use Rattle.hostile_task.specs.Plan.{IsDataOf, plan_of}
use Rattle.hostile_task.specs.Pages.{IsDataTurnedOver, IsLaid}
use Rattle.hostile_task.specs.UnderWay.{IsUnderWay}
use Rattle.hostile_task.proofs.TurnLaws.{has_done}
use Rattle.hostile_task.proofs.WayLaws.{with_control}
use Rattle.hostile_task.proofs.StartLaws.{start_way, start_places, start_given}
use Rattle.hostile_task.proofs.task.HostileTask.new.Goals as goal

pub invariant_of-result : goal.invariant_of-result
invariant_of-result c = (
  subst (λ (p : Progress). IsUnderWay c.args.domain (with_control c.turn-pages.result c.load.new.self) p c.new.result.items) (sym c.start.ensures)
      (start_way c.args.domain c.args.control c.args.payload.items c.turn-pages.result c.load.new.self c.load.result (c.load.result % 4294967296) c.new.result.items
      c.turn-pages.ensures.control c.turn-pages.ensures.payload c.requires.control c.requires.payload c.requires.apart c.load.ensures.page c.load.ensures.side refl),
  c.in-Ok.ensures.items,
  omega (arith, AllZip-long IsDataTurnedOver c.args.payload.items c.turn-pages.result.payload.items c.turn-pages.ensures.payload, c.in-Ok.ensures.capacity, c.len.ensures, c.args.payload.ok.0),
)

pub returns-clause-plan : goal.returns-clause-plan
returns-clause-plan c =
    ap (λ (places : List PagePlace). plan_of c.args.domain places) (start_places c.args.domain c.args.control c.args.payload.items c.turn-pages.result c.turn-pages.ensures.control c.turn-pages.ensures.payload)

pub returns-clause-ends : goal.returns-clause-ends
returns-clause-ends c = start_given c.args.domain c.args.control c.args.payload.items c.turn-pages.result c.turn-pages.ensures.control c.turn-pages.ensures.payload

pub returns-clause-first : goal.returns-clause-first
returns-clause-first c = (
  ap (λ (p : Progress). p.acts) c.start.ensures,
  ap (λ (p : Progress). p.turns) c.start.ensures,
  has_done c.args.domain (with_control c.turn-pages.result c.load.new.self) c.start.result c.new.result.items (invariant_of-result c).0,
)

pub turn-pages-requires-clause-laid : goal.turn-pages-requires-clause-laid
turn-pages-requires-clause-laid c = each_weaker (IsDataOf c.args.domain) IsLaid (λ d fits. (fits.end, fits.laid)) c.args.payload.items c.requires.payload
