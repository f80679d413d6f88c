-- Each end is signalled in its turn, and the others are still as they were.
use Rattle.std.proofs.Common.{◌≡◌, List, [], ◌∷◌, length, map, ap, ◌∙◌, arith}
use Rattle.list_laws.proofs.Each.{map_each, each_weaker}
use Rattle.ring_words.specs.declared.page.Role.{Role}
use Rattle.vchan_protocol.specs.Table.Ends.{peer_pending}
use Rattle.task_duties.specs.Hostile.Stores.{stored, role_at}
use Rattle.hostile_task.specs.Pages.{after_events}
use Rattle.hostile_task.specs.declared.page.TurnedPage.{TurnedPage}
use Rattle.hostile_task.proofs.ListLaws.{written_back, map_first_all, map_more}
use Rattle.hostile_task.proofs.pages.Pages.signal.Goals as goal

signalled : Role → TurnedPage → TurnedPage
signalled role p = after_events p (stored (peer_pending role) 1 ∷ [])

pub loop-payload-preserved : goal.loop-payload-preserved
loop-payload-preserved c =
    map_more (λ (p : TurnedPage). after_events p (stored (peer_pending p.end.side.role) 1 ∷ [])) c.loop-payload.payload-index c.deref_mut-payload-items.result.now c.loop-payload.payload-items c.payload-item.result c.signal-in-loop-payload.new.self
    c.loop-payload.invariant (omega arith) c.signal-in-loop-payload.ensures

pub returns : goal.returns
unfolding signalled
returns c domain roles =
    let change = λ (p : TurnedPage). signalled p.end.side.role p in
    let wanted = λ (p : TurnedPage). signalled (role_at domain p.place) p in
    record {
      control = c.signal.ensures ∙ ap (λ (r : Role). signalled r c.args.self.now.control) roles.0;
      payload =
          written_back c.args.self.now.payload.len c.loop-payload.payload-items c.args.self.now.payload.items (omega (arith, c.args.self.now.payload.ok.0, c.loop-payload.auto.payload-items, ap length c.deref_mut-payload-items.ensures.value))
          ∙ c.loop-payload.invariant ∙ map_first_all change c.loop-payload.payload-index c.deref_mut-payload-items.result.now (omega arith)
          ∙ ap (λ (ps : List TurnedPage). map change ps) c.deref_mut-payload-items.ensures.value
          ∙ map_each change wanted c.args.self.now.payload.items
          (each_weaker (λ p. p.end.side.role ≡ role_at domain p.place) (λ p. change p ≡ wanted p) (λ p is. ap (λ (r : Role). signalled r p) is) c.args.self.now.payload.items roles.1);
    }
