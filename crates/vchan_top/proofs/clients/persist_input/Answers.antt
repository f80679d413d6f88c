use Rattle.std.proofs.Common.{ℕ, List, subst}
use Rattle.vchan_persist.specs.Epochs.{AreEpochs}
use Rattle.vchan_top.proofs.clients.persist_input.Goals as goal

pub returns-in-Ok-tell-clause-prints : goal.returns-in-Ok-tell-clause-prints
returns-in-Ok-tell-clause-prints g c =
    let orders = c.small_orders.result in
    let clients = c.in-Ok.clients.items in
    let dones = c.in-Ok-serve_clients.dones.items in
    let served : List ℕ → Type 0 = λ name. AreEpochs name (record { orders = orders; start = 0 }) 1 clients dones in
    record {
      orders = orders;
      orders_are = c.small_orders.ensures;
      clients = clients;
      reads = c.in-Ok.ensures.clients;
      dones = dones;
      epochs = subst served c.bytes.ensures.bytes c.in-Ok-serve_clients.ensures;
      pages_are = c.in-Ok-tell.ensures.pages;
      prints = c.in-Ok-tell.ensures.text;
    }
