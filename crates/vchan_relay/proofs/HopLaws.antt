-- Relays in a row.
use Rattle.std.proofs.Common.{◌≡◌, List, [], ◌∷◌, ◌++◌, ℕ, sym, ap, ◌∙◌, append-nil}
use Rattle.list_laws.specs.Lists.{IsPrefixOf}
use Rattle.list_laws.proofs.Prefixes.{prefix_trans}
use Rattle.vchan_relay.specs.Hops.{RelaysKeepOrder, RelaysPassAll}

pub keep_order : RelaysKeepOrder
keep_order page [] relayed here honest = here.in_order
keep_order page (hop ∷ hops) relayed here honest =
    let sent : IsPrefixOf hop.page.client.sent page.server.got = (hop.held, sym relayed.0) in
    let later = keep_order hop.page hops relayed.1 honest.0 honest.1 in
    prefix_trans _ _ _ later (prefix_trans _ _ _ sent here.in_order)

pub pass_all : RelaysPassAll
pass_all page [] relayed here honest drained all = here.whole drained
pass_all page (hop ∷ hops) relayed here honest drained all =
    let sent : hop.page.client.sent ≡ page.server.got = sym (relayed.0 ∙ ap (λ (bytes : List ℕ). hop.page.client.sent ++ bytes) all.0.1 ∙ append-nil hop.page.client.sent) in
    pass_all hop.page hops relayed.1 honest.0 honest.1 all.0.0 all.1 ∙ sent ∙ here.whole drained
