-- A settled page of two honest ends passed bytes.
use Rattle.std.proofs.Common.{◌≡◌, ◌∙◌, ℕ, List, subst, ap}
use Rattle.list_laws.specs.Lists.{IsPrefixOf}
use Rattle.ring_words.specs.declared.page.Role.TheVariants.{Client}
use Rattle.end_view.specs.Settled.{Settled, IsSettled}
use Rattle.vchan_rule.specs.Seated.{PageView, SeatedSide, settled_page}
use Rattle.ring_example.specs.declared.sides.Received.{Received}
use Rattle.ring_example.specs.Sides.{HasPassed, HasReceived}
use Rattle.vchan_lifecycle.specs.Ended.{IsEndOf}

pub passed : (page : PageView) (received : Received) (client : SeatedSide) (s : Settled) → s ≡ settled_page page received.end client
    → HasReceived page received → IsEndOf page.table Client client → IsSettled s → HasPassed received.bytes.items s
passed page received client s is heard sent settled =
    let got : s.server.got ≡ received.bytes.items = ap (λ (p : Settled). p.server.got) is ∙ heard.got in
    let server : s.server.turned ≡ _ = ap (λ (p : Settled). p.server.turned) is ∙ heard.end.honest in
    let client : s.client.turned ≡ _ = ap (λ (p : Settled). p.client.turned) is ∙ sent.honest in
    record { settled = settled; got = got; begins = subst (λ (xs : List ℕ). IsPrefixOf xs s.client.sent) got (settled.honest server client).left.in_order }
