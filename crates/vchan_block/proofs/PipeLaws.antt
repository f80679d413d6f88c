-- What a writer and a reader of a pipe have done, and what holds of their page by that.
use Rattle.std.proofs.Common.{◌≡◌, ◌<◌, ◌+◌, ℕ, List, length, false, sym, subst, ap, ◌∙◌, arith}
use Rattle.std.proofs.lemmas.List.{length-append}
use Rattle.std.proofs.lemmas.Bool.{false_from_ne_true}
use Rattle.vchan_lifecycle.specs.Ended.{GetsAll, IsEndOf, SendsAll}
use Rattle.end_view.specs.Settled.{Settled, IsSettled}
use Rattle.vchan_block.specs.Pipe.{HasPiped}
use Rattle.vchan_rule.specs.Seated.{PageStart, PageView, SeatedSide, began_with, last_view, settled_page, words_of}
use Rattle.ring_words.specs.declared.page.Role.TheVariants.{Server, Client}

-- ---- the page

-- a writer of all bytes and a reader with room for more have brought all through
through : (page : Settled) (words : PageStart) (bytes back : List ℕ) → IsSettled page → began_with page ≡ words → page.client.turned ≡ false → page.server.turned ≡ false →
    SendsAll page.client bytes → GetsAll page.server back (length bytes + 1) → (back ≡ bytes) × HasPiped words bytes page
through page words bytes back settled same client server sends gets =
    let honest = settled.honest server client in
    let long = ap length gets.got in
    let begins = ap length honest.left.in_order.1 in
    let both = length-append page.server.got honest.left.in_order.0 in
    let few = sends.few in
    let shorter : length back < length bytes + 1 = omega (arith, long, begins, both, few) in
    let ended = gets.ended shorter in
    let drained = honest.left.over ended.ended in
    let sent = sends.all honest.client_found (false_from_ne_true page.client.saw (λ saw. honest.not_both ended.saw saw)) in
    let whole : page.server.got ≡ bytes = honest.left.whole drained ∙ sent in (
      sym gets.got ∙ whole,
      record {
        settled = settled;
        words_are = same;
        client_honest = client;
        server_honest = server;
        sent = sent;
        got = whole;
        drained = drained;
      },
    )

pub piped : (page : PageView) (server client : SeatedSide) (s : Settled) (words : PageStart) (bytes back : List ℕ) (room : ℕ) → s ≡ settled_page page server client → words_of page ≡ words → room ≡ length bytes + 1 →
    IsEndOf page.table Server server → IsEndOf page.table Client client → SendsAll (last_view client) bytes → GetsAll (last_view server) back room → IsSettled s → (back ≡ bytes) × HasPiped words bytes s
piped page server client s words bytes back room is same long is_server is_client sends gets settled =
    through s words bytes back settled (ap began_with is ∙ same) (ap (λ (p : Settled). p.client.turned) is ∙ is_client.honest) (ap (λ (p : Settled). p.server.turned) is ∙ is_server.honest)
    (subst (λ (p : Settled). SendsAll p.client bytes) (sym is) sends)
    (subst (λ (p : Settled). GetsAll p.server back (length bytes + 1)) (sym is) (subst (GetsAll (last_view server) back) long gets))
