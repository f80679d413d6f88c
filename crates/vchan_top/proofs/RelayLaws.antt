-- The text of a run of relays, through each of whose pages the same bytes went.
use Rattle.std.proofs.Common.{◌≡◌, ℕ, suc, ◌+◌, List, [], ◌∷◌, ◌++◌, length, codes, refl, ap, sym, ◌∙◌, append_assoc, arith}
use Rattle.std.proofs.lemmas.List.{append-nil}
use Rattle.std.specs.List.{AllByRecursion as Each}
use Rattle.ring_words.specs.Rings.{number_of}
use Rattle.ring_words.specs.declared.order.Orders.{Orders}
use Rattle.end_view.specs.Settled.{Settled}
use Rattle.qrexec_frame.specs.Lines.{shown_bytes}
use Rattle.run_report.specs.Lines.{spaced}
use Rattle.vchan_rule.specs.Seated.{PageStart}
use Rattle.vchan_relay.specs.Joints.{JoinedEnds}
use Rattle.vchan_relay.specs.Runs.{HasCarried, HasRelayed}
use Rattle.vchan_top.specs.Prints.{PrintsRelayed}
use Rattle.vchan_top.specs.Relays.{counts_line, even_lines, page_lines}

-- the line of a page through which these bytes went
carried_line : (number : ℕ) (words : PageStart) (bytes : List ℕ) (page : Settled) → HasCarried words bytes page →
    counts_line number (length page.client.sent) (length page.server.got) ≡ counts_line number (length bytes) (length bytes)
carried_line number orders bytes page carried =
    ap (λ sent. counts_line number (length sent) (length page.server.got)) carried.sent ∙ ap (λ got. counts_line number (length bytes) (length got)) carried.got

-- the lines of more pages, after those of `before` others
more_lines : (before : ℕ) (words : PageStart) (bytes : List ℕ) (pages : List Settled) → Each (HasCarried words bytes) pages →
    even_lines (length bytes) before ++ page_lines before pages ≡ even_lines (length bytes) (before + length pages)
more_lines before words bytes [] each =
    let same : before ≡ before + 0 = omega arith in
    append-nil (even_lines (length bytes) before) ∙ ap (even_lines (length bytes)) same
more_lines before words bytes (page ∷ pages) each =
    let even : List ℕ = even_lines (length bytes) before in
    let rest : List ℕ = page_lines (suc before) pages in
    let same : suc before + length pages ≡ before + length (page ∷ pages) = omega arith in
    ap (λ line. even ++ (line ++ rest)) (carried_line (suc before) words bytes page each.0)
    ∙ sym (append_assoc even (counts_line (suc before) (length bytes) (length bytes)) rest)
    ∙ more_lines (suc before) words bytes pages each.1
    ∙ ap (even_lines (length bytes)) same

-- what `relay` prints
pub prints_relayed : (hops : ℕ) (orders : Orders) (input text got : List ℕ) (pages : List Settled) (joints : List JoinedEnds) → (number_of orders.left ≡ 10) × (number_of orders.right ≡ 11) →
    HasRelayed hops (record { orders = orders; start = 0 }) input (record { got = got; pages = pages; joints = joints }) →
    text ≡ even_lines (length got) (hops + 1) ++ (codes "bytes" ++ (spaced (shown_bytes got ∷ []) ++ 10 ∷ [])) → PrintsRelayed hops input text pages
prints_relayed hops orders input text got pages joints small relayed is =
    let tail : List ℕ = codes "bytes" ++ (spaced (shown_bytes input ∷ []) ++ 10 ∷ []) in
    let count : hops + 1 ≡ 0 + length pages = omega (arith, relayed.count) in
    let lines : even_lines (length input) (hops + 1) ≡ page_lines 0 pages =
    ap (even_lines (length input)) count ∙ sym (more_lines 0 (record { orders = orders; start = 0 }) input pages relayed.each) in
    record {
      orders = orders;
      orders_are = small;
      joints = joints;
      relayed = record { got = refl; count = relayed.count; each = relayed.each; joined = relayed.joined };
      prints = is ∙ ap (λ bytes. even_lines (length bytes) (hops + 1) ++ (codes "bytes" ++ (spaced (shown_bytes bytes ∷ []) ++ 10 ∷ []))) relayed.got ∙ ap (λ first. first ++ tail) lines;
    }
