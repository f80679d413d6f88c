use Rattle.std.proofs.Common.{◌≡◌, ℕ, ◌+◌, List, [], ◌∷◌, ◌++◌, length, codes, sym, subst}
use Rattle.qrexec_frame.specs.Lines.{shown_bytes}
use Rattle.run_report.specs.Lines.{spaced}
use Rattle.vchan_relay.specs.Runs.{HasRelayed}
use Rattle.vchan_top.specs.Relays.{even_lines}
use Rattle.vchan_top.proofs.RelayLaws.{prints_relayed}
use Rattle.vchan_top.proofs.channels.relay_input.Goals as goal

pub returns : goal.returns
returns g c =
    let hops = c.args.hops in
    let text = c.in_ok-text.text.items in
    let relayed = subst (HasRelayed hops (record { orders = c.small_orders.result; start = 0 }) c.args.input.items) (sym c.got.view_is) c.in_ok-got.ensures in
    let prints = subst (λ (bytes : List ℕ). text ≡ even_lines (length bytes) (hops + 1) ++ (codes "bytes" ++ (spaced (shown_bytes bytes ∷ []) ++ 10 ∷ []))) c.slice.ensures c.in_ok-text.ensures in
    prints_relayed hops c.small_orders.result c.args.input.items text c.got.inside.got c.got.inside.pages.items c.got.inside.joints.items c.small_orders.ensures relayed prints
