use Rattle.std.proofs.Common.{◌-◌, ◌∙◌, ap, arith, ◌≡◌, ◌≤◌, ◌+◌, List, ℕ, length, take, drop, sym, subst}
use Rattle.qrexec_frame.specs.Texts.{field_text}
use Rattle.qrexec_c.proofs.Places.{field_at, field_short}
use Rattle.qrexec_c.proofs.found.field.Goals as goal

pub returns : goal.returns
returns c =
    let P : List ℕ → Type 0 = λ t. take (length t) (drop (8 + c.args.start) c.args.bytes.now) ≡ field_text c.args.start c.args.size (take c.args.len (drop 8 c.args.bytes.now)) in
    let same : (8 + c.args.len) - 8 ≡ c.args.len = omega arith in
    let is : c.field_bytes-text.result.now ≡ field_text c.args.start c.args.size (take c.args.len (drop 8 c.args.bytes.now))
    = c.field_bytes-text.ensures ∙ ap (λ n. field_text c.args.start c.args.size (take n (drop 8 c.args.bytes.now))) same in
    let most = field_short c.args.start c.args.size (take c.args.len (drop 8 c.args.bytes.now)) in
    let len : length c.field_bytes-text.result.now ≡ length (field_text c.args.start c.args.size (take c.args.len (drop 8 c.args.bytes.now))) = ap (λ t. length t) is in
    record {
      within = omega (arith, most, len, c.requires.there, c.requires.within, c.requires.some);
      text_is = subst P (sym is) (field_at c.args.bytes.now c.args.len c.args.start c.args.size c.requires.within);
    }
