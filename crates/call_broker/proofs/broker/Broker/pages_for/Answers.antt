use Rattle.std.proofs.Common.{◌≡◌, ◌<◌, ◌*◌, ◌-◌, ◌+◌, ◌&&◌, true, length, map, ap, ◌∙◌, sym, subst, arith}
use Rattle.std.specs.Prelude.{nat_le, vec_len}
use Rattle.std.proofs.lemmas.List.{length-map}
use Rattle.call_broker.specs.declared.index.DomainEntry.{DomainEntry}
use Rattle.call_broker.proofs.AnswerLaws.{page_within}
use Rattle.call_broker.proofs.broker.Broker.pages_for.Goals as goal

pub index-requires : goal.index-requires
index-requires c =
    let n = c.len.result in
    let own : n ≡ length c.self.inside.domains.items = omega (arith, c.len.ensures, c.self.inside.domains.ok.0) in
    let names : length (map (λ (d : DomainEntry). d.name) c.self.inside.domains.items) ≡ n = length-map c.self.inside.domains.items (λ (d : DomainEntry). d.name) ∙ sym own in
    let count : length c.args.self.now.hub.names ≡ n = sym (ap (λ b. length b.hub.names) c.self.view_is) ∙ names in
    let from : (nat_le 1 c.args.from && nat_le c.args.from n) ≡ true = rw count at c.requires.from in
    let to : (nat_le 1 c.args.to && nat_le c.args.to n) ≡ true = rw count at c.requires.to in
    let square : length c.self.inside.pages.items ≡ n * n = c.self.invariant.square ∙ ap (λ k. k * k) names in
    let len : n * n ≡ vec_len c.self.inside.pages = sym square ∙ omega (arith, c.self.inside.pages.ok.0) in
    subst (λ pages. (c.args.from - 1) * n + (c.args.to - 1) < pages) len (page_within n c.args.from c.args.to from to)
