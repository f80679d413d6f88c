use Rattle.std.proofs.Common.{◌-◌, refl, arith}
use Rattle.std.proofs.lemmas.Option.{slice_get_read}
use Rattle.run_pages.proofs.DealLaws.{gives_set, orders_set}
use Rattle.run_pages.proofs.deal.Dealt.give.Goals as goal

pub returns-clause-gives : goal.returns-clause-gives
returns-clause-gives c =
    gives_set c.args.self.now.hands.items c.args.number c.index_mut.result.now (record { control = c.index_mut.result.now.control; payload = c.push.new.self }) c.args.end c.requires.0
    (slice_get_read c.args.self.now.hands.items _ (c.args.number - 1) c.index_mut.result.now refl (omega (arith, c.requires)) c.index_mut.ensures.value) refl c.in_ok-push.ensures.items

pub returns-clause-orders : goal.returns-clause-orders
returns-clause-orders c = λ s fits ordered.
    orders_set s c.args.self.now.hands.items c.args.number c.index_mut.result.now (record { control = c.index_mut.result.now.control; payload = c.push.new.self }) c.args.end c.requires.0
    (slice_get_read c.args.self.now.hands.items _ (c.args.number - 1) c.index_mut.result.now refl (omega (arith, c.requires)) c.index_mut.ensures.value) refl c.in_ok-push.ensures.items fits ordered
