use Rattle.std.proofs.Common.{rules}
use Rattle.std.specs.Prelude.{IsTrue}
use Rattle.page_offer.proofs.client.UnlaidClient.finish.Goals as goal

pub take-end-requires-clause-offered : goal.take-end-requires-clause-offered
take-end-requires-clause-offered c =
    let there : IsTrue c.is_offered.result = search (rules, c.if-is_offered.true) in
    c.is_offered.ensures.offered there
