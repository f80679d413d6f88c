use Rattle.vchan_c.proofs.StretchLaws.{puts_lead, takes_lead}
use Rattle.vchan_c.proofs.stretch.pass_bytes.Goals as goal

pub returns-in-Puts-clause-events : goal.returns-in-Puts-clause-events
returns-in-Puts-clause-events c = λ values. puts_lead _ _ c.in-Puts.span c.bytes_of-bytes.result c.in-Puts.ensures c.bytes_of-bytes.ensures c.put_to.ensures

pub returns-in-Takes-clause-events : goal.returns-in-Takes-clause-events
returns-in-Takes-clause-events c = λ values. takes_lead values _ _ c.in-Takes.span c.bytes_of-bytes-in-Takes.result c.in-Takes.ensures c.bytes_of-bytes-in-Takes.ensures c.take_to.ensures
