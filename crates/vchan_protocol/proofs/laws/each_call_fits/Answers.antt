use Rattle.vchan_protocol.proofs.Table.Counted.{fits_call}
use Rattle.vchan_protocol.proofs.laws.each_call_fits.Goals as goal

pub returns : goal.returns
returns c = fits_call
