use Rattle.bias_lanes.proofs.Moments.{out_stays_out}
use Rattle.bias_lanes.proofs.laws.out_stays_out.Goals as goal

pub returns : goal.returns
returns g c = out_stays_out g.T.Reference.fits
