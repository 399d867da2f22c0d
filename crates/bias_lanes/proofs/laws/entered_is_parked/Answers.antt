use Rattle.bias_lanes.proofs.Moments.{entered_is_parked}
use Rattle.bias_lanes.proofs.laws.entered_is_parked.Goals as goal

pub returns : goal.returns
returns g c = entered_is_parked g.T.Reference.fits
