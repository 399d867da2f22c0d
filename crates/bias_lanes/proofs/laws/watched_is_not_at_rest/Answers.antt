use Rattle.bias_lanes.proofs.Moments.{watched_is_not_at_rest}
use Rattle.bias_lanes.proofs.laws.watched_is_not_at_rest.Goals as goal

pub returns : goal.returns
returns g c = watched_is_not_at_rest g.T.Reference.fits
