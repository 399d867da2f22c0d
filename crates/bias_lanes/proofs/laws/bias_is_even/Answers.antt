use Rattle.std.proofs.Common.{sym}
use Rattle.bias_lanes.proofs.Moments.{bias_even, bias_begun}
use Rattle.bias_lanes.proofs.laws.bias_is_even.Goals as goal

pub returns : goal.returns
returns g c v m o there = (bias_even g.T.Reference.fits v m o there, bias_begun g.T.Reference.fits v m o there, sym m.ruled.epoch)
