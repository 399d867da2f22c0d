use Rattle.bias_lanes.proofs.FreezerSteps.{opens}
use Rattle.bias_lanes.proofs.lanes.Lanes.new.Goals as goal

pub vacant-requires : goal.vacant-requires
vacant-requires g c = opens g.T.Reference.fits _ c.args.lanes _ (rw c.as_slice.ensures.value c.in_ok-words.ensures)
