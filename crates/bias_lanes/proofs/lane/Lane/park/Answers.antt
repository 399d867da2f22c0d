use Rattle.std.proofs.Common.{◌≡◌, ◌+◌, ap, subst, arith}
use Rattle.bias_lanes.specs.Seats.{LaneFacts, LoadsEpoch}
use Rattle.bias_lanes.proofs.lane.Lane.park.Goals as goal

pub returns-then-load_epoch-eq1-clause-frozen : goal.returns-then-load_epoch-eq1-clause-frozen
returns-then-load_epoch-eq1-clause-frozen g c = let odd = c.if-load_epoch-eq1.true in let bias = ap (λ (l : LaneFacts _ _). l.view.bias) c.load_epoch.ensures.view in
    let same : c.load_epoch.result ≡ c.load_epoch.new.self.view.bias + 1 = omega arith in
    subst (LoadsEpoch g.T.Reference.fits c.args.self.now) same c.load_epoch.ensures.found

pub returns-clause-loaded : goal.returns-clause-loaded
returns-clause-loaded g c = let even = c.if-load_epoch-eq1.false in let loaded = ap (λ (l : LaneFacts _ _). l.view.bias) c.load_epoch.ensures.view in
    let filled = ap (λ (l : LaneFacts _ _). l.view.bias) c.fill_cell.ensures in let rested = ap (λ (l : LaneFacts _ _). l.view.bias) c.rest.ensures.view in
    let same : c.load_epoch.result ≡ c.rest.new.self.view.bias = omega arith in
    subst (LoadsEpoch g.T.Reference.fits c.args.self.now) same c.load_epoch.ensures.found
