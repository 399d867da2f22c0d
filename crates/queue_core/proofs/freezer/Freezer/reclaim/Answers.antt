use Rattle.std.proofs.Common.{rules, ◌≡◌, Option, Some, subst}
use Rattle.percpu_gate.specs.Seats.{GateFacts}
use Rattle.bias_lanes.specs.declared.views.Part.TheVariants.{OfFreezer}
use Rattle.bias_lanes.specs.Seats.{TakesIfParked}
use Rattle.queue_core.specs.Biased.{Fits}
use Rattle.queue_core.specs.declared.parked.ParkedPass.{ParkedPass}
use Rattle.queue_core.proofs.Dropping.{puts_last}
use Rattle.queue_core.proofs.freezer.Freezer.reclaim.Goals as goal

pub returns-clause-last : goal.returns-clause-last
returns-clause-last c last =
    let key : c.look.new.self.lanes.key ≡ c.args.queue.now.gate = search rules in
    let found = subst (λ (o : Option ParkedPass). TakesIfParked Fits (record { key = c.look.new.self.lanes.key; part = OfFreezer c.look.new.self.view }) c.args.lane o) c.in-Some.is c.reclaim.ensures.found in
    record {
      lane = c.args.lane;
      there = c.requires.there;
      freezer = c.look.new.self.view;
      parked = c.in-Some.parked;
      taken = subst (λ (k : GateFacts). TakesIfParked Fits (record { key = k; part = OfFreezer c.look.new.self.view }) c.args.lane (Some c.in-Some.parked)) key found;
      steps = c.put_once-put.new.pass.steps;
      put = puts_last _ _ _ _ c.put_once-put.ensures.puts last;
    }
