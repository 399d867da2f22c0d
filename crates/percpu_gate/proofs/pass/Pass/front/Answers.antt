use Rattle.percpu_gate.proofs.Grounds.{front_grows}
use Rattle.percpu_gate.proofs.pass.Pass.front.Goals as goal

pub returns-clause-floor : goal.returns-clause-floor
returns-clause-floor g c = rw (← c.self.view_is) (front_grows _ _ _ c.load_front-self-inside.ensures.step).0

pub returns-clause-greatest : goal.returns-clause-greatest
returns-clause-greatest g c = rw (← c.self.view_is) (front_grows _ _ _ c.load_front-self-inside.ensures.step).1
