use Rattle.std.proofs.Common.{refl, sym, ◌∙◌, subst, if◌then◌else◌}
use Rattle.bias_lanes.specs.declared.views.Stage.TheVariants as stages
use Rattle.queue_core.specs.BiasedTags.{BiasedFacts}
use Rattle.queue_core.specs.BiasedSteps.{ParksAt}
use Rattle.queue_core.proofs.biased.BiasedTag.park.Goals as goal

pub returns-in-Ok-clause-parks : goal.returns-in-Ok-clause-parks
returns-in-Ok-clause-parks c _ = subst (λ (t : BiasedFacts). ParksAt (if c.in-Ok.biased then stages.Idle else stages.Over) c.args.slot t (record { bias = c.park.new.self; pass = c.take.new.self; limits = c.self.inside.limits; hardware = c.self.inside.hardware })) c.self.view_is (record {
  pass = c.in-Some.pass;
  parked = record { pass = c.in-Some.pass; slot = c.args.slot };
  is = sym c.take.ensures.value ∙ c.in-Some.is;
  as_it_is = (refl, refl);
  leaves = λ i. record { bias = c.in-Ok.ensures.parked i; pass = c.take.ensures.after i; limits = c.self.inside.limits; hardware = c.self.inside.hardware };
})
