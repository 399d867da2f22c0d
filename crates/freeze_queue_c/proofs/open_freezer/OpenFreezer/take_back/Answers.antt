use Rattle.std.proofs.Common.{rules, ◌≡◌, sym, ap, ◌∙◌, false}
use Rattle.queue_core.specs.BiasedTags.{in_now, queue_of}
use Rattle.freeze_queue_c.specs.Opened.{FreezerOpened}
use Rattle.freeze_queue_c.proofs.Waiting.{grown, plain_waits}
use Rattle.freeze_queue_c.proofs.open_freezer.OpenFreezer.take_back.Goals as goal

pub invariant_of-self : goal.invariant_of-self
invariant_of-self c =
    let i = c.self.invariant in
    let own : queue_of c.into_tag.result ≡ c.args.self.now.queue = c.into_tag.ensures.own ∙ c.requires.own in
    let here = own ∙ sym (ap (λ (f : FreezerOpened). f.queue) c.self.view_is) in
    let out : in_now c.into_tag.result ≡ false = search rules in
    (i.0, i.1, search rules, grown _ _ _ _ c.push_reserved.ensures.items i.3 (plain_waits _ c.into_tag.result c.in-Ok.plain (search rules) here out), search rules)
