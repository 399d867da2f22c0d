-- One more event, with its reply.
use Rattle.std.proofs.Common.{arith, refl, ◌∙◌, ◌≡◌, ◌+◌, take, [], ◌∷◌, ◌++◌, get_or, vec_len}
use Rattle.std.proofs.lemmas.List.{take_more}
use Rattle.percpu_core.specs.declared.event.Event.{Event}
use Rattle.percpu_core.specs.declared.event.Event.TheVariants.{Pass}
use Rattle.percpu_core.specs.declared.pass_event.PassEvent.TheVariants.{AddTry}
use Rattle.percpu_core.proofs.Runs.{Run-more}
use Rattle.percpu_core.proofs.schedule.replay.Goals as goal

pub loop-at-preserved : goal.loop-at-preserved
loop-at-preserved c = record {
  run = let first : Event = Pass 0 AddTry in
      let items : c.push.new.self.items ≡ c.loop-at.replies.items ++ c.in-Ok.reply ∷ [] = rw c.unwrap.ensures at c.push.ensures.items in
      let reply = c.in-Ok.ensures.reply in let change = c.in-Ok.ensures.change in
      rw (take_more c.args.events.now c.loop-at.at first c.loop-at-test.true, items, reply, change)
      (Run-more c.args.world.now (take c.loop-at.at c.args.events.now) c.loop-at.replies.items c.loop-at.world (get_or c.args.events.now c.loop-at.at first) c.loop-at.invariant.run (c.in-Ok.ensures.enabled.0 refl));
  sizes = let before = c.loop-at.invariant.sizes in let step = c.in-Ok.ensures.sizes in record { passes = step.passes ∙ before.passes; slots = step.slots ∙ before.slots; words = step.words ∙ before.words };
  count = let len : vec_len c.push.new.self ≡ vec_len c.loop-at.replies + 1 = rw c.unwrap.ensures at c.push.ensures.len in let so_far = c.loop-at.invariant.count in omega arith;
  room = let before = c.loop-at.invariant.room in let grows = c.push.ensures.capacity in omega arith;
}
