use Rattle.std.proofs.Common.{◌≡◌, ◌+◌, ◌<◌, ◌∙◌, length, get_or, subst, arith}
use Rattle.std.proofs.lemmas.Iterator.Adapters.{YieldsList-from_vec}
use Rattle.std.proofs.lemmas.Iterator.Consumers.{YieldsList-turn}
use Rattle.std.proofs.lemmas.List.{length_push}
use Rattle.std.proofs.lemmas.List.Elements.{All-more}
use Rattle.ram_disk.specs.Sector.{IsSector}
use Rattle.ram_disk.proofs.Pasted.{one_more}
use Rattle.ram_disk.proofs.disk.replace.Goals as goal

pub loop-sector-preserved : goal.loop-sector-preserved
loop-sector-preserved c =
    let given = c.into_iter-sector-iterator.ensures.into_iter_gives in
    let t : (length c.loop-sector.yielded < length c.args.sectors.items) × (c.in-Some.sector ≡ get_or c.args.sectors.items (length c.loop-sector.yielded) c.in-Some.sector) =
    YieldsList-turn (YieldsList-from_vec {s = c.into_iter-sector-iterator.result} c.args.sectors.items given.0 (given.1 ∙ c.args.sectors.ok.0)) c.loop-sector.yielded c.loop-sector.sector-iterator c.loop-sector.yielded_by c.next.result c.next.new.self c.in-Some.sector c.in-Some.is c.next.ensures.steps in
    let within : c.args.start + length c.loop-sector.yielded < length c.args.kept.now.items = omega (arith, c.args.sectors.ok.0, c.args.kept.now.ok.0, t.0) in
    let count = length_push c.loop-sector.yielded c.in-Some.sector in
    record {
      at = omega arith;
      written = rw count (one_more c.args.kept.now.items c.loop-sector.kept.items c.args.sectors.items c.args.start (length c.loop-sector.yielded) c.loop-sector.place c.in-Some.sector c.loop-sector.invariant.written c.loop-sector.invariant.at within t.0 t.1);
      whole = rw count (All-more IsSector c.args.sectors.items (length c.loop-sector.yielded) c.in-Some.sector t.0 c.loop-sector.invariant.whole (subst IsSector t.1 c.bytes-whole.ensures.sector));
    }
