use Rattle.std.proofs.Common.{◌≡◌, ◌+◌, ◌-◌, ◌<◌, ◌∙◌, length, replicate, sym, arith}
use Rattle.std.proofs.lemmas.List.{length-replicate, get_or-replicate}
use Rattle.ram_disk.specs.Sector.{filled_with}
use Rattle.ram_disk.proofs.SectorBytes.{IsSector-filled_with}
use Rattle.ram_disk.proofs.Pasted.{one_more}
use Rattle.ram_disk.proofs.disk.fill.Goals as goal

pub loop-place-preserved : goal.loop-place-preserved
loop-place-preserved c =
    let count = c.args.count in
    let sector = filled_with c.args.byte in
    let done = c.loop-place.place - c.args.start in
    let few : done < count = omega (arith, c.loop-place-test.true, c.loop-place.invariant.from) in
    let size = length-replicate count sector in
    let one : c.loop-place.place + 1 - c.args.start ≡ done + 1 = omega (arith, c.loop-place.invariant.from) in
    record {
      from = omega (arith, c.loop-place.invariant.from);
      written = rw one
          (one_more c.args.kept.now.items c.loop-place.kept.items (replicate count sector) c.args.start done c.loop-place.place c.filled.result c.loop-place.invariant.written
          (omega (arith, c.loop-place.invariant.from)) (omega (arith, few, c.requires, c.args.kept.now.ok.0)) (omega (arith, few, size)) (c.filled.ensures ∙ sym (get_or-replicate count done sector c.filled.result few)));
    }

pub returns-clause-whole : goal.returns-clause-whole
returns-clause-whole c = IsSector-filled_with c.args.byte (omega arith)
