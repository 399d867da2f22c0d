use Rattle.std.proofs.Common.{ap, ◌∙◌, ◌<◌, length, replicate, arith}
use Rattle.std.proofs.lemmas.Result.{IfOk-weaker}
use Rattle.std.proofs.lemmas.List.Elements.{All-same, All-from_get_or}
use Rattle.ram_disk.specs.Sector.{IsSector, bytes_of}
use Rattle.ram_disk.specs.Pattern.{pattern_sectors}
use Rattle.ram_disk.proofs.PatternSectors.{bytes_of-pattern_sectors, replicate-pattern_sectors, length-pattern_sectors, All-pattern_sectors}
use Rattle.ram_disk.proofs.pattern.patterned.Goals as goal

pub returns-in_ok-vec-in-Some-clause-bytes : goal.returns-in_ok-vec-in-Some-clause-bytes
returns-in_ok-vec-in-Some-clause-bytes c =
    let made = c.in_ok-vec-in-Some.ensures.items_if_clones_equal (λ y e. e) in
    ap bytes_of (made ∙ ap (λ s. replicate c.args.count s) c.filled-sector.ensures ∙ replicate-pattern_sectors c.args.pattern.now c.in-Some.byte c.args.count c.requires.within.0 c.in-Some.ensures)
    ∙ bytes_of-pattern_sectors c.args.pattern.now c.args.count

pub returns-in-None-clause-bytes : goal.returns-in-None-clause-bytes
returns-in-None-clause-bytes c =
    IfOk-weaker c.tiled.result _ _ (λ made is. ap bytes_of is ∙ bytes_of-pattern_sectors c.args.pattern.now c.args.count) c.tiled.ensures.ok

pub returns-in-None-clause-count : goal.returns-in-None-clause-count
returns-in-None-clause-count c =
    IfOk-weaker c.tiled.result _ _ (λ made is. ap length is ∙ length-pattern_sectors c.args.pattern.now c.args.count) c.tiled.ensures.ok

pub returns-in-None-clause-sectors : goal.returns-in-None-clause-sectors
returns-in-None-clause-sectors c =
    IfOk-weaker c.tiled.result _ _ (λ made is. All-same IsSector made.items (pattern_sectors c.args.pattern.now c.args.count) is (All-pattern_sectors c.args.pattern.now c.args.count (All-from_get_or (λ byte. byte < 256) c.args.pattern.now 0 (λ i below. omega (arith, c.type_inv.pattern i))) c.requires.within.0)) c.tiled.ensures.ok

pub returns-in_ok-vec-in-Some-clause-made : goal.returns-in_ok-vec-in-Some-clause-made
returns-in_ok-vec-in-Some-clause-made c =
    let made = c.in_ok-vec-in-Some.ensures.items_if_clones_equal (λ y e. e) in
    made ∙ ap (λ s. replicate c.args.count s) c.filled-sector.ensures ∙ replicate-pattern_sectors c.args.pattern.now c.in-Some.byte c.args.count c.requires.within.0 c.in-Some.ensures
