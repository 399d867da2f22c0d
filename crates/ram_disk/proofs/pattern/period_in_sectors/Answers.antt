use Rattle.std.proofs.Common.{◌≡◌, ℕ, ◌*◌, ◌%◌, Option, Some, None, IfSome, rules, ◌∙◌, ap}
use Rattle.std.specs.Option.{unwrap_or}
use Rattle.std.proofs.iter.runs.Sources.{ranges}
use Rattle.std.proofs.Math.Nat.{mul-mod_right}
use Rattle.ram_disk.specs.declared.sector.TheConstants.{SECTOR_BYTES}
use Rattle.ram_disk.proofs.pattern.period_in_sectors.Goals as goal

-- a place found, or the whole length
found_or_length : (length : ℕ) (found : Option ℕ) → IfSome found (λ sectors. sectors * SECTOR_BYTES % length ≡ 0) → unwrap_or found length * SECTOR_BYTES % length ≡ 0
found_or_length length None whole = mul-mod_right length SECTOR_BYTES
found_or_length length (Some sectors) whole = whole

pub returns-clause-whole : goal.returns-clause-whole
returns-clause-whole c =
    let found : IfSome c.find.result (λ sectors. sectors * SECTOR_BYTES % c.args.length ≡ 0) = search (rules, ranges) in
    ap (λ n. n * SECTOR_BYTES % c.args.length) c.unwrap_or.ensures ∙ found_or_length c.args.length c.find.result found
