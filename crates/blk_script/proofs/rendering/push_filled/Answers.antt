use Rattle.std.proofs.Common.{◌≡◌, ℕ, ◌*◌, ◌<◌, [], ◌∷◌, ◌∙◌, sym, ap, replicate, append-nil, arith}
use Rattle.std.proofs.lemmas.List.Elements.{All-nil, All-push}
use Rattle.ram_disk.specs.Runs.{IsRuns}
use Rattle.ram_disk.specs.Sector.{bytes_of, filled_with}
use Rattle.ram_disk.proofs.SectorBytes.{bytes_of-replicate-filled_with}
use Rattle.blk_script.proofs.rendering.push_filled.Goals as goal

one_run : (byte count size : ℕ) → 0 < count → size ≡ count * 512 → IsRuns ((byte, size) ∷ []) (bytes_of (replicate count (filled_with byte)))
one_run byte count size some is = record {
  whole = append-nil (replicate size byte) ∙ ap (λ n. replicate n byte) is ∙ sym (bytes_of-replicate-filled_with count byte);
  not_empty = All-push (λ run. 0 < run.1) [] (byte, size) (All-nil (λ run. 0 < run.1)) (omega (arith, some, is));
  maximal = tt;
}

pub returns : goal.returns
returns c =
    let size = c.from.result * 512 in (
      (c.args.byte, size) ∷ [],
      one_run c.args.byte c.args.count size (omega (arith, c.if-count-eq0.false)) (omega (arith, c.from.ensures)),
      c.in_ok-push_run.ensures.ok,
    )
