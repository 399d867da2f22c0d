use Rattle.std.proofs.Common.{◌≡◌, ◌++◌, take, sym, ap, subst, ◌∙◌, append_assoc, length-append, arith}
use Rattle.std.proofs.lemmas.List.{take_all}
use Rattle.ram_disk.specs.Sector.{bytes_of}
use Rattle.ram_disk.specs.Runs.{bytes_of_runs, IsRuns}
use Rattle.blk_script.specs.Texts.{runs_text}
use Rattle.blk_script.specs.Closed.{HasGrown, closed_text}
use Rattle.ram_disk.proofs.RunLists.{left_runs, left_runs-le, more_runs, some_runs}
use Rattle.ram_disk.proofs.SectorBytes.{bytes_of-more}
use Rattle.blk_script.proofs.Grown.{grown_more, on_err}
use Rattle.blk_script.proofs.ClosedRuns.{closed_text-append, runs_text-closed}
use Rattle.blk_script.proofs.rendering.push_sectors.Goals as goal

pub add_sector-requires-clause-maximal : goal.add_sector-requires-clause-maximal
add_sector-requires-clause-maximal c =
    let so_far = c.loop-sector.invariant.so_far in
    left_runs so_far.0 c.loop-sector.runs.items (bytes_of (take c.loop-sector.sector-index c.args.sectors.now)) so_far.1

pub add_sector-requires-clause-room : goal.add_sector-requires-clause-room
add_sector-requires-clause-room c =
    let so_far = c.loop-sector.invariant.so_far in
    let few = left_runs-le so_far.0 c.loop-sector.runs.items (bytes_of (take c.loop-sector.sector-index c.args.sectors.now)) so_far.1 in
    omega (arith, few, c.loop-sector.invariant.size, c.loop-sector-test.true)

pub loop-sector-preserved : goal.loop-sector-preserved
loop-sector-preserved c =
    let before = bytes_of (take c.loop-sector.sector-index c.args.sectors.now) in
    let sector = c.sector-item.result in
    let runs = c.loop-sector.runs.items in
    let grown = c.add_sector.new.runs.items in
    let left = c.close.new.runs.items in
    let more = bytes_of-more c.args.sectors.now c.loop-sector.sector-index sector c.loop-sector-test.true c.sector-item.is in
    let so_far = c.loop-sector.invariant.so_far in
    let is_grown : IsRuns grown (bytes_of_runs runs ++ sector) = c.in-Ok.ensures.ok in
    let all = more_runs so_far.0 runs grown before sector so_far.3 so_far.1 is_grown in
    let closed = c.in_ok-close.ensures.ok in
    let parts : so_far.0 ++ grown ≡ (so_far.0 ++ closed.0) ++ left = ap (λ r. so_far.0 ++ r) closed.1 ∙ sym (append_assoc so_far.0 closed.0 left) in
    let told = closed.2 ∙ ap (λ t. t ++ closed_text closed.0) so_far.2 ∙ append_assoc c.args.out.now.items (closed_text so_far.0) (closed_text closed.0)
    ∙ ap (λ t. c.args.out.now.items ++ t) (sym (closed_text-append so_far.0 closed.0)) in
    record {
      so_far = (
        so_far.0 ++ closed.0,
        rw more (subst (λ r. IsRuns r (before ++ sector)) parts all),
        told,
        λ none. absurd (some_runs grown (bytes_of_runs runs) sector (omega (arith, c.add_sector.ensures.sector.0)) is_grown (closed.3 none)),
      );
      size = rw more (omega (arith, length-append before sector, c.add_sector.ensures.sector.0, c.loop-sector.invariant.size));
    }

pub returns-clause-text : goal.returns-clause-text
returns-clause-text c =
    let so_far = c.loop-sector.invariant.so_far in
    let runs = c.loop-sector.runs.items in
    let whole : take c.loop-sector.sector-index c.args.sectors.now ≡ c.args.sectors.now = take_all c.loop-sector.sector-index c.args.sectors.now (omega (arith, c.loop-sector-test.false)) in
    let last : c.push_runs.new.out.items ≡ c.loop-sector.out.items ++ runs_text runs =
    c.in_ok-push_runs.ensures.ok ∙ ap (λ r. c.loop-sector.out.items ++ runs_text r) c.deref.ensures.value in
    let told = last ∙ ap (λ t. t ++ runs_text runs) so_far.2 ∙ append_assoc c.args.out.now.items (closed_text so_far.0) (runs_text runs)
    ∙ ap (λ t. c.args.out.now.items ++ t) (sym (runs_text-closed so_far.0 runs so_far.3)) in
    (so_far.0 ++ runs, subst (λ s. IsRuns (so_far.0 ++ runs) (bytes_of s)) whole so_far.1, told)

pub returns-in_err-close-clause-err : goal.returns-in_err-close-clause-err
returns-in_err-close-clause-err c =
    let old = c.args.out.now.items in
    let new = c.close.new.out.items in
    let so_far = c.loop-sector.invariant.so_far in
    on_err c.from_residual.result (HasGrown old new) (grown_more old c.loop-sector.out.items new (closed_text so_far.0) so_far.2 c.in_err-close.ensures.err)

pub returns-in_err-push_runs-clause-err : goal.returns-in_err-push_runs-clause-err
returns-in_err-push_runs-clause-err c =
    let old = c.args.out.now.items in
    let new = c.push_runs.new.out.items in
    let so_far = c.loop-sector.invariant.so_far in
    on_err c.from_residual-in_err-push_runs.result (HasGrown old new) (grown_more old c.loop-sector.out.items new (closed_text so_far.0) so_far.2 c.in_err-push_runs.ensures.err)
