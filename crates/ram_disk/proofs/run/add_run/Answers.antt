use Rattle.std.proofs.Common.{◌≡◌, ◌<◌, ◌-◌, get_or, length, set, vec_len, refl, ap, ◌∙◌, arith}
use Rattle.std.proofs.lemmas.Grind.{common_steps}
use Rattle.std.proofs.lemmas.List.{set-get_or}
use Rattle.ram_disk.specs.Runs.{bytes_of_runs}
use Rattle.ram_disk.proofs.RunLists.{last_at-le, longer_last, next_after, first_after}
use Rattle.ram_disk.proofs.run.add_run.Goals as goal
use Rattle.ram_disk.proofs.run.add_run.Goals.{in-Some+else-last-byte, in_default}

pub overflow_add-last : goal.overflow_add-last
overflow_add-last c =
    let runs = c.args.runs.now.items in
    let some : 0 < length runs = omega (arith, c.args.runs.now.ok.0, c.in-Some.ensures.variant.0 refl) in
    let is : c.in-Some.last.now ≡ get_or runs (length runs - 1) c.in-Some.last.now = rw (← c.args.runs.now.ok.0) c.in-Some.ensures.value in
    omega (arith, last_at-le runs c.in-Some.last.now (bytes_of_runs runs) some is c.requires.maximal)

pub returns-then-last-byte-clause-ok : goal.returns-then-last-byte-clause-ok
returns-then-last-byte-clause-ok c =
    let runs = c.args.runs.now.items in
    let some : 0 < length runs = omega (arith, c.args.runs.now.ok.0, c.in-Some.ensures.variant.0 refl) in
    let is : c.in-Some.last.now ≡ get_or runs (length runs - 1) c.in-Some.last.now = rw (← c.args.runs.now.ok.0) c.in-Some.ensures.value in
    rw (c.args.runs.now.ok.0, ← c.if-last-byte.true) (longer_last runs c.in-Some.last.now c.args.count (bytes_of_runs runs) some is c.requires.maximal)

pub returns-clause-ok : goal.returns-clause-ok
returns-clause-ok c =
    elim c.match-last_mut.branch [
      | in-Some+else-last-byte w ↦
          let runs = c.args.runs.now.items in
          let last = w.in-Some.last.now in
          let some : 0 < length runs = omega (arith, c.args.runs.now.ok.0, w.in-Some.ensures.variant.0 refl) in
          let is : last ≡ get_or runs (length runs - 1) last = rw (← c.args.runs.now.ok.0) w.in-Some.ensures.value in
          let kept : c.match-last_mut.runs.items ≡ runs = ap (λ v. v.items) w.runs-is ∙ ap (λ run. set runs (vec_len c.args.runs.now - 1) run) w.in-Some.ensures.value ∙ set-get_or runs (vec_len c.args.runs.now - 1) last in
          rw (c.in_ok-push.ensures.items, kept) (next_after runs last c.args.byte c.args.count (bytes_of_runs runs) some is c.requires.maximal w.if-last-byte.false c.requires.some)
      | in_default w ↦
          let runs = c.args.runs.now.items in
          let none : length runs ≡ 0 = grind (arith, common_steps) in
          rw (c.in_ok-push.ensures.items, ap (λ v. v.items) w.runs-is) (first_after runs c.args.byte c.args.count (bytes_of_runs runs) none c.requires.maximal c.requires.some)
    ]
