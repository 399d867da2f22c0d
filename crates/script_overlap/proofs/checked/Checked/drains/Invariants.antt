use Rattle.std.proofs.Common.{◌≡◌, map, take, Some}
use Rattle.script_meaning.specs.Requests.{number_at}
use Rattle.script_overlap.proofs.checked.Checked.drains.Given as goal

abbrev pub invariant-loop-position : goal.invariant-loop-position
invariant-loop-position l = map (number_at l.self-inside.script.now) (take l.position-index l.self-inside.ordered.items) ≡ map Some l.lines.items
