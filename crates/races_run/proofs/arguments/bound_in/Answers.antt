use Rattle.std.proofs.Common.{rules, ◌≡◌, string_bytes, sym, arith}
use Rattle.std.specs.Prelude.{codes}
use Rattle.races_run.proofs.Wording.{asks_for, map_two}
use Rattle.races_run.proofs.arguments.bound_in.Goals as goal

pub returns-in-Ok : goal.returns-in-Ok
returns-in-Ok c = λ most.
    let word : string_bytes c.word-item.result ≡ codes "--states" = search rules in
    rw (map_two string_bytes c.args.words.now c.word-item.result c.number-item.result (omega arith) (omega arith) c.word-item.is c.number-item.is)
    (asks_for (string_bytes c.word-item.result) (string_bytes c.number-item.result) c.in-Ok.most most word (sym (rw c.as_bytes.ensures.value at c.in-Ok.ensures.value)))
