use Rattle.percpu_gate.proofs.Making.{opens}
use Rattle.percpu_gate.proofs.table.GateTable.new.Goals as goal

pub of_words-requires : goal.of_words-requires
of_words-requires c = rw c.as_slice.ensures.value (opens c.args.key.now c.in_ok-words.ensures.count c.requires.count c.requires.slots.0 c.requires.slots.1 _ c.in_ok-words.ensures.size c.in_ok-words.ensures.words)
