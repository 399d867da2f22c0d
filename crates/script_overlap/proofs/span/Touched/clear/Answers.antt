use Rattle.script_overlap.proofs.Bitmaps.{clear_bits}
use Rattle.script_overlap.proofs.span.Touched.clear.Goals as goal

pub returns-clause-none : goal.returns-clause-none
returns-clause-none c = clear_bits c.clear.new.self c.self.inside.sectors c.clear.ensures.zero
