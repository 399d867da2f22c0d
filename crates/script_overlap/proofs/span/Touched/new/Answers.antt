use Rattle.script_overlap.proofs.Bitmaps.{clear_bits, length-marks_of}
use Rattle.script_overlap.proofs.span.Touched.new.Goals as goal

pub returns-clause-sectors : goal.returns-clause-sectors
returns-clause-sectors c = length-marks_of c.in_ok-words.words c.args.sectors

pub returns-clause-none : goal.returns-clause-none
returns-clause-none c = clear_bits c.in_ok-words.words c.args.sectors c.in_ok-words.ensures.zero
