use Rattle.script_overlap.proofs.Overlaps.{one_place, one_pair}
use Rattle.script_overlap.proofs.overlap_laws.one_first_overlap.Goals as goal

pub returns-clause-place : goal.returns-clause-place
returns-clause-place c = one_place

pub returns-clause-pair : goal.returns-clause-pair
returns-clause-pair c = one_pair
