use Rattle.in_flight.proofs.Spans.{reads_stand}
use Rattle.in_flight.proofs.laws.reads_stand_in_a_span.Goals as goal

pub returns : goal.returns
returns c = reads_stand
