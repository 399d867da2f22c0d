use Rattle.script_overlap.proofs.OrderedLemmas.{one_order, one_list_of_drains, parts_all_clashes}
use Rattle.script_overlap.proofs.overlap_laws.one_list_of_ordered_requests.Goals as goal

pub returns : goal.returns
returns c = record { positions = one_order; lines = one_list_of_drains; parts = parts_all_clashes }
