use Rattle.blk_script.proofs.OneText.{one_text}
use Rattle.blk_script.proofs.laws.one_text.Goals as goal

pub returns : goal.returns
returns c = one_text c.one_split.ensures.only c.one_list_of_runs.ensures
