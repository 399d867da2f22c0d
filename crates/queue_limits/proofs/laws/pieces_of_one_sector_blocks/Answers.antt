use Rattle.queue_limits.proofs.LongestPieces.{longest_of_split}
use Rattle.queue_limits.proofs.laws.pieces_of_one_sector_blocks.Goals as goal

pub returns : goal.returns
returns c = λ bounds one start count lengths. longest_of_split bounds start count lengths one
