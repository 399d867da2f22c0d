use Rattle.queue_limits.proofs.PowersOfTwo.{power_of_size, size_of_power}
use Rattle.queue_limits.proofs.laws.physical_sizes.Goals as goal

pub returns : goal.returns
returns c = λ n. (power_of_size n, λ power. size_of_power n power.0 power.1 power.2)
