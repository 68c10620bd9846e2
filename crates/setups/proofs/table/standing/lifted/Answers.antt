-- The greater of two heights is their maximum.
use Rattle.std.proofs.Common.{arith}
use Rattle.std.proofs.lemmas.Grind.{common_steps}
use Rattle.zmap.proofs.Greatest.{greater_max}
use Rattle.setups.proofs.table.standing.lifted.Goals as goal

pub returns-then-covers : goal.returns-then-covers
returns-then-covers c = grind (arith, common_steps, greater_max)
