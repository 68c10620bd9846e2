-- What the stock makes of the sample below carries it as it says.
use Rattle.std.proofs.Common.{rules}
use Rattle.setups.proofs.Stocking.{carries_as}
use Rattle.setups.proofs.allowance.sampling.AllowanceField.sample.Goals as goal

pub returns-clause-carries : goal.returns-clause-carries
returns-clause-carries g c = carries_as (search rules)
