-- What the clamps make of the sample below stands as they say.
use Rattle.std.proofs.Common.{rules}
use Rattle.setups.proofs.Topping.{stands_as}
use Rattle.setups.proofs.setup.sampling.SetupField.sample.Goals as goal

pub returns-clause-stands : goal.returns-clause-stands
returns-clause-stands g c = stands_as (search rules)
