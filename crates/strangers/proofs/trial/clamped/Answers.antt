-- The refusals come in their order, and where none comes the first clamp is raised.
use Rattle.std.proofs.Common.{arith}
use Rattle.std.proofs.lemmas.Grind.{common_steps}
use Rattle.strangers.proofs.trial.clamped.Goals as goal

pub returns-in_err-number-clause-accepts : goal.returns-in_err-number-clause-accepts
returns-in_err-number-clause-accepts g c = grind (arith, common_steps)

pub returns-in_err-add-clause-accepts : goal.returns-in_err-add-clause-accepts
returns-in_err-add-clause-accepts g c = grind (arith, common_steps)

pub returns-in_err-raise-clause-accepts : goal.returns-in_err-raise-clause-accepts
returns-in_err-raise-clause-accepts g c = grind (arith, common_steps)

pub returns-clause-accepts : goal.returns-clause-accepts
returns-clause-accepts g c = grind (arith, common_steps)

pub returns-clause-holds : goal.returns-clause-holds
returns-clause-holds g c = grind (arith, common_steps)
