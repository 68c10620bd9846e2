-- The law follows from what was parsed.
use Rattle.std.proofs.Common.{Ok, Err, rules}
use Rattle.jobs.specs.Jobs.{parse}
use Rattle.jobs.proofs.ExactJobs.{law}
use Rattle.jobs.proofs.whole.read.Goals as goal

pub returns-clause-law : goal.returns-clause-law
unfolding parse
returns-clause-law c = law _ (Ok c.in_ok-job.job) (search rules)

pub returns-then-not-is_empty-clause-law : goal.returns-then-not-is_empty-clause-law
unfolding parse
returns-then-not-is_empty-clause-law c = law _ (Err c.over-then-not-is_empty.result) (search rules)
