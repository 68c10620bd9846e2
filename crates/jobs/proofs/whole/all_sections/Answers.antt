-- There is room for the samples of a grid that was read.
use Rattle.std.proofs.Common.{ap, arith}
use Rattle.jobs.proofs.ExactSections.{grid_small}
use Rattle.jobs.proofs.whole.all_sections.Goals as goal

pub listed-requires : goal.listed-requires
listed-requires c =
    (omega arith, λ k up bytes. omega (arith, ap (λ s. s.high) c.exactly-samples.ensures, c.samples.ensures, grid_small _ _ _ c.in_ok-grid.ensures))
