-- The clamps of a job that was read fit its grid.
use Rattle.std.proofs.Common.{ℤ, sym, ap}
use Rattle.fields.specs.declared.chart.Chart.{Chart}
use Rattle.runs.proofs.Adding.{fresh_as}
use Rattle.runs.proofs.guard.locked.Goals as goal

pub add_all-requires : goal.add_all-requires
add_all-requires c =
    let below = sym c.new-setup.ensures.0 in
    fresh_as _ _ _ _ _ _ (ap (λ (x : Chart ℤ). x.grid.columns) below) (ap (λ (x : Chart ℤ). x.grid.rows) below) c.as_slice-2.ensures.value c.new-setup.ensures.1 c.requires.few c.requires.clamps
