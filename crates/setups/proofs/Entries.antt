-- A clamp that fits the map is taken while fewer than sixteen stand. Assumes nothing.
use Rattle.std.proofs.Common.{◌≡◌, ◌<◌, List, length, None, arith}
use Rattle.std.proofs.lemmas.Bool.Decides.{nat_tests}
use Rattle.zmap.specs.declared.grid.Grid.{Grid}
use Rattle.setups.specs.declared.clamp.Clamp.{Clamp}
use Rattle.setups.specs.Clamps.{adding_fault, clamp_fault}

pub adding_none : (g : Grid) (ks : List Clamp) (k : Clamp) → clamp_fault g.columns g.rows k ≡ None → length ks < 16 → adding_fault g ks k ≡ None
adding_none g ks k e lt = rw e (grind (arith, nat_tests))
