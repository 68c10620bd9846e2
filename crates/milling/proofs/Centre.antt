-- A pose that stands over the map covers some sample: the one at its centre. Assumes nothing.
use Rattle.std.proofs.Common.{ℕ, pos, ◌+ℤ◌, refl, arith}
use Rattle.std.proofs.lemmas.Int.{ints}
use Rattle.zmap.specs.Maps.{On}
use Rattle.zmap.specs.declared.grid.Grid.{Grid}
use Rattle.cutters.specs.Profiles.{Lawful, Profile, centre}
use Rattle.milling.specs.Checks.{covers_some}
use Rattle.milling.specs.declared.poses.Pose.{Pose}

pub centre_covered : (g : Grid) (j : ℕ) (P : Profile) (p : Pose) → Lawful j P → On g p.node → (covers_some g P p).passes
centre_covered g j P p lawful on = (
  p.node,
  p.tip +ℤ pos 0,
  record { on = on; rise = 0; covers = record { offset = centre; at = (omega (arith, ints), omega (arith, ints)); rise = lawful.centred }; level = refl },
)
