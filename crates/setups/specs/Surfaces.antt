-- What a locked set-up stands for over the field below. Assumes nothing.
use Rattle.std.specs.Prelude.{List}
use Rattle.zmap.specs.declared.class.Class.TheVariants.{Fixture}
use Rattle.zmap.specs.declared.grid.Grid.{Grid}
use Rattle.zmap.specs.declared.node.Node.{Node}
use Rattle.zmap.specs.declared.sample.Sample.{Sample}
use Rattle.setups.specs.declared.clamp.Clamp.{Clamp}
use Rattle.setups.specs.declared.setup.Setup.{Setup}
use Rattle.setups.specs.declared.table.Clamps.{Clamps}
use Rattle.setups.specs.Layers.{Classed, layered}
use Rattle.setups.specs.Tables.{clamps_of, raised_by, Tops}

-- the sample below, or class fixture where the clamps stand higher
unfoldable pub setup_sample : List Clamp → Node → Sample → Sample
setup_sample ks n s = layered Fixture s (raised_by n s.height ks)

-- what a locked set-up stands for: the surface below, under its clamps
abbrev pub guard_surface : (Node → Sample) → Clamps → Node → Sample
guard_surface below t n = setup_sample (clamps_of t) n (below n)

-- t is the sample s under the clamps: as high as the highest of s and of the clamps over n, and a fixture exactly where that is not the height of s
pub record Stands (ks : List Clamp) (n : Node) (s t : Sample) : Type 0 where
  pub height : Tops n s.height ks t.height
  pub class : Classed Fixture s t

-- a guard: a grid, and a height and a class at each node
pub record Guard : Type 0 where
  pub grid : Grid
  pub surface : Node → Sample

-- the guard that a locked set-up is, from what the field below tells of its grid and surface
abbrev pub guard_of : {F : Type 0} → (F → Grid) → (F → Node → Sample) → Setup F → Guard
guard_of extent surface m = record { grid = extent m.below; surface = guard_surface (surface m.below) m.clamps }
