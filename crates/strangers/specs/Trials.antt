-- When the set-up of the trial is refused. Assumes nothing.
use Rattle.std.specs.Prelude.{[], ◌∷◌, ℤ, Option}
use Rattle.zmap.specs.Faults.{or_else}
use Rattle.zmap.specs.declared.fault.Fault.{Fault}
use Rattle.zmap.specs.declared.grid.Grid.{Grid}
use Rattle.setups.specs.Clamps.{adding_fault, raising_fault}
use Rattle.setups.specs.declared.clamp.Clamp.{Clamp}

-- the first refusal of two clamps on a set-up without any, of which the first is then brought to the height z
abbrev pub clamped_fault : Grid → Clamp → Clamp → ℤ → Option Fault
clamped_fault g j k z = or_else (adding_fault g [] j) (or_else (adding_fault g (j ∷ []) k) (raising_fault (j ∷ k ∷ []) 0 z))
