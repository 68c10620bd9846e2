-- When calls are refused: checks in their order, each with what its refusal says. Assumes nothing.
use Rattle.std.specs.Prelude.{◌≡◌, ℕ, ◌⊎◌, List, [], ◌∷◌, ◌++◌, ℤ, pos, ◌≤ℤ◌, ◌<ℤ◌, unsigned_abs}
use Rattle.zmap.specs.Limits.{Height}
use Rattle.zmap.specs.Maps.{size}
use Rattle.zmap.specs.declared.fault.End.{End}
use Rattle.zmap.specs.declared.fault.End.TheVariants.{Start}
use Rattle.zmap.specs.declared.fault.Fault.{Fault}
use Rattle.zmap.specs.declared.fault.Fault.TheVariants as fault
use Rattle.zmap.specs.declared.grid.Grid.{Grid}
use Rattle.zmap.specs.declared.node.Node.{Node}
use Rattle.cutters.specs.Profiles.{Profile}
use Rattle.milling.specs.Cuts.{Clears, First, Surface, Under}
use Rattle.milling.specs.declared.poses.Pose.{Pose}

-- what holds where a check passes, and which fault it gives where not
pub record Check : Type 1 where
  pub passes : Type 0
  pub fails : Fault → Type 0

-- every check passes
abbrev pub Passed : List Check → Type 0
Passed [] = Unit {0}
Passed (k ∷ ks) = k.passes × Passed ks

-- a check fails with the fault f, and every check before it passes
abbrev pub Refused : List Check → Fault → Type 0
Refused [] f = ⊥
Refused (k ∷ ks) f = k.fails f ⊎ (k.passes × Refused ks f)

-- a check that fails with one fault
abbrev pub unless : Fault → Type 0 → Check
unless f Q = record { passes = Q; fails = λ e. (e ≡ f) × (Q → ⊥) }

-- the column c and the row r stand over the map
pub record Over (g : Grid) (c r : ℤ) : Type 0 where
  pub west : pos 0 ≤ℤ c
  pub east : c <ℤ pos g.columns
  pub north : pos 0 ≤ℤ r
  pub south : r <ℤ pos g.rows

-- the node of a column and a row that stand over the map
abbrev pub node_at : ℤ → ℤ → Node
node_at c r = record { column = unsigned_abs c; row = unsigned_abs r }

-- the pose at a column, a row and a tip
abbrev pub pose_at : ℤ → ℤ → ℤ → Pose
pose_at c r z = record { node = node_at c r; tip = z }

-- the cutter is drawn for the pitch of the guard
abbrev pub same_pitch : Grid → ℕ → Check
same_pitch g pitch = unless fault.CutterPitch (pitch ≡ g.pitch.microns)

-- the block has one height for each sample
abbrev pub whole_block : Grid → ℕ → Check
whole_block g long = unless fault.BlockLength (long ≡ size g)

-- the node of an end stands over the map
abbrev pub node_on : Grid → End → ℤ → ℤ → Check
node_on g e c r = unless (fault.NodeOff e) (Over g c r)

-- the tip of an end is a height
abbrev pub tip_in : End → ℤ → Check
tip_in e z = unless (fault.TipRange e) (Height z)

-- the cutter covers a sample of the map
abbrev pub covers_some : Grid → Profile → Pose → Check
covers_some g P p = unless fault.Uncovered ((s : Node) × (u : ℤ) × Under g P p s u)

-- the pose, made as that step of its move, invades nothing; its fault names the first invaded sample and the class there
abbrev pub invades_none : Grid → Surface → Profile → ℕ → Pose → Check
invades_none g G P i p = record { passes = Clears g G P p; fails = λ e. (s : Node) × First g G P p s × (e ≡ fault.Invaded i s (G s).class) }

-- the checks of a pose that ask no guard and no cutter for heights; it is well formed where all pass
abbrev pub formed : Grid → ℕ → ℕ → ℤ → ℤ → ℤ → List Check
formed g pitch long c r z = same_pitch g pitch ∷ whole_block g long ∷ node_on g Start c r ∷ tip_in Start z ∷ []

-- all checks of a pose: well formed, then over some sample, then clear of the guard
abbrev pub pose_checks : Grid → Surface → ℕ → Profile → ℕ → ℤ → ℤ → ℤ → List Check
pose_checks g G pitch P long c r z = formed g pitch long c r z ++ covers_some g P (pose_at c r z) ∷ invades_none g G P 0 (pose_at c r z) ∷ []
