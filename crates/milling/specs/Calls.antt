-- What the calls promise: an accepted one, a refused one, and the pose. Assumes nothing.
use Rattle.std.specs.Prelude.{◌≡◌, ℕ, List, length, ℤ, Result, MatchResult}
use Rattle.zmap.specs.Maps.{relief}
use Rattle.zmap.specs.declared.fault.Fault.{Fault}
use Rattle.zmap.specs.declared.node.Node.{Node}
use Rattle.cutters.specs.Profiles.{Profile}
use Rattle.setups.specs.Surfaces.{Guard}
use Rattle.milling.specs.Checks.{Check, Passed, Refused, formed, pose_at, pose_checks}
use Rattle.milling.specs.Cuts.{Carved, Clears, Invades, Only}
use Rattle.milling.specs.Losses.{Removes}
use Rattle.milling.specs.declared.poses.Pose.{Pose}
use Rattle.milling.specs.declared.removed.Removed.{Removed}

-- a cutter: the pitch it is drawn for, and its profile
pub record Tool : Type 0 where
  pub pitch : ℕ
  pub profile : Profile

-- the cutter t, from what its kind tells of its pitch and profile
abbrev pub tool_of : {C : Type 0} → (C → ℕ) → (C → Profile) → C → Tool
tool_of spacing shape t = record { pitch = spacing t; profile = shape t }

-- an accepted call: every check passes, the poses made carve the block, and the answer says what they removed
pub record Cut (ks : List Check) (m : Guard) (P : Profile) (made : Pose → Type 0) (b b' : List ℤ) (a : Removed) : Type 0 where
  pub passed : Passed ks
  pub long : length b' ≡ length b
  pub carved : Carved m.grid P made (relief m.grid b) (relief m.grid b')
  pub removed : Removes m.grid m.surface P made b b' a

-- a refused call: a check fails with the fault, none before it fails, and the block stays
pub record Left (ks : List Check) (b b' : List ℤ) (e : Fault) : Type 0 where
  pub refused : Refused ks e
  pub same : b' ≡ b

-- the checks of a pose against the guard m with the cutter t
abbrev pub checks_of : Guard → Tool → List ℤ → ℤ → ℤ → ℤ → List Check
checks_of m t b c r z = pose_checks m.grid m.surface t.pitch t.profile (length b) c r z

-- what the pose at the column c, the row r and the tip z answers, having turned the block b into b'
pub record Posed (m : Guard) (t : Tool) (b b' : List ℤ) (c r z : ℤ) (q : Result Removed Fault) : Type 0 where
  pub outcome : MatchResult q (Cut (checks_of m t b c r z) m t.profile (Only (pose_at c r z)) b b') (Left (checks_of m t b c r z) b b')
  -- a well-formed pose is refused exactly where the underside would stand below the guard, whatever the block holds
  pub exact : Passed (formed m.grid t.pitch (length b) c r z) →
      MatchResult q (λ _. Clears m.grid m.surface t.profile (pose_at c r z)) (λ _. (s : Node) × Invades m.grid m.surface t.profile (pose_at c r z) s)
