-- How many samples stand lower in one block than in another, and what they lost. Assumes nothing.
use Rattle.std.specs.Prelude.{◌≡◌, ℕ, ◌+◌, cond, List, [], ◌∷◌, ℤ, ◌-ℤ◌, int_lt, unsigned_abs}
use Rattle.zmap.specs.declared.grid.Grid.{Grid}
use Rattle.cutters.specs.Profiles.{Profile}
use Rattle.milling.specs.Cuts.{Contacts, Surface}
use Rattle.milling.specs.declared.poses.Pose.{Pose}
use Rattle.milling.specs.declared.removed.Removed.{Removed}

-- the sum of f over the heights of two blocks, sample by sample
abbrev pub summed : (ℤ → ℤ → ℕ) → List ℤ → List ℤ → ℕ
summed f [] ys = 0
summed f (x ∷ xs) [] = 0
summed f (x ∷ xs) (y ∷ ys) = f x y + summed f xs ys

-- 1 where y stands lower than x
abbrev pub fallen : ℤ → ℤ → ℕ
fallen x y = cond (int_lt y x) 1 0

-- how far y stands below x
abbrev pub fall : ℤ → ℤ → ℕ
fall x y = cond (int_lt y x) (unsigned_abs (x -ℤ y)) 0

-- what a call that made the poses answers, having turned the block b into b'
pub record Removes (g : Grid) (G : Surface) (P : Profile) (made : Pose → Type 0) (b b' : List ℤ) (r : Removed) : Type 0 where
  pub samples : r.samples ≡ summed fallen b b'
  pub loss : r.loss ≡ summed fall b b'
  pub contact : Contacts g G P made r.contact
