-- The ball. Assumes nothing.
use Rattle.std.specs.Prelude.{ℕ, ◌+◌, ◌-◌, ◌*◌, ◌<◌, ◌≤◌, cond, Some, None, Option, nat_le}
use Rattle.cutters.specs.Discs.{square, in_disc, Round}
use Rattle.cutters.specs.Largest.{largest}
use Rattle.cutters.specs.Profiles.{Profile}
use Rattle.zmap.specs.declared.node.Offset.{Offset}

-- the height of the ball of radius R, where q is the square of the distance
unfoldable pub ball_height : ℕ → ℕ → ℕ
ball_height R q = largest (λ h. nat_le (R * R) ((R - h) * (R - h) + q)) R

-- the ball of radius R at the pitch p
abbrev pub ball_shape : ℕ → ℕ → Profile
ball_shape p R o = cond (in_disc p R o) (Some (ball_height R (square p o))) None

-- h is the largest number from 0 to R with (R − h)² ≥ R² − q
pub record BallStands (R q h : ℕ) : Type 0 where
  pub most : h ≤ R
  pub has : R * R ≤ (R - h) * (R - h) + q
  pub bounds : (k : ℕ) → h < k → k ≤ R → (R - k) * (R - k) + q < R * R

-- r is what the ball is to answer at o
abbrev pub BallDrawn : ℕ → ℕ → Offset → Option ℕ → Type 0
BallDrawn p R o r = Round R (square p o) (BallStands R (square p o)) r

-- d is the least number whose square is at least n
pub record RootUp (n d : ℕ) : Type 0 where
  pub has : n ≤ d * d
  pub bounds : (k : ℕ) → k < d → k * k < n
