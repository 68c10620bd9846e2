-- The cone. Assumes nothing.
use Rattle.std.specs.Prelude.{◌≡◌, ℕ, ◌+◌, ◌*◌, ◌<◌, ◌≤◌, cond, leb, Some, None, Option, nat_le}
use Rattle.cutters.specs.Discs.{square, in_disc, Round}
use Rattle.cutters.specs.Largest.{largest}
use Rattle.cutters.specs.Profiles.{Profile}
use Rattle.zmap.specs.declared.node.Offset.{Offset}

-- the height of the cone of tip radius T and rise S, where q is the square of the distance
unfoldable pub cone_height : ℕ → ℕ → ℕ → ℕ
cone_height T S q = cond (nat_le q (T * T)) 0 (largest (λ h. leb ((1000 * h + S * T) * (1000 * h + S * T)) (S * S * q)) 200000)

-- the cone of radius R, tip radius T and rise S at the pitch p
abbrev pub cone_shape : ℕ → ℕ → ℕ → ℕ → Profile
cone_shape p R T S o = cond (in_disc p R o) (Some (cone_height T S (square p o))) None

-- h is 0 up to the tip radius, and past it the largest of all numbers with (1,000 h + S T)² ≤ S² q
pub record ConeStands (T S q h : ℕ) : Type 0 where
  pub level : q ≤ T * T → h ≡ 0
  pub has : T * T < q → (1000 * h + S * T) * (1000 * h + S * T) ≤ S * S * q
  pub bounds : T * T < q → (k : ℕ) → h < k → S * S * q < (1000 * k + S * T) * (1000 * k + S * T)

-- r is what the cone is to answer at o
abbrev pub ConeDrawn : ℕ → ℕ → ℕ → ℕ → Offset → Option ℕ → Type 0
ConeDrawn p R T S o r = Round R (square p o) (ConeStands T S (square p o)) r
