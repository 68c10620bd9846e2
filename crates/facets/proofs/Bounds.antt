-- How large the areas and the heights become. Assumes nothing.
use Rattle.std.proofs.Common.{ℕ, ◌+◌, ◌*◌, ◌≤◌, arith}
use Rattle.std.proofs.lemmas.Nat.{mul-le}
use Rattle.facets.specs.declared.corner.Corner.{Corner}
use Rattle.facets.specs.Shoelaces.{half}

-- the area between corners
pub half_low : (a b c : Corner) → half a.at b.at c.at ≤ 3000000000000
half_low a b c =
    omega (arith, mul-le a.at.x b.at.y 1000000 1000000 a.across b.along, mul-le b.at.x c.at.y 1000000 1000000 b.across c.along, mul-le c.at.x a.at.y 1000000 1000000 c.across a.along)

-- heights in range, however they weigh
pub weighed_low : (u v w i j k : ℕ) → i ≤ 1000000 → j ≤ 1000000 → k ≤ 1000000 → u * i + v * j + w * k ≤ (u + v + w) * 1000000
weighed_low u v w i j k hi hj hk =
    omega (arith, mul-le u i u 1000000 (omega arith) hi, mul-le v j v 1000000 (omega arith) hj, mul-le w k w 1000000 (omega arith) hk)
