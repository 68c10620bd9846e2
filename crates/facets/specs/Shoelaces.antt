-- The height of a facet over a point, computed without fractions or signs. Assumes nothing.
use Rattle.std.specs.Prelude.{ℕ, ◌+◌, ◌-◌, ◌*◌, cond, ◌||◌, Some, None, Option, ◌==◌, nat_le, nat_lt}
use Rattle.std.specs.Int.{div_ceil}
use Rattle.std.specs.Option.{option_and_then, option_or}
use Rattle.facets.specs.declared.point.Point.{Point}
use Rattle.facets.specs.declared.corner.Corner.{Corner}

-- one half of the shoelace formula: twice the area of p, q, r, counter-clockwise, is half p q r less half p r q
abbrev pub half : Point → Point → Point → ℕ
half p q r = p.x * q.y + q.x * r.y + r.x * p.y

-- twice the area of p, q, r where they go round counter-clockwise, or nothing where they go the other way
unfoldable pub swept : Point → Point → Point → Option ℕ
swept p q r = cond (nat_le (half p r q) (half p q r)) (Some (half p q r - half p r q)) None

-- the mean of i, j and k, rounded up, where the last two weigh v and w and all three together weigh n; or nothing where there are no such weights
unfoldable pub mean : ℕ → ℕ → ℕ → ℕ → ℕ → ℕ → Option ℕ
mean n v w i j k = cond (n == 0 || nat_lt n (v + w)) None (Some (div_ceil ((n - (v + w)) * i + v * j + w * k) n))

-- the height over p of the plane through a, b and c, where they go round it counter-clockwise
unfoldable pub plane_at : Point → Corner → Corner → Corner → Option ℕ
plane_at p a b c =
    option_and_then (λ n.
    option_and_then (λ v.
    option_and_then (λ w. mean n v w a.z b.z c.z) (swept p a.at b.at))
    (swept p c.at a.at))
    (swept a.at b.at c.at)

-- the height over p of the plane through a, b and c, whichever way they go round it
unfoldable pub height_at : Point → Corner → Corner → Corner → Option ℕ
height_at p a b c = option_or (plane_at p a b c) (plane_at p a c b)
