-- What a facet gives over a point, computed. Assumes nothing.
use Rattle.std.specs.Prelude.{ℕ, ℤ, pos, ◌+ℤ◌, Some, None, Option}
use Rattle.std.specs.Option.{option_map}
use Rattle.zmap.specs.Limits.{floor, ceiling}
use Rattle.facets.specs.declared.corner.Corner.{Corner}
use Rattle.facets.specs.declared.point.Point.{Point}
use Rattle.facets.specs.declared.facet.Facet.{Facet}
use Rattle.facets.specs.Shoelaces.{height_at}
use Rattle.facets.specs.Corners.{corner_of}

-- the height that stands so many µm above the floor
abbrev pub from_floor : ℕ → ℤ
from_floor k = pos k +ℤ floor

-- the height over p between three corners, or the ceiling where one is missing
abbrev pub given : Option Corner → Option Corner → Option Corner → Point → Option ℤ
given None b c p = Some ceiling
given (Some a) None c p = Some ceiling
given (Some a) (Some b) None p = Some ceiling
given (Some a) (Some b) (Some c) p = option_map from_floor (height_at p a b c)

-- what the facet gives over the point (x, y)
unfoldable pub facet_at : Facet → ℕ → ℕ → Option ℤ
facet_at f x y = given (corner_of f.a) (corner_of f.b) (corner_of f.c) (record { x = x; y = y })
