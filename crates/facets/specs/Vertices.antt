-- Vertices in range. Assumes nothing.
use Rattle.std.specs.Prelude.{Bool, ◌&&◌, ℤ, pos, ◌≤ℤ◌}
use Rattle.zmap.specs.Limits.{Height, is_height, within}
use Rattle.facets.specs.declared.facet.Facet.{Facet}
use Rattle.facets.specs.declared.facet.Vertex.{Vertex}

-- x or y is from 0 to 1,000,000 µm
abbrev pub Near : ℤ → Type 0
Near x = (pos 0 ≤ℤ x) × (x ≤ℤ pos 1000000)

-- the vertex is in range: x and y from 0 to 1,000,000 µm, and z a height
pub record Placed (v : Vertex) : Type 0 where
  pub across : Near v.x
  pub along : Near v.y
  pub high : Height v.z

-- all three vertices are in range
pub record Sound (f : Facet) : Type 0 where
  pub first : Placed f.a
  pub second : Placed f.b
  pub third : Placed f.c

-- whether the vertex is in range
abbrev pub is_placed : Vertex → Bool
is_placed v = within (pos 0) (pos 1000000) v.x && within (pos 0) (pos 1000000) v.y && is_height v.z
