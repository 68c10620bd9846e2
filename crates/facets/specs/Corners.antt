-- What stands for a vertex in range in unsigned numbers. Assumes nothing.
use Rattle.std.specs.Prelude.{◌≡◌, ◌≤◌, Bool, true, false, ℤ, pos, ◌+ℤ◌, Some, None, Option, refl, unsigned_abs}
use Rattle.std.proofs.Common.{arith}
use Rattle.std.proofs.lemmas.Bool.{and_parts}
use Rattle.std.proofs.lemmas.Int.{ints}
use Rattle.zmap.proofs.HeightTest.{height_tested, within_tested}
use Rattle.zmap.specs.Limits.{Height}
use Rattle.facets.specs.declared.corner.Corner.{Corner}
use Rattle.facets.specs.declared.facet.Vertex.{Vertex}
use Rattle.facets.specs.Vertices.{Near, Placed, is_placed}

pub placed_tested : (v : Vertex) → is_placed v ≡ true → Placed v
placed_tested v e =
    let t = and_parts _ _ e in
    let t' = and_parts _ _ t.0 in
    record { across = within_tested _ _ v.x t'.0; along = within_tested _ _ v.y t'.1; high = height_tested v.z t.1 }

pub near_low : (x : ℤ) → Near x → unsigned_abs x ≤ 1000000
near_low x near = omega (arith, ints)

pub height_low : (z : ℤ) → Height z → unsigned_abs (z +ℤ pos 500000) ≤ 1000000
height_low z high = omega (arith, ints)

-- the vertex as a corner, its height counted from the floor
abbrev pub corner_at : (v : Vertex) → is_placed v ≡ true → Corner
corner_at v e =
    let p = placed_tested v e in
    record {
      at = record { x = unsigned_abs v.x; y = unsigned_abs v.y };
      z = unsigned_abs (v.z +ℤ pos 500000);
      across = near_low v.x p.across;
      along = near_low v.y p.along;
      high = height_low v.z p.high;
    }

-- the corner of the vertex, by whether that is in range
abbrev pub corner_by : (v : Vertex) (b : Bool) → is_placed v ≡ b → Option Corner
corner_by v true e = Some (corner_at v e)
corner_by v false e = None

-- the corner of a vertex in range
unfoldable pub corner_of : Vertex → Option Corner
corner_of v = corner_by v (is_placed v) refl
