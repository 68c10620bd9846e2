-- The corner that a vertex in range has. Assumes nothing.
use Rattle.std.proofs.Common.{◌≡◌, ℕ, ◌≤◌, Bool, true, false, pos, ◌+ℤ◌, nat_abs, Some, None, sym, refl, ap, ◌∙◌, subst, is_some}
use Rattle.std.proofs.Math.Bridge.{le_prop}
use Rattle.std.proofs.lemmas.Bool.{and_from, true≢false}
use Rattle.std.proofs.lemmas.Option.{none-some, same_Some}
use Rattle.zmap.specs.Limits.{is_height, within}
use Rattle.zmap.proofs.HeightTest.{within_told}
use Rattle.facets.specs.declared.corner.Corner.{Corner}
use Rattle.facets.specs.declared.facet.Vertex.{Vertex}
use Rattle.facets.specs.declared.point.Point.{Point}
use Rattle.facets.specs.Corners.{corner_at, corner_by, corner_of, placed_tested}
use Rattle.facets.specs.Vertices.{Placed, is_placed}
use Rattle.facets.proofs.Signs.{Told, told}

pub placed_told : (v : Vertex) → Placed v → is_placed v ≡ true
placed_told v p =
    and_from _ _
    (and_from (within (pos 0) (pos 1000000) v.x) (within (pos 0) (pos 1000000) v.y) (within_told _ _ v.x p.across.0 p.across.1) (within_told _ _ v.y p.along.0 p.along.1))
    (within_told _ _ v.z p.high.0 p.high.1)

-- a point in range and a height above the floor, as a corner
abbrev made : (p : Point) (z : ℕ) → p.x ≤ 1000000 → p.y ≤ 1000000 → z ≤ 1000000 → Corner
made p z x y h = record { at = p; z = z; across = x; along = y; high = h }

-- two corners at one point and of one height are the same
corner_same : (j k : Corner) → j.at ≡ k.at → j.z ≡ k.z → j ≡ k
corner_same j k ep ez =
    subst (λ (p : Point). (x : p.x ≤ 1000000) (y : p.y ≤ 1000000) → j ≡ made p k.z x y k.high) ep
    (subst (λ (z : ℕ). (h : z ≤ 1000000) (x : j.at.x ≤ 1000000) (y : j.at.y ≤ 1000000) → j ≡ made j.at z x y h) ez
    (λ h x y. ap (λ q. made j.at j.z q j.along j.high) (le_prop j.across x) ∙ ap (λ q. made j.at j.z x q j.high) (le_prop j.along y) ∙ ap (made j.at j.z x y) (le_prop j.high h))
    k.high)
    k.across k.along

corner_by_off : (v : Vertex) (b : Bool) (e : is_placed v ≡ b) → b ≡ false → None ≡ corner_by v b e
corner_by_off v true e not = absurd (true≢false not)
corner_by_off v false e not = refl

corner_by_is : (v : Vertex) (k : Corner) (b : Bool) (e : is_placed v ≡ b) → b ≡ true → k.at ≡ record { x = nat_abs v.x; y = nat_abs v.y } → k.z ≡ nat_abs (v.z +ℤ pos 500000) → Some k ≡ corner_by v b e
corner_by_is v k true e is ep ez = ap Some (corner_same k (corner_at v e) ep ez)
corner_by_is v k false e is ep ez = absurd (true≢false (sym is))

pub corner_off : (v : Vertex) → is_placed v ≡ false → None ≡ corner_of v
unfolding corner_of
corner_off v not = corner_by_off v (is_placed v) refl not

-- the corner of the numbers of a vertex in range
pub corner_is : (v : Vertex) (k : Corner) → within (pos 0) (pos 1000000) v.x ≡ true → within (pos 0) (pos 1000000) v.y ≡ true → is_height v.z ≡ true →
    pos k.at.x ≡ v.x → pos k.at.y ≡ v.y → k.z ≡ nat_abs (v.z +ℤ pos 500000) → Some k ≡ corner_of v
unfolding corner_of
corner_is v k across along high x y z =
    corner_by_is v k (is_placed v) refl (and_from _ _ (and_from _ _ across along) high)
    (ap (λ n. record { x = n; y = k.at.y }) (ap nat_abs x) ∙ ap (λ n. record { x = nat_abs v.x; y = n }) (ap nat_abs y))
    z

has_corner_by : (v : Vertex) (b : Bool) (e : is_placed v ≡ b) → is_some (corner_by v b e) ≡ b
has_corner_by v true e = refl
has_corner_by v false e = refl

pub has_corner : (v : Vertex) → is_some (corner_of v) ≡ is_placed v
unfolding corner_of
has_corner v = has_corner_by v (is_placed v) refl

corner_by_some : (v : Vertex) (k : Corner) (b : Bool) (e : is_placed v ≡ b) → corner_by v b e ≡ Some k → Placed v × Told v k
corner_by_some v k true e is = let p = placed_tested v e in (p, subst (Told v) (same_Some _ _ is) (told v e))
corner_by_some v k false e is = absurd (none-some k is)

pub corner_some : (v : Vertex) (k : Corner) → corner_of v ≡ Some k → Placed v × Told v k
unfolding corner_of
corner_some v k is = corner_by_some v k (is_placed v) refl is

corner_by_none : (v : Vertex) (b : Bool) (e : is_placed v ≡ b) → corner_by v b e ≡ None → b ≡ false
corner_by_none v true e is = absurd (none-some _ (sym is))
corner_by_none v false e is = refl

pub corner_none : (v : Vertex) → corner_of v ≡ None → Placed v → ⊥
unfolding corner_of
corner_none v is p = true≢false (sym (placed_told v p) ∙ corner_by_none v (is_placed v) refl is)
