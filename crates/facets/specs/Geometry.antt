-- Where a facet covers a point of the plan, and how high it stands there. Assumes nothing.
use Rattle.std.specs.Prelude.{◌≡◌, ℕ, ◌+◌, ◌*◌, ◌<◌, ◌⊎◌, ℤ, pos, ◌+ℤ◌, ◌*ℤ◌, ◌≤ℤ◌, Some, None, Option}
use Rattle.zmap.specs.Limits.{ceiling}
use Rattle.facets.specs.declared.facet.Facet.{Facet}
use Rattle.facets.specs.Vertices.{Sound}

-- the sum of i, j and k, so many times each
abbrev pub weighed : ℕ → ℕ → ℕ → ℤ → ℤ → ℤ → ℤ
weighed u v w i j k = (pos u *ℤ i) +ℤ ((pos v *ℤ j) +ℤ (pos w *ℤ k))

-- the point (x, y) of the plan is the mean of the vertices, which weigh u, v and w, not all 0
pub record Balances (f : Facet) (x y u v w : ℕ) : Type 0 where
  pub some : 0 < u + v + w
  pub across : weighed u v w f.a.x f.b.x f.c.x ≡ pos ((u + v + w) * x)
  pub along : weighed u v w f.a.y f.b.y f.c.y ≡ pos ((u + v + w) * y)

-- the plan of the facet covers the point, inside or on its edge: the point is some mean of the vertices
abbrev pub Covers : Facet → ℕ → ℕ → Type 0
Covers f x y = (u : ℕ) × (v : ℕ) × (w : ℕ) × Balances f x y u v w

-- the height h is not below the facet over the point: not below the same mean of the vertices' heights
abbrev pub NotBelow : Facet → ℕ → ℕ → ℤ → Type 0
NotBelow f x y h = (u v w : ℕ) → Balances f x y u v w → weighed u v w f.a.z f.b.z f.c.z ≤ℤ (pos (u + v + w) *ℤ h)

-- h is the least whole height not below the facet over the point
pub record Tops (f : Facet) (x y : ℕ) (h : ℤ) : Type 0 where
  pub over : NotBelow f x y h
  pub least : (k : ℤ) → NotBelow f x y k → h ≤ℤ k

-- the plan has no area, by the shoelace formula: its vertices are on one line
abbrev pub Upright : Facet → Type 0
Upright f =
    (f.a.x *ℤ f.b.y) +ℤ ((f.b.x *ℤ f.c.y) +ℤ (f.c.x *ℤ f.a.y))
    ≡ (f.a.x *ℤ f.c.y) +ℤ ((f.c.x *ℤ f.b.y) +ℤ (f.b.x *ℤ f.a.y))

-- a facet in range whose plan has an area and covers the point, and its height there
pub record Roofs (f : Facet) (x y : ℕ) (h : ℤ) : Type 0 where
  pub sound : Sound f
  pub wide : Upright f → ⊥
  pub covered : Covers f x y
  pub height : Tops f x y h

-- what the facet gives over the point: the ceiling where a vertex is out of range; else its height where its plan has an area and covers the point, and nothing elsewhere
abbrev pub Gives : Facet → ℕ → ℕ → Option ℤ → Type 0
Gives f x y None = Sound f × (Upright f ⊎ (Covers f x y → ⊥))
Gives f x y (Some h) = ((Sound f → ⊥) × (h ≡ ceiling)) ⊎ Roofs f x y h

-- r is what the facet gives over the point, and the geometry leaves no other answer
pub record Sole (f : Facet) (x y : ℕ) (r : Option ℤ) : Type 0 where
  pub gives : Gives f x y r
  pub only : (q : Option ℤ) → Gives f x y q → q ≡ r
