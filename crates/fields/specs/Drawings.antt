-- What a list of facets stands for, and what its check finds. Assumes nothing.
use Rattle.std.specs.Prelude.{◌≡◌, ℕ, ◌*◌, ◌<◌, ◌⊎◌, List, length, ℤ, ◌≤ℤ◌, Some, None, fold, Option, slice_index_or}
use Rattle.std.specs.Int.{int_max}
use Rattle.std.specs.List.{Any}
use Rattle.zmap.specs.Limits.{floor}
use Rattle.zmap.specs.declared.class.Class.TheVariants.{Part}
use Rattle.zmap.specs.declared.grid.Grid.{Grid}
use Rattle.zmap.specs.declared.node.Node.{Node}
use Rattle.zmap.specs.declared.sample.Sample.{Sample}
use Rattle.facets.specs.Drawn.{facet_at}
use Rattle.facets.specs.Geometry.{Gives}
use Rattle.facets.specs.Vertices.{Sound}
use Rattle.facets.specs.declared.facet.Facet.{Facet}

-- how far so many columns or rows are from the first, in µm
abbrev pub along : Grid → ℕ → ℕ
along g i = i * g.pitch.microns

-- the greater of the height z and of the one that is given, where there is one
abbrev pub or_given : ℤ → Option ℤ → ℤ
or_given z None = z
or_given z (Some h) = int_max z h

-- the greater of the height z and of what the facet gives over the point (x, y)
abbrev pub heightened : ℕ → ℕ → ℤ → Facet → ℤ
heightened x y z f = or_given z (facet_at f x y)

-- the height of the facets over the point, from the floor up
abbrev pub facets_height : List Facet → ℕ → ℕ → ℤ
facets_height fs x y = fold (heightened x y) floor fs

-- the sample at n: the height of the facets over its point of the plan, class part
abbrev pub facets_sample : Grid → List Facet → Node → Sample
facets_sample g fs n = record { height = facets_height fs (along g n.column) (along g n.row); class = Part }

-- some facet gives the height h over the point
abbrev pub Given : List Facet → ℕ → ℕ → ℤ → Type 0
Given fs x y h = Any (λ f. Gives f x y (Some h)) fs

-- h is the greatest height that a facet gives over the point, or the floor where none gives one
pub record Highest (fs : List Facet) (x y : ℕ) (h : ℤ) : Type 0 where
  pub over : (z : ℤ) → Given fs x y z → z ≤ℤ h
  pub reached : Given fs x y h ⊎ ((h ≡ floor) × ((z : ℤ) → Given fs x y z → ⊥))

-- every facet has its vertices in range
abbrev pub AllSound : List Facet → Type 0
AllSound fs = (i : ℕ) (d : Facet) → i < length fs → Sound (slice_index_or fs i d)

-- the facet at i has a vertex out of range, and none before it has
pub record FirstUnsound (fs : List Facet) (i : ℕ) : Type 0 where
  pub inside : i < length fs
  pub bad : (d : Facet) → Sound (slice_index_or fs i d) → ⊥
  pub before : (k : ℕ) (d : Facet) → k < i → Sound (slice_index_or fs k d)
