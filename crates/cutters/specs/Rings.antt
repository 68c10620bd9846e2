-- The order in which offsets are scanned, and what the table of them is. Assumes nothing.
use Rattle.std.specs.Prelude.{◌≡◌, ℕ, ◌+◌, ◌*◌, ◌<◌, ◌⊎◌, List, length, ◌<ℤ◌, slice_index_or, unsigned_abs}
use Rattle.cutters.specs.Profiles.{Near}
use Rattle.zmap.specs.declared.node.Offset.{Offset}

-- the square of the distance from the tip to o, in samples
abbrev pub distance : Offset → ℕ
distance o = unsigned_abs o.dx * unsigned_abs o.dx + unsigned_abs o.dy * unsigned_abs o.dy

-- o comes before p: it is nearer, or as near and of a row before, or as near and in the same row and of a column before
abbrev pub Before : Offset → Offset → Type 0
Before o p = (distance o < distance p) ⊎ ((distance o ≡ distance p) × ((o.dy <ℤ p.dy) ⊎ ((o.dy ≡ p.dy) × (o.dx <ℤ p.dx))))

-- os has every offset up to 15 columns and 15 rows away, each once and in the order of the scan
pub record Ring (os : List Offset) : Type 0 where
  pub size : length os ≡ 961
  pub range : (k : ℕ) (d : Offset) → k < 961 → Near 15 (slice_index_or os k d)
  pub order : (j k : ℕ) (d : Offset) → j < k → k < 961 → Before (slice_index_or os j d) (slice_index_or os k d)
  pub once : (j k : ℕ) (d : Offset) → j < 961 → k < 961 → slice_index_or os j d ≡ slice_index_or os k d → j ≡ k
  pub all : (o : Offset) → Near 15 o → (k : ℕ) × (k < 961) × ((d : Offset) → slice_index_or os k d ≡ o)
