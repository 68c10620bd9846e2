-- What a raster stands for, and what its check finds. Assumes nothing.
use Rattle.std.specs.Prelude.{◌≡◌, ℕ, ◌<◌, ◌⊎◌, List, length, ℤ, pos, ◌≢◌, slice_index_or}
use Rattle.zmap.specs.Limits.{Height}
use Rattle.zmap.specs.Maps.{size}
use Rattle.zmap.specs.declared.fault.Fault.{Fault}
use Rattle.zmap.specs.declared.fault.Fault.TheVariants as fault
use Rattle.zmap.specs.declared.grid.Grid.{Grid}
use Rattle.zmap.specs.declared.node.Node.{Node}
use Rattle.zmap.specs.declared.sample.Sample.{Sample}
use Rattle.fields.specs.Charts.{chart_at, chart_sample, told_height}

-- the entry at place i, or the ceiling where it is missing or no height
abbrev pub raster_height : List ℤ → ℕ → ℤ
raster_height hs i = (chart_at told_height hs i).height

-- the sample at n: the entry at its place, class part
abbrev pub raster_sample : Grid → List ℤ → Node → Sample
raster_sample = chart_sample told_height

-- every entry is a height
abbrev pub AllHeights : List ℤ → Type 0
AllHeights hs = (i : ℕ) → i < length hs → Height (slice_index_or hs i (pos 0))

-- the entry at i is no height, and every one before it is
pub record FirstBad (hs : List ℤ) (i : ℕ) : Type 0 where
  pub inside : i < length hs
  pub bad : Height (slice_index_or hs i (pos 0)) → ⊥
  pub before : (k : ℕ) → k < i → Height (slice_index_or hs k (pos 0))

-- one entry for each sample, and every one a height
abbrev pub Whole : Grid → List ℤ → Type 0
Whole g hs = (length hs ≡ size g) × AllHeights hs

-- the length is wrong; or it is right, and this entry is the first that is no height
abbrev pub Flawed : Grid → List ℤ → Fault → Type 0
Flawed g hs e = ((e ≡ fault.RasterLength) × (length hs ≢ size g)) ⊎ ((length hs ≡ size g) × ((i : ℕ) × (e ≡ fault.RasterHeight i) × FirstBad hs i))
