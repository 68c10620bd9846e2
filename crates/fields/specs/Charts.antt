-- What a chart stands for. Assumes nothing.
use Rattle.std.specs.Prelude.{◌≡◌, ℕ, ◌<◌, ◌≤◌, cond, List, length, ℤ, Some, None, Option, slice_index_or}
use Rattle.std.specs.List.{slice_get}
use Rattle.std.specs.Option.{option_map}
use Rattle.zmap.specs.Limits.{ceiling, Height, is_height}
use Rattle.zmap.specs.Maps.{place}
use Rattle.zmap.specs.declared.class.Class.TheVariants.{Part}
use Rattle.zmap.specs.declared.grid.Grid.{Grid}
use Rattle.zmap.specs.declared.node.Node.{Node}
use Rattle.zmap.specs.declared.sample.Sample.{Sample}

-- the sample that a height tells: class part
abbrev pub told_height : ℤ → Sample
told_height z = record { height = z; class = Part }

-- what stands where a chart has no entry: the ceiling
abbrev pub unread : Sample
unread = told_height ceiling

-- the sample that is told, or the ceiling where none is or it has no height
abbrev pub read : Option Sample → Sample
read None = unread
read (Some s) = cond (is_height s.height) s unread

-- what the entry at place i tells, or the ceiling where it is missing or tells no height
abbrev pub chart_at : {T : Type 0} → (T → Sample) → List T → ℕ → Sample
chart_at told es i = read (option_map told (slice_get es i))

-- the sample at n: what the entry at its place tells
abbrev pub chart_sample : {T : Type 0} → (T → Sample) → Grid → List T → Node → Sample
chart_sample told g es n = chart_at told es (place g n)

-- s stands at place i: what the entry there tells, where there is one whose height is in range, and else the ceiling
pub record Charted {T : Type 0} (told : T → Sample) (es : List T) (i : ℕ) (s : Sample) : Type 0 where
  pub entry : (d : T) → i < length es → Height (told (slice_index_or es i d)).height → s ≡ told (slice_index_or es i d)
  pub bad : (d : T) → i < length es → (Height (told (slice_index_or es i d)).height → ⊥) → s ≡ unread
  pub missing : length es ≤ i → s ≡ unread
