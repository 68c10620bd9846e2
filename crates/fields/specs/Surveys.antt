-- What a survey stands for, and what taking one writes. Assumes nothing.
use Rattle.std.specs.Prelude.{◌≡◌, ℕ, List, length, slice_index_or}
use Rattle.zmap.specs.Maps.{On, place, size}
use Rattle.zmap.specs.declared.fault.Fault.{Fault}
use Rattle.zmap.specs.declared.fault.Fault.TheVariants as fault
use Rattle.zmap.specs.declared.grid.Grid.{Grid}
use Rattle.zmap.specs.declared.node.Node.{Node}
use Rattle.zmap.specs.declared.sample.Sample.{Sample}
use Rattle.fields.specs.Charts.{chart_at, chart_sample}

-- the sample at place i, or the ceiling where it is missing or no height
abbrev pub survey_at : List Sample → ℕ → Sample
survey_at = chart_at (λ s. s)

-- the sample at n: the one at its place
abbrev pub survey_sample : Grid → List Sample → Node → Sample
survey_sample = chart_sample (λ s. s)

-- ms holds the surface of a field: the sample of each node at its place, so that the survey of ms is the field again
pub record Surveyed (g : Grid) (surface : Node → Sample) (ms : List Sample) : Type 0 where
  pub long : length ms ≡ size g
  pub all : (n : Node) (d : Sample) → On g n → slice_index_or ms (place g n) d ≡ surface n
  pub alike : (n : Node) → On g n → survey_sample g ms n ≡ surface n

-- s is the sample of the node at place i
abbrev pub ToldAt : Grid → (Node → Sample) → ℕ → Sample → Type 0
ToldAt g surface i s = (n : Node) → On g n → place g n ≡ i → s ≡ surface n

-- the memory ms does not have one place for each sample, and is as it was
pub record Unfit (g : Grid) (ms ms' : List Sample) (e : Fault) : Type 0 where
  pub fault : e ≡ fault.MapLength
  pub long : length ms ≡ size g → ⊥
  pub same : ms' ≡ ms
