-- Taking a survey, sample by sample. Assumes nothing.
use Rattle.std.proofs.Common.{◌≡◌, ℕ, ◌<◌, List, length, get_or, sym, ap, ◌∙◌}
use Rattle.zmap.proofs.Places.{place_unique}
use Rattle.zmap.specs.Maps.{On, place, size}
use Rattle.zmap.specs.declared.grid.Grid.{Grid}
use Rattle.zmap.specs.declared.node.Node.{Node}
use Rattle.zmap.specs.declared.sample.Sample.{Sample}
use Rattle.fields.specs.Surveys.{ToldAt}

-- the first i places of ms hold the samples of their nodes
pub record Sofar (g : Grid) (surface : Node → Sample) (i : ℕ) (ms : List Sample) : Type 0 where
  pub long : length ms ≡ size g
  pub all : (n : Node) (d : Sample) → On g n → place g n < i → get_or ms (place g n) d ≡ surface n

module _ (g : Grid) (surface : Node → Sample) where
  pub told_by : (i : ℕ) (m : Node) (s : Sample) → On g m → place g m ≡ i → s ≡ surface m → ToldAt g surface i s
  told_by i m s on at is n on' at' = is ∙ ap surface (place_unique g m n on on' (at ∙ sym at'))
