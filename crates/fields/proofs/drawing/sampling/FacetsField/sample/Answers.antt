-- The height of the facets over the point of the sample is the greatest.
use Rattle.std.proofs.Common.{rules}
use Rattle.fields.proofs.Summits.{highest_as}
use Rattle.fields.proofs.drawing.sampling.FacetsField.sample.Goals as goal

pub returns-clause-highest : goal.returns-clause-highest
returns-clause-highest c = highest_as _ _ _ _ (search rules)
