-- The geometry says what the corners give.
use Rattle.std.proofs.Common.{rules}
use Rattle.facets.specs.Drawn.{facet_at}
use Rattle.facets.proofs.Giving.{sole_as}
use Rattle.facets.proofs.facet.Facet.height_over.Goals as goal

pub returns-in_default-clause-sole : goal.returns-in_default-clause-sole
unfolding facet_at
returns-in_default-clause-sole c = sole_as _ _ _ (search rules)

pub returns-in_default-corner_of-clause-sole : goal.returns-in_default-corner_of-clause-sole
unfolding facet_at
returns-in_default-corner_of-clause-sole c = sole_as _ _ _ (search rules)

pub returns-in_default-corner_of-2-clause-sole : goal.returns-in_default-corner_of-2-clause-sole
unfolding facet_at
returns-in_default-corner_of-2-clause-sole c = sole_as _ _ _ (search rules)

pub returns-clause-sole : goal.returns-clause-sole
unfolding facet_at
returns-clause-sole c = sole_as _ _ _ (search rules)
