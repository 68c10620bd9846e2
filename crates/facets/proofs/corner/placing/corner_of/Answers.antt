-- A vertex in range has unsigned numbers.
use Rattle.std.proofs.Common.{rules}
use Rattle.facets.proofs.Placing.{corner_is}
use Rattle.facets.proofs.corner.placing.corner_of.Goals as goal

pub returns : goal.returns
returns c = corner_is c.args.v _ (search rules) (search rules) (search rules) (search rules) (search rules) (search rules)
