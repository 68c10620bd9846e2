-- The mean of heights in range is in range.
use Rattle.std.proofs.Common.{◌+◌, ◌-◌, arith}
use Rattle.facets.proofs.Bounds.{weighed_low}
use Rattle.facets.proofs.Weights.{rounded_low}
use Rattle.facets.proofs.shoelace.mean.Goals as goal

pub returns-clause-bound : goal.returns-clause-bound
returns-clause-bound c =
    let sum = weighed_low (c.args.n - (c.args.v + c.args.w)) c.args.v c.args.w c.from.result c.from-2.result c.from-3.result (omega arith) (omega arith) (omega arith) in
    rounded_low _ c.args.n 1000000 _ (omega arith) (omega arith) c.div_ceil.ensures
