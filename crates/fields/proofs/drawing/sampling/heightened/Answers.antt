-- The greater of two heights is their maximum.
use Rattle.std.proofs.Common.{◌≡◌, rules}
use Rattle.fields.specs.Drawings.{heightened}
use Rattle.fields.proofs.Summits.{heightened_as}
use Rattle.fields.proofs.drawing.sampling.heightened.Goals as goal

pub returns : goal.returns
returns c =
    let e : c.map_or.result ≡ heightened c.args.x c.args.y c.args.height c.args.facet = heightened_as _ _ _ _ _ _ c.height_over.ensures.value (search rules) in
    search rules
