-- The fold mirrors the definition.
use Rattle.std.proofs.Common.{rules}
use Rattle.std.proofs.lemmas.Iterator.{YieldsList-from_slice}
use Rattle.std.proofs.lemmas.Iterator.Consumers.{fold_from_yields_List}
use Rattle.fields.specs.Drawings.{heightened}
use Rattle.fields.proofs.drawing.sampling.highest.Goals as goal

pub returns : goal.returns
returns c =
    let e = fold_from_yields_List _ (heightened c.args.x c.args.y) _ c.fold.result c.fold.ensures.ran (YieldsList-from_slice c.args.facets.now cc) (λ a x b q k. search rules) in
    search rules
