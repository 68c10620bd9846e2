-- The first facet that is not sound.
use Rattle.std.proofs.Common.{rules}
use Rattle.std.proofs.lemmas.Iterator.{IsFirst-from_position, YieldsList-from_slice}
use Rattle.facets.specs.Vertices.{Sound}
use Rattle.facets.specs.declared.facet.Facet.{Facet}
use Rattle.fields.proofs.Summits.{first_unsound}
use Rattle.fields.proofs.drawing.checking.first_unsound.Goals as goal

pub returns : goal.returns
returns c =
    let fs = c.args.facets.now in
    first_unsound fs _ (IsFirst-from_position _ _ _ (λ (f : Facet). Sound f → ⊥) Sound c.position.ensures.ran (YieldsList-from_slice fs cc) (λ x q k. search rules) (λ x q k. search rules))
