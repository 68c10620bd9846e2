-- Each facet gives what the geometry says.
use Rattle.std.proofs.Common.{ap, ◌∙◌}
use Rattle.facets.specs.Drawn.{facet_at}
use Rattle.plates.proofs.Values.{plates}
use Rattle.plates.proofs.slopes.worked_facets.Goals as goal

pub returns : goal.returns
returns c =
    let up = c.height_over-up.ensures.value ∙ ap (λ f. facet_at f 0 100) c.slope.ensures ∙ plates.rising in
    let down = c.height_over-down.ensures.value ∙ ap (λ f. facet_at f 0 100) c.slope-2.ensures ∙ plates.falling in
    record { values = cc; plates = plates }
