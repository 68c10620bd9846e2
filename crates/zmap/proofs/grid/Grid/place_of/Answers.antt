-- A node on the map has its place below the number of samples.
use Rattle.std.proofs.Common.{refl}
use Rattle.zmap.proofs.Places.{place_below}
use Rattle.zmap.proofs.grid.Grid.place_of.Goals as goal

pub returns-then-has : goal.returns-then-has
returns-then-has c =
    let on = c.if-has.ensures.yes tt in
    record { value = (on, refl); inside = place_below c.args.self.now c.args.n on }
