-- The node at the place is the one.
use Rattle.std.proofs.Common.{◌≡◌, rules}
use Rattle.zmap.specs.Maps.{On, place}
use Rattle.fields.proofs.Surveying.{told_by}
use Rattle.fields.proofs.chart.taking.told_at.Goals as goal

pub returns : goal.returns
returns g c =
    let e = g.F.Field.extent c.args.field.now in
    let at : On e c.unwrap-n.result × (place e c.unwrap-n.result ≡ c.args.i) = search rules in
    told_by e _ _ _ _ at.0 at.1 (search rules)
