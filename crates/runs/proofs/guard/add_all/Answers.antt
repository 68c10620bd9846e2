-- No clamp is refused, so each turn has one more.
use Rattle.std.proofs.Common.{refl, ap, ◌∙◌}
use Rattle.std.proofs.lemmas.List.{take_all}
use Rattle.runs.proofs.Adding.{added_more, taken}
use Rattle.runs.proofs.guard.add_all.Goals as goal

pub unwrap-requires : goal.unwrap-requires
unwrap-requires g c =
    let so = c.loop-clamp.invariant in
    taken _ _ _ c.args.clamps.now _ _ _ c.add.ensures.accepts (ap g.F.Field.extent so.0) c.loop-clamp-test.true so.1 c.requires.few c.requires.fit

pub loop-clamp-init : goal.loop-clamp-init
loop-clamp-init g c = (refl, c.requires.none)

pub loop-clamp-preserved : goal.loop-clamp-preserved
loop-clamp-preserved g c =
    let so = c.loop-clamp.invariant in
    let table = c.add.ensures.table in
    (c.add.ensures.rest ∙ so.0, added_more _ _ c.args.clamps.now _ _ c.loop-clamp-test.true so.1 (simp c.unwrap.ensures at table))

pub returns : goal.returns
returns g c =
    let so = c.loop-clamp.invariant in
    record { clamps = so.1 ∙ take_all _ _ c.loop-clamp-test.false; rest = so.0 }
