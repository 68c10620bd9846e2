-- A pose is cut where every check passes; the centre is covered.
use Rattle.std.proofs.Common.{rules}
use Rattle.milling.proofs.Centre.{centre_covered}
use Rattle.milling.proofs.posing.pose.Goals as goal

pub returns : goal.returns
returns g c =
    let formed = c.in_ok-pose.ensures in
    let law = g.met.C.Cutter.lawful c.args.cutter.now in
    let some = rw formed.pose at (centre_covered c.grid-grid.result _ (g.C.Cutter.shape c.args.cutter.now) c.in_ok-pose.pose law formed.ready.0) in
    let clear = rw formed.pose at c.in_default.ensures in
    rw (← c.grid-grid.ensures, ← c.pitch.ensures)
    (record {
      outcome = record { passed = search rules; long = c.carve.auto.block; carved = rw formed.pose at c.carve.ensures.block; removed = rw formed.pose at c.carve.ensures.removed };
      exact = λ _. clear;
    })
