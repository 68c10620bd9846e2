-- Each turn sees one offset more.
use Rattle.std.proofs.Common.{refl, ◌<◌, rules}
use Rattle.milling.proofs.Cutting.{done, one_more_bare, one_more, start}
use Rattle.milling.proofs.scan.Scan.carve.Goals as goal
use Rattle.milling.proofs.scan.Scan.carve.Goals.{in-Some, in_default}

pub loop-o-init : goal.loop-o-init
loop-o-init g c = (start _ _ _, refl)

pub loop-o-preserved : goal.loop-o-preserved
loop-o-preserved g c =
    let p = c.args.self.now.pose in
    let os = c.offsets-o-items.result.now in
    let b = c.args.block.now in
    let i = c.loop-o.o-index in
    elim c.match-covered.branch [
      | in-Some w ↦
          let small : w.lower.result < 4294967296 = search rules in
          rw (w.block-is, w.removed-is, w.lower.ensures.block, w.count.ensures.samples, w.count.ensures.loss, w.count.ensures.contact)
          (one_more p os b c.loop-o.block i _ _ _ _ _ _ c.offsets-o-items.ensures c.requires c.loop-o-test.true c.loop-o.invariant.0 w.in-Some.ensures w.lower.ensures.fell small, c.loop-o.invariant.1)
      | in_default w ↦
          rw (w.block-is, w.removed-is) (one_more_bare p os b c.loop-o.block i _ _ _ c.loop-o-test.true c.loop-o.invariant.0 w.in_default.ensures, c.loop-o.invariant.1)
    ]

pub returns : goal.returns
returns g c =
    let law = g.met.C.Cutter.lawful c.args.self.now.cutter.now in
    let so = c.loop-o.invariant.0 in
    record {
      block = done c.args.self.now.pose _ c.args.block.now _ _ _ _ _ c.offsets-o-items.ensures law c.loop-o-test.false so;
      removed = record { samples = so.samples; loss = so.loss; contact = rw c.loop-o.invariant.1 c.contact.ensures };
    }
