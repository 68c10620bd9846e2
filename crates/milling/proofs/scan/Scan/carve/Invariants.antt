-- What the offsets passed so far have made of the block.
use Rattle.std.proofs.Common.{◌≡◌}
use Rattle.milling.proofs.Cutting.{Sofar}
use Rattle.milling.proofs.scan.Scan.carve.Given as goal

abbrev pub invariant-loop-o : goal.invariant-loop-o
invariant-loop-o g l =
    Sofar l.self.grid (g.C.Cutter.shape l.self.cutter.now) l.self.pose l.o-items l.initial.block l.block l.o-index l.removed.samples l.removed.loss
    × (l.removed.contact ≡ l.initial.removed.contact)
