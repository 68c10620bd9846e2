-- The contact is the highest class met so far.
use Rattle.milling.proofs.Seen.{Met}
use Rattle.milling.proofs.scan.Scan.contact.Given as goal

abbrev pub invariant-loop-o : goal.invariant-loop-o
invariant-loop-o g l =
    Met l.self.grid (g.F.Field.surface l.self.guard.now) (g.C.Cutter.shape l.self.cutter.now) l.self.pose l.o-items l.o-index l.contact
