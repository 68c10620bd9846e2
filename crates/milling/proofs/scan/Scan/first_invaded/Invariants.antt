-- Every sample seen so far is clear, and none is found.
use Rattle.std.proofs.Common.{◌≡◌, ◌≤ℤ◌, None}
use Rattle.milling.proofs.Rounds.{Each}
use Rattle.milling.proofs.scan.Scan.first_invaded.Given as goal

abbrev pub invariant-scan : goal.invariant-scan
invariant-scan g l =
    Each l.self.grid (g.C.Cutter.shape l.self.cutter.now) l.self.pose l.o-items l.o-index (λ s u. (g.F.Field.surface l.self.guard.now s).height ≤ℤ u)
    × (l.found ≡ None)
