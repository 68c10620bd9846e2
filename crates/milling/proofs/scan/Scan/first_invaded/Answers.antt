-- Each turn sees one offset more; the first invaded sample ends the scan.
use Rattle.std.proofs.Common.{◌≤ℤ◌}
use Rattle.milling.specs.Cuts.{Clears}
use Rattle.milling.proofs.Rounds.{each_all}
use Rattle.milling.proofs.Seen.{first_found}
use Rattle.milling.proofs.scan.Scan.first_invaded.Goals as goal

pub returns-in-Some : goal.returns-in-Some
returns-in-Some g c =
    let law = g.met.C.Cutter.lawful c.args.self.now.cutter.now in
    let at = c.in-Some.ensures in
    (first_found c.args.self.now.pose _ _ _ _ _ _ c.offsets-o-items.ensures law c.scan.invariant.0 at, at.class)

pub returns-after-scan : goal.returns-after-scan
returns-after-scan g c =
    let G = g.F.Field.surface c.args.self.now.guard.now in
    let P = g.C.Cutter.shape c.args.self.now.cutter.now in
    let law = g.met.C.Cutter.lawful c.args.self.now.cutter.now in
    let clear : Clears c.args.self.now.grid G P c.args.self.now.pose =
    each_all _ (λ s u. (G s).height ≤ℤ u) _ _ c.offsets-o-items.ensures law c.scan-test.false c.scan.invariant.0 in
    simp c.scan.invariant.1 clear
