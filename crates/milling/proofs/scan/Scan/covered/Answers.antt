-- The law of the cutter keeps the rise small, and so the sum in range.
use Rattle.std.proofs.Common.{◌≡◌, ◌≤◌, Some, sym, rules, arith}
use Rattle.zmap.specs.Limits.{Height}
use Rattle.milling.proofs.scan.Scan.covered.Goals as goal

pub is_near-requires : goal.is_near-requires
is_near-requires g c = omega (arith, c.REACH.ensures, (g.met.C.Cutter.lawful c.args.self.now.cutter.now).narrow)

pub returns : goal.returns
returns g c =
    let law = g.met.C.Cutter.lawful c.args.self.now.cutter.now in
    let at = c.in_ok-sample.ensures in
    let rise : g.C.Cutter.shape c.args.self.now.cutter.now c.args.o ≡ Some c.in_ok-rise.rise = sym {a = Some c.in_ok-rise.rise} c.in_ok-rise.ensures in
    let low : c.in_ok-rise.rise ≤ 200000 = law.bounded c.args.o c.in_ok-rise.rise rise in
    let high : Height c.args.self.now.pose.tip = c.args.self.now.high in
    record { on = at.1; at = at.2; rise = c.in_ok-rise.rise; covers = rise; low = low; level = search rules }
