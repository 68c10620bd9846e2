-- Past the tip radius the root is at least that of the tip radius.
use Rattle.std.proofs.Common.{arith}
use Rattle.cutters.specs.ConesLemmas.{root_above}
use Rattle.cutters.proofs.cone.Cone.height.Goals as goal

pub overflow_sub-result : goal.overflow_sub-result
overflow_sub-result c =
    let high = simp (c.from.ensures, c.from-2.ensures) at c.isqrt-root.ensures.next_square_gt in
    omega (arith, c.from-3.ensures, root_above _ _ _ _ c.if-square-self.false high)
