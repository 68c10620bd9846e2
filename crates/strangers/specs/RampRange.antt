-- From a base that is a height a ramp stays in range. Assumes nothing.
use Rattle.std.specs.Prelude.{ℕ, ℤ}
use Rattle.std.proofs.Common.{arith}
use Rattle.std.proofs.lemmas.Int.{ints, clamps}
use Rattle.zmap.specs.Limits.{Height}
use Rattle.strangers.specs.Ramps.{ramp_height}

pub ramp_in_range : (base : ℤ) (step c : ℕ) → Height base → Height (ramp_height base step c)
ramp_in_range base step c low = (omega (arith, ints, clamps), omega (arith, ints, clamps))
