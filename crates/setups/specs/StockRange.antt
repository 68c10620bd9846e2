-- Under a stock every sample stays in range. Assumes nothing.
use Rattle.std.specs.Prelude.{ℕ, ℤ}
use Rattle.std.proofs.Common.{sym, subst, arith}
use Rattle.std.proofs.lemmas.Int.{ints}
use Rattle.zmap.specs.Limits.{Height}
use Rattle.zmap.specs.declared.class.Class.TheVariants.{Allowance}
use Rattle.zmap.specs.declared.sample.Sample.{Sample}
use Rattle.setups.specs.LayerHeight.{layered_height}
use Rattle.setups.specs.Stocks.{stocked, stocked_sample}

stocked_high : (a : ℕ) (z : ℤ) → Height z → Height (stocked a z)
stocked_high a z h = grind (arith, ints)

pub stocked_in_range : (a : ℕ) (s : Sample) → Height s.height → Height (stocked_sample a s).height
stocked_in_range a s h = subst Height (sym (layered_height Allowance s (stocked a s.height))) (stocked_high a s.height h)
