-- The sample that an allowance tells. Assumes nothing.
use Rattle.std.proofs.Common.{◌≡◌, ℕ, ℤ, sym, subst, arith}
use Rattle.std.proofs.lemmas.Int.{ints}
use Rattle.zmap.specs.declared.class.Class.TheVariants.{Allowance}
use Rattle.zmap.specs.declared.sample.Sample.{Sample}
use Rattle.setups.specs.LayerHeight.{layered_height}
use Rattle.setups.specs.Stocks.{Carries, Raises, stocked, stocked_sample}
use Rattle.setups.proofs.Layering.{classed}

raises : (a : ℕ) (z : ℤ) → Raises a z (stocked a z)
raises a z = record { under = grind (arith, ints); most = grind (arith, ints); either = grind (arith, ints) }

pub carries_as : {a : ℕ} {s t : Sample} → t ≡ stocked_sample a s → Carries a s t
carries_as {a} {s} e =
    subst (Carries a s) (sym e) (record { height = subst (Raises a s.height) (sym (layered_height Allowance s _)) (raises a s.height); class = classed Allowance s _ })
