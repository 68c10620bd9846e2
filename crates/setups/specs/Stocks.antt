-- What an allowance leaves on the field below, and when it is refused. Assumes nothing.
use Rattle.std.specs.Prelude.{◌≡◌, ℕ, cond, ◌⊎◌, ℤ, pos, ◌+ℤ◌, ◌≤ℤ◌, Some, None, Option}
use Rattle.std.specs.Int.{int_min}
use Rattle.zmap.specs.Limits.{ceiling, within}
use Rattle.zmap.specs.declared.class.Class.TheVariants as classes
use Rattle.zmap.specs.declared.fault.Fault.{Fault}
use Rattle.zmap.specs.declared.fault.Fault.TheVariants as fault
use Rattle.zmap.specs.declared.sample.Sample.{Sample}
use Rattle.setups.specs.Layers.{Classed, layered}

-- the refusal of a stock of so many µm
abbrev pub stock_fault : ℤ → Option Fault
stock_fault a = cond (within (pos 0) (pos 100000) a) None (Some fault.Allowance)

-- the height z with a stock of a µm on it, under the ceiling
abbrev pub stocked : ℕ → ℤ → ℤ
stocked a z = int_min (z +ℤ pos a) ceiling

-- the sample below, or class allowance where the stock makes it higher
abbrev pub stocked_sample : ℕ → Sample → Sample
stocked_sample a s = layered classes.Allowance s (stocked a s.height)

-- h is the smaller of the ceiling and of the height z plus a
pub record Raises (a : ℕ) (z h : ℤ) : Type 0 where
  pub under : h ≤ℤ ceiling
  pub most : h ≤ℤ (z +ℤ pos a)
  pub either : (h ≡ ceiling) ⊎ (h ≡ z +ℤ pos a)

-- t is the sample s under a stock of a µm: higher by it, up to the ceiling, and of class allowance exactly where that is not the height of s
pub record Carries (a : ℕ) (s t : Sample) : Type 0 where
  pub height : Raises a s.height t.height
  pub class : Classed classes.Allowance s t
