-- The sample that a layer tells, by the test of its height. Assumes nothing.
use Rattle.std.proofs.Common.{◌≡◌, true, false, ℤ, arith}
use Rattle.std.proofs.lemmas.Int.{ints}
use Rattle.zmap.specs.declared.class.Class.{Class}
use Rattle.zmap.specs.declared.sample.Sample.{Sample}
use Rattle.setups.specs.Layers.{Classed, layered, same_height}

same_yes : (a b : ℤ) → a ≡ b → same_height a b ≡ true
same_yes a b e = grind (arith, ints)

same_no : (a b : ℤ) → (a ≡ b → ⊥) → same_height a b ≡ false
same_no a b ne = grind (arith, ints)

pub classed : (k : Class) (s : Sample) (h : ℤ) → Classed k s (layered k s h)
unfolding layered
classed k s h = record { below = λ e. grind (arith, ints); above = λ ne. grind (arith, ints) }
