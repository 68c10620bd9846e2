-- Tests of orders and ranges, and the facts, each from the other. Assumes nothing.
use Rattle.std.proofs.Common.{◌≡◌, true, ℤ, ◌≤ℤ◌, arith}
use lib.Signed.{le_z}
use Rattle.std.proofs.lemmas.Int.{ints}
use Rattle.zmap.specs.Limits.{floor, ceiling, Height, is_height, within}

pub le_tested : (a b : ℤ) → le_z a b ≡ true → a ≤ℤ b
le_tested a b e = grind (arith, ints)

pub within_tested : (low high z : ℤ) → within low high z ≡ true → (low ≤ℤ z) × (z ≤ℤ high)
within_tested low high z e = (grind (arith, ints), grind (arith, ints))

pub within_told : (low high z : ℤ) → low ≤ℤ z → z ≤ℤ high → within low high z ≡ true
within_told low high z l h = grind (arith, ints)

pub height_tested : (z : ℤ) → is_height z ≡ true → Height z
height_tested z e = within_tested floor ceiling z e
