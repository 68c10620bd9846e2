-- What the largest number with a property is: a bound, one that has the property, and the only such. Assumes nothing.
use Rattle.std.specs.Prelude.{◌≡◌, ℕ, zero, suc, ◌<◌, ◌≤◌, Bool, true, false, ◌⊎◌, refl}
use Rattle.std.proofs.Common.{inl, arith}
use Rattle.cutters.specs.Largest.{largest}

pub largest_below : (p : ℕ → Bool) (n : ℕ) → largest p n ≤ n
unfolding largest
largest_below p zero = omega arith
largest_below p (suc n) = grind (arith, largest_below p n)

-- it has the property, unless none does
pub largest_has : (p : ℕ → Bool) (n : ℕ) → (largest p n ≡ 0) ⊎ (p (largest p n) ≡ true)
unfolding largest
largest_has p zero = inl refl
largest_has p (suc n) = grind (arith, largest_has p n)

-- no larger number up to n has the property
pub largest_above : (p : ℕ → Bool) (n k : ℕ) → largest p n < k → k ≤ n → p k ≡ false
unfolding largest
largest_above p zero k h i = absurd (omega arith)
largest_above p (suc n) k h i = grind (arith, largest_above p n k)

pub largest_unique : (p : ℕ → Bool) (n h : ℕ) → h ≤ n → p h ≡ true → ((k : ℕ) → h < k → k ≤ n → p k ≡ false) → largest p n ≡ h
largest_unique p n h le has none = grind (arith, largest_above p n h, largest_has p n, largest_below p n, none (largest p n))
