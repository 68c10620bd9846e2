-- Sums over two blocks, as one sample is lowered. Assumes nothing.
use Rattle.std.proofs.Common.{◌≡◌, ℕ, zero, suc, ◌+◌, ◌<◌, cond, ltb, List, [], ◌∷◌, length, get_or, set, ℤ, refl, arith}
use Rattle.std.proofs.lemmas.Int.{ints}
use Rattle.std.proofs.lemmas.Bool.Decides.{nat_tests}
use Rattle.std.specs.Int.{int_min}
use Rattle.milling.specs.Losses.{fall, fallen, summed}

-- one entry more or less, counted by itself
pub summed_set : (f : ℤ → ℤ → ℕ) (xs ys : List ℤ) (i : ℕ) (v d : ℤ) → i < length xs → i < length ys →
    summed f xs (set ys i v) + f (get_or xs i d) (get_or ys i d) ≡ summed f xs ys + f (get_or xs i d) v
summed_set f [] ys i v d lt lt' = omega arith
summed_set f (x ∷ xs) [] i v d lt lt' = omega arith
summed_set f (x ∷ xs) (y ∷ ys) zero v d lt lt' = omega arith
summed_set f (x ∷ xs) (y ∷ ys) (suc i) v d lt lt' = omega (arith, summed_set f xs ys i v d (omega arith) (omega arith))

pub fallen_same : (x : ℤ) → fallen x x ≡ 0
fallen_same x = grind (arith, ints)

pub fall_same : (x : ℤ) → fall x x ≡ 0
fall_same x = grind (arith, ints)

-- lowered to u or left, a sample falls as far as u is below it
pub fall_min : (x u : ℤ) → fall x (int_min x u) ≡ fall x u
fall_min x u = grind (arith, ints)

-- and is counted where that is not 0
pub fallen_min : (x u : ℤ) → fallen x (int_min x u) ≡ cond (ltb 0 (fall x u)) 1 0
fallen_min x u = grind (arith, ints, nat_tests)

pub summed_same : (f : ℤ → ℤ → ℕ) → ((x : ℤ) → f x x ≡ 0) → (xs : List ℤ) → summed f xs xs ≡ 0
summed_same f same [] = refl
summed_same f same (x ∷ xs) = omega (arith, same x, summed_same f same xs)
