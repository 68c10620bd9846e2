-- The largest number with a property. Assumes nothing.
use Rattle.std.specs.Prelude.{ℕ, zero, suc, Bool, cond}

-- the largest h up to n with the property, or 0 where none has it
unfoldable pub largest : (ℕ → Bool) → ℕ → ℕ
largest p zero = 0
largest p (suc n) = cond (p (suc n)) (suc n) (largest p n)
