-- What `greater` answers at heights. Assumes nothing.
use Rattle.std.proofs.Common.{◌≡◌, cond, ℤ, arith}
use Rattle.std.proofs.lemmas.Int.{ints}
use Rattle.std.specs.Int.{int_max}
use Rattle.std.specs.Ordering.{is_lt, int_cmp}

pub greater_max : (a b r : ℤ) → r ≡ cond (is_lt (int_cmp a b)) b a → r ≡ int_max a b
greater_max a b r h = grind (arith, ints)
