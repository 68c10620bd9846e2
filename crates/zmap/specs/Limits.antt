-- The ranges of numbers that the rules fix, as facts and as tests. Assumes nothing.
use Rattle.std.specs.Prelude.{ℕ, ◌≤◌, Bool, ◌&&◌, ℤ, pos, negsuc, ◌≤ℤ◌, int_le}

-- x is a natural number from low to high
abbrev pub Within : ℕ → ℕ → ℕ → Type 0
Within low high x = (low ≤ x) × (x ≤ high)

-- whether the whole number x is from low to high
abbrev pub within : ℤ → ℤ → ℤ → Bool
within low high x = int_le low x && int_le x high

-- the lowest height, in µm
abbrev pub floor : ℤ
floor = negsuc 499999

-- the highest height, in µm
abbrev pub ceiling : ℤ
ceiling = pos 500000

-- z is a height: from the floor to the ceiling
abbrev pub Height : ℤ → Type 0
Height z = (floor ≤ℤ z) × (z ≤ℤ ceiling)

-- whether z is a height
abbrev pub is_height : ℤ → Bool
is_height z = within floor ceiling z
