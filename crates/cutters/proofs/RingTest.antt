-- One test of a whole list of offsets. Assumes nothing.
use Rattle.std.proofs.Common.{ℕ, zero, suc, Bool, true, false, ◌&&◌, ◌||◌, eqb, leb, List, [], ◌∷◌, length}
use Rattle.cutters.specs.Order.{shifted, is_near, rank}
use Rattle.zmap.specs.declared.node.Offset.{Offset}

-- each of os is near, and their ranks rise from r on
abbrev pub rising : ℕ → List Offset → Bool
rising r [] = true
rising r (o ∷ os) = is_near o && leb r (rank o) && rising (suc (rank o)) os

-- o before os, where it is wanted
abbrev pub put : Bool → Offset → List Offset → List Offset
put true o os = o ∷ os
put false o os = os

-- those of os in the row y, counted from -15
abbrev pub row : ℕ → List Offset → List Offset
row y [] = []
row y (o ∷ os) = put (eqb (shifted o.dy) y) o (row y os)

-- one of os is in the column x, counted from -15
abbrev pub has : ℕ → List Offset → Bool
has x [] = false
has x (o ∷ os) = eqb (shifted o.dx) x || has x os

-- p is true of each number below n
abbrev pub every : (ℕ → Bool) → ℕ → Bool
every p zero = true
every p (suc n) = p n && every p n

-- each of 31 columns has one of os
abbrev pub full : List Offset → Bool
full os = every (λ x. has x os) 31

-- os is the table
abbrev pub is_ring : List Offset → Bool
is_ring os = eqb (length os) 961 && rising 0 os && every (λ y. full (row y os)) 31
