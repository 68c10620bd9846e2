-- The entries of fifteen rows. Assumes nothing.
use Rattle.std.specs.Prelude.{ℕ, List, [], map, ℤ, pos, slice_index_or}
use Rattle.cutters.specs.declared.row.Row.{Row}

-- the entries, row by row
abbrev pub cells : List Row → List (List ℤ)
cells rows = map (λ (r : Row). r.heights) rows

-- the entry in the row i and the column j
abbrev pub cell : List Row → ℕ → ℕ → ℤ
cell rows i j = slice_index_or (slice_index_or (cells rows) i []) j (pos 0)
