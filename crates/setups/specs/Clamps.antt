-- When a clamp is refused. Assumes nothing.
use Rattle.std.specs.Prelude.{ℕ, Bool, cond, ◌&&◌, List, length, ℤ, pos, Some, None, Option, int_le, int_lt, nat_lt}
use Rattle.std.specs.List.{All}
use Rattle.zmap.specs.Faults.{or_else}
use Rattle.zmap.specs.Limits.{Height, is_height}
use Rattle.zmap.specs.declared.grid.Grid.{Grid}
use Rattle.zmap.specs.declared.fault.Fault.{Fault}
use Rattle.zmap.specs.declared.fault.Fault.TheVariants as fault
use Rattle.setups.specs.declared.clamp.Clamp.{Clamp}
use Rattle.setups.specs.declared.clamp.Span.{Span}

-- whether a span lies on a map of so many columns, or rows, and does not run backward
abbrev pub is_span : Span → ℕ → Bool
is_span s end = int_le (pos 0) s.first && int_le s.first s.last && int_lt s.last (pos end)

-- the first refusal of a clamp on a map of so many columns and rows: its extent, then its height
abbrev pub clamp_fault : ℕ → ℕ → Clamp → Option Fault
clamp_fault columns rows k = cond (is_span k.columns columns && is_span k.rows rows) (cond (is_height k.height) None (Some fault.ClampHeight)) (Some fault.ClampExtent)

-- the first refusal of one more clamp: its extent, its height, then the sixteen that stand already
abbrev pub adding_fault : Grid → List Clamp → Clamp → Option Fault
adding_fault g ks k = or_else (clamp_fault g.columns g.rows k) (cond (nat_lt (length ks) 16) None (Some fault.ClampsFull))

-- the first refusal of a new height for the clamp of that number: the height, then the number
abbrev pub raising_fault : List Clamp → ℕ → ℤ → Option Fault
raising_fault ks i z = cond (is_height z) (cond (nat_lt i (length ks)) None (Some fault.NoClamp)) (Some fault.ClampHeight)

-- every clamp's height is in range
abbrev pub High : List Clamp → Type 0
High ks = All (λ k. Height k.height) ks
