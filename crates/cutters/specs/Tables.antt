-- The table of a measured cutter, read by offset; what is written, and what the cutter stands for. Assumes nothing.
use Rattle.std.specs.Prelude.{◌≡◌, ℕ, cond, ℤ, pos, negsuc, Some, None, Option, MatchOption, ◌≢◌}
use Rattle.cutters.specs.Cells.{cell}
use Rattle.cutters.specs.Entries.{has_entry, index}
use Rattle.cutters.specs.Profiles.{Near, Profile}
use Rattle.cutters.specs.declared.table.Table.{Table}
use Rattle.zmap.specs.declared.node.Offset.{Offset}

-- the entry at o, which is at most 7 columns and 7 rows away
unfoldable pub entry_at : Table → Offset → ℤ
entry_at t o = cell t.rows (index o.dy) (index o.dx)

-- the height that an entry tells
abbrev pub height_of : ℤ → Option ℕ
height_of (pos h) = Some h
height_of (negsuc n) = None

-- the measured cutter: what the entry tells, and nothing past 7 columns and rows
abbrev pub measured_shape : Table → Profile
measured_shape t o = cond (has_entry o) (height_of (entry_at t o)) None

-- r is what the measured cutter is to answer at o: nothing exactly where o is past 7 columns or rows, or its entry is −1
abbrev pub MeasuredDrawn : Table → Offset → Option ℕ → Type 0
MeasuredDrawn t o r = MatchOption r (Near 7 o → entry_at t o ≡ negsuc 0) (λ h. Near 7 o × (entry_at t o ≡ pos h))

-- every entry of t is 0
abbrev pub Blank : Table → Type 0
Blank t = (o : Offset) → Near 7 o → entry_at t o ≡ pos 0

-- t' has z at o, and every other entry is as it was in t
pub record Written (t : Table) (o : Offset) (z : ℤ) (t' : Table) : Type 0 where
  pub written : entry_at t' o ≡ z
  pub row : (p : Offset) → Near 7 p → p.dy ≡ o.dy → (p.dx ≢ o.dx) → entry_at t' p ≡ entry_at t p
  pub rest : (p : Offset) → Near 7 p → (p.dy ≢ o.dy) → entry_at t' p ≡ entry_at t p
