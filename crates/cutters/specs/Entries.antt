-- The entries of a measured cutter: which are allowed, and when one is refused. Assumes nothing.
use Rattle.std.specs.Prelude.{ℕ, ◌<◌, Bool, true, cond, ◌&&◌, List, length, ℤ, pos, negsuc, ◌+ℤ◌, ◌≤ℤ◌, Some, None, Option, slice_index_or, unsigned_abs}
use Rattle.zmap.specs.Limits.{within}
use Rattle.zmap.specs.declared.fault.Fault.{Fault}
use Rattle.zmap.specs.declared.fault.Fault.TheVariants as fault
use Rattle.zmap.specs.declared.node.Offset.{Offset}

-- z is an entry: a height from 0 to 200,000, or −1 where nothing is covered
abbrev pub Entry : ℤ → Type 0
Entry z = (negsuc 0 ≤ℤ z) × (z ≤ℤ pos 200000)

-- every one is an entry
abbrev pub Entries : List ℤ → Type 0
Entries zs = (j : ℕ) (d : ℤ) → j < length zs → Entry (slice_index_or zs j d)

-- whether z is an entry
abbrev pub is_entry : ℤ → Bool
is_entry z = within (negsuc 0) (pos 200000) z

-- whether z is 0
abbrev pub is_nought : ℤ → Bool
is_nought z = within (pos 0) (pos 0) z

-- whether a column or a row is at most 7 away
abbrev pub is_close : ℤ → Bool
is_close d = within (negsuc 6) (pos 7) d

-- whether o has an entry: it is at most 7 columns and 7 rows away
abbrev pub has_entry : Offset → Bool
has_entry o = is_close o.dx && is_close o.dy

-- whether z may be the entry at (dx, dy), where the centre takes only 0
abbrev pub is_allowed : ℤ → ℤ → ℤ → Bool
is_allowed dx dy z = is_entry z && cond (is_nought dx && is_nought dy) (is_nought z) true

-- the first refusal of an entry: its offset, then its height
abbrev pub entry_fault : ℤ → ℤ → ℤ → Option Fault
entry_fault dx dy z = cond (is_close dx && is_close dy) (cond (is_allowed dx dy z) None (Some fault.EntryHeight)) (Some fault.EntryOffset)

-- the index of the row or column that is d away, counted from −7
abbrev pub index : ℤ → ℕ
index d = unsigned_abs (d +ℤ pos 7)
