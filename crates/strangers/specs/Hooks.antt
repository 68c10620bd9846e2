-- The hook. Assumes nothing.
use Rattle.std.specs.Prelude.{Bool, cond, ◌&&◌, ℤ, pos, negsuc, Some, None, int_le}
use Rattle.cutters.specs.Profiles.{Profile}
use Rattle.zmap.specs.declared.node.Offset.{Offset}

-- whether two whole numbers are the same
abbrev pub same : ℤ → ℤ → Bool
same a b = int_le a b && int_le b a

-- whether o leads so many columns to the east and so many rows to the south
abbrev pub leads : Offset → ℤ → ℤ → Bool
leads o x y = same o.dx x && same o.dy y

-- the hook: the tip, one and two columns to the east of it, and one row north of the last; one row north is −1
abbrev pub hook_shape : Profile
hook_shape o = cond (leads o (pos 0) (pos 0)) (Some 0) (cond (leads o (pos 1) (pos 0)) (Some 250) (cond (leads o (pos 2) (pos 0)) (Some 500) (cond (leads o (pos 2) (negsuc 0)) (Some 520) None)))
