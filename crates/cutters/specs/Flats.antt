-- The flat cutter. Assumes nothing.
use Rattle.std.specs.Prelude.{◌≡◌, ℕ, cond, Some, None, Option}
use Rattle.cutters.specs.Discs.{Round, in_disc, square}
use Rattle.cutters.specs.Profiles.{Profile}
use Rattle.zmap.specs.declared.node.Offset.{Offset}

-- the flat cutter of radius R at the pitch p: level over the disc, and nothing past it
abbrev pub flat_shape : ℕ → ℕ → Profile
flat_shape p R o = cond (in_disc p R o) (Some 0) None

-- r is what the flat cutter is to answer at o: 0 over the disc
abbrev pub FlatDrawn : ℕ → ℕ → Offset → Option ℕ → Type 0
FlatDrawn p R o r = Round R (square p o) (λ h. h ≡ 0) r
