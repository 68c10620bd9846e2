-- What a cutter is: how far its underside stands above the tip, at each offset that it covers. Assumes nothing.
use Rattle.std.specs.Prelude.{◌≡◌, ℕ, ◌≤◌, pos, neg_ℤ, ◌≤ℤ◌, Some, Option}
use Rattle.zmap.specs.Maps.{At}
use Rattle.zmap.specs.declared.node.Node.{Node}
use Rattle.zmap.specs.declared.node.Offset.{Offset}

-- a height above the tip, in µm, at each offset that is covered
abbrev pub Profile : Type 0
Profile = Offset → Option ℕ

-- the offset of the tip itself
abbrev pub centre : Offset
centre = record { dx = pos 0; dy = pos 0 }

-- o is at most k columns and at most k rows away, on every side
pub record Near (k : ℕ) (o : Offset) : Type 0 where
  pub west : neg_ℤ (pos k) ≤ℤ o.dx
  pub east : o.dx ≤ℤ pos k
  pub north : neg_ℤ (pos k) ≤ℤ o.dy
  pub south : o.dy ≤ℤ pos k

-- the laws of cutters: P with the widest reach k
pub record Lawful (k : ℕ) (P : Profile) : Type 0 where
  pub centred : P centre ≡ Some 0
  pub bounded : (o : Offset) (h : ℕ) → P o ≡ Some h → h ≤ 200000
  pub reaches : (o : Offset) (h : ℕ) → P o ≡ Some h → Near k o
  pub narrow : k ≤ 15

-- with the tip over n the cutter covers s, its underside h above the tip
pub record Covers (P : Profile) (n s : Node) (h : ℕ) : Type 0 where
  pub offset : Offset
  pub at : At n offset s
  pub rise : P offset ≡ Some h
