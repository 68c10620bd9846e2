-- The disc that round cutters cover. Assumes nothing.
use Rattle.std.specs.Prelude.{◌≡◌, ℕ, ◌*◌, ◌<◌, ◌≤◌, Bool, true, false, Option, MatchOption, nat_le}
use Rattle.cutters.specs.Rings.{distance}
use Rattle.zmap.specs.declared.node.Offset.{Offset}

-- the square of the distance from the tip to o at the pitch p, in µm²
unfoldable pub square : ℕ → Offset → ℕ
square p o = p * p * distance o

-- whether o, at the pitch p, is at most R away from the tip
unfoldable pub in_disc : ℕ → ℕ → Offset → Bool
in_disc p R o = nat_le (square p o) (R * R)

-- r is the square of the distance to o, or nothing where that is more than R away
abbrev pub Squared : ℕ → ℕ → Offset → Option ℕ → Type 0
Squared p R o r = MatchOption r (in_disc p R o ≡ false) (λ q. (in_disc p R o ≡ true) × (q ≡ square p o))

-- nothing exactly where the square q of the distance is past that of the radius R, else a height that stands as H says
abbrev pub Round : ℕ → ℕ → (ℕ → Type 0) → Option ℕ → Type 0
Round R q H r = MatchOption r (R * R < q) (λ h. (q ≤ R * R) × H h)
