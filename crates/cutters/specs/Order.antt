-- The order of the scan is strict, and a number for each near offset rises with it. Assumes nothing.
use Rattle.std.specs.Prelude.{◌≡◌, ℕ, ◌+◌, ◌-◌, ◌*◌, ◌<◌, ◌≤◌, Bool, true, ◌&&◌, ◌⊎◌, ℤ, pos, negsuc, ◌+ℤ◌, ◌≤ℤ◌, nat_le, unsigned_abs, refl}
use Rattle.std.proofs.Common.{◌∙◌, inl, inr, arith}
use Rattle.std.proofs.lemmas.Int.{ints}
use Rattle.std.proofs.lemmas.Bool.{cases_order, leb-true, le-leb, and_parts, and_from}
use Rattle.cutters.specs.Profiles.{Near}
use Rattle.cutters.specs.Rings.{distance, Before}
use Rattle.zmap.specs.declared.node.Offset.{Offset}

pub before_irrefl : (o : Offset) → Before o o → ⊥
before_irrefl o (inl h) = omega arith
before_irrefl o (inr (_, inl h)) = omega (arith, ints)
before_irrefl o (inr (_, inr h)) = omega (arith, ints, h.1)

pub before_trans : (o p q : Offset) → Before o p → Before p q → Before o q
before_trans o p q (inl h) (inl i) = inl (omega arith)
before_trans o p q (inl h) (inr i) = inl (omega (arith, i.0))
before_trans o p q (inr h) (inl i) = inl (omega (arith, h.0))
before_trans o p q (inr (a, inl h)) (inr (b, inl i)) = inr (a ∙ b, inl (omega (arith, ints)))
before_trans o p q (inr (a, inl h)) (inr (b, inr i)) = inr (a ∙ b, inl (omega (arith, ints, i.0)))
before_trans o p q (inr (a, inr h)) (inr (b, inl i)) = inr (a ∙ b, inl (omega (arith, ints, h.0)))
before_trans o p q (inr (a, inr h)) (inr (b, inr i)) = inr (a ∙ b, inr (h.0 ∙ i.0, omega (arith, ints, h.1, i.1)))

-- z, from -15 on, counted from -15
abbrev pub shifted : ℤ → ℕ
shifted (pos n) = n + 15
shifted (negsuc n) = 14 - n

-- whether o is at most 15 columns and 15 rows away
abbrev pub is_near : Offset → Bool
is_near o = nat_le (unsigned_abs o.dx) 15 && nat_le (unsigned_abs o.dy) 15

-- a number for each near offset, in the order of the scan
abbrev pub rank : Offset → ℕ
rank o = distance o * 1024 + shifted o.dy * 32 + shifted o.dx

-- z is from -15 to 15, and n is the same counted from -15
record Shift (z : ℤ) (n : ℕ) : Type 0 where
  is : (z +ℤ pos 15) ≡ pos n
  high : n ≤ 30

shift_at : (z : ℤ) → unsigned_abs z ≤ 15 → Shift z (shifted z)
shift_at (pos n) h = record { is = refl; high = omega arith }
shift_at (negsuc n) h = record { is = omega (arith, ints); high = omega arith }

small_from : (z : ℤ) → negsuc 14 ≤ℤ z → z ≤ℤ pos 15 → unsigned_abs z ≤ 15
small_from (pos n) l h = omega (arith, ints)
small_from (negsuc n) l h = omega (arith, ints)

shift_x : (o : Offset) → is_near o ≡ true → Shift o.dx (shifted o.dx)
shift_x o h = shift_at o.dx (leb-true _ _ (and_parts _ _ h).0)

shift_y : (o : Offset) → is_near o ≡ true → Shift o.dy (shifted o.dy)
shift_y o h = shift_at o.dy (leb-true _ _ (and_parts _ _ h).1)

pub near_from : (o : Offset) → is_near o ≡ true → Near 15 o
near_from o h =
    let x = shift_x o h in
    let y = shift_y o h in
    record { west = omega (arith, ints, x.is); east = omega (arith, ints, x.is, x.high); north = omega (arith, ints, y.is); south = omega (arith, ints, y.is, y.high) }

pub is_near_from : (o : Offset) → Near 15 o → is_near o ≡ true
is_near_from o h = and_from _ _ (le-leb _ _ (small_from _ h.west h.east)) (le-leb _ _ (small_from _ h.north h.south))

same_parts : (x u y v : ℤ) → x ≡ u → y ≡ v → ◌≡◌ {A = Offset} record { dx = x; dy = y } record { dx = u; dy = v }
same_parts x u y v e f = cc

-- two offsets in the same column and row, counted from -15, are one
pub near_unique : (o p : Offset) → is_near o ≡ true → is_near p ≡ true → shifted o.dx ≡ shifted p.dx → shifted o.dy ≡ shifted p.dy → o ≡ p
near_unique o p h i x y =
    let ex : o.dx ≡ p.dx = omega (arith, ints, (shift_x o h).is, (shift_x p i).is) in
    let ey : o.dy ≡ p.dy = omega (arith, ints, (shift_y o h).is, (shift_y p i).is) in
    same_parts _ _ _ _ ex ey

pub low_x : (o : Offset) → is_near o ≡ true → shifted o.dx < 31
low_x o h = omega (arith, (shift_x o h).high)

pub low_y : (o : Offset) → is_near o ≡ true → shifted o.dy < 31
low_y o h = omega (arith, (shift_y o h).high)

-- three numbers in the order of one made of them, the last two below 32
parts_of : (a b y v x u : ℕ) → y ≤ 30 → v ≤ 30 → x ≤ 30 → u ≤ 30 → a * 1024 + y * 32 + x < b * 1024 + v * 32 + u →
    (a < b) ⊎ ((a ≡ b) × ((y < v) ⊎ ((y ≡ v) × (x < u))))
parts_of a b y v x u hy hv hx hu h =
    elim (cases_order a b) [
      | inl e ↦ inr (e, elim (cases_order y v) [ inl f ↦ inr (f, omega arith) | inr (inl f) ↦ inl f | inr (inr f) ↦ inl (omega arith) ])
      | inr (inl l) ↦ inl l
      | inr (inr l) ↦ inl (omega arith)
    ]

pub rank_before : (o p : Offset) → is_near o ≡ true → is_near p ≡ true → rank o < rank p → Before o p
rank_before o p h i r =
    let x = shift_x o h in
    let y = shift_y o h in
    let u = shift_x p i in
    let v = shift_y p i in
    elim (parts_of (distance o) (distance p) _ _ _ _ y.high v.high x.high u.high r) [
      | inl l ↦ inl l
      | inr (e, inl l) ↦ inr (e, inl (omega (arith, ints, y.is, v.is)))
      | inr (e, inr l) ↦ inr (e, inr (omega (arith, ints, y.is, v.is, l.0), omega (arith, ints, x.is, u.is, l.1)))
    ]
