-- A disc covers the tip, and nothing past 15 columns and rows where its radius is below 16 pitches. Assumes nothing.
use Rattle.std.specs.Prelude.{◌≡◌, ℕ, ◌+◌, ◌*◌, ◌<◌, ◌≤◌, true, false, cond, Some, None, nat_le, unsigned_abs}
use Rattle.std.proofs.Common.{arith}
use Rattle.std.proofs.lemmas.Nat.{mul-le, mul-lt}
use Rattle.std.proofs.lemmas.Bool.{le-leb, and_from}
use Rattle.std.proofs.lemmas.Option.{cond_some}
use Rattle.cutters.specs.Discs.{square, in_disc}
use Rattle.cutters.specs.Profiles.{Near, Lawful, centre}
use Rattle.cutters.specs.Order.{near_from}
use Rattle.zmap.specs.declared.node.Offset.{Offset}

-- within 15 columns and rows the squares stay small
pub disc_fits : (p x y : ℕ) → p ≤ 1000 → x ≤ 15 → y ≤ 15 → p * p * (x * x + y * y) ≤ 450000000
disc_fits p x y h i j =
    let s : x * x + y * y ≤ 450 = omega (arith, mul-le x x 15 15 i i, mul-le y y 15 15 j j) in
    mul-le (p * p) (x * x + y * y) 1000000 450 (mul-le p p 1000 1000 h h) s

-- the square from the magnitudes of the offset
pub square_told : (p : ℕ) (o : Offset) {x y : ℕ} → x ≡ unsigned_abs o.dx → y ≡ unsigned_abs o.dy → p * p * (x * x + y * y) ≡ square p o
unfolding square
square_told p o e f = simp (e, f)

pub disc_tested : (p R : ℕ) (o : Offset) (q : ℕ) → q ≡ square p o → in_disc p R o ≡ nat_le q (R * R)
unfolding in_disc
disc_tested p R o q e = simp e

pub disc_le : (p R : ℕ) (o : Offset) → in_disc p R o ≡ true → square p o ≤ R * R
unfolding in_disc
disc_le p R o e = grind arith

pub disc_past : (p R : ℕ) (o : Offset) → in_disc p R o ≡ false → R * R < square p o
unfolding in_disc
disc_past p R o e = grind arith

pub square_centre : (p : ℕ) → square p centre ≡ 0
unfolding square
square_centre p = omega arith

-- 16 pitches or more away, on one side, is past the radius
far : (p R a b : ℕ) → R < 16 * p → 16 ≤ a → R * R < p * p * (a * a + b)
far p R a b h i =
    let s : 256 ≤ a * a + b = omega (arith, mul-le 16 16 a a i i) in
    omega (arith, mul-lt R R (16 * p) (16 * p) h h, mul-le (p * p) 256 (p * p) (a * a + b) (omega arith) s)

pub far_x : (p R : ℕ) (o : Offset) → R < 16 * p → 15 < unsigned_abs o.dx → in_disc p R o ≡ false
unfolding in_disc square
far_x p R o h i = grind (arith, far p R (unsigned_abs o.dx) (unsigned_abs o.dy * unsigned_abs o.dy) h i)

pub far_y : (p R : ℕ) (o : Offset) → R < 16 * p → 15 < unsigned_abs o.dy → in_disc p R o ≡ false
unfolding in_disc square
far_y p R o h i = grind (arith, far p R (unsigned_abs o.dy) (unsigned_abs o.dx * unsigned_abs o.dx) h i)

pub disc_centre : (p R : ℕ) → in_disc p R centre ≡ true
unfolding in_disc
disc_centre p R = grind (arith, square_centre p)

pub disc_near : (p R : ℕ) (o : Offset) → R < 16 * p → in_disc p R o ≡ true → Near 15 o
disc_near p R o h i =
    let x : unsigned_abs o.dx ≤ 15 = grind (arith, far_x p R o h) in
    let y : unsigned_abs o.dy ≤ 15 = grind (arith, far_y p R o h) in
    near_from o (and_from _ _ (le-leb _ _ x) (le-leb _ _ y))

-- the laws of a cutter that stands f above the tip over a disc
pub disc_lawful : (p R : ℕ) (f : Offset → ℕ) → R < 16 * p → f centre ≡ 0 → ((o : Offset) → in_disc p R o ≡ true → f o ≤ 200000) →
    Lawful 15 (λ o. cond (in_disc p R o) (Some (f o)) None)
disc_lawful p R f h c b =
    record {
      centred = simp (disc_centre p R, c);
      bounded = λ o k e. let s = cond_some (in_disc p R o) (f o) k e in omega (arith, b o s.0, s.1);
      reaches = λ o k e. disc_near p R o h (cond_some (in_disc p R o) (f o) k e).0;
      narrow = omega arith;
    }

-- the square at an offset, and whether the disc covers it
pub ruleset disc_squares = (far_x, far_y, disc_fits, disc_tested, square_told)
