-- The height of a ball: by a root rounded up, by its formula, and its laws. Assumes nothing.
use Rattle.std.specs.Prelude.{◌≡◌, ℕ, ◌+◌, ◌-◌, ◌*◌, ◌<◌, ◌≤◌, true, Some, nat_le}
use Rattle.std.proofs.Common.{sym, ap, subst, ◌∙◌, arith}
use Rattle.std.proofs.lemmas.Nat.{mul-le, mul-lt}
use Rattle.cutters.specs.Balls.{ball_height, ball_shape, BallStands, BallDrawn, RootUp}
use Rattle.cutters.specs.Discs.{square, in_disc}
use Rattle.cutters.specs.Profiles.{Lawful}
use Rattle.cutters.specs.DiscsLemmas.{disc_lawful, disc_le, disc_past, square_centre}
use Rattle.cutters.specs.LargestLemmas.{largest_below, largest_unique}
use Rattle.zmap.specs.declared.node.Offset.{Offset}

-- a whole root, and one that is rounded up
pub root_whole : (n r : ℕ) → r * r ≤ n → n ≤ r * r → RootUp n r
root_whole n r low high = record { has = high; bounds = λ k l. grind (arith, mul-lt k k r r) }

pub root_more : (n r : ℕ) → r * r < n → n < (r + 1) * (r + 1) → RootUp n (r + 1)
root_more n r low high = record { has = omega arith; bounds = λ k l. grind (arith, mul-le k k r r) }

-- the root is at most the radius
pub root_under : (R q d : ℕ) → RootUp (R * R - q) d → d ≤ R
root_under R q d s = grind (arith, s.bounds R)

pub ball_root : (R q d : ℕ) → q ≤ R * R → RootUp (R * R - q) d → BallStands R q (R - d)
ball_root R q d near s =
    let under = root_under R q d s in
    record {
      most = omega arith;
      has = let e : R - (R - d) ≡ d = omega arith in simp e (omega (arith, s.has));
      bounds = λ k l m. omega (arith, s.bounds (R - k) (omega arith));
    }

-- what stands so is the height of the formula
pub ball_unique : (R q h : ℕ) → BallStands R q h → ball_height R q ≡ h
unfolding ball_height
ball_unique R q h s =
    largest_unique (λ k. nat_le (R * R) ((R - k) * (R - k) + q)) R h s.most (grind (arith, s.has)) (λ k i j. grind (arith, s.bounds k i j))

ball_below : (R q : ℕ) → ball_height R q ≤ R
unfolding ball_height
ball_below R q = largest_below _ R

ball_tip : (R : ℕ) → BallStands R 0 0
ball_tip R = record { most = omega arith; has = grind arith; bounds = λ k l m. grind (arith, mul-lt (R - k) (R - k) R R) }

pub ball_lawful : (p R : ℕ) → R ≤ 15999 → R < 16 * p → Lawful 15 (ball_shape p R)
ball_lawful p R slim near =
    disc_lawful p R (λ o. ball_height R (square p o)) near
    (ap (ball_height R) (square_centre p) ∙ ball_unique R 0 0 (ball_tip R))
    (λ o _. omega (arith, ball_below R (square p o)))

pub ball_value : (p R : ℕ) (o : Offset) (q h : ℕ) → in_disc p R o ≡ true → q ≡ square p o → BallStands R q h → Some h ≡ ball_shape p R o
ball_value p R o q h i e s = simp (i, sym e, ball_unique R q h s)

pub ball_drawn : (p R : ℕ) (o : Offset) (q h : ℕ) → in_disc p R o ≡ true → q ≡ square p o → BallStands R q h → BallDrawn p R o (Some h)
ball_drawn p R o q h i e s = (disc_le p R o i, subst (λ x. BallStands R x h) e s)

-- what a ball answers at an offset
pub ruleset ball_drawing = (disc_past, disc_le, ball_value, ball_drawn)
