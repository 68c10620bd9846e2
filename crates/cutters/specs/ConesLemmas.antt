-- The height of a cone: by its root, by its formula, and its laws. Assumes nothing.
use Rattle.std.specs.Prelude.{◌≡◌, ℕ, ◌+◌, ◌-◌, ◌*◌, ◌/◌, ◌<◌, ◌≤◌, true, leb, Some, refl}
use Rattle.std.proofs.Common.{sym, subst, inl, inr, arith}
use Rattle.std.proofs.lemmas.Nat.{mul-le, mul-lt}
use Rattle.std.proofs.lemmas.Bool.{cases_lt, le-leb, lt-leb}
use Rattle.cutters.specs.Cones.{cone_height, cone_shape, ConeStands, ConeDrawn}
use Rattle.cutters.specs.Discs.{square, in_disc}
use Rattle.cutters.specs.Profiles.{Lawful, centre}
use Rattle.cutters.specs.DiscsLemmas.{disc_lawful, disc_le, disc_past, square_centre}
use Rattle.cutters.specs.LargestLemmas.{largest_below, largest_unique}
use Rattle.zmap.specs.declared.node.Offset.{Offset}

-- past the tip radius, the whole part of the root is at least S T
pub root_above : (T S q r : ℕ) → T * T < q → S * S * q < (r + 1) * (r + 1) → S * T ≤ r
root_above T S q r h i = grind (arith, mul-le (r + 1) (r + 1) (S * T) (S * T), mul-le (S * S) (T * T) (S * S) q)

-- the root of a rise and a square in range
pub root_below : (S q r : ℕ) → S ≤ 10000 → q ≤ 255968001 → r * r ≤ S * S * q → r ≤ 159990000
root_below S q r hs hq h = grind (arith, mul-lt 159990000 159990000 r r, mul-le (S * S) q 100000000 255968001 (mul-le S S 10000 10000 hs hs) hq)

pub cone_root : (T S q r h : ℕ) → T * T < q → r * r ≤ S * S * q → S * S * q < (r + 1) * (r + 1) → h ≡ (r - S * T) / 1000 → ConeStands T S q h
cone_root T S q r h past low high e =
    let above = root_above T S q r past high in
    let under : 1000 * h + S * T ≤ r = omega arith in
    record {
      level = λ l. absurd (omega arith);
      has = λ _. omega (arith, mul-le (1000 * h + S * T) (1000 * h + S * T) r r under under);
      bounds = λ _ k l. grind (arith, mul-le (r + 1) (r + 1) (1000 * k + S * T) (1000 * k + S * T));
    }

pub cone_level : (T S q : ℕ) → q ≤ T * T → ConeStands T S q 0
cone_level T S q h = record { level = λ _. refl; has = λ l. absurd (omega arith); bounds = λ l k i. absurd (omega arith) }

-- what stands so is the height of the formula
pub cone_unique : (T S q h : ℕ) → h ≤ 200000 → ConeStands T S q h → cone_height T S q ≡ h
unfolding cone_height
cone_unique T S q h b s =
    elim (cases_lt (T * T) q) [
      | inl l ↦
          let e = largest_unique (λ k. leb ((1000 * k + S * T) * (1000 * k + S * T)) (S * S * q)) 200000 h b (le-leb _ _ (s.has l)) (λ k i j. lt-leb _ _ (s.bounds l k i)) in
          grind (arith, e)
      | inr l ↦ grind (arith, s.level)
    ]

pub cone_below : (T S q : ℕ) → cone_height T S q ≤ 200000
unfolding cone_height
cone_below T S q = grind (arith, largest_below (λ h. leb ((1000 * h + S * T) * (1000 * h + S * T)) (S * S * q)) 200000)

cone_centre : (p T S : ℕ) → cone_height T S (square p centre) ≡ 0
unfolding cone_height
cone_centre p T S = grind (arith, square_centre p)

pub cone_lawful : (p R T S : ℕ) → R < 16 * p → Lawful 15 (cone_shape p R T S)
cone_lawful p R T S h = disc_lawful p R (λ o. cone_height T S (square p o)) h (cone_centre p T S) (λ o _. cone_below T S (square p o))

pub cone_value : (p R T S : ℕ) (o : Offset) (q h : ℕ) → in_disc p R o ≡ true → q ≡ square p o → h ≤ 200000 → ConeStands T S q h → Some h ≡ cone_shape p R T S o
cone_value p R T S o q h i e b s = simp (i, sym e, cone_unique T S q h b s)

pub cone_drawn : (p R T S : ℕ) (o : Offset) (q h : ℕ) → in_disc p R o ≡ true → q ≡ square p o → ConeStands T S q h → ConeDrawn p R T S o (Some h)
cone_drawn p R T S o q h i e s = (disc_le p R o i, subst (λ x. ConeStands T S x h) e s)

-- what a cone answers at an offset
pub ruleset cone_drawing = (disc_past, disc_le, cone_value, cone_drawn)

-- the height from the whole part of the root
pub ruleset cone_rising = (mul-le, root_below, cone_root, cone_level)
