-- What the areas weigh, and the height that they give: the least whole one not below the plane. Assumes nothing.
use Rattle.std.proofs.Common.{◌≡◌, ℕ, ◌+◌, ◌-◌, ◌*◌, ◌/◌, ◌%◌, ◌<◌, ◌≤◌, sym, ap, ◌∙◌, ⊎_elim, arith}
use native.Mathlib.Nat.{le_of_mul-le-mul_left}
use Rattle.std.proofs.lemmas.Nat.{mul-le, div-add-mod', mod_below}
use Rattle.std.proofs.lemmas.Bool.{cases_lt}
use Rattle.facets.specs.declared.corner.Corner.{Corner}
use Rattle.facets.specs.declared.point.Point.{Point}
use Rattle.std.specs.Int.{div_ceil}
use Rattle.facets.specs.Shoelaces.{half}
use Rattle.facets.proofs.Balance.{Poised, poised_turned, proportion, swept_poised}

-- n times a sum
pub times_sum : (n s i j : ℕ) → s ≡ i + j → n * s ≡ n * i + n * j
times_sum n s i j e = rw e (omega arith)

-- the areas U, V and W that the sides span with p, where a, b and c go round counter-clockwise, are in proportion to the weights
pub record Shares (a b c p : Point) (u v w U V W : ℕ) : Type 0 where
  pub whole : U + V + W + half a c b ≡ half a b c
  pub second : V + half p a c ≡ half p c a
  pub third : W + half p b a ≡ half p a b
  pub first_is : (u + v + w) * U ≡ u * (U + V + W)
  pub second_is : (u + v + w) * V ≡ v * (U + V + W)
  pub third_is : (u + v + w) * W ≡ w * (U + V + W)

-- one area: where n h is n k and d more, the difference of h and k is d in n parts
record Part (n h k d : ℕ) : Type 0 where
  le : k ≤ h
  is : n * (h - k) ≡ d

part : (n h k d : ℕ) → 0 < n → n * h ≡ n * k + d → Part n h k d
part n h k d some e =
    let le : k ≤ h = le_of_mul-le-mul_left (omega arith) some in
    record { le = le; is = omega (arith, times_sum n h (h - k) k (omega arith)) }

pub shares : (a b c p : Point) (u v w t : ℕ) → Poised a b c p u v w → 0 < t → t + half a c b ≡ half a b c → (U : ℕ) × (V : ℕ) × (W : ℕ) × (U + V + W ≡ t) × Shares a b c p u v w U V W
shares a b c p u v w t s some turned =
    let n = u + v + w in
    let ev : v * half a b c ≡ v * t + v * half a c b = rw (sym turned) (omega arith) in
    let ew : w * half a b c ≡ w * t + w * half a c b = rw (sym turned) (omega arith) in
    let pv = part n (half p c a) (half p a c) (v * t) s.some (omega (arith, proportion a b c p u v w s)) in
    let pw = part n (half p a b) (half p b a) (w * t) s.some (omega (arith, proportion a c b p u w v (poised_turned s))) in
    let V = half p c a - half p a c in
    let W = half p a b - half p b a in
    let both : n * (V + W) ≤ n * t = omega (arith, pv.is, pw.is) in
    let le : V + W ≤ t = le_of_mul-le-mul_left both s.some in
    let U = t - (V + W) in
    let sum : U + V + W ≡ t = omega arith in
    let first : n * U ≡ u * t = omega (arith, pv.is, pw.is, times_sum n t U (V + W) (omega arith)) in (
      U,
      V,
      W,
      sum,
      record {
        whole = omega (arith, turned);
        second = omega (arith, pv.le);
        third = omega (arith, pw.le);
        first_is = first ∙ ap (λ x. u * x) (sym sum);
        second_is = pv.is ∙ ap (λ x. v * x) (sym sum);
        third_is = pw.is ∙ ap (λ x. w * x) (sym sum);
      },
    )

-- k is not below the plane through the corners over p
abbrev pub Over : Corner → Corner → Corner → Point → ℕ → Type 0
Over a b c p k = (u v w : ℕ) → Poised a.at b.at c.at p u v w → u * a.z + v * b.z + w * c.z ≤ (u + v + w) * k

-- k is the least that is not below the plane
pub record Lies (a b c : Corner) (p : Point) (k : ℕ) : Type 0 where
  pub over : Over a b c p k
  pub least : (j : ℕ) → Over a b c p j → k ≤ j

-- k is the least number that n times is t or more
pub record RoundsUp (t n k : ℕ) : Type 0 where
  pub over : t ≤ n * k
  pub least : (j : ℕ) → t ≤ n * j → k ≤ j

pub rounds_up : (t n : ℕ) → 0 < n → RoundsUp t n (div_ceil t n)
rounds_up t n some =
    let d = div-add-mod' t n in
    let m = mod_below t n some in
    ⊎_elim
    (λ (l : 0 < t % n). let e : div_ceil t n ≡ t / n + 1 = omega arith in
    rw e record { over = omega arith; least = λ j h. ⊎_elim (λ (g : t / n < j). omega arith) (λ (g : j ≤ t / n). absurd (omega (arith, mul-le n j n (t / n) (omega arith) g))) (cases_lt (t / n) j) })
    (λ (l : t % n ≤ 0). let e : div_ceil t n ≡ t / n = omega arith in
    rw e record { over = omega arith; least = λ j h. le_of_mul-le-mul_left {k = n} (omega arith) some })
    (cases_lt 0 (t % n))

-- n parts of what is at most n times so many are at most so many each
pub rounded_low : (t n m k : ℕ) → 0 < n → t ≤ n * m → k ≡ div_ceil t n → k ≤ m
rounded_low t n m k some le is = omega (arith, (rounds_up t n some).least m le)

-- the heights that the weights and the areas give stand in the same proportion
weighed_as : (n t u v w U V W i j k : ℕ) → n * U ≡ u * t → n * V ≡ v * t → n * W ≡ w * t → n * (U * i + V * j + W * k) ≡ t * (u * i + v * j + w * k)
weighed_as n t u v w U V W i j k eu ev ew =
    let a : n * U * i ≡ u * t * i = ap (λ x. x * i) eu in
    let b : n * V * j ≡ v * t * j = ap (λ x. x * j) ev in
    let c : n * W * k ≡ w * t * k = ap (λ x. x * k) ew in
    omega arith

over_as : (n t s z k : ℕ) → 0 < t → n * z ≡ t * s → z ≤ t * k → s ≤ n * k
over_as n t s z k some e le = le_of_mul-le-mul_left {k = t} (omega (arith, mul-le n z n (t * k) (omega arith) le)) some

-- the mean by the areas, rounded up, lies on the plane
pub lies : (a b c : Corner) (p : Point) (u v w k : ℕ) → 0 < u + v + w → u + v + w + half a.at c.at b.at ≡ half a.at b.at c.at →
    v + half p a.at c.at ≡ half p c.at a.at → w + half p b.at a.at ≡ half p a.at b.at →
    RoundsUp (u * a.z + v * b.z + w * c.z) (u + v + w) k → Lies a b c p k
lies a b c p u v w k some whole second third up =
    record {
      over = λ u' v' w' s.
          let r = shares a.at b.at c.at p u' v' w' (u + v + w) s some whole in
          let h = r.4 in
          let ev : r.1 ≡ v = omega (arith, h.second) in
          let ew : r.2 ≡ w = omega (arith, h.third) in
          let eu : r.0 ≡ u = omega (arith, r.3) in
          let scaled = weighed_as (u' + v' + w') (r.0 + r.1 + r.2) u' v' w' r.0 r.1 r.2 a.z b.z c.z h.first_is h.second_is h.third_is in
          over_as (u' + v' + w') (u + v + w) _ (u * a.z + v * b.z + w * c.z) k some (simp (eu, ev, ew) at scaled) up.over;
      least = λ j o. up.least j (o u v w (swept_poised a.at b.at c.at p u v w some whole second third));
    }

pub lies_turned : {a b c : Corner} {p : Point} {k : ℕ} → Lies a c b p k → Lies a b c p k
lies_turned l =
    record {
      over = λ u v w s. omega (arith, l.over u w v (poised_turned s));
      least = λ j o. l.least j (λ u v w s. omega (arith, o u w v (poised_turned s)));
    }
