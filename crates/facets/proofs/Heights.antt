-- The computed height over a point is that of the plane, and comes exactly where the plan has an area and covers the point. Assumes nothing.
use Rattle.std.proofs.Common.{◌≡◌, ℕ, ◌+◌, ◌-◌, ◌*◌, ◌<◌, ◌≤◌, Bool, true, false, cond, eqb, ltb, leb, ◌⊎◌, Some, None, Option, sym, refl, ap, ◌∙◌, inl, inr, ⊎_elim, arith}
use Rattle.std.proofs.lemmas.Bool.{cases_lt, cases_order, cond-true, cond-false, eqb-false, ltb-false, leb-true, le-leb, le-ltb, ne_eqb, or_parts, or_from}
use Rattle.std.proofs.lemmas.Option.{cond_some, none-some, option_and_then_some, same_Some}
use Rattle.std.specs.Int.{div_ceil}
use Rattle.std.specs.Option.{option_or}
use Rattle.facets.specs.declared.corner.Corner.{Corner}
use Rattle.facets.specs.declared.point.Point.{Point}
use Rattle.facets.specs.Shoelaces.{half, swept, mean, plane_at, height_at}
use Rattle.facets.proofs.Bounds.{half_low, weighed_low}
use Rattle.facets.proofs.Balance.{Poised, poised_turned, swept_poised}
use Rattle.facets.proofs.Weights.{Lies, lies, lies_turned, rounds_up, shares}

-- the plan of a, b and c covers p
abbrev pub Spanned : Point → Point → Point → Point → Type 0
Spanned a b c p = (u : ℕ) × (v : ℕ) × (w : ℕ) × Poised a b c p u v w

-- a height k over p: the plan has an area and covers p, and k is the least not below the plane
pub record Topped (a b c : Corner) (p : Point) (k : ℕ) : Type 0 where
  pub wide : half a.at b.at c.at ≡ half a.at c.at b.at → ⊥
  pub covered : Spanned a.at b.at c.at p
  pub lies : Lies a b c p k

cond_else : {X : Type 0} (b : Bool) (x y : X) → cond b None (Some x) ≡ Some y → (b ≡ false) × (x ≡ y)
cond_else true x y e = absurd (none-some y e)
cond_else false x y e = (refl, same_Some x y e)

swept_some : (p q r : Point) (d : ℕ) → swept p q r ≡ Some d → d + half p r q ≡ half p q r
unfolding swept
swept_some p q r d e =
    let s = cond_some (leb (half p r q) (half p q r)) (half p q r - half p r q) d e in omega (arith, leb-true (half p r q) (half p q r) s.0, s.1)

-- the area between corners
pub swept_whole : (a b c : Corner) (n : ℕ) → swept a.at b.at c.at ≡ Some n → n ≤ 3000000000000
swept_whole a b c n e = omega (arith, half_low a b c, swept_some a.at b.at c.at n e)

swept_is : (p q r : Point) (d : ℕ) → d + half p r q ≡ half p q r → swept p q r ≡ Some d
unfolding swept
swept_is p q r d e = cond-true _ _ _ (le-leb (half p r q) (half p q r) (omega arith)) ∙ ap Some (omega arith)

mean_some : (n v w i j k m : ℕ) → mean n v w i j k ≡ Some m → (0 < n) × (v + w ≤ n) × (div_ceil ((n - (v + w)) * i + v * j + w * k) n ≡ m)
unfolding mean
mean_some n v w i j k m e =
    let s = cond_else _ _ m e in
    let t = or_parts (eqb n 0) (ltb n (v + w)) s.0 in
    let ne = eqb-false n 0 t.0 in
    (⊎_elim (λ (l : 0 < n). l) (λ (l : n ≤ 0). absurd (ne (omega arith))) (cases_lt 0 n), ltb-false n (v + w) t.1, s.1)

mean_is : (n v w i j k : ℕ) → 0 < n → v + w ≤ n → (m : ℕ) × (mean n v w i j k ≡ Some m)
unfolding mean
mean_is n v w i j k some le = (_, cond-false _ _ _ (or_from (eqb n 0) (ltb n (v + w)) (ne_eqb n 0 (λ e. omega arith)) (le-ltb n (v + w) le)))

plane_some : (p : Point) (a b c : Corner) (k : ℕ) → plane_at p a b c ≡ Some k → Topped a b c p k
unfolding plane_at
plane_some p a b c k e =
    option_and_then_some _ _ k e (λ n first second'.
    option_and_then_some _ _ k second' (λ v second third'.
    option_and_then_some _ _ k third' (λ w third mean_is.
    let m = mean_some n v w a.z b.z c.z k mean_is in
    let en = swept_some a.at b.at c.at n first in
    let ev = swept_some p c.at a.at v second in
    let ew = swept_some p a.at b.at w third in
    let u = n - (v + w) in
    let sum : u + v + w ≡ n = omega (arith, m.1) in
    let some : 0 < u + v + w = omega (arith, m.0) in
    let whole : u + v + w + half a.at c.at b.at ≡ half a.at b.at c.at = omega arith in
    let up = rounds_up (u * a.z + v * b.z + w * c.z) n m.0 in
    record {
      wide = λ same. omega (arith, m.0);
      covered = (u, v, w, swept_poised a.at b.at c.at p u v w some whole ev ew);
      lies = lies a b c p u v w k some whole ev ew (rw sum (simp m.2 at up));
    })))

plane_by : (p : Point) (a b c : Corner) (n v w k : ℕ) → swept a.at b.at c.at ≡ Some n → swept p c.at a.at ≡ Some v → swept p a.at b.at ≡ Some w → mean n v w a.z b.z c.z ≡ Some k → plane_at p a b c ≡ Some k
unfolding plane_at
plane_by p a b c n v w k en ev ew e = rw (en, ev, ew) e

-- counter-clockwise, a point that is covered has a height
plane_is : (p : Point) (a b c : Corner) → half a.at c.at b.at < half a.at b.at c.at → Spanned a.at b.at c.at p → (k : ℕ) × (plane_at p a b c ≡ Some k)
plane_is p a b c lt (u, v, w, s) =
    let t = half a.at b.at c.at - half a.at c.at b.at in
    let r = shares a.at b.at c.at p u v w t s (omega arith) (omega arith) in
    let m = mean_is t r.1 r.2 a.z b.z c.z (omega arith) (omega (arith, r.3)) in
    (m.0, plane_by p a b c t r.1 r.2 m.0 (swept_is a.at b.at c.at t (omega arith)) (swept_is p c.at a.at r.1 r.4.second) (swept_is p a.at b.at r.2 r.4.third) m.1)

topped_turned : {a b c : Corner} {p : Point} {k : ℕ} → Topped a c b p k → Topped a b c p k
topped_turned t =
    let s = t.covered in
    record { wide = λ e. t.wide (sym e); covered = (s.0, s.2, s.1, poised_turned s.3); lies = lies_turned t.lies }

option_or_some : {X : Type 0} (o q : Option X) (y : X) → option_or o q ≡ Some y → (o ≡ Some y) ⊎ (q ≡ Some y)
option_or_some None q y e = inr e
option_or_some (Some x) q y e = inl e

option_or_none : {X : Type 0} (o q : Option X) → option_or o q ≡ None → (o ≡ None) × (q ≡ None)
option_or_none None q e = (refl, e)
option_or_none (Some x) q e = absurd (none-some x (sym e))

pub height_some : (p : Point) (a b c : Corner) (k : ℕ) → height_at p a b c ≡ Some k → Topped a b c p k
unfolding height_at
height_some p a b c k e = ⊎_elim (plane_some p a b c k) (λ f. topped_turned (plane_some p a c b k f)) (option_or_some (plane_at p a b c) (plane_at p a c b) k e)

pub height_none : (p : Point) (a b c : Corner) → height_at p a b c ≡ None →
    (half a.at b.at c.at ≡ half a.at c.at b.at) ⊎ (Spanned a.at b.at c.at p → ⊥)
unfolding height_at
height_none p a b c e =
    let none = option_or_none (plane_at p a b c) (plane_at p a c b) e in
    ⊎_elim
    inl
    (λ apart. inr (λ s. ⊎_elim
    (λ (lt : half a.at b.at c.at < half a.at c.at b.at). let k = plane_is p a c b lt (s.0, s.2, s.1, poised_turned s.3) in none-some k.0 (sym none.1 ∙ k.1))
    (λ (gt : half a.at c.at b.at < half a.at b.at c.at). let k = plane_is p a b c gt s in none-some k.0 (sym none.0 ∙ k.1))
    apart))
    (cases_order (half a.at b.at c.at) (half a.at c.at b.at))

-- the height between corners is in range
pub height_low : (p : Point) (a b c : Corner) (k : ℕ) → height_at p a b c ≡ Some k → k ≤ 1000000
height_low p a b c k e = (height_some p a b c k e).lies.least 1000000 (λ u v w s. weighed_low u v w a.z b.z c.z a.high b.high c.high)
