-- Weights that balance over a point of the plan: the shoelace formula gives some, and all others are in proportion. Assumes nothing.
use Rattle.std.proofs.Common.{◌≡◌, ℕ, ◌+◌, ◌*◌, ◌<◌, sym, ◌∙◌, arith}
use Rattle.facets.specs.declared.point.Point.{Point}
use Rattle.facets.specs.Shoelaces.{half}

-- the weights u, v and w of a, b and c, not all 0, balance over p
pub record Poised (a b c p : Point) (u v w : ℕ) : Type 0 where
  pub some : 0 < u + v + w
  pub across : u * a.x + v * b.x + w * c.x ≡ (u + v + w) * p.x
  pub along : u * a.y + v * b.y + w * c.y ≡ (u + v + w) * p.y

-- the two identities of polynomials behind the weights
across_whole : (a b c p : Point) →
    half a b c * p.x + half p c a * a.x + half p a b * a.x + half a c b * a.x + half p a c * b.x + half p b a * c.x
    ≡ half a c b * p.x + half p a c * a.x + half p b a * a.x + half a b c * a.x + half p c a * b.x + half p a b * c.x
across_whole a b c p = omega arith

along_whole : (a b c p : Point) →
    half a b c * p.y + half p c a * a.y + half p a b * a.y + half a c b * a.y + half p a c * b.y + half p b a * c.y
    ≡ half a c b * p.y + half p a c * a.y + half p b a * a.y + half a b c * a.y + half p c a * b.y + half p a b * c.y
along_whole a b c p = omega arith

-- the same over letters, from the halves to their differences
differing : (x a b c u v w s s' t t' q q' : ℕ) → u + v + w + s' ≡ s → v + t' ≡ t → w + q' ≡ q →
    s * x + t * a + q * a + s' * a + t' * b + q' * c ≡ s' * x + t' * a + q' * a + s * a + t * b + q * c →
    u * a + v * b + w * c ≡ (u + v + w) * x
differing x a b c u v w s s' t t' q q' hs ht hq e =
    let e1 : s * x ≡ (u + v + w) * x + s' * x = rw (sym hs) (omega arith) in
    let e2 : s * a ≡ (u + v + w) * a + s' * a = rw (sym hs) (omega arith) in
    let e3 : t * a ≡ v * a + t' * a = rw (sym ht) (omega arith) in
    let e4 : t * b ≡ v * b + t' * b = rw (sym ht) (omega arith) in
    let e5 : q * a ≡ w * a + q' * a = rw (sym hq) (omega arith) in
    let e6 : q * c ≡ w * c + q' * c = rw (sym hq) (omega arith) in
    omega arith

-- the areas that the sides span with a point balance over it
pub swept_poised : (a b c p : Point) (u v w : ℕ) → 0 < u + v + w → u + v + w + half a c b ≡ half a b c → v + half p a c ≡ half p c a → w + half p b a ≡ half p a b → Poised a b c p u v w
swept_poised a b c p u v w some n hv hw =
    record {
      some = some;
      across = differing p.x a.x b.x c.x u v w _ _ _ _ _ _ n hv hw (across_whole a b c p);
      along = differing p.y a.y b.y c.y u v w _ _ _ _ _ _ n hv hw (along_whole a b c p);
    }

-- the last two corners in the other order
pub poised_turned : {a b c p : Point} {u v w : ℕ} → Poised a b c p u v w → Poised a c b p u w v
poised_turned s = record { some = omega (arith, s.some); across = omega (arith, s.across); along = omega (arith, s.along) }

proportion_whole : (a b c : Point) (u v w : ℕ) →
    (u * a.x + v * b.x + w * c.x) * c.y + (u + v + w) * (c.x * a.y) + a.x * (u * a.y + v * b.y + w * c.y) + v * half a c b
    ≡ (u * a.x + v * b.x + w * c.x) * a.y + (u + v + w) * (a.x * c.y) + c.x * (u * a.y + v * b.y + w * c.y) + v * half a b c
proportion_whole a b c u v w = omega arith

spread : (n : ℕ) (p q r : Point) → n * half p q r ≡ n * p.x * q.y + n * (q.x * r.y) + r.x * (n * p.y)
spread n p q r = omega arith

-- any weights are in proportion to the areas
pub proportion : (a b c p : Point) (u v w : ℕ) → Poised a b c p u v w → (u + v + w) * half p c a + v * half a c b ≡ (u + v + w) * half p a c + v * half a b c
proportion a b c p u v w s =
    let n = u + v + w in
    let left : n * half p c a ≡ (u * a.x + v * b.x + w * c.x) * c.y + n * (c.x * a.y) + a.x * (u * a.y + v * b.y + w * c.y)
    = spread n p c a ∙ rw (s.across, s.along) in
    let right : n * half p a c ≡ (u * a.x + v * b.x + w * c.x) * a.y + n * (a.x * c.y) + c.x * (u * a.y + v * b.y + w * c.y)
    = spread n p a c ∙ rw (s.across, s.along) in
    rw (left, right) (proportion_whole a b c u v w)
