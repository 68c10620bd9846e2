-- Signed coordinates and heights as unsigned ones: means of the one are means of the other. Assumes nothing.
use Rattle.std.proofs.Common.{◌≡◌, ℕ, suc, ◌+◌, ◌*◌, ◌<◌, ◌≤◌, true, ℤ, pos, negsuc, ◌+ℤ◌, ◌*ℤ◌, neg_ℤ, nat_abs, ◌≤ℤ◌, sym, ap, arith}
use Rattle.std.proofs.lemmas.Nat.{mul-le}
use Rattle.std.proofs.lemmas.Int.{ints}
use Rattle.facets.specs.declared.corner.Corner.{Corner}
use Rattle.facets.specs.declared.facet.Vertex.{Vertex}
use Rattle.facets.specs.Corners.{corner_at, placed_tested}
use Rattle.facets.specs.Vertices.{is_placed}
use Rattle.facets.specs.Geometry.{weighed}
use Rattle.facets.proofs.Weights.{times_sum}

-- u times z, where z is n less o
pub product_from : (u o n : ℕ) (z : ℤ) → (z +ℤ pos o) ≡ pos n → ((pos u *ℤ z) +ℤ pos (u * o)) ≡ pos (u * n)
product_from u o n (pos m) e =
    let s : n ≡ m + o = omega (arith, ints) in ap pos (sym (times_sum u n m o s))
product_from u o n (negsuc m) e =
    let s : o ≡ n + suc m = omega (arith, ints) in omega (arith, ints, times_sum u o n (suc m) s)

-- u times z, where z is more than o below 0
product_under : (u o n : ℕ) (z : ℤ) → (z +ℤ pos o) ≡ negsuc n → ((pos u *ℤ z) +ℤ pos (u * o)) ≡ neg_ℤ (pos (u * suc n))
product_under u o n (pos m) e = absurd (omega (arith, ints))
product_under u o n (negsuc m) e =
    let s : suc m ≡ o + suc n = omega (arith, ints) in omega (arith, ints, times_sum u (suc m) o (suc n) s)

-- the whole number z is n less o
pub record Less (o n : ℕ) (z : ℤ) : Type 0 where
  pub is : (z +ℤ pos o) ≡ pos n

-- a sum of products of numbers that are a, b and c less o
pub weighed_from : (u v w o : ℕ) {a b c : ℕ} {i j k : ℤ} → Less o a i → Less o b j → Less o c k → (weighed u v w i j k +ℤ pos ((u + v + w) * o)) ≡ pos (u * a + v * b + w * c)
weighed_from u v w o {a} {b} {c} {i} {j} {k} ea eb ec =
    omega (arith, ints, product_from u o a i ea.is, product_from v o b j eb.is, product_from w o c k ec.is)

-- the corner k has the numbers of the vertex v
pub record Told (v : Vertex) (k : Corner) : Type 0 where
  pub across : Less 0 k.at.x v.x
  pub along : Less 0 k.at.y v.y
  pub high : Less 500000 k.z v.z

natural : (z : ℤ) → pos 0 ≤ℤ z → z ≡ pos (nat_abs z)
natural z h = grind (arith, ints)

pub told : (v : Vertex) (e : is_placed v ≡ true) → Told v (corner_at v e)
told v e =
    let p = placed_tested v e in
    record {
      across = record { is = omega (arith, ints, natural v.x p.across.0) };
      along = record { is = omega (arith, ints, natural v.y p.along.0) };
      high = record { is = natural (v.z +ℤ pos 500000) (omega (arith, ints, p.high.0)) };
    }

-- the order of two numbers, and that of n times each, counted from o below 0
pub least_from : (n o t k : ℕ) (s h : ℤ) → (s +ℤ pos (n * o)) ≡ pos t → (h +ℤ pos o) ≡ pos k → s ≤ℤ (pos n *ℤ h) → t ≤ n * k
least_from n o t k s h es eh le = omega (arith, ints, product_from n o k h eh)

pub over_from : (n o t k : ℕ) (s h : ℤ) → (s +ℤ pos (n * o)) ≡ pos t → (h +ℤ pos o) ≡ pos k → t ≤ n * k → s ≤ℤ (pos n *ℤ h)
over_from n o t k s h es eh le = omega (arith, ints, product_from n o k h eh)

-- nothing lower than that is n times as high as what is not
pub never_under : (n o t k : ℕ) (s h : ℤ) → 0 < n → (s +ℤ pos (n * o)) ≡ pos t → (h +ℤ pos o) ≡ negsuc k → s ≤ℤ (pos n *ℤ h) → ⊥
never_under n o t k s h some es eh le = omega (arith, ints, product_under n o k h eh, mul-le 1 1 n (suc k) some (omega arith))

product_at : (i j : ℤ) (m n : ℕ) → (i +ℤ pos 0) ≡ pos m → (j +ℤ pos 0) ≡ pos n → i *ℤ j ≡ pos (m * n)
product_at (pos i) (pos j) m n ei ej =
    let a : i ≡ m = omega (arith, ints) in let b : j ≡ n = omega (arith, ints) in rw (a, b)
product_at (pos i) (negsuc j) m n ei ej = absurd (omega (arith, ints))
product_at (negsuc i) j m n ei ej = absurd (omega (arith, ints))

pub product_is : {i j : ℤ} {m n : ℕ} → Less 0 m i → Less 0 n j → i *ℤ j ≡ pos (m * n)
product_is {i} {j} {m} {n} ei ej = product_at i j m n ei.is ej.is
