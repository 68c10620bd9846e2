-- A list that passes the test is the table of the scan. Assumes nothing.
use Rattle.std.proofs.Common.{◌≡◌, ℕ, zero, suc, ◌<◌, ◌≤◌, Bool, true, ◌&&◌, eqb, leb, List, [], ◌∷◌, length, get_or, refl, ap, inl, inr, le_of_suc-le-suc, not-suc-le-zero, arith}
use Rattle.std.proofs.lemmas.Bool.{and_parts, or_cases, false≢true, leb-true, eqb-true, cases_Bool, cases_order}
use Rattle.std.proofs.lemmas.Bool.Decides.{Decides-below_and}
use Rattle.cutters.specs.Rings.{Ring}
use Rattle.cutters.specs.Order.{shifted, is_near, rank, near_from, is_near_from, near_unique, low_x, low_y, rank_before}
use Rattle.cutters.proofs.RingTest.{rising, row, has, every, full, is_ring}
use Rattle.zmap.specs.declared.node.Offset.{Offset}

-- what the test says of the first
record First (r : ℕ) (o : Offset) (os : List Offset) : Type 0 where
  near : is_near o ≡ true
  from : r ≤ rank o
  rest : rising (suc (rank o)) os ≡ true

first_of : (r : ℕ) (o : Offset) (os : List Offset) → rising r (o ∷ os) ≡ true → First r o os
first_of r o os h =
    let p = and_parts (is_near o && leb r (rank o)) (rising (suc (rank o)) os) h in
    let q = and_parts (is_near o) (leb r (rank o)) p.0 in
    record { near = q.0; from = leb-true r (rank o) q.1; rest = p.1 }

-- each is near and ranks r or more
rising_at : (r : ℕ) (os : List Offset) → rising r os ≡ true → (k : ℕ) (d : Offset) → k < length os →
    (is_near (get_or os k d) ≡ true) × (r ≤ rank (get_or os k d))
rising_at r [] h k d l = absurd (not-suc-le-zero l)
rising_at r (o ∷ os) h zero d l = let f = first_of r o os h in (f.near, f.from)
rising_at r (o ∷ os) h (suc k) d l =
    let f = first_of r o os h in
    let i = rising_at (suc (rank o)) os f.rest k d (le_of_suc-le-suc l) in
    (i.0, omega arith)

-- a later one ranks higher
rising_order : (r : ℕ) (os : List Offset) → rising r os ≡ true → (j k : ℕ) (d : Offset) → j < k → k < length os →
    rank (get_or os j d) < rank (get_or os k d)
rising_order r [] h j k d l m = absurd (not-suc-le-zero m)
rising_order r (o ∷ os) h j zero d l m = absurd (not-suc-le-zero l)
rising_order r (o ∷ os) h zero (suc k) d l m = (rising_at (suc (rank o)) os (first_of r o os h).rest k d (le_of_suc-le-suc m)).1
rising_order r (o ∷ os) h (suc j) (suc k) d l m =
    rising_order (suc (rank o)) os (first_of r o os h).rest j k d (le_of_suc-le-suc l) (le_of_suc-le-suc m)

-- os has one in the column x and row y, both counted from -15
record Stands (os : List Offset) (x y : ℕ) : Type 0 where
  index : ℕ
  below : index < length os
  column : (d : Offset) → shifted (get_or os index d).dx ≡ x
  row : (d : Offset) → shifted (get_or os index d).dy ≡ y

stands_more : {os : List Offset} {x y : ℕ} (o : Offset) → Stands os x y → Stands (o ∷ os) x y
stands_more o s = record { index = suc s.index; below = omega (arith, s.below); column = s.column; row = s.row }

row_has : (os : List Offset) (x y : ℕ) → has x (row y os) ≡ true → Stands os x y
row_has [] x y h = absurd (false≢true h)
row_has (o ∷ os) x y h =
    elim (cases_Bool (eqb (shifted o.dy) y)) [
      | inl e ↦ elim (or_cases _ _ (simp e at h)) [
        | inl f ↦ record { index = 0; below = omega arith; column = λ _. eqb-true _ _ f; row = λ _. eqb-true _ _ e }
        | inr i ↦ stands_more o (row_has os x y i)
      ]
      | inr e ↦ stands_more o (row_has os x y (simp e at h))
    ]

every_at : (p : ℕ → Bool) (n : ℕ) → every p n ≡ true → (k : ℕ) → k < n → p k ≡ true
every_at p n = (Decides-below_and p (λ k. p k ≡ true) (every p) (λ _. (λ e. e, λ e. e)) refl (λ _. refl) n).0

-- the index of a near offset
record Found (os : List Offset) (o : Offset) : Type 0 where
  index : ℕ
  below : index < length os
  is : (d : Offset) → get_or os index d ≡ o

found : (os : List Offset) → rising 0 os ≡ true → every (λ y. full (row y os)) 31 ≡ true → (o : Offset) → is_near o ≡ true → Found os o
found os r h o n =
    let f = every_at (λ y. full (row y os)) 31 h (shifted o.dy) (low_y o n) in
    let s = row_has os _ _ (every_at (λ x. has x (row (shifted o.dy) os)) 31 f (shifted o.dx) (low_x o n)) in
    record { index = s.index; below = s.below; is = λ d. near_unique (get_or os s.index d) o (rising_at 0 os r s.index d s.below).0 n (s.column d) (s.row d) }

pub ring_rule : (os : List Offset) → is_ring os ≡ true → Ring os
ring_rule os h =
    let p = and_parts (eqb (length os) 961 && rising 0 os) (every (λ y. full (row y os)) 31) h in
    let q = and_parts (eqb (length os) 961) (rising 0 os) p.0 in
    let size : length os ≡ 961 = eqb-true (length os) 961 q.0 in
    let within : (k : ℕ) → k < 961 → k < length os = λ k l. omega arith in
    let near : (k : ℕ) (d : Offset) → k < 961 → is_near (get_or os k d) ≡ true = λ k d l. (rising_at 0 os q.1 k d (within k l)).0 in
    let order : (j k : ℕ) (d : Offset) → j < k → k < 961 → rank (get_or os j d) < rank (get_or os k d) = λ j k d l m. rising_order 0 os q.1 j k d l (within k m) in
    record {
      size = size;
      range = λ k d l. near_from (get_or os k d) (near k d l);
      order = λ j k d l m. rank_before (get_or os j d) (get_or os k d) (near j d (omega arith)) (near k d m) (order j k d l m);
      once = λ j k d l m e. let f = ap rank e in elim (cases_order j k) [
        | inl i ↦ i
        | inr (inl i) ↦ omega (arith, order j k d i m, f)
        | inr (inr i) ↦ omega (arith, order k j d i l, f)
      ];
      all = λ o n. let f = found os q.1 p.1 o (is_near_from o n) in (f.index, omega (arith, f.below), f.is);
    }
