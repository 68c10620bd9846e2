-- The table of a measured cutter, by offset: its laws, an entry read, an entry written. Assumes nothing.
use Rattle.std.specs.Prelude.{◌≡◌, ℕ, ◌<◌, true, replicate, get_or, ℤ, pos, negsuc, ◌+ℤ◌, ◌≤ℤ◌, Some}
use Rattle.std.proofs.Common.{sym, ap, subst, ◌∙◌, arith}
use Rattle.std.proofs.lemmas.Int.{ints}
use Rattle.std.proofs.lemmas.Option.{none-some}
use Rattle.cutters.specs.Cells.{cell}
use Rattle.cutters.specs.Entries.{Entry, index, has_entry, is_allowed}
use Rattle.cutters.specs.Profiles.{Lawful, Near}
use Rattle.cutters.specs.Tables.{Blank, MeasuredDrawn, Written, entry_at, height_of, measured_shape}
use Rattle.cutters.specs.declared.row.Row.{Row}
use Rattle.cutters.specs.declared.table.Table.{Table}
use Rattle.cutters.specs.CellsLemmas.{Put, cell_is, cell_ranged, cell_same}
use Rattle.zmap.specs.declared.node.Offset.{Offset}

pub near_close : (o : Offset) → has_entry o ≡ true → Near 7 o
near_close o b = record { west = grind (arith, ints); east = grind (arith, ints); north = grind (arith, ints); south = grind (arith, ints) }

-- the index is the number of rows or columns from −7 on
index_is : (d : ℤ) → negsuc 6 ≤ℤ d → (d +ℤ pos 7) ≡ pos (index d)
index_is d h = grind (arith, ints)

index_below : (d : ℤ) → negsuc 6 ≤ℤ d → d ≤ℤ pos 7 → index d < 15
index_below d l h = omega (arith, ints, index_is d l)

index_unique : (a b : ℤ) → negsuc 6 ≤ℤ a → negsuc 6 ≤ℤ b → index a ≡ index b → a ≡ b
index_unique a b l m e = omega (arith, ints, index_is a l, index_is b m)

pub entry_is : (t : Table) (o : Offset) (i j : ℕ) → i ≡ index o.dy → j ≡ index o.dx → cell t.rows i j ≡ entry_at t o
unfolding entry_at
entry_is t o i j e f = ap (λ m. cell t.rows m j) e ∙ ap (cell t.rows (index o.dy)) f

entry_ranged : (t : Table) (o : Offset) → Near 7 o → Entry (entry_at t o)
unfolding entry_at
entry_ranged t o n =
    cell_ranged t.rows (index o.dy) (index o.dx) (omega (arith, t.sized, index_below o.dy n.north n.south)) (index_below o.dx n.west n.east)

-- a table of one row, fifteen times, of zeros
pub blank : (t : Table) (r : Row) → t.rows ≡ replicate 15 r → r.heights ≡ replicate 15 (pos 0) → Blank t
unfolding entry_at
blank t r e f o n = cell_same t.rows r (pos 0) (index o.dy) (index o.dx) e f (index_below o.dy n.north n.south) (index_below o.dx n.west n.east)

height_told : (z : ℤ) (h : ℕ) → height_of z ≡ Some h → z ≡ pos h
height_told (pos n) h e = grind arith
height_told (negsuc n) h e = absurd (none-some h e)

-- what the cutter answers at an offset that is covered
shape_told : (t : Table) (o : Offset) (h : ℕ) → measured_shape t o ≡ Some h → Near 7 o × (entry_at t o ≡ pos h)
shape_told t o h e = grind (arith, near_close o, height_told (entry_at t o) h, none-some h)

pub measured_lawful : (t : Table) → Lawful 7 (measured_shape t)
unfolding entry_at
measured_lawful t =
    record {
      centred = ap height_of t.centred;
      bounded = λ o h e. let s = shape_told t o h e in omega (arith, ints, (entry_ranged t o s.0).1, s.1);
      reaches = λ o h e. (shape_told t o h e).0;
      narrow = omega arith;
    }

drawn_told : (t : Table) (o : Offset) (z : ℤ) → entry_at t o ≡ z → Near 7 o → Entry z → MeasuredDrawn t o (height_of z)
drawn_told t o (pos h) e n b = (n, e)
drawn_told t o (negsuc k) e n b = λ _. e ∙ omega (arith, ints, b.0)

pub entry_read : (t : Table) (o : Offset) (i j : ℕ) (d : Row) → i ≡ index o.dy → j ≡ index o.dx → i < 15 →
    get_or (get_or t.rows i d).heights j (pos 0) ≡ entry_at t o
entry_read t o i j d e f l = sym (cell_is t.rows i j d (omega (arith, t.sized))) ∙ entry_is t o i j e f

-- what the cutter answers at an offset that is covered
pub entry_drawn : (t : Table) (o : Offset) (z : ℤ) → z ≡ entry_at t o → has_entry o ≡ true → MeasuredDrawn t o (height_of z)
entry_drawn t o z e b = let n = near_close o b in drawn_told t o z (sym e) n (subst Entry (sym e) (entry_ranged t o n))

pub written : (t t' : Table) (o : Offset) (z z' : ℤ) (i j : ℕ) → z' ≡ z → i ≡ index o.dy → j ≡ index o.dx → Near 7 o → Put t.rows i j z' t'.rows → Written t o z t'
unfolding entry_at
written t t' o z z' i j same e f n p =
    record {
      written = sym (entry_is t' o i j e f) ∙ p.here ∙ same;
      row = λ q m y x. grind (arith, p.row (index q.dx), index_unique q.dx o.dx m.west n.west);
      rest = λ q m y. grind (arith, p.rest (index q.dy) (index q.dx), index_unique q.dy o.dy m.north n.north);
    }

-- an entry that is allowed, and what that is where the tip stands
pub allowed_entry : (o : Offset) (z : ℤ) → is_allowed o.dx o.dy z ≡ true → Entry z
allowed_entry o z a = (grind (arith, ints), grind (arith, ints))

pub allowed_centre : (o : Offset) (z : ℤ) (i j : ℕ) → is_allowed o.dx o.dy z ≡ true → Near 7 o → i ≡ index o.dy → j ≡ index o.dx → i ≡ 7 → j ≡ 7 → z ≡ pos 0
allowed_centre o z i j a n e f k l =
    let x : o.dx ≡ pos 0 = index_unique o.dx (pos 0) n.west (omega (arith, ints)) (sym f ∙ l) in
    let y : o.dy ≡ pos 0 = index_unique o.dy (pos 0) n.north (omega (arith, ints)) (sym e ∙ k) in
    grind (arith, ints)
