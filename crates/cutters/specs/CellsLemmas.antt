-- Fifteen rows of entries: one read, one written. Assumes nothing.
use Rattle.std.specs.Prelude.{◌≡◌, ℕ, zero, suc, ◌<◌, List, [], ◌∷◌, length, get_or, replicate, ℤ, pos, ◌≢◌, slice_index_or, slice_set, refl}
use Rattle.std.proofs.Common.{sym, ap, ◌∙◌, le_of_suc-le-suc, not-suc-le-zero, arith}
use Rattle.std.proofs.lemmas.List.{length-set, get_or-map, get_or-replicate, get_or-set_same, get_or-set_other, map-set}
use Rattle.std.proofs.lemmas.Grind.{common_steps}
use Rattle.cutters.specs.Cells.{cells, cell}
use Rattle.cutters.specs.Entries.{Entry, Entries}
use Rattle.cutters.specs.declared.row.Row.{Row}

pub entries_set : (zs : List ℤ) (j : ℕ) (z : ℤ) → Entries zs → Entry z → Entries (slice_set zs j z)
entries_set zs j z high h k d lt = grind (arith, common_steps, high k d)

-- the cell is the entry of its row
pub cell_is : (rows : List Row) (i j : ℕ) (d : Row) → i < length rows → cell rows i j ≡ slice_index_or (get_or rows i d).heights j (pos 0)
cell_is rows i j d lt = ap (λ l. get_or l j (pos 0)) (get_or-map (λ (r : Row). r.heights) rows i d [] lt)

pub cell_ranged : (rows : List Row) (i j : ℕ) → i < length rows → j < 15 → Entry (cell rows i j)
cell_ranged [] i j lt l = absurd (not-suc-le-zero lt)
cell_ranged (r ∷ rows) zero j lt l = r.ranged j (pos 0) (omega (arith, r.sized))
cell_ranged (r ∷ rows) (suc i) j lt l = cell_ranged rows i j (le_of_suc-le-suc lt) l

pub cell_same : (rows : List Row) (r : Row) (z : ℤ) (i j : ℕ) → rows ≡ replicate 15 r → r.heights ≡ replicate 15 z → i < 15 → j < 15 → cell rows i j ≡ z
cell_same rows r z i j e f l m = rw (e, cell_is (replicate 15 r) i j r l, get_or-replicate 15 i r r l, f) (get_or-replicate 15 j z (pos 0) m)

-- rows' has z in the row i and the column j, and else what rows has
pub record Put (rows : List Row) (i j : ℕ) (z : ℤ) (rows' : List Row) : Type 0 where
  pub here : cell rows' i j ≡ z
  pub row : (l : ℕ) → (l ≢ j) → cell rows' i l ≡ cell rows i l
  pub rest : (k l : ℕ) → (k ≢ i) → cell rows' k l ≡ cell rows k l

pub row_put : (rows : List Row) (i j : ℕ) (z : ℤ) (d r : Row) → i < length rows → j < 15 → r.heights ≡ slice_set (get_or rows i d).heights j z → Put rows i j z (slice_set rows i r)
row_put rows i j z d r lt l e =
    let lt' : i < length (slice_set rows i r) = simp length-set (omega arith) in
    let at : (m : ℕ) → cell (slice_set rows i r) i m ≡ get_or (slice_set (get_or rows i d).heights j z) m (pos 0) =
    λ m. rw (cell_is (slice_set rows i r) i m r lt', get_or-set_same rows i r r lt, e) refl in
    record {
      here = at j ∙ grind (arith, common_steps, (get_or rows i d).sized);
      row = λ m ne. at m ∙ get_or-set_other (get_or rows i d).heights j m z (pos 0) ne ∙ sym (cell_is rows i m d lt);
      rest = λ k m ne.
          ap (λ g. get_or (slice_index_or g k []) m (pos 0)) (map-set (λ (x : Row). x.heights) rows i r)
          ∙ ap (λ x. get_or x m (pos 0)) (get_or-set_other (cells rows) i k r.heights [] ne);
    }

-- a cell keeps its entry, or is written with the same
pub put_keeps : (rows : List Row) (i j : ℕ) (z : ℤ) (rows' : List Row) (k l : ℕ) (x : ℤ) → Put rows i j z rows' → cell rows k l ≡ x → (i ≡ k → j ≡ l → z ≡ x) → cell rows' k l ≡ x
put_keeps rows i j z rows' k l x p e h = grind (arith, p.here, p.row l, p.rest k l)
