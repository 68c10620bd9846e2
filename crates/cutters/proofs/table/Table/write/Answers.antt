-- The entry is written, and the others stay.
use Rattle.std.proofs.Common.{◌<◌, length, get_or, refl, sym, ◌∙◌, arith, w32}
use Rattle.std.proofs.lemmas.List.{length-set}
use Rattle.std.proofs.lemmas.Int.{to_z-of_z}
use Rattle.cutters.specs.CellsLemmas.{entries_set, row_put, put_keeps}
use Rattle.cutters.specs.TablesLemmas.{allowed_entry, allowed_centre, near_close, written}
use Rattle.cutters.proofs.table.Table.write.Goals as goal

pub invariant_of-self : goal.invariant_of-self
invariant_of-self c d =
    let t = c.args.self.now in
    let at = c.in_ok-at.at in
    let found = rw c.in_ok-at.ensures.ok_part at c.of.ensures in
    let allowed = sym c.may_stand.ensures ∙ c.if-not-may_stand.false in
    let r = get_or t.rows at.row d in
    let lt : at.row < length t.rows = omega (arith, t.sized, at.row_in) in (
      (length-set r.heights _ _ ∙ r.sized, (entries_set r.heights _ _ r.ranged (allowed_entry c.args.o _ allowed), tt)),
      (
        length-set t.rows _ _ ∙ t.sized,
        (
          put_keeps t.rows at.row _ _ _ 7 7 _ (row_put t.rows at.row _ _ d _ lt at.column_in refl) t.centred
              (allowed_centre c.args.o _ _ _ allowed (near_close _ found.0) found.1 found.2),
          tt,
        ),
      ),
    )

pub returns-clause-table : goal.returns-clause-table
returns-clause-table c =
    let t = c.args.self.now in
    let at = c.in_ok-at.at in
    let found = rw c.in_ok-at.ensures.ok_part at c.of.ensures in
    let lt : at.row < length t.rows = omega (arith, t.sized, at.row_in) in
    written t _ _ _ _ _ _ (to_z-of_z w32 _ c.ranges.height) found.1 found.2 (near_close _ found.0) (row_put t.rows _ _ _ c.index-self-at.result _ lt at.column_in refl)
