-- The fold of the code is that of the clamps.
use Rattle.std.proofs.Common.{rules, w32, SFits}
use Rattle.std.proofs.lemmas.Int.{to_z-of_z}
use Rattle.std.proofs.lemmas.Iterator.{YieldsList-from_slice}
use Rattle.std.proofs.lemmas.Iterator.Consumers.{fold_from_yields_List}
use Rattle.setups.specs.Tables.{clamps_of, lifted}
use Rattle.setups.proofs.table.Clamps.over.Goals as goal

pub returns : goal.returns
returns c =
    let fits : SFits w32 c.fold.result = search rules in
    let low : SFits w32 c.args.below = c.ranges.below in
    simp to_z-of_z (fold_from_yields_List _ (lifted c.args.n) c.args.below c.fold.result (simp to_z-of_z at c.fold.ensures.ran) (YieldsList-from_slice (clamps_of c.args.self.now) cc) (λ a x b q k. search rules))
