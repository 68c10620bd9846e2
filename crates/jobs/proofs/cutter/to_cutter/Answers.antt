-- A cone is refused as its words are.
use Rattle.std.proofs.Common.{ℕ, ℤ, to_z, of_z, w32, rules}
use Rattle.std.proofs.lemmas.Result.{err_from_is_err_and}
use Rattle.jobs.specs.Items.{nth}
use Rattle.jobs.proofs.Cones.{cone_refused}
use Rattle.jobs.proofs.cutter.to_cutter.Goals as goal

pub returns-in_err-new-in-Cone : goal.returns-in_err-new-in-Cone
returns-in_err-new-in-Cone c =
    let p = err_from_is_err_and c.from_residual-in_err-new-in-Cone.result c.from_residual-in_err-new-in-Cone.ensures.1 in
    let word : ℕ → ℤ = λ i. to_z w32 (of_z w32 (nth c.args.words i)) in
    rw (p.1, p.2)
    (cone_refused c.args.pitch.microns c.args.words _ (to_z w32 c.args.pitch.microns) (word 1) (word 2) (word 3) (search rules) c.in_err-new-in-Cone.ensures.accepts (search rules) (search rules) (search rules) (search rules))
