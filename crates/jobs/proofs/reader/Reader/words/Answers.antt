-- Each turn reads one word more.
use Rattle.std.proofs.Common.{sym, ◌∙◌, arith, w32, SFits, rules}
use Rattle.std.proofs.lemmas.Int.{to_z-of_z}
use Rattle.std.proofs.lemmas.List.{length-set}
use Rattle.std.proofs.lemmas.Result.{err_from_is_err_and}
use Rattle.jobs.proofs.Turns.{words_more, words_stop}
use Rattle.jobs.proofs.reader.Reader.words.Goals as goal

pub loop-word-preserved : goal.loop-word-preserved
loop-word-preserved g c =
    let f : SFits w32 c.in_ok-word.field-0 = search rules in
    let was = c.in_ok-word.ensures in
    let i = c.loop-word.invariant in
    simp to_z-of_z record { gives = words_more _ _ _ _ _ _ c.loop-word-test.true i.fits was.gives ∙ i.gives; takes = omega (arith, was.takes); fits = simp length-set i.fits }

pub returns-in_err-word-clause-gives : goal.returns-in_err-word-clause-gives
returns-in_err-word-clause-gives g c =
    let p = err_from_is_err_and c.from_residual.result c.from_residual.ensures.1 in
    rw (p.1, p.2) (sym c.loop-word.invariant.gives ∙ words_stop _ _ _ _ _ c.loop-word-test.true c.in_err-word.ensures.gives)
