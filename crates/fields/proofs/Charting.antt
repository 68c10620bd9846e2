-- What stands at a place of a chart. Assumes nothing.
use Rattle.std.proofs.Common.{ℕ, List, get_or, refl, inl, inr}
use Rattle.std.proofs.lemmas.Bool.{cases_Bool, cond-true, cond-false}
use Rattle.std.proofs.lemmas.Option.{slice_get_past, slice_get-get_or}
use Rattle.zmap.proofs.HeightTest.{height_tested, within_told}
use Rattle.zmap.specs.Limits.{floor, ceiling, is_height}
use Rattle.zmap.specs.declared.sample.Sample.{Sample}
use Rattle.fields.specs.Charts.{chart_at, unread, Charted}

module _ {T : Type 0} (told : T → Sample) (es : List T) (i : ℕ) where
  pub charted : Charted told es i (chart_at told es i)
  charted =
      record {
        entry = λ d lt high.
            let s = told (get_or es i d) in
            rw (slice_get-get_or es i d lt) (cond-true (is_height s.height) s unread (within_told floor ceiling s.height high.0 high.1));
        bad = λ d lt low.
            let s = told (get_or es i d) in
            rw (slice_get-get_or es i d lt)
            (elim (cases_Bool (is_height s.height)) [
              | inl e ↦ absurd (low (height_tested s.height e))
              | inr e ↦ cond-false (is_height s.height) s unread e
            ]);
        missing = λ past. rw (slice_get_past es i past) refl;
      }
