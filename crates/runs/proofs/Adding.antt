-- Clamps that fit the map are taken, one after the other, up to sixteen. Assumes nothing.
use Rattle.std.proofs.Common.{◌≡◌, ℕ, ◌+◌, ◌<◌, ◌≤◌, List, [], ◌∷◌, ◌++◌, length, get_or, take, None, Ok, Err, Result, refl, sym, ap, ◌∙◌, subst, arith}
use Rattle.std.proofs.lemmas.List.{length-take-le, take_more}
use Rattle.std.specs.List.{All}
use Rattle.std.specs.Result.{IsOk}
use Rattle.zmap.specs.declared.fault.Fault.{Fault}
use Rattle.zmap.specs.declared.grid.Grid.{Grid}
use Rattle.zmap.specs.Faults.{FaultIs}
use Rattle.setups.specs.Clamps.{adding_fault, clamp_fault}
use Rattle.setups.specs.declared.clamp.Clamp.{Clamp}
use Rattle.runs.specs.Guards.{Fresh}
use Rattle.setups.proofs.Entries.{adding_none}

pub taken : (g g' : Grid) (js ks : List Clamp) (i : ℕ) (d : Clamp) (r : Result ℕ Fault) → FaultIs r (adding_fault g' js (get_or ks i d)) → g' ≡ g → i < length ks →
    js ≡ take i ks → length ks ≤ 16 → All (λ k. clamp_fault g.columns g.rows k ≡ None) ks → IsOk r
taken g g' js ks i d (Ok n) told same lt is few fit = refl
taken g g' js ks i d (Err e) told same lt is few fit =
    let fits = subst (λ x. clamp_fault x.columns x.rows (get_or ks i d) ≡ None) (sym same) (fit i d lt) in
    let long : length js ≡ i = ap length is ∙ length-take-le i ks (omega arith) in
    let none = adding_none g' js (get_or ks i d) fits (omega arith) in
    let z : ◌≡◌ {A = ℕ} 0 1 = cc in
    absurd (omega arith)

pub added_more : (js js' ks : List Clamp) (i : ℕ) (d : Clamp) → i < length ks → js ≡ take i ks → js' ≡ js ++ get_or ks i d ∷ [] → js' ≡ take (i + 1) ks
added_more js js' ks i d lt is grown = grown ∙ ap (λ l. l ++ get_or ks i d ∷ []) is ∙ sym (take_more ks i d lt)

-- clamps ks' that are the clamps ks, on a map of the same columns and rows
pub fresh_as : (g : Grid) (columns rows : ℕ) (js ks ks' : List Clamp) → columns ≡ g.columns → rows ≡ g.rows → ks' ≡ ks → js ≡ [] → length ks ≤ 16 →
    All (λ k. clamp_fault columns rows k ≡ None) ks → Fresh g js ks'
fresh_as g columns rows js ks ks' c r same none few fit =
    record {
      none = none;
      few = subst (λ l. length l ≤ 16) (sym same) few;
      fit = subst (All (λ k. clamp_fault g.columns g.rows k ≡ None)) (sym same)
          (subst (λ x. All (λ k. clamp_fault g.columns x k ≡ None) ks) r (subst (λ x. All (λ k. clamp_fault x rows k ≡ None) ks) c fit));
    }
