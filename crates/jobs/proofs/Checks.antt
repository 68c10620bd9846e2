-- What it says that a check passed. Assumes nothing.
use Rattle.std.proofs.Common.{◌≡◌, ℕ, Bool, true, false, cond, ℤ, pos, Some, None, Ok, Err, Option, Result, refl, arith}
use Rattle.std.proofs.lemmas.Int.{ints}
use Rattle.zmap.specs.declared.fault.Fault.{Fault}
use Rattle.jobs.specs.Items.{refusing, is_kind}

pub refusing_takes : {X : Type 0} (o : Option Fault) (r : Result X Fault) (x : X) → refusing o r ≡ Ok x → (o ≡ None) × (r ≡ Ok x)
refusing_takes None r x h = (refl, h)
refusing_takes (Some e) r x h = cc

-- an outcome under a test came out, so the test did
pub cond_takes : {X E : Type 0} (b : Bool) (r : Result X E) (e : E) (x : X) → cond b r (Err e) ≡ Ok x → (b ≡ true) × (r ≡ Ok x)
cond_takes true r e x h = (refl, h)
cond_takes false r e x h = cc

pub kind_takes : (k : ℕ) (w : ℤ) → is_kind k w ≡ true → w ≡ pos k
kind_takes k w h = grind (arith, ints)
