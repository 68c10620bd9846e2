-- Columns and rows over the map as nodes; checks one list after another. Assumes nothing.
use Rattle.std.proofs.Common.{ℕ, ◌<◌, List, [], ◌∷◌, ◌++◌, ℤ, pos, negsuc, nat_abs, ◌≤ℤ◌, ◌<ℤ◌, inl, inr, ⊎_elim, arith}
use Rattle.std.proofs.lemmas.Int.{ints}
use Rattle.zmap.specs.declared.fault.Fault.{Fault}
use Rattle.milling.specs.Checks.{Check, Passed, Refused}

pub index_below : (z : ℤ) (n : ℕ) → pos 0 ≤ℤ z → z <ℤ pos n → nat_abs z < n
index_below (pos k) n low high = omega (arith, ints)
index_below (negsuc k) n low high = absurd (omega (arith, ints))

pub refused_front : (ks js : List Check) (e : Fault) → Refused ks e → Refused (ks ++ js) e
refused_front [] js e r = absurd r
refused_front (k ∷ ks) js e r = ⊎_elim (λ f. inl f) (λ q. inr (q.0, refused_front ks js e q.1)) r

pub refused_back : (ks js : List Check) (e : Fault) → Passed ks → Refused js e → Refused (ks ++ js) e
refused_back [] js e p r = r
refused_back (k ∷ ks) js e p r = inr (p.0, refused_back ks js e p.1 r)

pub passed_both : (ks js : List Check) → Passed ks → Passed js → Passed (ks ++ js)
passed_both [] js p q = q
passed_both (k ∷ ks) js p q = (p.0, passed_both ks js p.1 q)
