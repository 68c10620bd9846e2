-- The members of a list with one more in front. Assumes nothing.
use Rattle.std.proofs.Common.{◌≡◌, zero, suc, ◌⊎◌, List, [], ◌∷◌, refl, inl, inr, suc-le-suc, le_of_suc-le-suc, not-suc-le-zero, arith}
use Rattle.std.specs.List.{Contains as Has}

module _ {X : Type 0} where
  pub has_first : (k : X) (ks : List X) → Has (k ∷ ks) k
  has_first k ks = (zero, omega arith, refl)

  pub has_more : (k x : X) (ks : List X) → Has ks x → Has (k ∷ ks) x
  has_more k x ks (i, lt, at) = (suc i, suc-le-suc lt, at)

  pub has_cases : (k x : X) (ks : List X) → Has (k ∷ ks) x → (k ≡ x) ⊎ Has ks x
  has_cases k x ks (zero, lt, at) = inl at
  has_cases k x ks (suc i, lt, at) = inr (i, le_of_suc-le-suc lt, at)

  pub has_none : (x : X) → Has [] x → ⊥
  has_none x (i, lt, at) = not-suc-le-zero lt
