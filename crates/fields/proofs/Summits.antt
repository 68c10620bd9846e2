-- The height of facets is the greatest that they give, and the first that is not sound. Assumes nothing.
use Rattle.std.proofs.Common.{◌≡◌, ℕ, zero, suc, ◌<◌, ◌⊎◌, List, [], ◌∷◌, length, cond, ℤ, ◌≤ℤ◌, ◌<ℤ◌, Some, None, fold, Option, MatchOption, sym, refl, ap, ◌∙◌, subst, inl, inr, ⊎_elim, suc-le-suc, le_of_suc-le-suc, not-suc-le-zero, arith}
use lib.Signed.{≤ℤ_refl}
use Rattle.std.proofs.lemmas.Int.{ints, clamps}
use Rattle.std.specs.Int.{int_max}
use Rattle.std.specs.List.{AllWithin, HoldsAt}
use Rattle.std.specs.Ordering.{is_lt, int_cmp}
use Rattle.zmap.proofs.Greatest.{greater_max}
use Rattle.zmap.specs.Limits.{floor}
use Rattle.facets.proofs.Giving.{facet_gives, gives_is}
use Rattle.std.proofs.lemmas.Option.{none-some, same_Some}
use Rattle.facets.proofs.Ranges.{facet_high}
use Rattle.facets.specs.Drawn.{facet_at}
use Rattle.facets.specs.Geometry.{Gives}
use Rattle.facets.specs.Vertices.{Sound}
use Rattle.facets.specs.declared.facet.Facet.{Facet}
use Rattle.fields.specs.Drawings.{AllSound, FirstUnsound, Given, Highest, facets_height, heightened, or_given}

greater_given : (z : ℤ) (o : Option ℤ) (r : ℤ) → MatchOption o (r ≡ z) (λ h. r ≡ cond (is_lt (int_cmp z h)) h z) → r ≡ or_given z o
greater_given z None r is = is
greater_given z (Some h) r is = greater_max z h r is

pub heightened_as : (x y : ℕ) (z : ℤ) (f : Facet) (o : Option ℤ) (r : ℤ) → o ≡ facet_at f x y → MatchOption o (r ≡ z) (λ h. r ≡ cond (is_lt (int_cmp z h)) h z) → r ≡ heightened x y z f
heightened_as x y z f o r e is = greater_given z o r is ∙ ap (or_given z) e

max_either : (z h : ℤ) → (int_max z h ≡ h) ⊎ ((int_max z h ≡ z) × (h <ℤ z))
max_either z h = grind (arith, ints)

-- over the point (x, y)
module _ (x y : ℕ) where
  -- what one facet makes of the height z
  record Lifts (z : ℤ) (f : Facet) (h : ℤ) : Type 0 where
    above : z ≤ℤ h
    over : (k : ℤ) → Gives f x y (Some k) → k ≤ℤ h
    reached : Gives f x y (Some h) ⊎ ((h ≡ z) × ((k : ℤ) → Gives f x y (Some k) → k <ℤ z))

  lifts_by : (z : ℤ) (f : Facet) (o : Option ℤ) → facet_at f x y ≡ o → Lifts z f (or_given z o)
  lifts_by z f None e =
      let none : (k : ℤ) → Gives f x y (Some k) → ⊥ = λ k g. none-some k (sym e ∙ gives_is f x y (Some k) g) in
      record { above = ≤ℤ_refl z; over = λ k g. absurd (none k g); reached = inr (refl, λ k g. absurd (none k g)) }
  lifts_by z f (Some h) e =
      let same : (k : ℤ) → Gives f x y (Some k) → k ≡ h = λ k g. same_Some k h (sym (gives_is f x y (Some k) g) ∙ e) in
      record {
        above = omega (arith, ints, clamps);
        over = λ k g. let s = same k g in omega (arith, ints, clamps);
        reached =
            ⊎_elim
            (λ m. inl (subst (λ o. Gives f x y o) (e ∙ ap Some (sym m)) (facet_gives f x y)))
            (λ m. inr (m.0, λ k g. subst (λ j. j <ℤ z) (sym (same k g)) m.1))
            (max_either z h);
      }

  -- what the facets f and fs give
  given_first : (f : Facet) (fs : List Facet) (k : ℤ) → Gives f x y (Some k) → Given (f ∷ fs) x y k
  given_first f fs k g = (zero, f, omega arith, refl, g)

  given_more : (f : Facet) (fs : List Facet) (k : ℤ) → Given fs x y k → Given (f ∷ fs) x y k
  given_more f fs k (i, q, lt, at, g) = (suc i, q, suc-le-suc lt, at, g)

  given_cases : (f : Facet) (fs : List Facet) (k : ℤ) → Given (f ∷ fs) x y k → Gives f x y (Some k) ⊎ Given fs x y k
  given_cases f fs k (zero, q, lt, at, g) = inl (subst (λ d. Gives d x y (Some k)) (sym at) g)
  given_cases f fs k (suc i, q, lt, at, g) = inr (i, q, le_of_suc-le-suc lt, at, g)

  -- what a list of facets makes of the height z
  record Climbs (z : ℤ) (fs : List Facet) (h : ℤ) : Type 0 where
    above : z ≤ℤ h
    over : (k : ℤ) → Given fs x y k → k ≤ℤ h
    reached : Given fs x y h ⊎ ((h ≡ z) × ((k : ℤ) → Given fs x y k → k <ℤ z))

  climbs : (z : ℤ) (fs : List Facet) → Climbs z fs (fold (heightened x y) z fs)
  climbs z [] =
      record { above = ≤ℤ_refl z; over = λ k g. absurd (not-suc-le-zero g.2); reached = inr (refl, λ k g. absurd (not-suc-le-zero g.2)) }
  climbs z (f ∷ fs) =
      let one = lifts_by z f (facet_at f x y) refl in
      let rest = climbs (heightened x y z f) fs in
      record {
        above = omega (arith, ints, one.above, rest.above);
        over = λ k g. ⊎_elim (λ first. omega (arith, ints, one.over k first, rest.above)) (λ more. rest.over k more) (given_cases f fs k g);
        reached =
            ⊎_elim
            (λ more. inl (given_more f fs _ more))
            (λ top. ⊎_elim
            (λ first. inl (given_first f fs _ (subst (λ v. Gives f x y (Some v)) (sym top.0) first)))
            (λ same. inr (top.0 ∙ same.0, λ k g. ⊎_elim (λ first. same.1 k first) (λ more. subst (λ v. k <ℤ v) same.0 (top.1 k more)) (given_cases f fs k g)))
            one.reached)
            rest.reached;
      }

  given_high : (fs : List Facet) (k : ℤ) → Given fs x y k → floor ≤ℤ k
  given_high fs k g = (facet_high g.1 x y k (gives_is g.1 x y (Some k) g.4)).0

  pub highest : (fs : List Facet) → Highest fs x y (facets_height fs x y)
  highest fs =
      let c = climbs floor fs in
      record {
        over = c.over;
        reached = ⊎_elim inl (λ low. inr (low.0, λ k g. omega (arith, ints, given_high fs k g, low.1 k g))) c.reached;
      }

  pub highest_as : (fs : List Facet) (h : ℤ) → h ≡ facets_height fs x y → Highest fs x y h
  highest_as fs h e = subst (Highest fs x y) (sym e) (highest fs)

-- ---- the check

pub first_unsound : (fs : List Facet) (o : Option ℕ) → MatchOption o (AllWithin Sound fs 0 (length fs)) (λ i. (i < length fs) × HoldsAt (λ f. Sound f → ⊥) fs i × AllWithin Sound fs 0 i) → MatchOption o (AllSound fs) (λ i. FirstUnsound fs i)
first_unsound fs None all = λ i d lt. all i d (omega arith) lt
first_unsound fs (Some i) first = record { inside = first.0; bad = first.1; before = λ k d lt. first.2 k d (omega arith) lt }
