-- Whatever the facets are, their samples stand from the floor to the ceiling. Assumes nothing.
use Rattle.std.specs.Prelude.{◌≡◌, ℕ, List, [], ◌∷◌, ℤ, Some, None, fold, Option, int_lt, refl}
use Rattle.std.proofs.Common.{arith}
use Rattle.std.proofs.lemmas.Int.{ints}
use Rattle.std.proofs.lemmas.Bool.{cond_both}
use Rattle.zmap.specs.Limits.{floor, Height}
use Rattle.facets.specs.Drawn.{facet_at}
use Rattle.facets.specs.declared.facet.Facet.{Facet}
use Rattle.facets.proofs.Ranges.{facet_high}
use Rattle.fields.specs.Drawings.{facets_height, heightened, or_given}

or_given_high : (z : ℤ) (o : Option ℤ) → Height z → ((h : ℤ) → o ≡ Some h → Height h) → Height (or_given z o)
or_given_high z None high given = high
or_given_high z (Some h) high given = cond_both (int_lt h z) z h Height (λ _. high) (λ _. given h refl)

heights_high : (x y : ℕ) (z : ℤ) (fs : List Facet) → Height z → Height (fold (heightened x y) z fs)
heights_high x y z [] high = high
heights_high x y z (f ∷ fs) high = heights_high x y (heightened x y z f) fs (or_given_high z (facet_at f x y) high (facet_high f x y))

pub drawing_in_range : (fs : List Facet) (x y : ℕ) → Height (facets_height fs x y)
drawing_in_range fs x y = heights_high x y floor fs (omega (arith, ints), omega (arith, ints))
