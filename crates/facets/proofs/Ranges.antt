-- What a facet gives is a height. Assumes nothing.
use Rattle.std.proofs.Common.{◌≡◌, ℕ, ◌≤◌, ℤ, Some, None, Option, refl, subst, arith}
use Rattle.std.proofs.lemmas.Int.{ints}
use Rattle.std.proofs.lemmas.Option.{none-some, same_Some}
use Rattle.std.specs.Option.{option_map}
use Rattle.zmap.specs.Limits.{Height, ceiling}
use Rattle.facets.specs.declared.corner.Corner.{Corner}
use Rattle.facets.specs.declared.point.Point.{Point}
use Rattle.facets.specs.declared.facet.Facet.{Facet}
use Rattle.facets.specs.Drawn.{from_floor, given, facet_at}
use Rattle.facets.specs.Shoelaces.{height_at}
use Rattle.facets.specs.Corners.{corner_of}
use Rattle.facets.proofs.Heights.{height_low}

floor_high : (k : ℕ) → k ≤ 1000000 → Height (from_floor k)
floor_high k le = (omega (arith, ints), omega (arith, ints))

ceiling_high : (h : ℤ) → ◌≡◌ {A = Option ℤ} (Some ceiling) (Some h) → Height h
ceiling_high h e = subst Height (same_Some ceiling h e) (omega (arith, ints), omega (arith, ints))

mapped_high : (o : Option ℕ) (h : ℤ) → ((k : ℕ) → o ≡ Some k → k ≤ 1000000) → option_map from_floor o ≡ Some h → Height h
mapped_high None h below e = absurd (none-some h e)
mapped_high (Some k) h below e = subst Height (same_Some (from_floor k) h e) (floor_high k (below k refl))

given_high : (f : Facet) (p : Point) (h : ℤ) (oa ob oc : Option Corner) → corner_of f.a ≡ oa → corner_of f.b ≡ ob → corner_of f.c ≡ oc → given oa ob oc p ≡ Some h → Height h
given_high f p h None ob oc ea eb ec e = ceiling_high h e
given_high f p h (Some a) None oc ea eb ec e = ceiling_high h e
given_high f p h (Some a) (Some b) None ea eb ec e = ceiling_high h e
given_high f p h (Some a) (Some b) (Some c) ea eb ec e =
    mapped_high (height_at p a b c) h (height_low p a b c) e

pub facet_high : (f : Facet) (x y : ℕ) (h : ℤ) → facet_at f x y ≡ Some h → Height h
unfolding facet_at
facet_high f x y h e = given_high f _ h (corner_of f.a) (corner_of f.b) (corner_of f.c) refl refl refl e
