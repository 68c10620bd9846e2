-- What a facet gives by the computation is what the geometry says. Assumes nothing.
use Rattle.std.proofs.Common.{◌≡◌, ℕ, ◌+◌, ◌*◌, ◌≤◌, ℤ, pos, negsuc, ◌+ℤ◌, ◌*ℤ◌, ◌≤ℤ◌, Some, None, Option, sym, refl, ap, ◌∙◌, subst, inl, inr, ⊎_elim, arith}
use Rattle.std.proofs.lemmas.Int.{ints}
use Rattle.std.specs.Option.{option_map}
use Rattle.facets.specs.declared.corner.Corner.{Corner}
use Rattle.facets.specs.declared.point.Point.{Point}
use Rattle.facets.specs.declared.facet.Facet.{Facet}
use Rattle.facets.specs.Drawn.{from_floor, given, facet_at}
use Rattle.facets.specs.Geometry.{Balances, Covers, NotBelow, Tops, Upright, Gives, Sole, weighed}
use Rattle.facets.specs.Shoelaces.{half, height_at}
use Rattle.facets.specs.Corners.{corner_of}
use Rattle.facets.specs.Vertices.{Placed, Sound}
use Rattle.facets.proofs.Heights.{Spanned, height_some, height_none}
use Rattle.facets.proofs.Placing.{corner_some, corner_none}
use Rattle.facets.proofs.Balance.{Poised}
use Rattle.facets.proofs.Signs.{Told, weighed_from, least_from, over_from, never_under, product_is}
use Rattle.facets.proofs.Weights.{Lies}

-- a facet f whose corners are a, b and c, over the point (x, y)
module _ (f : Facet) (a b c : Corner) (x y : ℕ) (ta : Told f.a a) (tb : Told f.b b) (tc : Told f.c c) where
  poised : (u v w : ℕ) → Balances f x y u v w → Poised a.at b.at c.at (record { x = x; y = y }) u v w
  poised u v w s =
      record {
        some = s.some;
        across = omega (arith, ints, s.across, weighed_from u v w 0 ta.across tb.across tc.across);
        along = omega (arith, ints, s.along, weighed_from u v w 0 ta.along tb.along tc.along);
      }

  balances : (u v w : ℕ) → Poised a.at b.at c.at (record { x = x; y = y }) u v w → Balances f x y u v w
  balances u v w s =
      record {
        some = s.some;
        across = omega (arith, ints, s.across, weighed_from u v w 0 ta.across tb.across tc.across);
        along = omega (arith, ints, s.along, weighed_from u v w 0 ta.along tb.along tc.along);
      }

  covers : Spanned a.at b.at c.at (record { x = x; y = y }) → Covers f x y
  covers s = (s.0, s.1, s.2, balances s.0 s.1 s.2 s.3)

  spanned : Covers f x y → Spanned a.at b.at c.at (record { x = x; y = y })
  spanned s = (s.0, s.1, s.2, poised s.0 s.1 s.2 s.3)

  -- the heights of the corners by their weights
  high : (u v w : ℕ) → (weighed u v w f.a.z f.b.z f.c.z +ℤ pos ((u + v + w) * 500000)) ≡ pos (u * a.z + v * b.z + w * c.z)
  high u v w = weighed_from u v w 500000 ta.high tb.high tc.high

  tops : (k : ℕ) → Covers f x y → Lies a b c (record { x = x; y = y }) k → Tops f x y (from_floor k)
  tops k cover l =
      record {
        over = λ u v w s. over_from (u + v + w) 500000 _ k _ (from_floor k) (high u v w) (omega (arith, ints)) (l.over u v w (poised u v w s));
        least = λ h o. least_of h o (h +ℤ pos 500000) refl;
      }
    where
      least_of : (h : ℤ) → NotBelow f x y h → (d : ℤ) → (h +ℤ pos 500000) ≡ d → from_floor k ≤ℤ h
      least_of h o (pos j) e =
          let le : k ≤ j = l.least j (λ u v w s. least_from (u + v + w) 500000 _ j _ h (high u v w) e (o u v w (balances u v w s))) in
          omega (arith, ints)
      least_of h o (negsuc j) e =
          absurd (never_under (cover.0 + cover.1 + cover.2) 500000 _ j _ h cover.3.some (high cover.0 cover.1 cover.2) e (o cover.0 cover.1 cover.2 cover.3))

  left : (f.a.x *ℤ f.b.y) +ℤ ((f.b.x *ℤ f.c.y) +ℤ (f.c.x *ℤ f.a.y)) ≡ pos (half a.at b.at c.at)
  left = omega (arith, ints, product_is ta.across tb.along, product_is tb.across tc.along, product_is tc.across ta.along)

  right : (f.a.x *ℤ f.c.y) +ℤ ((f.c.x *ℤ f.b.y) +ℤ (f.b.x *ℤ f.a.y)) ≡ pos (half a.at c.at b.at)
  right = omega (arith, ints, product_is ta.across tc.along, product_is tc.across tb.along, product_is tb.across ta.along)

  upright : half a.at b.at c.at ≡ half a.at c.at b.at → Upright f
  upright e = left ∙ ap pos e ∙ sym right

  level : Upright f → half a.at b.at c.at ≡ half a.at c.at b.at
  level e = let d = sym left ∙ e ∙ right in omega (arith, ints)

-- by the corners of the vertices in range
given_gives : (f : Facet) (x y : ℕ) (oa ob oc : Option Corner) → corner_of f.a ≡ oa → corner_of f.b ≡ ob → corner_of f.c ≡ oc → Gives f x y (given oa ob oc (record { x = x; y = y }))
given_gives f x y None ob oc ea eb ec = inl ((λ s. corner_none f.a ea s.first), refl)
given_gives f x y (Some a) None oc ea eb ec = inl ((λ s. corner_none f.b eb s.second), refl)
given_gives f x y (Some a) (Some b) None ea eb ec = inl ((λ s. corner_none f.c ec s.third), refl)
given_gives f x y (Some a) (Some b) (Some c) ea eb ec = by_height (height_at p a b c) refl
  where
    p : Point
    p = record { x = x; y = y }

    sa : Placed f.a × Told f.a a
    sa = corner_some f.a a ea

    sb : Placed f.b × Told f.b b
    sb = corner_some f.b b eb

    sc : Placed f.c × Told f.c c
    sc = corner_some f.c c ec

    sound : Sound f
    sound = record { first = sa.0; second = sb.0; third = sc.0 }

    by_height : (o : Option ℕ) → height_at p a b c ≡ o → Gives f x y (option_map from_floor o)
    by_height None e =
        (sound, ⊎_elim (λ l. inl (upright f a b c x y sa.1 sb.1 sc.1 l)) (λ n. inr (λ s. n (spanned f a b c x y sa.1 sb.1 sc.1 s))) (height_none p a b c e))
    by_height (Some k) e =
        let t = height_some p a b c k e in
        let cover = covers f a b c x y sa.1 sb.1 sc.1 t.covered in
        inr (record {
          sound = sound;
          wide = λ u. t.wide (level f a b c x y sa.1 sb.1 sc.1 u);
          covered = cover;
          height = tops f a b c x y sa.1 sb.1 sc.1 k cover t.lies;
        })

pub facet_gives : (f : Facet) (x y : ℕ) → Gives f x y (facet_at f x y)
unfolding facet_at
facet_gives f x y = given_gives f x y (corner_of f.a) (corner_of f.b) (corner_of f.c) refl refl refl

roof_never : (f : Facet) (x y : ℕ) (h : ℤ) → Gives f x y None → Gives f x y (Some h) → ⊥
roof_never f x y h (sound, none) some =
    ⊎_elim (λ bad. bad.0 sound) (λ roof. ⊎_elim roof.wide (λ free. free roof.covered) none) some

roof_same : (f : Facet) (x y : ℕ) (h k : ℤ) → Gives f x y (Some h) → Gives f x y (Some k) → h ≡ k
roof_same f x y h k one other =
    ⊎_elim
    (λ bad. ⊎_elim (λ bad'. bad.1 ∙ sym bad'.1) (λ roof'. absurd (bad.0 roof'.sound)) other)
    (λ roof. ⊎_elim
    (λ bad'. absurd (bad'.0 roof.sound))
    (λ roof'. omega (arith, ints, roof.height.least k roof'.height.over, roof'.height.least h roof.height.over))
    other)
    one

-- the geometry leaves one answer
pub gives_unique : (f : Facet) (x y : ℕ) (r q : Option ℤ) → Gives f x y r → Gives f x y q → r ≡ q
gives_unique f x y None None one other = refl
gives_unique f x y None (Some k) one other = absurd (roof_never f x y k one other)
gives_unique f x y (Some h) None one other = absurd (roof_never f x y h other one)
gives_unique f x y (Some h) (Some k) one other = ap Some (roof_same f x y h k one other)

pub gives_is : (f : Facet) (x y : ℕ) (r : Option ℤ) → Gives f x y r → facet_at f x y ≡ r
gives_is f x y r g = gives_unique f x y (facet_at f x y) r (facet_gives f x y) g

pub sole_as : (f : Facet) (x y : ℕ) {r : Option ℤ} → r ≡ facet_at f x y → Sole f x y r
sole_as f x y {r} e =
    let gives = subst (Gives f x y) (sym e) (facet_gives f x y) in
    record { gives = gives; only = λ q g. gives_unique f x y q r g gives }
