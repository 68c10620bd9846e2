-- The worked examples: profiles by the roots that they are made of, facets and layers by computing. Assumes nothing.
use Rattle.std.proofs.Common.{◌≡◌, ℕ, ◌+◌, ◌-◌, ◌*◌, ◌/◌, ◌<◌, ◌≤◌, [], ◌∷◌, pos, negsuc, Some, Option, refl, ap, ◌∙◌, arith}
use Rattle.std.proofs.lemmas.Int.{ints}
use Rattle.cutters.specs.Balls.{ball_height, ball_shape}
use Rattle.cutters.specs.Cones.{cone_height, cone_shape}
use Rattle.cutters.specs.Discs.{square, in_disc}
use Rattle.cutters.specs.BallsLemmas.{ball_root, ball_unique, root_more, root_whole}
use Rattle.cutters.specs.ConesLemmas.{cone_level, cone_root, cone_unique}
use Rattle.facets.specs.Drawn.{facet_at}
use Rattle.facets.specs.Shoelaces.{height_at, mean, plane_at, swept}
use Rattle.facets.specs.Corners.{corner_of}
use Rattle.setups.specs.Layers.{layered}
use Rattle.setups.specs.Stocks.{stocked_sample}
use Rattle.setups.specs.Surfaces.{setup_sample}
use Rattle.plates.specs.Plates.{Plates, ball, clamp, cone, corner, level_part, piled, slope}
use Rattle.zmap.specs.declared.node.Offset.{Offset}

-- the height of the ball, from the whole part of the root
ball_by : (q r : ℕ) → q ≤ 250000 → r * r < 250000 - q → 250000 - q < (r + 1) * (r + 1) → ball_height 500 q ≡ 500 - (r + 1)
ball_by q r near low high = ball_unique 500 q (500 - (r + 1)) (ball_root 500 q (r + 1) near (root_more (250000 - q) r low high))

ball_rim : ball_height 500 250000 ≡ 500
ball_rim = ball_unique 500 250000 500 (ball_root 500 250000 0 (omega arith) (root_whole 0 0 (omega arith) (omega arith)))

-- the height of the cone past its tip, from the whole part of the root
cone_by : (q r : ℕ) → 10000 < q → (r - 100000) / 1000 ≤ 200000 → r * r ≤ 1000000 * q → 1000000 * q < (r + 1) * (r + 1) → cone_height 100 1000 q ≡ (r - 100000) / 1000
cone_by q r past bound low high = cone_unique 100 1000 q ((r - 100000) / 1000) bound (cone_root 100 1000 q r ((r - 100000) / 1000) past low high refl)

-- by computing
rises : facet_at (slope (pos 100)) 0 100 ≡ Some (pos 34)
unfolding facet_at corner_of height_at plane_at swept mean
rises = refl

falls : facet_at (slope (negsuc 99)) 0 100 ≡ Some (negsuc 32)
unfolding facet_at corner_of height_at plane_at swept mean
falls = refl

piles : setup_sample (clamp ∷ []) corner (stocked_sample 50 level_part) ≡ piled
unfolding layered setup_sample
piles = refl

pub plates : Plates
unfolding in_disc square
plates =
    record {
      beside = ap Some (ball_by 10000 489 (omega arith) (omega arith) (omega arith));
      second = ap Some (ball_by 40000 458 (omega arith) (omega arith) (omega arith));
      rim = ap Some ball_rim;
      past = refl;
      level = ap Some (cone_unique 100 1000 10000 0 (omega arith) (cone_level 100 1000 10000 (omega arith)));
      slant = ap Some (cone_by 80000 282842 (omega arith) (omega arith) (omega arith) (omega arith));
      third = ap Some (cone_by 90000 300000 (omega arith) (omega arith) (omega arith) (omega arith));
      rising = rises;
      falling = falls;
      allowed = piles;
    }

-- the ball and the cone as they were made
pub ball_told : (p R : ℕ) (o : Offset) (r s : Option ℕ) → (pos p ≡ pos 100) × (pos R ≡ pos 500) → r ≡ ball_shape p R o → ball o ≡ s → r ≡ s
ball_told p R o r s (e, f) is at =
    let e' : p ≡ 100 = omega (arith, ints) in
    let f' : R ≡ 500 = omega (arith, ints) in
    is ∙ ap (λ x. ball_shape x R o) e' ∙ ap (λ x. ball_shape 100 x o) f' ∙ at

pub cone_told : (p R T S : ℕ) (o : Offset) (r s : Option ℕ) → (pos p ≡ pos 100) × (pos R ≡ pos 500) × (pos T ≡ pos 100) × (pos S ≡ pos 1000) → r ≡ cone_shape p R T S o → cone o ≡ s → r ≡ s
cone_told p R T S o r s (e, f, g, h) is at =
    let e' : p ≡ 100 = omega (arith, ints) in
    let f' : R ≡ 500 = omega (arith, ints) in
    let g' : T ≡ 100 = omega (arith, ints) in
    let h' : S ≡ 1000 = omega (arith, ints) in
    is ∙ ap (λ x. cone_shape x R T S o) e' ∙ ap (λ x. cone_shape 100 x T S o) f' ∙ ap (λ x. cone_shape 100 500 x S o) g' ∙ ap (λ x. cone_shape 100 500 100 x o) h' ∙ at
