-- The worked examples, all of them as one statement. Assumes nothing.
use Rattle.std.specs.Prelude.{◌≡◌, ℕ, List, [], ◌∷◌, ℤ, pos, negsuc, Some, None, Option}
use Rattle.cutters.specs.Balls.{ball_shape}
use Rattle.cutters.specs.Cones.{cone_shape}
use Rattle.cutters.specs.Profiles.{Profile}
use Rattle.facets.specs.Drawn.{facet_at}
use Rattle.facets.specs.declared.facet.Facet.{Facet}
use Rattle.setups.specs.Stocks.{stocked_sample}
use Rattle.setups.specs.Surfaces.{setup_sample}
use Rattle.setups.specs.declared.clamp.Clamp.{Clamp}
use Rattle.zmap.specs.declared.class.Class.TheVariants.{Part, Allowance}
use Rattle.zmap.specs.declared.node.Node.{Node}
use Rattle.zmap.specs.declared.node.Offset.{Offset}
use Rattle.zmap.specs.declared.sample.Sample.{Sample}

-- the offset of so many columns and rows
abbrev pub away : ℕ → ℕ → Offset
away x y = record { dx = pos x; dy = pos y }

-- the ball of radius 500 µm at the pitch 100 µm
abbrev pub ball : Profile
ball = ball_shape 100 500

-- the cone of radius 500 µm, tip radius 100 µm and rise 1,000 µm in each 1,000 µm, at the pitch 100 µm
abbrev pub cone : Profile
cone = cone_shape 100 500 100 1000

-- the facet between (0, 0, 0), (300, 0, 0) and (0, 300, z)
abbrev pub slope : ℤ → Facet
slope z =
    record { a = record { x = pos 0; y = pos 0; z = pos 0 }; b = record { x = pos 300; y = pos 0; z = pos 0 }; c = record { x = pos 0; y = pos 300; z = z } }

-- a sample of the part at 0 µm
abbrev pub level_part : Sample
level_part = record { height = pos 0; class = Part }

-- the first sample of a map, and a clamp over it alone, at 50 µm
abbrev pub corner : Node
corner = record { column = 0; row = 0 }

abbrev pub clamp : Clamp
clamp = record { columns = record { first = pos 0; last = pos 0 }; rows = record { first = pos 0; last = pos 0 }; height = pos 50 }

-- an allowance at 50 µm
abbrev pub piled : Sample
piled = record { height = pos 50; class = Allowance }

-- what the ball and the cone stand for at seven offsets, what two facets give over a point, and what a pile makes of a sample
pub record Plates : Type 0 where
  pub beside : ball (away 1 0) ≡ Some 10
  pub second : ball (away 2 0) ≡ Some 41
  pub rim : ball (away 3 4) ≡ Some 500
  pub past : ball (away 4 4) ≡ None
  pub level : cone (away 1 0) ≡ Some 0
  pub slant : cone (away 2 2) ≡ Some 182
  pub third : cone (away 3 0) ≡ Some 200
  pub rising : facet_at (slope (pos 100)) 0 100 ≡ Some (pos 34)
  pub falling : facet_at (slope (negsuc 99)) 0 100 ≡ Some (negsuc 32)
  pub allowed : setup_sample (clamp ∷ []) corner (stocked_sample 50 level_part) ≡ piled

-- what the two facets give, in order
abbrev pub sloped : List (Option ℤ)
sloped = Some (pos 34) ∷ Some (negsuc 32) ∷ []

-- the seven profiles, in order
abbrev pub worked : List (Option ℕ)
worked = Some 10 ∷ Some 41 ∷ Some 500 ∷ None ∷ Some 0 ∷ Some 182 ∷ Some 200 ∷ []
