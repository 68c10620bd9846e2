-- A layer's sample has the height that the layer gives, and a set-up is a layer. Assumes nothing.
use Rattle.std.specs.Prelude.{◌≡◌, true, List, ℤ, refl}
use Rattle.std.proofs.Common.{arith}
use Rattle.std.proofs.lemmas.Int.{ints}
use Rattle.zmap.specs.declared.class.Class.{Class}
use Rattle.zmap.specs.declared.class.Class.TheVariants.{Fixture}
use Rattle.zmap.specs.declared.node.Node.{Node}
use Rattle.zmap.specs.declared.sample.Sample.{Sample}
use Rattle.setups.specs.Layers.{layered, same_height}
use Rattle.setups.specs.Surfaces.{setup_sample}
use Rattle.setups.specs.Tables.{raised_by}
use Rattle.setups.specs.declared.clamp.Clamp.{Clamp}

pub same_told : (a b : ℤ) → same_height a b ≡ true → a ≡ b
same_told a b e = grind (arith, ints)

pub layered_height : (k : Class) (s : Sample) (h : ℤ) → (layered k s h).height ≡ h
unfolding layered
layered_height k s h = grind (arith, ints)

-- what clamps make of a sample is what a layer of class fixture makes of it
pub setup_layered : (ks : List Clamp) (n : Node) (s : Sample) → layered Fixture s (raised_by n s.height ks) ≡ setup_sample ks n s
unfolding setup_sample
setup_layered ks n s = refl
