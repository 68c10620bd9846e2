-- Under clamps whose heights are in range, so is every sample. Assumes nothing.
use Rattle.std.specs.Prelude.{List, [], ◌∷◌, ℤ}
use Rattle.std.proofs.Common.{sym, subst, arith}
use Rattle.std.proofs.lemmas.List.Elements.{All-tail, All-take}
use Rattle.std.proofs.lemmas.Int.{ints}
use Rattle.zmap.specs.Limits.{Height}
use Rattle.zmap.specs.declared.class.Class.TheVariants.{Fixture}
use Rattle.zmap.specs.declared.node.Node.{Node}
use Rattle.zmap.specs.declared.sample.Sample.{Sample}
use Rattle.setups.specs.declared.clamp.Clamp.{Clamp}
use Rattle.setups.specs.declared.table.Clamps.{Clamps}
use Rattle.setups.specs.Clamps.{High}
use Rattle.setups.specs.LayerHeight.{layered_height}
use Rattle.setups.specs.Surfaces.{setup_sample}
use Rattle.setups.specs.Tables.{clamps_of, lifted, raised_by}

lifted_in_range : (n : Node) (z : ℤ) (k : Clamp) → Height z → Height k.height → Height (lifted n z k)
lifted_in_range n z k h hk = grind (arith, ints)

raised_in_range : (n : Node) (z : ℤ) (ks : List Clamp) → Height z → High ks → Height (raised_by n z ks)
raised_in_range n z [] h hs = h
raised_in_range n z (k ∷ ks) h hs =
    raised_in_range n (lifted n z k) ks (lifted_in_range n z k h (hs 0 k (omega arith))) (All-tail (λ x. Height x.height) k ks hs)

pub setup_in_range : (t : Clamps) (n : Node) (s : Sample) → Height s.height → Height (setup_sample (clamps_of t) n s).height
unfolding setup_sample
setup_in_range t n s h =
    subst Height (sym (layered_height Fixture s (raised_by n s.height (clamps_of t)))) (raised_in_range n s.height (clamps_of t) h (All-take (λ x. Height x.height) t.count t.entries t.high))
