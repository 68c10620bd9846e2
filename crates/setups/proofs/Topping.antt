-- The height under clamps is the greatest of the height below and of the clamps over the sample. Assumes nothing.
use Rattle.std.proofs.Common.{◌≡◌, zero, suc, suc-le-suc, true, ◌⊎◌, List, [], ◌∷◌, ℤ, ◌≤ℤ◌, sym, refl, ◌∙◌, subst, inl, inr, ⊎_elim, arith}
use lib.Signed.{≤ℤ_refl}
use Rattle.std.proofs.lemmas.Int.{ints}
use Rattle.std.proofs.lemmas.List.Elements.{All-nil, All-cons}
use Rattle.zmap.specs.declared.class.Class.TheVariants.{Fixture}
use Rattle.zmap.specs.declared.node.Node.{Node}
use Rattle.zmap.specs.declared.sample.Sample.{Sample}
use Rattle.setups.specs.declared.clamp.Clamp.{Clamp}
use Rattle.setups.specs.LayerHeight.{layered_height}
use Rattle.setups.specs.Layers.{layered}
use Rattle.setups.specs.Surfaces.{Stands}
use Rattle.setups.proofs.Layering.{classed}
use Rattle.setups.specs.Tables.{Tops, is_over, lifted, raised_by}

-- what one clamp makes of the height z
record Lifts (n : Node) (z : ℤ) (k : Clamp) (h : ℤ) : Type 0 where
  above : z ≤ℤ h
  over : is_over k n ≡ true → k.height ≤ℤ h
  reached : (h ≡ z) ⊎ ((is_over k n ≡ true) × (h ≡ k.height))

lifts : (n : Node) (z : ℤ) (k : Clamp) → Lifts n z k (lifted n z k)
lifts n z k = record { above = grind (arith, ints); over = λ t. grind (arith, ints); reached = grind (arith, ints) }

pub tops : (n : Node) (z : ℤ) (ks : List Clamp) → Tops n z ks (raised_by n z ks)
tops n z [] = record { above = ≤ℤ_refl z; over = All-nil _; reached = inl refl }
tops n z (k ∷ ks) =
    let one = lifts n z k in
    let rest = tops n (lifted n z k) ks in
    record {
      above = omega (arith, ints, one.above, rest.above);
      over = All-cons (λ x. is_over x n ≡ true → x.height ≤ℤ raised_by n z (k ∷ ks)) k ks (λ t. omega (arith, ints, one.over t, rest.above)) rest.over;
      reached =
          ⊎_elim
          (λ e. ⊎_elim (λ m. inl (e ∙ m)) (λ m. inr (zero, k, omega arith, refl, (m.0, e ∙ m.1))) one.reached)
          (λ r. inr (suc r.0, r.1, suc-le-suc r.2, r.3, r.4))
          rest.reached;
    }

pub stands_as : {ks : List Clamp} {n : Node} {s t : Sample} → t ≡ layered Fixture s (raised_by n s.height ks) → Stands ks n s t
stands_as {ks} {n} {s} e =
    subst (Stands ks n s) (sym e) (record { height = subst (Tops n s.height ks) (sym (layered_height Fixture s _)) (tops n s.height ks); class = classed Fixture s _ })
