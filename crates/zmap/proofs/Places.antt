-- Nodes and their places in row order, each from the other. Assumes nothing.
use Rattle.std.proofs.Common.{◌≡◌, ℕ, ◌/◌, ◌%◌, ◌<◌, sym, ap, ◌∙◌, arith}
use Rattle.std.proofs.lemmas.Nat.{div-add-mod', div_below, div-mul-add, mod_below, mod-mul-add, mul-add-lt}
use Rattle.zmap.specs.Maps.{On, place, size}
use Rattle.zmap.specs.declared.grid.Grid.{Grid}
use Rattle.zmap.specs.declared.node.Node.{Node}

pub same_node : {a b c d : ℕ} → a ≡ c → b ≡ d → ◌≡◌ {A = Node} (record { column = a; row = b }) (record { column = c; row = d })
same_node e f = cc

pub place_below : (g : Grid) (s : Node) → On g s → place g s < size g
place_below g s on = omega (arith, mul-add-lt s.row g.columns s.column g.rows on.1 on.0)

pub place_unique : (g : Grid) (s t : Node) → On g s → On g t → place g s ≡ place g t → s ≡ t
place_unique g s t on on' e =
    same_node
    (sym (mod-mul-add s.row g.columns s.column on.0) ∙ ap (λ i. i % g.columns) e ∙ mod-mul-add t.row g.columns t.column on'.0)
    (sym (div-mul-add s.row g.columns s.column on.0) ∙ ap (λ i. i / g.columns) e ∙ div-mul-add t.row g.columns t.column on'.0)

pub node_placed : (g : Grid) (i : ℕ) → i < size g → On g (record { column = i % g.columns; row = i / g.columns }) × (place g (record { column = i % g.columns; row = i / g.columns }) ≡ i)
node_placed g i lt =
    let some : 0 < g.columns = omega (arith, g.wide.0) in
    ((mod_below i g.columns some, div_below i g.columns g.rows some (omega arith)), div-add-mod' i g.columns)
