-- Nodes, samples and offsets on a map with four edges. Assumes nothing.
use Rattle.std.specs.Prelude.{◌≡◌, ℕ, ◌+◌, ◌*◌, ◌<◌, List, ℤ, pos, ◌+ℤ◌, slice_index_or}
use Rattle.zmap.specs.declared.grid.Grid.{Grid}
use Rattle.zmap.specs.declared.node.Node.{Node}
use Rattle.zmap.specs.declared.node.Offset.{Offset}

-- the node n stands over the map
abbrev pub On : Grid → Node → Type 0
On g n = (n.column < g.columns) × (n.row < g.rows)

-- s stands at the offset o from n
abbrev pub At : Node → Offset → Node → Type 0
At n o s = (pos s.column ≡ pos n.column +ℤ o.dx) × (pos s.row ≡ pos n.row +ℤ o.dy)

-- the place of n in row order
abbrev pub place : Grid → Node → ℕ
place g n = n.row * g.columns + n.column

-- how many samples the map has
abbrev pub size : Grid → ℕ
size g = g.columns * g.rows

-- a height at each node
abbrev pub Relief : Type 0
Relief = Node → ℤ

-- a list of heights in row order, read by node
abbrev pub relief : Grid → List ℤ → Relief
relief g b n = slice_index_or b (place g n) (pos 0)
