-- Blocks read by node, as one place is written. Assumes nothing.
use Rattle.std.proofs.Common.{◌≡◌, ℕ, ◌<◌, ◌⊎◌, List, length, get_or, set, ℤ, pos, ◌≤ℤ◌, arith}
use Rattle.std.proofs.lemmas.Grind.{common_steps}
use Rattle.std.proofs.lemmas.Int.{ints}
use Rattle.zmap.specs.Maps.{On, place, relief, size}
use Rattle.zmap.specs.declared.grid.Grid.{Grid}
use Rattle.zmap.specs.declared.node.Node.{Node}
use Rattle.zmap.proofs.Places.{place_below, place_unique}

-- after a write at s: the value there, and every other node as before
pub relief_set : (g : Grid) (b : List ℤ) (s t : Node) (v : ℤ) → length b ≡ size g → On g s → On g t →
    ((s ≡ t) × (relief g (set b (place g s) v) t ≡ v)) ⊎ (relief g (set b (place g s) v) t ≡ relief g b t)
relief_set g b s t v long on on' = grind (arith, common_steps, place_below g s on, place_unique g s t on on')

-- a place that is lowered leaves no place higher
pub set_below : (b : List ℤ) (i : ℕ) (v : ℤ) → i < length b → v ≤ℤ get_or b i (pos 0) → (k : ℕ) → get_or (set b i v) k (pos 0) ≤ℤ get_or b k (pos 0)
set_below b i v lt le k = grind (arith, ints, common_steps)
