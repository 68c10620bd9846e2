-- The clamps of a table, and how high they stand over a sample. Assumes nothing.
use Rattle.std.specs.Prelude.{◌≡◌, ℕ, Bool, true, cond, ◌&&◌, ◌⊎◌, List, length, take, ℤ, pos, ◌≤ℤ◌, fold, ◌≢◌, int_le, slice_index_or}
use Rattle.std.specs.Int.{int_max}
use Rattle.std.specs.List.{All, Any}
use Rattle.zmap.specs.declared.node.Node.{Node}
use Rattle.setups.specs.declared.clamp.Clamp.{Clamp}
use Rattle.setups.specs.declared.clamp.Span.{Span}
use Rattle.setups.specs.declared.table.Clamps.{Clamps}

-- the clamps, by their numbers
abbrev pub clamps_of : Clamps → List Clamp
clamps_of t = take t.count t.entries

-- a clamp at another height
abbrev pub at_height : Clamp → ℤ → Clamp
at_height k z = record { columns = k.columns; rows = k.rows; height = z }

-- the clamp of number i has the height z now, and is else as it was, like every other
pub record Raised (ks : List Clamp) (i : ℕ) (z : ℤ) (ks' : List Clamp) : Type 0 where
  pub long : length ks' ≡ length ks
  pub raised : (d : Clamp) → slice_index_or ks' i d ≡ at_height (slice_index_or ks i d) z
  pub rest : (j : ℕ) (d : Clamp) → (j ≢ i) → slice_index_or ks' j d ≡ slice_index_or ks j d

-- whether x is from the first to the last of a span
abbrev pub is_in : Span → ℕ → Bool
is_in s x = int_le s.first (pos x) && int_le (pos x) s.last

-- whether the clamp is over the sample n
abbrev pub is_over : Clamp → Node → Bool
is_over k n = is_in k.columns n.column && is_in k.rows n.row

-- the greater of the height z and the clamp, where that is over n
abbrev pub lifted : Node → ℤ → Clamp → ℤ
lifted n z k = cond (is_over k n) (int_max z k.height) z

-- the height z under the clamps, one after the other
abbrev pub raised_by : Node → ℤ → List Clamp → ℤ
raised_by n z ks = fold (lifted n) z ks

-- h is the greatest of the height z and of the clamps over n
pub record Tops (n : Node) (z : ℤ) (ks : List Clamp) (h : ℤ) : Type 0 where
  pub above : z ≤ℤ h
  pub over : All (λ k. is_over k n ≡ true → k.height ≤ℤ h) ks
  pub reached : (h ≡ z) ⊎ Any (λ k. (is_over k n ≡ true) × (h ≡ k.height)) ks
