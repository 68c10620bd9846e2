-- Clamps that a set-up without any is sure to take. Assumes nothing.
use Rattle.std.specs.Prelude.{◌≡◌, ◌≤◌, List, [], length, None}
use Rattle.std.specs.List.{All}
use Rattle.zmap.specs.declared.grid.Grid.{Grid}
use Rattle.setups.specs.Clamps.{clamp_fault}
use Rattle.setups.specs.declared.clamp.Clamp.{Clamp}

-- the set-up has no clamps js yet, and takes the clamps ks, sixteen at most, on its map
pub record Fresh (g : Grid) (js ks : List Clamp) : Type 0 where
  pub none : js ≡ []
  pub few : length ks ≤ 16
  pub fit : All (λ k. clamp_fault g.columns g.rows k ≡ None) ks
