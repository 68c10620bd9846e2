-- Fifteen rows of zeros.
use Rattle.std.proofs.Common.{refl}
use Rattle.cutters.specs.TablesLemmas.{blank}
use Rattle.cutters.proofs.table.Table.new.Goals as goal

pub returns : goal.returns
returns c = blank _ _ refl refl
