-- Quotient and remainder are the row and the column.
use Rattle.std.proofs.Common.{arith}
use Rattle.zmap.proofs.Places.{node_placed}
use Rattle.zmap.proofs.grid.Grid.node_at.Goals as goal

pub returns : goal.returns
returns c = node_placed c.args.self.now c.args.i (omega arith)
