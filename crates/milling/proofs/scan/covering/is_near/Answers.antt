-- What both ranges hold is near.
use Rattle.std.proofs.Common.{arith}
use Rattle.std.proofs.lemmas.Int.{ints}
use Rattle.milling.proofs.scan.covering.is_near.Goals as goal

pub returns-then-contains-clause-yes : goal.returns-then-contains-clause-yes
returns-then-contains-clause-yes c t = record { west = grind (arith, ints); east = grind (arith, ints); north = grind (arith, ints); south = grind (arith, ints) }
