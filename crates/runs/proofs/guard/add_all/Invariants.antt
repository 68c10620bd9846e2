-- The clamps so far stand over the same field.
use Rattle.std.proofs.Common.{◌≡◌, take}
use Rattle.setups.specs.Tables.{clamps_of}
use Rattle.runs.proofs.guard.add_all.Given as goal

abbrev pub invariant-loop-clamp : goal.invariant-loop-clamp
invariant-loop-clamp g l = (l.setup.below ≡ l.initial.setup.below) × (clamps_of l.setup.clamps ≡ take l.clamp-index l.clamps)
