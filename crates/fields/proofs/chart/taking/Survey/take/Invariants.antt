-- The samples written so far.
use Rattle.fields.proofs.Surveying.{Sofar}
use Rattle.fields.proofs.chart.taking.Survey.take.Given as goal

abbrev pub invariant-loop-i : goal.invariant-loop-i
invariant-loop-i g l = Sofar (g.F.Field.extent l.field) (g.F.Field.surface l.field) l.i l.memory
