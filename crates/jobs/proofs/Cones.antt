-- When the words of a cone are refused. Assumes nothing.
use Rattle.std.proofs.Common.{◌≡◌, ℕ, List, ℤ, pos, Some, Ok, Err, arith}
use Rattle.zmap.specs.declared.fault.Fault.{Fault}
use Rattle.cutters.specs.Making.{cone_fault}
use Rattle.jobs.specs.declared.cutter.word.CutterKind.TheVariants.{Cone}
use Rattle.jobs.specs.Kinds.{kind_of}
use Rattle.jobs.specs.Items.{nth, fitted, turned_of}

-- a cone of the pitch p, the radius r, the tip radius t and the rise s, which are those of the words
pub cone_refused : (pitch : ℕ) (ws : List ℤ) (e : Fault) (p r t s : ℤ) → kind_of (nth ws 0) ≡ Ok Cone → cone_fault p r t s ≡ Some e →
    p ≡ pos pitch → r ≡ nth ws 1 → t ≡ nth ws 2 → s ≡ nth ws 3 → turned_of pitch ws ≡ Err e
unfolding fitted
cone_refused pitch ws e p r t s kind refused is_pitch is_radius is_tip is_rise = grind arith
