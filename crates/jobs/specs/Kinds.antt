-- The kind words of cutters. Assumes nothing.
use Rattle.std.specs.Prelude.{cond, ℤ, Ok, Err, Result}
use Rattle.zmap.specs.declared.fault.Fault.{Fault}
use Rattle.zmap.specs.declared.fault.Fault.TheVariants as fault
use Rattle.jobs.specs.declared.cutter.word.CutterKind.{CutterKind}
use Rattle.jobs.specs.declared.cutter.word.CutterKind.TheVariants.{Flat, Cone, Ball}
use Rattle.jobs.specs.Items.{is_kind}

-- the kind of cutter that a word names
abbrev pub kind_of : ℤ → Result CutterKind Fault
kind_of w = cond (is_kind 1 w) (Ok Flat) (cond (is_kind 2 w) (Ok Cone) (cond (is_kind 3 w) (Ok Ball) (Err fault.Kind)))
