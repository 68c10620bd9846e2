-- What each refusal says: its number, step, column, row and class, and the refusals of a grid. Assumes nothing.
use Rattle.std.specs.Prelude.{◌≡◌, ℕ, cond, ℤ, pos, Some, None, Option, Result, MatchResult}
use Rattle.zmap.specs.Limits.{within}
use Rattle.zmap.specs.Contacts.{contact_of}
use Rattle.zmap.specs.declared.class.Contact.TheVariants.{Clear}
use Rattle.zmap.specs.declared.fault.End.{End}
use Rattle.zmap.specs.declared.fault.End.TheVariants.{Start, Finish}
use Rattle.zmap.specs.declared.fault.Fault.{Fault}
use Rattle.zmap.specs.declared.fault.Fault.TheVariants as fault
use Rattle.zmap.specs.declared.fault.Parts.{Parts}

-- the step that an end of a move is told as
abbrev pub step_of : End → ℕ
step_of Start = 0
step_of Finish = 1

-- a fault that names nothing but its number
abbrev pub bare : ℕ → Parts
bare n = record { number = n; step = 0; column = 0; row = 0; class = Clear }

-- a fault that names a step, a place or a facet
abbrev pub at_step : ℕ → ℕ → Parts
at_step n i = record { number = n; step = i; column = 0; row = 0; class = Clear }

-- what each fault says
abbrev pub parts_of : Fault → Parts
parts_of fault.Columns = bare 1
parts_of fault.Rows = bare 2
parts_of fault.Pitch = bare 3
parts_of fault.Radius = bare 4
parts_of fault.TipRadius = bare 5
parts_of fault.Rise = bare 6
parts_of fault.EntryOffset = bare 7
parts_of fault.EntryHeight = bare 8
parts_of fault.RasterLength = bare 9
parts_of (fault.RasterHeight i) = at_step 10 i
parts_of (fault.FacetVertex i) = at_step 11 i
parts_of fault.ClampExtent = bare 12
parts_of fault.ClampHeight = bare 13
parts_of fault.ClampsFull = bare 14
parts_of fault.NoClamp = bare 15
parts_of fault.Allowance = bare 16
parts_of fault.CutterPitch = bare 17
parts_of fault.BlockLength = bare 18
parts_of (fault.NodeOff e) = at_step 19 (step_of e)
parts_of (fault.TipRange e) = at_step 20 (step_of e)
parts_of fault.Uncovered = bare 21
parts_of (fault.Invaded i s k) = record { number = 22; step = i; column = s.column; row = s.row; class = contact_of k }
parts_of (fault.BlockMet i s) = record { number = 23; step = i; column = s.column; row = s.row; class = Clear }
parts_of fault.MapLength = bare 24
parts_of fault.Band = bare 25
parts_of (fault.MapHeight i) = at_step 26 i
parts_of fault.Short = bare 27
parts_of fault.Count = bare 28
parts_of fault.Kind = bare 29
parts_of fault.Over = bare 30

-- g where f is none: the later of two checks
abbrev pub or_else : Option Fault → Option Fault → Option Fault
or_else None g = g
or_else (Some f) g = Some f

-- the call was refused by the fault that is given, or by none
abbrev pub FaultIs : {X : Type 0} → Result X Fault → Option Fault → Type 0
FaultIs r f = MatchResult r (λ _. f ≡ None) (λ e. f ≡ Some e)

-- the refusal of a pitch
abbrev pub pitch_fault : ℤ → Option Fault
pitch_fault p = cond (within (pos 10) (pos 1000) p) None (Some fault.Pitch)

-- the first refusal of a grid: columns, then rows, then pitch
abbrev pub grid_fault : ℤ → ℤ → ℤ → Option Fault
grid_fault c r p = cond (within (pos 1) (pos 512) c) (cond (within (pos 1) (pos 512) r) (pitch_fault p) (Some fault.Rows)) (Some fault.Columns)
