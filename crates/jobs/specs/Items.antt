-- What the words of each kind of record make, or the first fault of them. Assumes nothing.
use Rattle.std.specs.Prelude.{ℕ, ◌*◌, Bool, false, cond, ◌&&◌, List, ℤ, pos, negsuc, Some, None, Ok, Err, Option, Result, ◌==◌, nat_le, slice_index_or, unsigned_abs}
use Rattle.zmap.specs.Faults.{grid_fault}
use Rattle.zmap.specs.declared.fault.Fault.{Fault}
use Rattle.zmap.specs.declared.fault.Fault.TheVariants as fault
use Rattle.zmap.specs.declared.grid.Grid.{Grid}
use Rattle.cutters.specs.Making.{ball_fault, cone_fault, flat_fault}
use Rattle.cutters.specs.declared.round.RoundTool.{RoundTool}
use Rattle.cutters.specs.declared.round.RoundTool.TheVariants.{Flat, Cone, Ball}
use Rattle.setups.specs.Clamps.{clamp_fault}
use Rattle.setups.specs.declared.clamp.Clamp.{Clamp}
use Rattle.jobs.specs.declared.job.Move.{Move}
use Rattle.jobs.specs.declared.job.Move.TheVariants.{Pose}

-- the word at a place of a record
abbrev pub nth : List ℤ → ℕ → ℤ
nth ws i = slice_index_or ws i (pos 0)

-- the fault, or else the outcome of what comes next
abbrev pub refusing : {X : Type 0} → Option Fault → Result X Fault → Result X Fault
refusing None r = r
refusing (Some e) r = Err e

-- whether a word is the number of a kind
abbrev pub is_kind : ℕ → ℤ → Bool
is_kind k (pos n) = n == k
is_kind k (negsuc n) = false

-- a word as a count from low to high
abbrev pub counted : ℕ → ℕ → ℤ → Result ℕ Fault
counted low high (pos n) = cond (nat_le low n && nat_le n high) (Ok n) (Err fault.Count)
counted low high (negsuc n) = Err fault.Count

-- the one word of a count
abbrev pub count_of : ℕ → ℕ → List ℤ → Result ℕ Fault
count_of low high ws = counted low high (nth ws 0)

-- a grid in plain numbers: columns, rows and the pitch in µm
pub record Extent : Type 0 where
  pub columns : ℕ
  pub rows : ℕ
  pub pitch : ℕ

-- the numbers of a grid
abbrev pub extent : Grid → Extent
extent g = record { columns = g.columns; rows = g.rows; pitch = g.pitch.microns }

-- columns, rows and pitch of a grid of at most 4,096 samples
abbrev pub extent_of : List ℤ → Result Extent Fault
extent_of ws =
    refusing (grid_fault (nth ws 0) (nth ws 1) (nth ws 2))
    (cond (nat_le (unsigned_abs (nth ws 0) * unsigned_abs (nth ws 1)) 4096) (Ok (record { columns = unsigned_abs (nth ws 0); rows = unsigned_abs (nth ws 1); pitch = unsigned_abs (nth ws 2) })) (Err fault.Count))

-- a round cutter in plain numbers: the pitch that it is drawn for, the radius, and for a cone the tip radius and the rise
pub data Turned : Type 0 where
  flat : ℕ → ℤ → Turned
  cone : ℕ → ℤ → ℤ → ℤ → Turned
  ball : ℕ → ℤ → Turned

-- the numbers of a round cutter
abbrev pub turned : RoundTool → Turned
turned (Flat t) = flat t.disc.pitch.microns (pos t.disc.radius)
turned (Cone t) = cone t.disc.pitch.microns (pos t.disc.radius) (pos t.tip) (pos t.rise)
turned (Ball t) = ball t.disc.pitch.microns (pos t.disc.radius)

-- the pitch that a round cutter is drawn for
abbrev pub turned_pitch : Turned → ℕ
turned_pitch (flat p r) = p
turned_pitch (cone p r t s) = p
turned_pitch (ball p r) = p

-- the first refusal of a round cutter
abbrev pub turned_fault : Turned → Option Fault
turned_fault (flat p r) = flat_fault (pos p) r
turned_fault (cone p r t s) = cone_fault (pos p) r t s
turned_fault (ball p r) = ball_fault (pos p) r

-- the round cutter, where nothing refuses it
unfoldable pub fitted : Turned → Result Turned Fault
fitted t = refusing (turned_fault t) (Ok t)

-- the round cutter of a known kind, or an unknown kind
abbrev pub known : Option Turned → Result Turned Fault
known None = Err fault.Kind
known (Some t) = fitted t

-- kind, radius, tip radius and rise, of which a flat cutter and a ball ignore the last two
abbrev pub turned_in : ℕ → List ℤ → Option Turned
turned_in pitch ws =
    cond (is_kind 1 (nth ws 0)) (Some (flat pitch (nth ws 1)))
    (cond (is_kind 2 (nth ws 0)) (Some (cone pitch (nth ws 1) (nth ws 2) (nth ws 3)))
    (cond (is_kind 3 (nth ws 0)) (Some (ball pitch (nth ws 1))) None))

-- the round cutter of the words at the pitch
abbrev pub turned_of : ℕ → List ℤ → Result Turned Fault
turned_of pitch ws = known (turned_in pitch ws)

-- a height, which is not checked
abbrev pub height_of : List ℤ → Result ℤ Fault
height_of ws = Ok (nth ws 0)

-- first column, first row, last column, last row and height
abbrev pub clamp_in : List ℤ → Clamp
clamp_in ws = record { columns = record { first = nth ws 0; last = nth ws 2 }; rows = record { first = nth ws 1; last = nth ws 3 }; height = nth ws 4 }

-- the clamp, where nothing refuses it on a map of so many columns and rows
abbrev pub clamp_of : ℕ → ℕ → List ℤ → Result Clamp Fault
clamp_of columns rows ws = refusing (clamp_fault columns rows (clamp_in ws)) (Ok (clamp_in ws))

-- kind, column, row and tip, and three words that are ignored
abbrev pub move_of : List ℤ → Result Move Fault
move_of ws = cond (is_kind 1 (nth ws 0)) (Ok (Pose (record { column = nth ws 1; row = nth ws 2; tip = nth ws 3 }))) (Err fault.Kind)
