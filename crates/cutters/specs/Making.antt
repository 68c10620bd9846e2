-- When a cutter is refused. Assumes nothing.
use Rattle.std.specs.Prelude.{Bool, cond, ◌&&◌, ℤ, pos, ◌*ℤ◌, Some, None, Option, int_lt}
use Rattle.zmap.specs.Limits.{within}
use Rattle.zmap.specs.Faults.{or_else, pitch_fault}
use Rattle.zmap.specs.declared.fault.Fault.{Fault}
use Rattle.zmap.specs.declared.fault.Fault.TheVariants as fault

-- whether a radius is 0 to 15,999 and below 16 pitches
abbrev pub is_radius : ℤ → ℤ → Bool
is_radius pitch radius = within (pos 0) (pos 15999) radius && int_lt radius (pos 16 *ℤ pitch)

-- the refusal of a radius at a pitch
abbrev pub radius_fault : ℤ → ℤ → Option Fault
radius_fault pitch radius = cond (is_radius pitch radius) None (Some fault.Radius)

-- the first refusal of a round cutter: pitch, then radius
abbrev pub round_fault : ℤ → ℤ → Option Fault
round_fault pitch radius = or_else (pitch_fault pitch) (radius_fault pitch radius)

-- the first refusal of a flat cutter
abbrev pub flat_fault : ℤ → ℤ → Option Fault
flat_fault = round_fault

-- the first refusal of a ball
abbrev pub ball_fault : ℤ → ℤ → Option Fault
ball_fault = round_fault

-- the refusal of a tip radius under a radius
abbrev pub tip_fault : ℤ → ℤ → Option Fault
tip_fault radius tip = cond (within (pos 0) radius tip) None (Some fault.TipRadius)

-- the refusal of a rise
abbrev pub rise_fault : ℤ → Option Fault
rise_fault rise = cond (within (pos 0) (pos 10000) rise) None (Some fault.Rise)

-- the first refusal of a cone: pitch, radius, tip radius, then rise
abbrev pub cone_fault : ℤ → ℤ → ℤ → ℤ → Option Fault
cone_fault pitch radius tip rise = or_else (round_fault pitch radius) (or_else (tip_fault radius tip) (rise_fault rise))
