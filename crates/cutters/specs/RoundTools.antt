-- A round cutter of any kind. Assumes nothing.
use Rattle.std.specs.Prelude.{ℕ}
use Rattle.cutters.specs.Balls.{ball_shape}
use Rattle.cutters.specs.Cones.{cone_shape}
use Rattle.cutters.specs.Flats.{flat_shape}
use Rattle.cutters.specs.Profiles.{Profile}
use Rattle.cutters.specs.declared.round.RoundTool.{RoundTool}
use Rattle.cutters.specs.declared.round.RoundTool.TheVariants.{Flat, Cone, Ball}

-- the pitch of its kind
abbrev pub round_spacing : RoundTool → ℕ
round_spacing (Flat t) = t.disc.pitch.microns
round_spacing (Cone t) = t.disc.pitch.microns
round_spacing (Ball t) = t.disc.pitch.microns

-- the shape of its kind
abbrev pub round_shape : RoundTool → Profile
round_shape (Flat t) = flat_shape t.disc.pitch.microns t.disc.radius
round_shape (Cone t) = cone_shape t.disc.pitch.microns t.disc.radius t.tip t.rise
round_shape (Ball t) = ball_shape t.disc.pitch.microns t.disc.radius
