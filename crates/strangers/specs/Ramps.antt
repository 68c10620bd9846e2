-- What a ramp stands for, and which numbers make one. Assumes nothing.
use Rattle.std.specs.Prelude.{ℕ, ◌*◌, ◌%◌, Bool, cond, ◌&&◌, ℤ, pos, ◌+ℤ◌, ◌==◌, nat_le}
use Rattle.std.specs.Int.{int_min}
use Rattle.zmap.specs.Limits.{ceiling, is_height}
use Rattle.zmap.specs.declared.class.Class.{Class}
use Rattle.zmap.specs.declared.class.Class.TheVariants.{Part, Allowance}
use Rattle.zmap.specs.declared.node.Node.{Node}
use Rattle.zmap.specs.declared.sample.Sample.{Sample}

-- whether a base and a step make a ramp: the base is a height, and the step is at most 1,000,000
abbrev pub is_ramp : ℤ → ℕ → Bool
is_ramp base step = is_height base && nat_le step 1000000

-- the height at the column c: the base and c steps, up to the ceiling
abbrev pub ramp_height : ℤ → ℕ → ℕ → ℤ
ramp_height base step c = int_min (base +ℤ pos (step * c)) ceiling

-- the class at the column c: part at even columns, allowance at odd ones
abbrev pub ramp_class : ℕ → Class
ramp_class c = cond (c % 2 == 0) Part Allowance

-- the sample at n, the same in every row
abbrev pub ramp_sample : ℤ → ℕ → Node → Sample
ramp_sample base step n = record { height = ramp_height base step n.column; class = ramp_class n.column }
