-- The whole job: what is read of the bytes, in plain numbers. Assumes nothing.
use Rattle.std.specs.Prelude.{ℕ, ◌*◌, cond, List, length, ℤ, Ok, Err, vec_items, Result, ◌==◌, nat_le}
use Rattle.zmap.specs.declared.fault.Fault.TheVariants as fault
use Rattle.setups.specs.declared.clamp.Clamp.{Clamp}
use Rattle.jobs.specs.declared.bad.Bad.{Bad}
use Rattle.jobs.specs.declared.job.Job.{Job}
use Rattle.jobs.specs.declared.job.Move.{Move}
use Rattle.jobs.specs.declared.section.Section.{Section}
use Rattle.jobs.specs.declared.section.Section.TheVariants.{Whole, Facets, Allowance, Moves}
use Rattle.jobs.specs.Parsers.{Reads, then}
use Rattle.jobs.specs.Items.{Extent, extent, Turned, turned}
use Rattle.jobs.specs.Sections.{count, grid_section, cutter_section, heights_section, clamps_section, moves_section}

-- what a job says, in plain numbers
pub record Reading : Type 0 where
  pub grid : Extent
  pub cutter : Turned
  pub heights : List ℤ
  pub clamps : List Clamp
  pub moves : List Move

-- what the job says
abbrev pub told : Job → Reading
told j = record { grid = extent j.grid; cutter = turned j.cutter; heights = vec_items j.heights; clamps = vec_items j.clamps; moves = vec_items j.moves }

-- the seven sections in their order; facets and allowance have no records
unfoldable pub sections : List ℕ → Reads Reading Bad
sections bs =
    then (grid_section bs) (λ g r1.
    then (cutter_section g.pitch r1) (λ t r2.
    then (heights_section (g.columns * g.rows) r2) (λ hs r3.
    then (count Facets 0 0 r3) (λ none r4.
    then (count Allowance 0 0 r4) (λ none r5.
    then (clamps_section g.columns g.rows r5) (λ ks r6.
    then (moves_section r6) (λ ms r7.
    Ok (record { grid = g; cutter = t; heights = hs; clamps = ks; moves = ms }, r7))))))))

-- the fault of bytes over
abbrev pub over : Section → Bad
over s = record { fault = fault.Over; section = s; at = 0 }

-- what was read, where no bytes are left
abbrev pub ended : Reads Reading Bad → Result Reading Bad
ended (Ok p) = cond (length p.1 == 0) (Ok p.0) (Err (over Moves))
ended (Err e) = Err e

-- the job that the bytes encode, or the first fault of them
unfoldable pub parse : List ℕ → Result Reading Bad
parse bs = cond (nat_le (length bs) 65536) (ended (sections bs)) (Err (over Whole))
