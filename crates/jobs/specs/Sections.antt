-- The sections of a job, each as it is read from the bytes. Assumes nothing.
use Rattle.std.specs.Prelude.{ℕ, List, ℤ, Result}
use Rattle.zmap.specs.declared.fault.Fault.{Fault}
use Rattle.setups.specs.declared.clamp.Clamp.{Clamp}
use Rattle.jobs.specs.declared.bad.Bad.{Bad}
use Rattle.jobs.specs.declared.job.Move.{Move}
use Rattle.jobs.specs.declared.section.Section.{Section}
use Rattle.jobs.specs.declared.section.Section.TheVariants.{Grid, Cutter, Heights, Clamps, Moves}
use Rattle.jobs.specs.Parsers.{Reads, then}
use Rattle.jobs.specs.Records.{one_record, placed, records}
use Rattle.jobs.specs.Items.{count_of, Extent, extent_of, Turned, turned_of, height_of, clamp_of, move_of}

-- the number of records of a section, from low to high
unfoldable pub count : Section → ℕ → ℕ → List ℕ → Reads ℕ Bad
count section low high bs = placed section 0 (one_record 1 (count_of low high) bs)

-- a section of one record
unfoldable pub single : {X : Type 0} → Section → ℕ → (List ℤ → Result X Fault) → List ℕ → Reads X Bad
single section width f bs = then (count section 1 1 bs) (λ n rest. placed section 0 (one_record width f rest))

-- a section of as many records as its count says, from low to high
unfoldable pub listed : {X : Type 0} → Section → ℕ → ℕ → ℕ → (List ℤ → Result X Fault) → List ℕ → Reads (List X) Bad
listed section low high width f bs = then (count section low high bs) (λ n rest. records width f section n rest)

-- one grid
abbrev pub grid_section : List ℕ → Reads Extent Bad
grid_section bs = single Grid 3 extent_of bs

-- one cutter of the pitch
abbrev pub cutter_section : ℕ → List ℕ → Reads Turned Bad
cutter_section pitch bs = single Cutter 4 (turned_of pitch) bs

-- a height for each sample
abbrev pub heights_section : ℕ → List ℕ → Reads (List ℤ) Bad
heights_section samples bs = listed Heights samples samples 1 height_of bs

-- at most sixteen clamps on a map of so many columns and rows
abbrev pub clamps_section : ℕ → ℕ → List ℕ → Reads (List Clamp) Bad
clamps_section columns rows bs = listed Clamps 0 16 5 (clamp_of columns rows) bs

-- any number of moves that a word can count
abbrev pub moves_section : List ℕ → Reads (List Move) Bad
moves_section bs = listed Moves 0 2147483647 7 move_of bs
