-- The numbers of the sections, and the text for a bad job, as bytes. Assumes nothing.
use Rattle.std.specs.Prelude.{ℕ, List}
use Rattle.zmap.specs.Texts.{bad_parts, spaced}
use Rattle.jobs.specs.declared.bad.Bad.{Bad}
use Rattle.jobs.specs.declared.section.Section.{Section}
use Rattle.jobs.specs.declared.section.Section.TheVariants.{Whole, Grid, Cutter, Heights, Facets, Allowance, Clamps, Moves}

-- the number of a section, from 1 in their order; the whole job has 0
abbrev pub section_number : Section → ℕ
section_number Whole = 0
section_number Grid = 1
section_number Cutter = 2
section_number Heights = 3
section_number Facets = 4
section_number Allowance = 5
section_number Clamps = 6
section_number Moves = 7

-- the words for a bad job
abbrev pub bad_words : Bad → List (List ℕ)
bad_words b = bad_parts b.fault (section_number b.section) b.at

abbrev pub bad_text : Bad → List ℕ
bad_text b = spaced (bad_words b)
