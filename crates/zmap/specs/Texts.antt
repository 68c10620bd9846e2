-- The words for contacts and faults, and for what is bad, as bytes. Assumes nothing.
use Rattle.std.specs.Prelude.{ℕ, List, [], ◌∷◌, ◌++◌, codes, decimal}
use Rattle.zmap.specs.Faults.{parts_of}
use Rattle.zmap.specs.declared.class.Contact.{Contact}
use Rattle.zmap.specs.declared.class.Contact.TheVariants.{Clear, Part, Allowance, Fixture}
use Rattle.zmap.specs.declared.fault.Fault.{Fault}
use Rattle.zmap.specs.declared.fault.Parts.{Parts}

-- words with one space between
abbrev pub spaced : List (List ℕ) → List ℕ
spaced [] = []
spaced (w ∷ []) = w
spaced (w ∷ (v ∷ ws)) = w ++ (32 ∷ spaced (v ∷ ws))

-- the word for what was met
abbrev pub contact_text : Contact → List ℕ
contact_text Clear = codes "clear"
contact_text Part = codes "part"
contact_text Allowance = codes "allowance"
contact_text Fixture = codes "fixture"

-- number, step, column, row and class of a fault
abbrev pub parts_words : Parts → List (List ℕ)
parts_words p = decimal p.number ∷ decimal p.step ∷ decimal p.column ∷ decimal p.row ∷ contact_text p.class ∷ []

abbrev pub parts_text : Parts → List ℕ
parts_text p = spaced (parts_words p)

-- the words for what is bad: the number of its fault, and the section and the record where it is
abbrev pub bad_parts : Fault → ℕ → ℕ → List (List ℕ)
bad_parts e section at = codes "bad" ∷ decimal (parts_of e).number ∷ decimal section ∷ decimal at ∷ []
