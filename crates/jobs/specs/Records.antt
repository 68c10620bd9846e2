-- Records of some words, and runs of records of one kind. Assumes nothing.
use Rattle.std.specs.Prelude.{ℕ, zero, suc, ◌+◌, ◌*◌, ◌≤◌, List, [], ◌∷◌, ◌++◌, ℤ, Ok, Err, Result}
use Rattle.zmap.specs.declared.fault.Fault.{Fault}
use Rattle.jobs.specs.declared.bad.Bad.{Bad}
use Rattle.jobs.specs.declared.section.Section.{Section}
use Rattle.jobs.specs.Parsers.{Reads, then, words}

-- an outcome, with the bytes that are left
abbrev pub leaving : {X E : Type 0} → List ℕ → Result X E → Reads X E
leaving rest (Ok x) = Ok (x, rest)
leaving rest (Err e) = Err e

-- so many words, and what f makes of them
abbrev pub one_record : {X : Type 0} → ℕ → (List ℤ → Result X Fault) → List ℕ → Reads X Fault
one_record width f bs = then (words width bs) (λ ws rest. leaving rest (f ws))

-- an outcome, its fault with the section and the record where it was met
abbrev pub placed : {X : Type 0} → Section → ℕ → Result X Fault → Result X Bad
placed section at (Ok x) = Ok x
placed section at (Err e) = Err (record { fault = e; section = section; at = at })

-- so many records more, after the items xs; the next is the one at i
unfoldable pub records_onto : {X : Type 0} → ℕ → (List ℤ → Result X Fault) → Section → ℕ → ℕ → List X → List ℕ → Reads (List X) Bad
records_onto width f section zero i xs bs = Ok (xs, bs)
records_onto width f section (suc n) i xs bs = then (placed section i (one_record width f bs)) (λ x rest. records_onto width f section n (i + 1) (xs ++ x ∷ []) rest)

-- so many records of the section
abbrev pub records : {X : Type 0} → ℕ → (List ℤ → Result X Fault) → Section → ℕ → List ℕ → Reads (List X) Bad
records width f section n bs = records_onto width f section n 0 [] bs

-- of n records, as many as so many bytes can hold find a place
abbrev pub Room : ℕ → ℕ → ℕ → ℕ → Type 0
Room width n bytes places = (k : ℕ) → k ≤ n → 4 * width * k ≤ bytes → k ≤ places
