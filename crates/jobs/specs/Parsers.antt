-- How bytes are read, word by word. Assumes nothing.
use Rattle.std.specs.Prelude.{◌≡◌, ℕ, zero, suc, ◌+◌, ◌*◌, cond, List, [], ◌∷◌, ◌++◌, length, drop, ℤ, Ok, Err, Result, nat_le, slice_index}
use Rattle.std.specs.Int.{w32}
use Rattle.std.proofs.Common.{to_z}
use Rattle.zmap.specs.declared.fault.Fault.{Fault}
use Rattle.zmap.specs.declared.fault.Fault.TheVariants as fault

-- what reading gives: a value and the bytes that are left, or why not
abbrev pub Reads : Type 0 → Type 0 → Type 0
Reads X E = Result (X × List ℕ) E

-- p is what the outcome says: the value that v makes of x, with the bytes that are left, or the same error
abbrev pub Gives : {X Y E : Type 0} → (X → Y) → Result X E → List ℕ → Reads Y E → Type 0
Gives v (Ok x) rest p = p ≡ Ok (v x, rest)
Gives v (Err e) rest p = p ≡ Err e

-- q of what was read and of the bytes that are left
abbrev pub then : {X Y E : Type 0} → Reads X E → (X → List ℕ → Reads Y E) → Reads Y E
then (Ok p) q = q p.0 p.1
then (Err e) q = Err e

-- the whole number of the first four bytes, the least byte first, negative from 2 to the 31 on
abbrev pub number : List ℕ → ℤ
number bs = to_z w32 (slice_index bs 0 + slice_index bs 1 * 256 + slice_index bs 2 * 65536 + slice_index bs 3 * 16777216)

-- the next word, where its four bytes are there
abbrev pub word : List ℕ → Reads ℤ Fault
word bs = cond (nat_le 4 (length bs)) (Ok (number bs, drop 4 bs)) (Err fault.Short)

-- so many words more, after the words ws
unfoldable pub words_onto : ℕ → List ℤ → List ℕ → Reads (List ℤ) Fault
words_onto zero ws bs = Ok (ws, bs)
words_onto (suc n) ws bs = then (word bs) (λ w rest. words_onto n (ws ++ w ∷ []) rest)

-- so many words
abbrev pub words : ℕ → List ℕ → Reads (List ℤ) Fault
words n bs = words_onto n [] bs
