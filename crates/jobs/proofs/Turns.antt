-- One turn more of the loops that read words and records, and their ends. Assumes nothing.
use Rattle.std.proofs.Common.{◌≡◌, ℕ, zero, suc, ◌+◌, ◌-◌, ◌<◌, ◌≤◌, List, [], ◌∷◌, ◌++◌, length, map, take, set, ℤ, Ok, Err, Result, arith}
use Rattle.std.proofs.lemmas.List.{map-append, take_more_set, take_all}
use Rattle.zmap.specs.declared.fault.Fault.{Fault}
use Rattle.jobs.specs.declared.bad.Bad.{Bad}
use Rattle.jobs.specs.declared.section.Section.{Section}
use Rattle.jobs.specs.Parsers.{word, words_onto}
use Rattle.jobs.specs.Records.{one_record, placed, records_onto}

module _ (n i : ℕ) (out : List ℤ) (rest : List ℕ) where
  -- the next word was there, and stands in its place
  pub words_more : (w : ℤ) (left : List ℕ) → i < n → length out ≡ n → word rest ≡ Ok (w, left) → words_onto (n - (i + 1)) (take (i + 1) (set out i w)) left ≡ words_onto (n - i) (take i out) rest
  unfolding words_onto
  words_more w left lt fits read =
      let e : n - i ≡ suc (n - (i + 1)) = omega arith in
      let t : take (i + 1) (set out i w) ≡ take i out ++ w ∷ [] = take_more_set out i w (omega arith) in
      rw (e, t) (simp read)

  -- the next word was not there
  pub words_stop : (f : Fault) → i < n → word rest ≡ Err f → words_onto (n - i) (take i out) rest ≡ Err f
  unfolding words_onto
  words_stop f lt read = let e : n - i ≡ suc (n - (i + 1)) = omega arith in rw e (simp read)

  -- all words are there
  pub words_done : n ≤ i → length out ≡ n → words_onto (n - i) (take i out) rest ≡ Ok (out, rest)
  unfolding words_onto
  words_done up fits =
      let e : n - i ≡ zero = omega arith in
      let t : take i out ≡ out = take_all i out (omega arith) in
      rw (e, t)

-- v makes of each item what is told of it
module _ {X Y : Type 0} (v : X → Y) (width : ℕ) (f : List ℤ → Result Y Fault) (section : Section) (n i : ℕ) (xs : List X) (rest : List ℕ) where
  -- the next record was read, and stands after the others
  pub records_more : (x : X) (ys : List X) (left : List ℕ) → i < n → placed section i (one_record width f rest) ≡ Ok (v x, left) → ys ≡ xs ++ x ∷ [] → records_onto width f section (n - (i + 1)) (i + 1) (map v ys) left ≡ records_onto width f section (n - i) i (map v xs) rest
  unfolding records_onto
  records_more x ys left lt read pushed =
      let e : n - i ≡ suc (n - (i + 1)) = omega arith in rw (e, pushed, map-append) (simp read)

  -- the next record was refused
  pub records_stop : (e : Bad) → i < n → placed section i (one_record width f rest) ≡ Err e → records_onto width f section (n - i) i (map v xs) rest ≡ Err e
  unfolding records_onto
  records_stop b lt read = let e : n - i ≡ suc (n - (i + 1)) = omega arith in rw e (simp read)

  -- all records are read
  pub records_done : n ≤ i → records_onto width f section (n - i) i (map v xs) rest ≡ Ok (map v xs, rest)
  unfolding records_onto
  records_done up = let e : n - i ≡ zero = omega arith in rw e

pub ruleset record_turns = (records_more, records_stop, records_done)
