-- Runs of records and counted sections take exactly the words of their items. Assumes nothing.
use Rattle.std.proofs.Common.{◌≡◌, ℕ, zero, suc, ◌+◌, ◌≤◌, List, [], ◌∷◌, ◌++◌, length, ℤ, pos, Ok, Result, sym, refl, ap, ◌∙◌, subst, append_assoc, arith}
use Rattle.std.proofs.lemmas.List.{append-nil}
use Rattle.std.proofs.lemmas.List.Elements.{All-nil, All-cons, All-head, All-tail}
use Rattle.std.specs.List.{All}
use Rattle.zmap.specs.declared.fault.Fault.{Fault}
use Rattle.jobs.specs.declared.section.Section.{Section as Named}
use Rattle.jobs.specs.Parsers.{then}
use Rattle.jobs.specs.Records.{one_record, placed, records, records_onto}
use Rattle.jobs.specs.Items.{nth, count_of}
use Rattle.jobs.specs.Sections.{count, single, listed}
use Rattle.jobs.specs.Encodings.{Spells, InTurn, Section}
use Rattle.jobs.proofs.Exactness.{Exact, Made, exact_record, exact_placed, exact_then, exact_same, ok_both, then_takes, spells_join, spells_split}
use Rattle.std.proofs.lemmas.Int.{ints}
use Rattle.jobs.proofs.Layouts.{spread_one}

module _ {X : Type 0} (width : ℕ) (f : List ℤ → Result X Fault) (section : Named) where
  one : (i : ℕ) → Exact (λ bs. placed section i (one_record width f bs)) (Made width f)
  one i = exact_placed section i (one_record width f) (Made width f) (exact_record width f)

  records_takes : (n i : ℕ) (acc out : List X) (bs rest : List ℕ) → records_onto width f section n i acc bs ≡ Ok (out, rest) → (xs : List X) × (ws : List ℤ) × (out ≡ acc ++ xs) × (length xs ≡ n) × InTurn (Made width f) xs ws × Spells ws bs rest
  unfolding records_onto
  records_takes zero i acc out bs rest h =
      let p = ok_both _ _ _ _ h in ([], [], sym (append-nil acc ∙ p.0), refl, refl, p.1)
  records_takes (suc n) i acc out bs rest h =
      let t = then_takes (placed section i (one_record width f bs)) _ out rest h in
      let a = (one i).takes t.0 bs t.1 t.2 in
      let s = records_takes n (i + 1) (acc ++ t.0 ∷ []) out t.1 rest t.3 in
      (t.0 ∷ s.0, a.0 ++ s.1, s.2 ∙ append_assoc acc (t.0 ∷ []) s.0, ap suc s.3, (a.0, s.1, refl, a.1, s.4), spells_join a.0 s.1 bs t.1 rest a.2 s.5)

  records_gives : (i : ℕ) (acc xs : List X) (ws : List ℤ) (bs rest : List ℕ) → InTurn (Made width f) xs ws → Spells ws bs rest → records_onto width f section (length xs) i acc bs ≡ Ok (acc ++ xs, rest)
  unfolding records_onto
  records_gives i acc [] ws bs rest r s =
      let e : bs ≡ rest = subst (λ v. Spells v bs rest) r s in rw (append-nil, e)
  records_gives i acc (x ∷ xs) ws bs rest r s =
      let m = spells_split r.0 r.1 bs rest (subst (λ v. Spells v bs rest) r.2 s) in
      ap (λ p. then p (λ y l. records_onto width f section (length xs) (i + 1) (acc ++ y ∷ []) l)) ((one i).gives x r.0 bs m.0 r.3 m.1)
      ∙ records_gives (i + 1) (acc ++ x ∷ []) xs r.1 m.0 rest r.4 m.2
      ∙ ap (λ v. Ok (v, rest)) (append_assoc acc (x ∷ []) xs)

  pub exact_records : (n : ℕ) → Exact (records width f section n) (λ xs ws. (length xs ≡ n) × InTurn (Made width f) xs ws)
  exact_records n =
      record {
        takes = λ xs bs rest h. let t = records_takes n 0 [] xs bs rest h in (t.1, (ap length t.2 ∙ t.3, subst (λ v. InTurn (Made width f) v t.1) (sym t.2) t.4), t.5);
        gives = λ xs ws bs rest r s. subst (λ k. records width f section k bs ≡ Ok (xs, rest)) r.0 (records_gives 0 [] xs ws bs rest r.1 s);
      }

-- the word of a count from low to high
abbrev pub CountWord : ℕ → ℕ → ℕ → List ℤ → Type 0
CountWord low high n us = (us ≡ pos n ∷ []) × (low ≤ n) × (n ≤ high)

pub exact_count : (section : Named) (low high : ℕ) → Exact (count section low high) (CountWord low high)
unfolding count
exact_count section low high =
    exact_placed section 0 (one_record 1 (count_of low high)) (CountWord low high)
    (exact_same (one_record 1 (count_of low high)) (Made 1 (count_of low high)) (CountWord low high) (exact_record 1 (count_of low high))
    (λ n us m. let t : (nth us 0 ≡ pos n) × (low ≤ n) × (n ≤ high) = grind (arith, ints, m.1) in (spread_one us m.0 ∙ ap (λ w. w ∷ []) t.0, t.1, t.2))
    (λ n us w. rw w.0 (refl, grind (arith, ints))))

-- a count that was read is in range
pub count_within : (section : Named) (low high n : ℕ) (bs rest : List ℕ) → count section low high bs ≡ Ok (n, rest) → (low ≤ n) × (n ≤ high)
count_within section low high n bs rest h = let t = (exact_count section low high).takes n bs rest h in (t.1.1, t.1.2)

-- L gives the words of the records of a kind whose items meet A
module _ {X : Type 0} (width : ℕ) (f : List ℤ → Result X Fault) (L : X → List ℤ → Type 0) (A : X → Type 0) (to : (x : X) (us : List ℤ) → Made width f x us → L x us × A x) (from : (x : X) (us : List ℤ) → L x us → A x → Made width f x us) where
  turns_to : (xs : List X) (ws : List ℤ) → InTurn (Made width f) xs ws → InTurn L xs ws × All A xs
  turns_to [] ws r = (r, All-nil A)
  turns_to (x ∷ xs) ws r =
      let a = to x r.0 r.3 in let b = turns_to xs r.1 r.4 in ((r.0, r.1, r.2, a.0, b.0), All-cons A x xs a.1 b.1)

  turns_from : (xs : List X) (ws : List ℤ) → InTurn L xs ws → All A xs → InTurn (Made width f) xs ws
  turns_from [] ws r a = r
  turns_from (x ∷ xs) ws r a =
      (r.0, r.1, r.2, from x r.0 r.3 (All-head A x xs a), turns_from xs r.1 r.4 (All-tail A x xs a))

  -- a section of as many records as its count says
  pub exact_listed : (section : Named) (low high : ℕ) → Exact (listed section low high width f) (λ xs ws. Section L xs ws × All A xs × (low ≤ length xs) × (length xs ≤ high))
  unfolding listed
  exact_listed section low high =
      exact_same _ _ _ (exact_then (count section low high) (CountWord low high) (λ n rest. records width f section n rest) (λ n xs ws. (length xs ≡ n) × InTurn (Made width f) xs ws) (exact_count section low high) (exact_records width f section))
      (λ xs ws r. let t = turns_to xs r.2 r.5.1 in let e = r.5.0 in
      ((r.2, rw (r.3, r.4.0, e) refl, t.0), t.1, rw e r.4.1, rw e r.4.2))
      (λ xs ws r. (length xs, pos (length xs) ∷ [], r.0.0, r.0.1, (refl, r.2, r.3), (refl, turns_from xs r.0.0 r.0.2 r.1)))

  -- a section of one record
  pub exact_single : (section : Named) → Exact (single section width f) (λ x ws. Section L (x ∷ []) ws × A x)
  unfolding single
  exact_single section =
      exact_same _ _ _ (exact_then (count section 1 1) (CountWord 1 1) (λ n rest. placed section 0 (one_record width f rest)) (λ n. Made width f) (exact_count section 1 1) (λ n. one width f section 0))
      (λ x ws r. let a = to x r.2 r.5 in let e : r.0 ≡ 1 = omega (arith, r.4.1, r.4.2) in
      ((r.2, rw (r.3, r.4.0, e) refl, (r.2, [], sym (append-nil r.2), a.0, refl)), a.1))
      (λ x ws r. let t = r.0.2 in
      (1, pos 1 ∷ [], t.0, rw (r.0.1, t.2, t.4, append-nil) refl, (refl, omega arith, omega arith), from x t.0 t.3 r.1))
