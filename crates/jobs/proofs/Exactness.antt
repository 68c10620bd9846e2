-- Parsers that take exactly the words of what they give, and how they join. Assumes nothing.
use Rattle.std.proofs.Common.{◌≡◌, ℕ, zero, suc, ◌≤◌, cond, List, [], ◌∷◌, ◌++◌, length, drop, ℤ, Ok, Err, Result, sym, refl, ap, ◌∙◌, subst, append_assoc, le-leb, arith}
use Rattle.std.proofs.lemmas.List.{append-nil}
use Rattle.zmap.specs.declared.fault.Fault.{Fault}
use Rattle.zmap.specs.declared.fault.Fault.TheVariants as fault
use Rattle.jobs.specs.declared.section.Section.{Section}
use Rattle.jobs.specs.Parsers.{Reads, then, number, word, words, words_onto}
use Rattle.jobs.specs.Records.{leaving, one_record, placed}
use Rattle.jobs.specs.Encodings.{Spells}

-- P reads a value x exactly from the words that R says of x
pub record Exact {X E : Type 0} (P : List ℕ → Reads X E) (R : X → List ℤ → Type 0) : Type 0 where
  pub takes : (x : X) (bs rest : List ℕ) → P bs ≡ Ok (x, rest) → (ws : List ℤ) × R x ws × Spells ws bs rest
  pub gives : (x : X) (ws : List ℤ) (bs rest : List ℕ) → R x ws → Spells ws bs rest → P bs ≡ Ok (x, rest)

pub spells_join : (us vs : List ℤ) (bs mid rest : List ℕ) → Spells us bs mid → Spells vs mid rest → Spells (us ++ vs) bs rest
spells_join [] vs bs mid rest e s = subst (λ b. Spells vs b rest) (sym e) s
spells_join (u ∷ us) vs bs mid rest h s = (h.0, h.1, spells_join us vs (drop 4 bs) mid rest h.2 s)

pub spells_split : (us vs : List ℤ) (bs rest : List ℕ) → Spells (us ++ vs) bs rest → (mid : List ℕ) × Spells us bs mid × Spells vs mid rest
spells_split [] vs bs rest s = (bs, refl, s)
spells_split (u ∷ us) vs bs rest s =
    let t = spells_split us vs (drop 4 bs) rest s.2 in (t.0, (s.0, s.1, t.1), t.2)

pub ok_both : {X E : Type 0} (x y : X) (bs rest : List ℕ) → ◌≡◌ {A = Reads X E} (Ok (x, bs)) (Ok (y, rest)) → (x ≡ y) × (bs ≡ rest)
ok_both {X} x y bs rest e = let p : ◌≡◌ {A = X × List ℕ} (x, bs) (y, rest) = cc in (ap (λ q. q.0) p, ap (λ q. q.1) p)

pub then_takes : {X Y E : Type 0} (p : Reads X E) (q : X → List ℕ → Reads Y E) (y : Y) (rest : List ℕ) → then p q ≡ Ok (y, rest) → (x : X) × (mid : List ℕ) × (p ≡ Ok (x, mid)) × (q x mid ≡ Ok (y, rest))
then_takes (Ok p) q y rest h = (p.0, p.1, refl, h)
then_takes (Err e) q y rest h = cc

words_takes : (n : ℕ) (acc out : List ℤ) (bs rest : List ℕ) → words_onto n acc bs ≡ Ok (out, rest) → (ws : List ℤ) × (out ≡ acc ++ ws) × (length ws ≡ n) × Spells ws bs rest
unfolding words_onto
words_takes zero acc out bs rest h = let p = ok_both _ _ _ _ h in ([], sym (append-nil acc ∙ p.0), refl, p.1)
words_takes (suc n) acc out bs rest h =
    let t = then_takes (word bs) _ out rest h in
    let u : (4 ≤ length bs) × (number bs ≡ t.0) × (drop 4 bs ≡ t.1) = grind (arith, t.2) in
    let s = words_takes n (acc ++ t.0 ∷ []) out t.1 rest t.3 in
    (t.0 ∷ s.0, s.1 ∙ append_assoc acc (t.0 ∷ []) s.0, ap suc s.2, (u.0, u.1, subst (λ b. Spells s.0 b rest) (sym u.2) s.3))

words_gives : (acc ws : List ℤ) (bs rest : List ℕ) → Spells ws bs rest → words_onto (length ws) acc bs ≡ Ok (acc ++ ws, rest)
unfolding words_onto
words_gives acc [] bs rest s = rw (append-nil, s)
words_gives acc (w ∷ ws) bs rest s =
    let e : word bs ≡ Ok (w, drop 4 bs) = ap (λ b. cond {A = Reads ℤ Fault} b (Ok (number bs, drop 4 bs)) (Err fault.Short)) (le-leb 4 (length bs) s.0) ∙ ap (λ v. Ok (v, drop 4 bs)) s.1 in
    ap (λ p. then p (λ v r. words_onto (length ws) (acc ++ v ∷ []) r)) e ∙ words_gives (acc ++ w ∷ []) ws (drop 4 bs) rest s.2
    ∙ ap (λ v. Ok (v, rest)) (append_assoc acc (w ∷ []) ws)

-- the words us make x
abbrev pub Made : {X : Type 0} → ℕ → (List ℤ → Result X Fault) → X → List ℤ → Type 0
Made width f x us = (length us ≡ width) × (f us ≡ Ok x)

pub exact_record : {X : Type 0} (width : ℕ) (f : List ℤ → Result X Fault) → Exact (one_record width f) (Made width f)
exact_record {X} width f = record { takes = record_takes; gives = record_gives }
  where
    record_takes : (x : X) (bs rest : List ℕ) → one_record width f bs ≡ Ok (x, rest) → (ws : List ℤ) × Made width f x ws × Spells ws bs rest
    record_takes x bs rest h =
        let t = then_takes (words width bs) _ x rest h in
        let s = words_takes width [] t.0 bs t.1 t.2 in
        let l : (f t.0 ≡ Ok x) × (t.1 ≡ rest) = grind (arith, t.3) in
        (s.0, (s.2, ap f (sym s.1) ∙ l.0), subst (λ r. Spells s.0 bs r) l.1 s.3)

    record_gives : (x : X) (ws : List ℤ) (bs rest : List ℕ) → Made width f x ws → Spells ws bs rest → one_record width f bs ≡ Ok (x, rest)
    record_gives x ws bs rest m s =
        let e : words width bs ≡ Ok (ws, rest) = subst (λ n. words n bs ≡ Ok (ws, rest)) m.0 (words_gives [] ws bs rest s) in
        ap (λ p. then p (λ us r. leaving r (f us))) e ∙ ap (leaving rest) m.1

pub exact_placed : {X : Type 0} (section : Section) (at : ℕ) (P : List ℕ → Reads X Fault) (R : X → List ℤ → Type 0) → Exact P R → Exact (λ bs. placed section at (P bs)) R
exact_placed section at P R e =
    record {
      takes = λ x bs rest h. e.takes x bs rest (grind arith);
      gives = λ x ws bs rest r s. ap (placed section at) (e.gives x ws bs rest r s);
    }

-- the words of x by R, and then those of y by S
abbrev pub After : {X Y : Type 0} → (X → List ℤ → Type 0) → (X → Y → List ℤ → Type 0) → Y → List ℤ → Type 0
After {X} R S y ws = (x : X) × (us : List ℤ) × (vs : List ℤ) × (ws ≡ us ++ vs) × R x us × S x y vs

pub exact_then : {X Y E : Type 0} (P : List ℕ → Reads X E) (R : X → List ℤ → Type 0) (Q : X → List ℕ → Reads Y E) (S : X → Y → List ℤ → Type 0) → Exact P R → ((x : X) → Exact (Q x) (S x)) → Exact (λ bs. then (P bs) Q) (After R S)
exact_then {X} {Y} P R Q S e f = record { takes = then_both; gives = then_gives }
  where
    then_both : (y : Y) (bs rest : List ℕ) → then (P bs) Q ≡ Ok (y, rest) → (ws : List ℤ) × After R S y ws × Spells ws bs rest
    then_both y bs rest h =
        let t = then_takes (P bs) Q y rest h in
        let a = e.takes t.0 bs t.1 t.2 in
        let b = (f t.0).takes y t.1 rest t.3 in
        (a.0 ++ b.0, (t.0, a.0, b.0, refl, a.1, b.1), spells_join a.0 b.0 bs t.1 rest a.2 b.2)

    then_gives : (y : Y) (ws : List ℤ) (bs rest : List ℕ) → After R S y ws → Spells ws bs rest → then (P bs) Q ≡ Ok (y, rest)
    then_gives y ws bs rest r s =
        let m = spells_split r.1 r.2 bs rest (subst (λ v. Spells v bs rest) r.3 s) in
        ap (λ p. then p Q) (e.gives r.0 r.1 bs m.0 r.4 m.1) ∙ (f r.0).gives y r.2 m.0 rest r.5 m.2

pub exact_end : {X E : Type 0} (y : X) → Exact {X = X} {E = E} (λ bs. Ok (y, bs)) (λ x ws. (y ≡ x) × (ws ≡ []))
exact_end y =
    record {
      takes = λ x bs rest h. let p = ok_both _ _ _ _ h in ([], (p.0, refl), p.1);
      gives = λ x ws bs rest r s. let q = subst (λ v. Spells v bs rest) r.1 s in rw (r.0, q);
    }

pub exact_same : {X E : Type 0} (P : List ℕ → Reads X E) (R S : X → List ℤ → Type 0) → Exact P R → ((x : X) (ws : List ℤ) → R x ws → S x ws) → ((x : X) (ws : List ℤ) → S x ws → R x ws) → Exact P S
exact_same P R S e to from =
    record {
      takes = λ x bs rest h. let t = e.takes x bs rest h in (t.0, to x t.0 t.1, t.2);
      gives = λ x ws bs rest r s. e.gives x ws bs rest (from x ws r) s;
    }
