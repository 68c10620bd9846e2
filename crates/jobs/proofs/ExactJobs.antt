-- The reader takes exactly the bytes that encode an allowed job. Assumes nothing.
use Rattle.std.proofs.Common.{◌≡◌, ℕ, eqb, leb, List, [], ◌∷◌, ◌++◌, length, ℤ, pos, Ok, Err, Result, MatchResult, sym, refl, ap, subst, arith, eqb-true, le-leb, leb-true}
use Rattle.std.proofs.lemmas.List.{append-nil, nil_from_length}
use Rattle.setups.specs.declared.clamp.Clamp.{Clamp}
use Rattle.jobs.specs.declared.bad.Bad.{Bad}
use Rattle.jobs.specs.declared.job.Job.{Job}
use Rattle.jobs.specs.declared.job.Move.{Move}
use Rattle.jobs.specs.declared.section.Section.TheVariants.{Facets, Allowance}
use Rattle.jobs.specs.Parsers.{Reads}
use Rattle.jobs.specs.Items.{Extent, Turned}
use Rattle.jobs.specs.Jobs.{Reading, told, sections, ended, parse}
use Rattle.jobs.specs.Encodings.{MoveWords, Section, Words, Allowed, Encodes, Decodes}
use Rattle.jobs.proofs.Exactness.{Exact, After, exact_then, exact_end, exact_same}
use Rattle.jobs.proofs.Checks.{cond_takes}
use Rattle.jobs.proofs.ExactSections.{First, Second, Third, Sixth, Bare, exact_grid, exact_cutter, exact_heights, exact_clamps, exact_moves, exact_none}

-- the words of the seven sections, one after another
abbrev Ends : Extent → Turned → List ℤ → List Clamp → List Move → Reading → List ℤ → Type 0
Ends g t hs ks ms j ws = (record { grid = g; cutter = t; heights = hs; clamps = ks; moves = ms } ≡ j) × (ws ≡ [])

abbrev Laid : Reading → List ℤ → Type 0
Laid =
    After First (λ g. After (Second g) (λ t. After (Third g) (λ hs. After Bare (λ a. After Bare (λ b. After (Sixth g) (λ ks. After (Section MoveWords) (λ ms. Ends g t hs ks ms)))))))

exact_laid : Exact sections Laid
unfolding sections
exact_laid =
    exact_then _ _ _ _ exact_grid (λ g. exact_then _ _ _ _ (exact_cutter g) (λ t. exact_then _ _ _ _ (exact_heights g) (λ hs.
    exact_then _ _ _ _ (exact_none Facets) (λ a. exact_then _ _ _ _ (exact_none Allowance) (λ b. exact_then _ _ _ _ (exact_clamps g) (λ ks.
    exact_then _ _ _ _ exact_moves (λ ms. exact_end (record { grid = g; cutter = t; heights = hs; clamps = ks; moves = ms }))))))))

laid_takes : (j : Reading) (ws : List ℤ) → Laid j ws → Words j ws × Allowed j
laid_takes j ws r1 =
    let r2 = r1.5 in
    let r3 = r2.5 in
    let r4 = r3.5 in
    let r5 = r4.5 in
    let r6 = r5.5 in
    let r7 = r6.5 in
    let whole : ws ≡ r1.1 ++ (r2.1 ++ (r3.1 ++ (pos 0 ∷ pos 0 ∷ (r6.1 ++ r7.1)))) = rw (r1.3, r2.3, r3.3, r4.3, r4.4.0, r5.3, r5.4.0, r6.3, r7.3, r7.5.1, append-nil) refl in
    subst (λ i. Words i ws × Allowed i) r7.5.0 (
      record {
        grid = r1.1;
        cutter = r2.1;
        heights = r3.1;
        clamps = r6.1;
        moves = r7.1;
        whole = whole;
        first = r1.4.0;
        second = r2.4.0;
        third = r3.4.0;
        sixth = r6.4.0;
        seventh = r7.4;
      },
      record {
        grid = r1.4.1.0;
        small = r1.4.1.1;
        pitch = r2.4.1.0;
        cutter = r2.4.1.1;
        heights = omega (arith, r3.4.2, r3.4.3);
        few = r6.4.3;
        clamps = r6.4.1;
      },
    )

laid_gives : (j : Reading) (ws : List ℤ) → Words j ws × Allowed j → Laid j ws
laid_gives j ws r =
    let w = r.0 in
    let a = r.1 in (
      j.grid,
      w.grid,
      _,
      w.whole,
      (w.first, (a.grid, a.small)),
      (
        j.cutter,
        w.cutter,
        _,
        refl,
        (w.second, (a.pitch, a.cutter)),
        (
          j.heights,
          w.heights,
          _,
          refl,
          (w.third, λ k d lt. tt, omega (arith, a.heights), omega (arith, a.heights)),
          (
            0,
            pos 0 ∷ [],
            _,
            refl,
            (refl, refl),
            (
              0,
              pos 0 ∷ [],
              _,
              refl,
              (refl, refl),
              (
                j.clamps,
                w.clamps,
                w.moves,
                refl,
                (w.sixth, a.clamps, omega arith, a.few),
                (j.moves, w.moves, [], sym (append-nil w.moves), w.seventh, (refl, refl)),
              ),
            ),
          ),
        ),
      ),
    )

-- the seven sections
exact_sections : Exact sections (λ j ws. Words j ws × Allowed j)
exact_sections = exact_same sections Laid (λ j ws. Words j ws × Allowed j) exact_laid laid_takes laid_gives

ended_takes : (p : Reads Reading Bad) (j : Reading) → ended p ≡ Ok j → p ≡ Ok (j, [])
ended_takes (Ok q) j h =
    let t = cond_takes (eqb (length q.1) 0) (Ok q.0) _ j h in
    let e : q.0 ≡ j = cc in
    subst (λ i. ◌≡◌ {A = Reads Reading Bad} (Ok q) (Ok (i, []))) e (ap (λ l. Ok (q.0, l)) (nil_from_length q.1 (eqb-true _ 0 t.0)))
ended_takes (Err e) j h = cc

parse_takes : (bs : List ℕ) (j : Reading) → parse bs ≡ Ok j → Encodes bs j
unfolding parse
parse_takes bs j h =
    let t = cond_takes (leb (length bs) 65536) (ended (sections bs)) _ j h in
    let s = exact_sections.takes j bs [] (ended_takes (sections bs) j t.1) in
    record { short = leb-true (length bs) 65536 t.0; words = s.0; spelt = s.2; laid = s.1.0; allowed = s.1.1 }

parse_gives : (bs : List ℕ) (j : Reading) → Encodes bs j → parse bs ≡ Ok j
unfolding parse
parse_gives bs j e =
    let s = exact_sections.gives j e.words bs [] (e.laid, e.allowed) e.spelt in
    rw (le-leb (length bs) 65536 e.short) (ap ended s)

-- a job that was read is the one that the bytes encode, and bytes that are bad encode none
pub law : (bs : List ℕ) (r : Result Job Bad) → MatchResult r (λ job. parse bs ≡ Ok (told job)) (λ bad. parse bs ≡ Err bad) → Decodes bs r
law bs (Ok job) h = (parse_takes bs (told job) h, λ j e. let g = parse_gives bs j e in cc)
law bs (Err bad) h = λ j e. let g = parse_gives bs j e in cc
