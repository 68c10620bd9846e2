-- Each section takes exactly the words of its records. Assumes nothing.
use Rattle.std.proofs.Common.{◌≡◌, ℕ, ◌*◌, ◌≤◌, List, [], ◌∷◌, length, ℤ, pos, None, Ok, sym, ap, ◌∙◌, subst, arith}
use Rattle.std.proofs.lemmas.Int.{ints}
use Rattle.std.specs.List.{All}
use Rattle.setups.specs.declared.clamp.Clamp.{Clamp}
use Rattle.jobs.specs.declared.section.Section.{Section as Named}
use Rattle.jobs.specs.declared.section.Section.TheVariants.{Grid, Cutter, Heights, Clamps, Moves}
use Rattle.setups.specs.Clamps.{clamp_fault}
use Rattle.jobs.specs.Items.{Extent, Turned, extent_of, turned_of, height_of, clamp_of, move_of}
use Rattle.jobs.specs.Sections.{count, grid_section, cutter_section, heights_section, clamps_section, moves_section}
use Rattle.jobs.specs.Encodings.{Spells, GridWords, CutterWords, HeightWords, ClampWords, MoveWords, Section}
use Rattle.jobs.proofs.Exactness.{Exact, exact_same}
use Rattle.jobs.proofs.ExactRuns.{exact_count, exact_listed, exact_single}
use Rattle.jobs.proofs.Layouts.{Gridded, grid_takes, grid_gives, Fitted, cutter_takes, cutter_gives, height_takes, height_gives, clamp_takes, clamp_gives, move_takes, move_gives}

-- what each section says of its words
abbrev pub First : Extent → List ℤ → Type 0
First g ws = Section GridWords (g ∷ []) ws × Gridded g

abbrev pub Second : Extent → Turned → List ℤ → Type 0
Second g t ws = Section CutterWords (t ∷ []) ws × Fitted g.pitch t

abbrev pub Third : Extent → List ℤ → List ℤ → Type 0
Third g hs ws = Section HeightWords hs ws × All (λ z. Unit {0}) hs × (g.columns * g.rows ≤ length hs) × (length hs ≤ g.columns * g.rows)

abbrev pub Sixth : Extent → List Clamp → List ℤ → Type 0
Sixth g ks ws = Section ClampWords ks ws × All (λ k. clamp_fault g.columns g.rows k ≡ None) ks × (0 ≤ length ks) × (length ks ≤ 16)

pub exact_grid : Exact grid_section First
exact_grid = exact_single 3 extent_of GridWords Gridded grid_takes grid_gives Grid

-- a grid that was read has at most 4,096 samples
pub grid_small : (bs rest : List ℕ) (g : Extent) → grid_section bs ≡ Ok (g, rest) → g.columns * g.rows ≤ 4096
grid_small bs rest g h = (exact_grid.takes g bs rest h).1.1.1

pub exact_cutter : (g : Extent) → Exact (cutter_section g.pitch) (Second g)
exact_cutter g = exact_single 4 (turned_of g.pitch) CutterWords (Fitted g.pitch) (cutter_takes g.pitch) (cutter_gives g.pitch) Cutter

pub exact_heights : (g : Extent) → Exact (heights_section (g.columns * g.rows)) (Third g)
exact_heights g = exact_listed 1 height_of HeightWords (λ z. Unit {0}) height_takes height_gives Heights (g.columns * g.rows) (g.columns * g.rows)

pub exact_clamps : (g : Extent) → Exact (clamps_section g.columns g.rows) (Sixth g)
exact_clamps g =
    exact_listed 5 (clamp_of g.columns g.rows) ClampWords (λ k. clamp_fault g.columns g.rows k ≡ None) (clamp_takes g.columns g.rows) (clamp_gives g.columns g.rows) Clamps 0 16

-- any number of moves, since a word counts them
pub exact_moves : Exact moves_section (Section MoveWords)
exact_moves =
    let e = exact_listed 7 move_of MoveWords (λ m. Unit {0}) move_takes move_gives Moves 0 2147483647 in
    record {
      takes = λ ms bs rest h. let t = e.takes ms bs rest h in (t.0, t.1.0, t.2);
      gives = λ ms ws bs rest r s.
          let counted = (subst (λ v. Spells v bs rest) r.1 s).1 in
          e.gives ms ws bs rest (r, λ k d lt. tt, omega arith, omega (arith, ints, counted)) s;
    }

-- a section with no records
abbrev pub Bare : ℕ → List ℤ → Type 0
Bare n us = (us ≡ pos 0 ∷ []) × (n ≡ 0)

pub exact_none : (section : Named) → Exact (count section 0 0) Bare
exact_none section =
    exact_same _ _ _ (exact_count section 0 0)
    (λ n us w. let e : n ≡ 0 = omega (arith, w.2) in (w.0 ∙ ap (λ k. pos k ∷ []) e, e))
    (λ n us w. (w.0 ∙ ap (λ k. pos k ∷ []) (sym w.1), omega arith, omega (arith, w.1)))
