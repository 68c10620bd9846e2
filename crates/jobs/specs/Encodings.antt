-- What the bytes of a job are: the words of its sections in turn, four bytes each. Assumes nothing.
use Rattle.std.specs.Prelude.{◌≡◌, ℕ, ◌*◌, ◌≤◌, List, [], ◌∷◌, ◌++◌, length, drop, ℤ, pos, None, Ok, Err, Result}
use Rattle.std.specs.List.{All}
use Rattle.zmap.specs.Faults.{grid_fault}
use Rattle.setups.specs.declared.clamp.Clamp.{Clamp}
use Rattle.jobs.specs.declared.bad.Bad.{Bad}
use Rattle.jobs.specs.declared.job.Job.{Job}
use Rattle.jobs.specs.declared.job.Move.{Move}
use Rattle.jobs.specs.declared.job.Move.TheVariants.{Pose}
use Rattle.jobs.specs.Parsers.{number}
use Rattle.setups.specs.Clamps.{clamp_fault}
use Rattle.jobs.specs.Items.{Extent, Turned, flat, cone, ball, turned_pitch, turned_fault}
use Rattle.jobs.specs.Jobs.{Reading, told}

-- the bytes bs are the words ws, four bytes each that have its value, and then the bytes rest
abbrev pub Spells : List ℤ → List ℕ → List ℕ → Type 0
Spells [] bs rest = bs ≡ rest
Spells (w ∷ ws) bs rest = (4 ≤ length bs) × (number bs ≡ w) × Spells ws (drop 4 bs) rest

-- the words of each kind of record; a word that is not needed may be anything
abbrev pub GridWords : Extent → List ℤ → Type 0
GridWords g ws = ws ≡ pos g.columns ∷ pos g.rows ∷ pos g.pitch ∷ []

abbrev pub CutterWords : Turned → List ℤ → Type 0
CutterWords (flat p r) ws = (a : ℤ) × (b : ℤ) × (ws ≡ pos 1 ∷ r ∷ a ∷ b ∷ [])
CutterWords (cone p r t s) ws = ws ≡ pos 2 ∷ r ∷ t ∷ s ∷ []
CutterWords (ball p r) ws = (a : ℤ) × (b : ℤ) × (ws ≡ pos 3 ∷ r ∷ a ∷ b ∷ [])

abbrev pub HeightWords : ℤ → List ℤ → Type 0
HeightWords z ws = ws ≡ z ∷ []

abbrev pub ClampWords : Clamp → List ℤ → Type 0
ClampWords k ws = ws ≡ k.columns.first ∷ k.rows.first ∷ k.columns.last ∷ k.rows.last ∷ k.height ∷ []

abbrev pub MoveWords : Move → List ℤ → Type 0
MoveWords (Pose p) ws = (a : ℤ) × (b : ℤ) × (d : ℤ) × (ws ≡ pos 1 ∷ p.column ∷ p.row ∷ p.tip ∷ a ∷ b ∷ d ∷ [])

-- the words ws are those of the items xs in turn, each with words as L says
abbrev pub InTurn : {X : Type 0} → (X → List ℤ → Type 0) → List X → List ℤ → Type 0
InTurn L [] ws = ws ≡ []
InTurn L (x ∷ xs) ws = (us : List ℤ) × (vs : List ℤ) × (ws ≡ us ++ vs) × L x us × InTurn L xs vs

-- a section: the count of its records, and then the records
abbrev pub Section : {X : Type 0} → (X → List ℤ → Type 0) → List X → List ℤ → Type 0
Section L xs ws = (vs : List ℤ) × (ws ≡ pos (length xs) ∷ vs) × InTurn L xs vs

-- the words of a job: its seven sections, of which facets and allowance have no records
pub record Words (j : Reading) (ws : List ℤ) : Type 0 where
  pub grid : List ℤ
  pub cutter : List ℤ
  pub heights : List ℤ
  pub clamps : List ℤ
  pub moves : List ℤ
  pub whole : ws ≡ grid ++ (cutter ++ (heights ++ (pos 0 ∷ pos 0 ∷ (clamps ++ moves))))
  pub first : Section GridWords (j.grid ∷ []) grid
  pub second : Section CutterWords (j.cutter ∷ []) cutter
  pub third : Section HeightWords j.heights heights
  pub sixth : Section ClampWords j.clamps clamps
  pub seventh : Section MoveWords j.moves moves

-- a job that is allowed: no refusal of its grid, cutter and clamps, and counts in range
pub record Allowed (j : Reading) : Type 0 where
  pub grid : grid_fault (pos j.grid.columns) (pos j.grid.rows) (pos j.grid.pitch) ≡ None
  pub small : j.grid.columns * j.grid.rows ≤ 4096
  pub pitch : turned_pitch j.cutter ≡ j.grid.pitch
  pub cutter : turned_fault j.cutter ≡ None
  pub heights : length j.heights ≡ j.grid.columns * j.grid.rows
  pub few : length j.clamps ≤ 16
  pub clamps : All (λ k. clamp_fault j.grid.columns j.grid.rows k ≡ None) j.clamps

-- the bytes encode the job j, which is allowed
pub record Encodes (bs : List ℕ) (j : Reading) : Type 0 where
  pub short : length bs ≤ 65536
  pub words : List ℤ
  pub spelt : Spells words bs []
  pub laid : Words j words
  pub allowed : Allowed j

-- the job read is the one that the bytes encode, and bytes that are bad encode none
abbrev pub Decodes : List ℕ → Result Job Bad → Type 0
Decodes bs (Ok job) = Encodes bs (told job) × ((j : Reading) → Encodes bs j → j ≡ told job)
Decodes bs (Err bad) = (j : Reading) → Encodes bs j → ⊥
