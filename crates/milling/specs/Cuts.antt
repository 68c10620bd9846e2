-- Poses: what the cutter stands over, what it invades, what it meets, and what a set of poses carves. Assumes nothing.
use Rattle.std.specs.Prelude.{◌≡◌, ℕ, ◌≤◌, ◌⊎◌, ℤ, pos, ◌+ℤ◌, ◌≤ℤ◌, ◌<ℤ◌}
use Rattle.zmap.specs.Contacts.{contact_of, rank}
use Rattle.zmap.specs.Maps.{On, Relief}
use Rattle.zmap.specs.declared.class.Contact.{Contact}
use Rattle.zmap.specs.declared.class.Contact.TheVariants.{Clear}
use Rattle.zmap.specs.declared.grid.Grid.{Grid}
use Rattle.zmap.specs.declared.node.Node.{Node}
use Rattle.zmap.specs.declared.sample.Sample.{Sample}
use Rattle.cutters.specs.Profiles.{Profile, Covers}
use Rattle.cutters.specs.Rings.{Before}
use Rattle.milling.specs.declared.poses.Pose.{Pose}

-- a height and a class at each node: what a guard stands for
abbrev pub Surface : Type 0
Surface = Node → Sample

-- with the cutter at p, its underside stands at u over the sample s of the map
pub record Under (g : Grid) (P : Profile) (p : Pose) (s : Node) (u : ℤ) : Type 0 where
  pub on : On g s
  pub rise : ℕ
  pub covers : Covers P p.node s rise
  pub level : u ≡ (p.tip +ℤ pos rise)

-- nowhere does the underside stand below the guard
abbrev pub Clears : Grid → Surface → Profile → Pose → Type 0
Clears g G P p = (s : Node) (u : ℤ) → Under g P p s u → (G s).height ≤ℤ u

-- at s the underside stands below the guard
pub record Invades (g : Grid) (G : Surface) (P : Profile) (p : Pose) (s : Node) : Type 0 where
  pub level : ℤ
  pub under : Under g P p s level
  pub below : level <ℤ (G s).height

-- s is the first invaded sample in the order in which offsets are scanned
pub record First (g : Grid) (G : Surface) (P : Profile) (p : Pose) (s : Node) : Type 0 where
  pub invades : Invades g G P p s
  pub first : (t : Node) (u : ℤ) (w : Under g P p t u) → Before w.covers.offset invades.under.covers.offset → (G t).height ≤ℤ u

-- the set that holds the pose p alone
abbrev pub Only : Pose → Pose → Type 0
Only p q = q ≡ p

-- B' is, at each sample, the lowest of B and of the undersides of the poses made
pub record Carved (g : Grid) (P : Profile) (made : Pose → Type 0) (B B' : Relief) : Type 0 where
  pub above : (s : Node) → On g s → B' s ≤ℤ B s
  pub under : (p : Pose) → made p → (s : Node) (u : ℤ) → Under g P p s u → B' s ≤ℤ u
  pub reached : (s : Node) → On g s → (B' s ≡ B s) ⊎ ((p : Pose) × (u : ℤ) × made p × Under g P p s u × (B' s ≡ u))

-- k is the highest class among the covered samples where the underside of a pose made stands at the guard, or clear
pub record Contacts (g : Grid) (G : Surface) (P : Profile) (made : Pose → Type 0) (k : Contact) : Type 0 where
  pub bounds : (p : Pose) → made p → (s : Node) (u : ℤ) → Under g P p s u → u ≡ (G s).height → rank (contact_of (G s).class) ≤ rank k
  pub reached : (k ≡ Clear) ⊎ ((p : Pose) × (s : Node) × (u : ℤ) × made p × Under g P p s u × (u ≡ (G s).height) × (k ≡ contact_of (G s).class))
