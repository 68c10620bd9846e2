-- What stands at one offset from the tip. Assumes nothing.
use Rattle.std.specs.Prelude.{◌≡◌, ℕ, ◌≤◌, ◌⊎◌, ℤ, pos, ◌+ℤ◌, ◌<ℤ◌, Some, ◌≢◌}
use Rattle.zmap.specs.Contacts.{contact_of, rank}
use Rattle.zmap.specs.Maps.{On, At}
use Rattle.zmap.specs.declared.class.Class.{Class}
use Rattle.zmap.specs.declared.class.Contact.{Contact}
use Rattle.zmap.specs.declared.class.Contact.TheVariants.{Clear}
use Rattle.zmap.specs.declared.grid.Grid.{Grid}
use Rattle.zmap.specs.declared.node.Node.{Node}
use Rattle.zmap.specs.declared.node.Offset.{Offset}
use Rattle.cutters.specs.Profiles.{Profile}
use Rattle.milling.specs.Cuts.{Surface}
use Rattle.milling.specs.declared.poses.Pose.{Pose}

-- at the offset o from n no sample of the map is covered
abbrev pub Bare : Grid → Profile → Node → Offset → Type 0
Bare g P n o = (s : Node) (h : ℕ) → On g s → At n o s → P o ≢ Some h

-- at the offset o from the tip the sample s of the map is covered, the underside at u over it
pub record Stood (g : Grid) (P : Profile) (p : Pose) (o : Offset) (s : Node) (u : ℤ) : Type 0 where
  pub on : On g s
  pub at : At p.node o s
  pub rise : ℕ
  pub covers : P o ≡ Some rise
  pub low : rise ≤ 200000
  pub level : u ≡ (p.tip +ℤ pos rise)

-- Q holds of each sample of the map that is covered at the offset o, with the height of the underside over it
pub record Here (g : Grid) (P : Profile) (p : Pose) (o : Offset) (Q : Node → ℤ → Type 0) : Type 0 where
  pub here : (s : Node) (h : ℕ) → On g s → At p.node o s → P o ≡ Some h → Q s (p.tip +ℤ pos h)

-- at the offset o the pose invades the sample s, which has the class k
pub record InvadedAt (g : Grid) (G : Surface) (P : Profile) (p : Pose) (o : Offset) (s : Node) (k : Class) : Type 0 where
  pub level : ℤ
  pub stood : Stood g P p o s level
  pub below : level <ℤ (G s).height
  pub class : k ≡ (G s).class

-- k is the contact at the offset o: the class of the sample where the underside stands at the guard there, or clear
pub record MetAt (g : Grid) (G : Surface) (P : Profile) (p : Pose) (o : Offset) (k : Contact) : Type 0 where
  pub bounds : Here g P p o (λ s u. u ≡ (G s).height → rank (contact_of (G s).class) ≤ rank k)
  pub reached : (k ≡ Clear) ⊎ ((s : Node) × (u : ℤ) × Stood g P p o s u × (u ≡ (G s).height) × (k ≡ contact_of (G s).class))
