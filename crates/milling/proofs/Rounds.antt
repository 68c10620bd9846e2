-- Loops over the table of offsets: what holds at each offset so far, and so, in the end, of all that the cutter covers. Assumes nothing.
use Rattle.std.proofs.Common.{◌≡◌, ℕ, ◌+◌, ◌<◌, ◌≤◌, List, length, get_or, ℤ, pos, ◌+ℤ◌, Some, sym, subst, arith, below_more}
use Rattle.std.proofs.lemmas.List.{get_or_default}
use Rattle.std.proofs.lemmas.Int.{ints}
use Rattle.zmap.specs.Maps.{At}
use Rattle.zmap.proofs.Places.{same_node}
use Rattle.zmap.specs.declared.grid.Grid.{Grid}
use Rattle.zmap.specs.declared.node.Node.{Node}
use Rattle.zmap.specs.declared.node.Offset.{Offset}
use Rattle.cutters.specs.Order.{before_irrefl, before_trans}
use Rattle.cutters.specs.Profiles.{Lawful, Near, Profile}
use Rattle.cutters.specs.Rings.{Before, Ring}
use Rattle.milling.specs.Cuts.{Under}
use Rattle.milling.specs.declared.poses.Pose.{Pose}
use Rattle.milling.specs.Scans.{Bare, Here, Stood}

-- ---- an offset, a node and a sample: two of them give the third

same_offset : {a b c d : ℤ} → a ≡ c → b ≡ d → ◌≡◌ {A = Offset} (record { dx = a; dy = b }) (record { dx = c; dy = d })
same_offset e f = cc

pub sample_unique : (n : Node) (o : Offset) (s t : Node) → At n o s → At n o t → s ≡ t
sample_unique n o s t a b = same_node (omega (arith, ints, a.0, b.0)) (omega (arith, ints, a.1, b.1))

pub offset_unique : (n : Node) (o q : Offset) (s : Node) → At n o s → At n q s → o ≡ q
offset_unique n o q s a b = same_offset (omega (arith, ints, a.0, b.0)) (omega (arith, ints, a.1, b.1))

rise_unique : (P : Profile) (o : Offset) (h k : ℕ) → P o ≡ Some h → P o ≡ Some k → h ≡ k
rise_unique P o h k e f = cc

-- a smaller reach is within a wider one
near_wider : (j k : ℕ) (o : Offset) → j ≤ k → Near j o → Near k o
near_wider j k o le near = search (arith, ints)

-- an offset that comes before another stands earlier in the table
earlier : (os : List Offset) (i k : ℕ) (d o : Offset) → Ring os → k < 961 → get_or os k d ≡ o → Before o (get_or os i d) → k < i
earlier os i k d o ring lt is before = grind (arith, before_irrefl, before_trans, ring.order)

-- ---- one offset

module _ {g : Grid} {P : Profile} {p : Pose} {o : Offset} (Q : Node → ℤ → Type 0) where
  pub here_bare : Bare g P p.node o → Here g P p o Q
  here_bare bare = record { here = λ s h on at e. absurd (bare s h on at e) }

  pub here_stood : {s : Node} {u : ℤ} → Stood g P p o s u → Q s u → Here g P p o Q
  here_stood {s} {u} stood q =
      record {
        here = λ t k on at e.
            let same = sample_unique p.node o s t stood.at at in
            let rise = rise_unique P o stood.rise k stood.covers e in
            subst (λ x. Q t (p.tip +ℤ pos x)) rise (subst (Q t) stood.level (subst (λ x. Q x u) same q));
      }

pub here_weaker : {g : Grid} {P : Profile} {p : Pose} {o : Offset} {Q R : Node → ℤ → Type 0} → ((s : Node) (u : ℤ) → Q s u → R s u) → Here g P p o Q → Here g P p o R
here_weaker f so = record { here = λ s h on at e. f s _ (so.here s h on at e) }

-- ---- the offsets before an index

-- Q holds of what stands at each offset of the table before i
pub record Each (g : Grid) (P : Profile) (p : Pose) (os : List Offset) (i : ℕ) (Q : Node → ℤ → Type 0) : Type 0 where
  pub each : (k : ℕ) (d : Offset) → k < i → Here g P p (get_or os k d) Q

module _ {g : Grid} {P : Profile} {p : Pose} (os : List Offset) (Q : Node → ℤ → Type 0) where
  pub each_none : Each g P p os 0 Q
  each_none = record { each = λ k d lt. absurd (omega arith) }

  pub each_more : (i : ℕ) (d : Offset) → i < length os → Each g P p os i Q → Here g P p (get_or os i d) Q → Each g P p os (i + 1) Q
  each_more i d lt so here =
      let here' = λ (e : Offset). subst (λ x. Here g P p x Q) (get_or_default os i d e lt) here in
      record { each = λ k e le. below_more (λ k. (e : Offset) → Here g P p (get_or os k e) Q) i (λ k l e. so.each k e l) here' k le e }

  pub each_weaker : (i : ℕ) (R : Node → ℤ → Type 0) → ((s : Node) (u : ℤ) → Q s u → R s u) → Each g P p os i Q → Each g P p os i R
  each_weaker i R f so = record { each = λ k d lt. here_weaker f (so.each k d lt) }

  each_at : (k i : ℕ) (d : Offset) → k < i → Each g P p os i Q → (s : Node) (u : ℤ) (w : Under g P p s u) → get_or os k d ≡ w.covers.offset → Q s u
  each_at k i d lt so s u w is =
      let here = subst (λ x. Here g P p x Q) is (so.each k d lt) in
      subst (Q s) (sym w.level) (here.here s w.rise w.on w.covers.at w.covers.rise)

  -- where the table has every offset, every covered sample has been seen
  pub each_all : (j i : ℕ) → Ring os → Lawful j P → length os ≤ i → Each g P p os i Q → (s : Node) (u : ℤ) → Under g P p s u → Q s u
  each_all j i ring lawful le so s u w =
      let o = w.covers.offset in
      let at = ring.all o (near_wider j 15 o lawful.narrow (lawful.reaches o w.rise w.covers.rise)) in
      each_at at.0 i o (omega (arith, ring.size, at.1)) so s u w (at.2 o)

  -- and before that, every one whose offset comes before the offset at i
  pub each_before : (j i : ℕ) (d : Offset) → Ring os → Lawful j P → Each g P p os i Q → (s : Node) (u : ℤ) (w : Under g P p s u) → Before w.covers.offset (get_or os i d) → Q s u
  each_before j i d ring lawful so s u w before =
      let o = w.covers.offset in
      let at = ring.all o (near_wider j 15 o lawful.narrow (lawful.reaches o w.rise w.covers.rise)) in
      each_at at.0 i d (earlier os i at.0 d o ring at.1 (at.2 d) before) so s u w (at.2 d)
