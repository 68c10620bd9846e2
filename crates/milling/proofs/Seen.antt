-- What a scan has seen: the first invaded sample, and the contact. Assumes nothing.
use Rattle.std.proofs.Common.{◌≡◌, ℕ, ◌+◌, ◌<◌, ◌≤◌, ◌⊎◌, List, length, get_or, ℤ, ◌≤ℤ◌, refl, ◌∙◌, subst, inl, inr, ⊎_elim, arith}
use Rattle.zmap.proofs.ContactOrder.{Higher}
use Rattle.zmap.specs.Contacts.{contact_of, rank}
use Rattle.zmap.specs.declared.class.Class.{Class}
use Rattle.zmap.specs.declared.class.Contact.{Contact}
use Rattle.zmap.specs.declared.class.Contact.TheVariants.{Clear}
use Rattle.zmap.specs.declared.grid.Grid.{Grid}
use Rattle.zmap.specs.declared.node.Node.{Node}
use Rattle.zmap.specs.declared.node.Offset.{Offset}
use Rattle.cutters.specs.Profiles.{Lawful, Profile}
use Rattle.cutters.specs.Rings.{Ring}
use Rattle.milling.specs.Cuts.{Contacts, First, Only, Surface, Under}
use Rattle.milling.specs.declared.poses.Pose.{Pose}
use Rattle.milling.specs.Scans.{InvadedAt, MetAt, Stood}
use Rattle.milling.proofs.Rounds.{Each, each_all, each_before, each_more, each_weaker, here_weaker}

-- what stands at an offset is under the cutter
pub under_stood : {g : Grid} {P : Profile} (p : Pose) {o : Offset} {s : Node} {u : ℤ} → Stood g P p o s u → Under g P p s u
under_stood p {o} stood =
    record { on = stood.on; rise = stood.rise; covers = record { offset = o; at = stood.at; rise = stood.covers }; level = stood.level }

pub first_found : {g : Grid} {G : Surface} {P : Profile} (p : Pose) (os : List Offset) (j i : ℕ) (d : Offset) (s : Node) (k : Class) →
    Ring os → Lawful j P → Each g P p os i (λ t u. (G t).height ≤ℤ u) → InvadedAt g G P p (get_or os i d) s k → First g G P p s
unfolding under_stood
first_found {g} {G} {P} p os j i d s k ring lawful so at =
    record {
      invades = record { level = at.level; under = under_stood p at.stood; below = at.below };
      first = λ t u w before. each_before os (λ t u. (G t).height ≤ℤ u) j i d ring lawful so t u w before;
    }

-- ---- the contact so far

-- k is the highest class met at the offsets before i
pub record Met (g : Grid) (G : Surface) (P : Profile) (p : Pose) (os : List Offset) (i : ℕ) (k : Contact) : Type 0 where
  pub bounds : Each g P p os i (λ s u. u ≡ (G s).height → rank (contact_of (G s).class) ≤ rank k)
  pub reached : (k ≡ Clear) ⊎ ((s : Node) × (u : ℤ) × Under g P p s u × (u ≡ (G s).height) × (k ≡ contact_of (G s).class))

module _ {g : Grid} {G : Surface} {P : Profile} (p : Pose) (os : List Offset) where
  pub met_more : (i : ℕ) (d : Offset) (k m r : Contact) → i < length os → Met g G P p os i k → MetAt g G P p (get_or os i d) m → Higher k m r → Met g G P p os (i + 1) r
  met_more i d k m r lt so at high =
      record {
        bounds =
            each_more os _ i d lt
            (each_weaker os _ i _ (λ s u q e. let y = q e in omega (arith, high.first)) so.bounds)
            (here_weaker (λ s u q e. let y = q e in omega (arith, high.second)) at.bounds);
        reached =
            ⊎_elim
            (λ e. ⊎_elim (λ c. inl (e ∙ c)) (λ w. inr (w.0, w.1, w.2, w.3, e ∙ w.4)) so.reached)
            (λ e. ⊎_elim (λ c. inl (e ∙ c)) (λ w. inr (w.0, w.1, under_stood p w.2, w.3, e ∙ w.4)) at.reached)
            high.either;
      }

  pub met_all : (j i : ℕ) (k : Contact) → Ring os → Lawful j P → length os ≤ i → Met g G P p os i k → Contacts g G P (Only p) k
  met_all j i k ring lawful le so =
      record {
        bounds = λ q e s u w touch. each_all os (λ s u. u ≡ (G s).height → rank (contact_of (G s).class) ≤ rank k) j i ring lawful le so.bounds s u (subst (λ x. Under g P x s u) e w) touch;
        reached = ⊎_elim (λ c. inl c) (λ w. inr (p, w.0, w.1, refl, w.2, w.3, w.4)) so.reached;
      }
