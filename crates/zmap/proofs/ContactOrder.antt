-- Contacts are in total order, by their ranks; what `greater` answers at them. Assumes nothing.
use Rattle.std.proofs.Common.{◌≡◌, ◌≤◌, cond, ◌⊎◌, arith}
use Rattle.std.proofs.lemmas.Bool.Decides.{nat_tests}
use Rattle.std.specs.Cmp.{IsTotalOrder, nat_cmp_total}
use Rattle.std.specs.Ordering.{is_lt, nat_cmp}
use Rattle.zmap.specs.Contacts.{rank}
use Rattle.zmap.specs.contracts.class.ContactOrd.TheImpl.{ghosts}
use Rattle.zmap.specs.declared.class.Contact.{Contact}

-- the derived order is that of the ranks
pub says : (x y : Contact) → ghosts.cmp x y ≡ nat_cmp (rank x) (rank y)
says x y = grind arith

pub contacts : IsTotalOrder ghosts.cmp
contacts =
    record {
      antisymm = λ x y. rw (says x y, says y x) (nat_cmp_total.antisymm (rank x) (rank y));
      trans = λ x y z. rw (says x y, says y z, says x z) (nat_cmp_total.trans (rank x) (rank y) (rank z));
      congr = λ x y z. rw (says x y, says x z, says y z) (nat_cmp_total.congr (rank x) (rank y) (rank z));
    }

-- r is the higher of a and b
pub record Higher (a b r : Contact) : Type 0 where
  pub first : rank a ≤ rank r
  pub second : rank b ≤ rank r
  pub either : (r ≡ a) ⊎ (r ≡ b)

pub greater_contact : (a b r : Contact) → r ≡ cond (is_lt (ghosts.cmp a b)) b a → Higher a b r
greater_contact a b r h = record { first = grind (arith, nat_tests, says); second = grind (arith, nat_tests, says); either = grind (arith, nat_tests, says) }
