-- The contact that a class makes, and the order of contacts. Assumes nothing.
use Rattle.std.specs.Prelude.{ℕ}
use Rattle.zmap.specs.declared.class.Class.{Class}
use Rattle.zmap.specs.declared.class.Class.TheVariants as classes
use Rattle.zmap.specs.declared.class.Contact.{Contact}
use Rattle.zmap.specs.declared.class.Contact.TheVariants.{Clear, Part, Allowance, Fixture}

-- the contact that a class makes
abbrev pub contact_of : Class → Contact
contact_of classes.Part = Part
contact_of classes.Allowance = Allowance
contact_of classes.Fixture = Fixture

-- where a contact stands in their order: clear, part, allowance, fixture
abbrev pub rank : Contact → ℕ
rank Clear = 0
rank Part = 1
rank Allowance = 2
rank Fixture = 3
