-- A flat cutter keeps the laws of cutters: it stands 0 above the tip over its disc. Assumes nothing.
use Rattle.std.specs.Prelude.{ℕ, ◌*◌, ◌<◌, refl}
use Rattle.std.proofs.Common.{arith}
use Rattle.cutters.specs.DiscsLemmas.{disc_lawful}
use Rattle.cutters.specs.Flats.{flat_shape}
use Rattle.cutters.specs.Profiles.{Lawful}

pub flat_lawful : (p R : ℕ) → R < 16 * p → Lawful 15 (flat_shape p R)
flat_lawful p R near = disc_lawful p R (λ _. 0) near refl (λ _ _. omega arith)
