-- The clamp is taken, and leaves the allowance its class.
use Rattle.std.proofs.Common.{◌≡◌, [], ◌∷◌, ◌++◌, ℤ, pos, ap, ◌∙◌, arith}
use Rattle.std.proofs.lemmas.Int.{ints}
use Rattle.fields.specs.Rasters.{raster_sample}
use Rattle.fields.specs.declared.chart.Chart.{Chart}
use Rattle.setups.specs.Stocks.{stocked_sample}
use Rattle.setups.specs.Tables.{clamps_of}
use Rattle.setups.specs.declared.allowance.Allowance.{Allowance}
use Rattle.plates.specs.Plates.{clamp, corner}
use Rattle.plates.proofs.Piles.{part_told, pile_told}
use Rattle.plates.proofs.Values.{plates}
use Rattle.plates.proofs.pile.worked_pile.Goals as goal

pub returns : goal.returns
returns c =
    let below = c.lock.ensures.0 ∙ c.add.ensures.rest ∙ c.new-setup.ensures.0 in
    let table = c.add.ensures.table in
    let clamps = ap clamps_of c.lock.ensures.1 ∙ (simp c.unwrap.ensures at table) ∙ ap (λ ks. ks ++ clamp ∷ []) c.new-setup.ensures.1 in
    let grid = c.unwrap-grid.result in
    let stock = c.new-2.ensures.holds in
    let made = simp c.unwrap-stock.ensures at stock in
    let thick : c.unwrap-stock.result.microns ≡ 50 = omega (arith, ints, made) in
    let part = ap (λ (x : Allowance (Chart ℤ)). stocked_sample x.stock.microns (raster_sample x.below.grid x.below.entries.now corner)) below
    ∙ ap (λ a. stocked_sample a (raster_sample grid (pos 0 ∷ []) corner)) thick ∙ ap (stocked_sample 50) (part_told grid) in
    record { value = pile_told c.lock.result.below.below.grid _ _ c.sample.result clamps part c.sample.ensures.value; plates = plates }
