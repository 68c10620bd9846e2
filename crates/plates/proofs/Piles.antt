-- The worked pile, from what its calls answer. Assumes nothing.
use Rattle.std.proofs.Common.{◌≡◌, List, [], ◌∷◌, pos, Some, None, Option, ap, ◌∙◌, arith, MatchOption}
use Rattle.fields.specs.Charts.{chart_at, told_height}
use Rattle.fields.specs.Rasters.{raster_sample}
use Rattle.setups.specs.Stocks.{stocked_sample}
use Rattle.setups.specs.Surfaces.{setup_sample}
use Rattle.setups.specs.declared.clamp.Clamp.{Clamp}
use Rattle.zmap.specs.Maps.{On, place}
use Rattle.zmap.specs.declared.grid.Grid.{Grid}
use Rattle.zmap.specs.declared.sample.Sample.{Sample}
use Rattle.plates.specs.Plates.{clamp, corner, level_part, piled}
use Rattle.plates.proofs.Values.{plates}

-- the part of one sample
pub part_told : (g : Grid) → raster_sample g (pos 0 ∷ []) corner ≡ level_part
part_told g =
    let e : place g corner ≡ 0 = omega arith in ap (chart_at told_height (pos 0 ∷ [])) e

pub pile_told : (g : Grid) (ks : List Clamp) (s : Sample) (o : Option Sample) → ks ≡ clamp ∷ [] → s ≡ stocked_sample 50 level_part → MatchOption o (On g corner → ⊥) (λ t. On g corner × (t ≡ setup_sample ks corner s)) → o ≡ Some piled
pile_told g ks s None ek es off = absurd (off (omega (arith, g.wide.0), omega (arith, g.deep.0)))
pile_told g ks s (Some t) ek es told =
    ap Some (told.1 ∙ ap (λ k. setup_sample k corner s) ek ∙ ap (setup_sample (clamp ∷ []) corner) es ∙ plates.allowed)
