-- Whatever a chart's slice holds, its samples stand from the floor to the ceiling. Assumes nothing.
use Rattle.std.specs.Prelude.{ℕ, List, Some, None, Option}
use Rattle.std.specs.List.{slice_get}
use Rattle.std.specs.Option.{option_map}
use Rattle.std.proofs.Common.{arith}
use Rattle.std.proofs.lemmas.Int.{ints}
use Rattle.std.proofs.lemmas.Bool.{cond_both}
use Rattle.zmap.specs.Limits.{Height, is_height}
use Rattle.zmap.specs.declared.sample.Sample.{Sample}
use Rattle.zmap.proofs.HeightTest.{height_tested}
use Rattle.fields.specs.Charts.{chart_at, read, unread}

read_high : (o : Option Sample) → Height (read o).height
read_high None = (omega (arith, ints), omega (arith, ints))
read_high (Some s) =
    cond_both (is_height s.height) s unread (λ t. Height t.height) (height_tested s.height) (λ _. (omega (arith, ints), omega (arith, ints)))

pub chart_in_range : {T : Type 0} (told : T → Sample) (es : List T) (i : ℕ) → Height (chart_at told es i).height
chart_in_range told es i = read_high (option_map told (slice_get es i))
