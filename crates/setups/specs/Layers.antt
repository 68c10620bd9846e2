-- What a layer makes of the sample below it, whatever height it gives. Assumes nothing.
use Rattle.std.specs.Prelude.{◌≡◌, Bool, cond, ◌&&◌, ℤ, ◌≢◌, int_le}
use Rattle.zmap.specs.declared.class.Class.{Class}
use Rattle.zmap.specs.declared.sample.Sample.{Sample}

-- whether two heights are the same
abbrev pub same_height : ℤ → ℤ → Bool
same_height a b = int_le a b && int_le b a

-- the sample s below, or one of the class k at the height h where that is not the height of s
unfoldable pub layered : Class → Sample → ℤ → Sample
layered k s h = cond (same_height h s.height) s (record { height = h; class = k })

-- t has the class k exactly where its height is not that of s, and else the class of s
pub record Classed (k : Class) (s t : Sample) : Type 0 where
  pub below : t.height ≡ s.height → t.class ≡ s.class
  pub above : (t.height ≢ s.height) → t.class ≡ k
