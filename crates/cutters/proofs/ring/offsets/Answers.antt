-- The table passes the test.
use Rattle.std.proofs.Common.{refl}
use Rattle.cutters.proofs.RingRule.{ring_rule}
use Rattle.cutters.proofs.ring.offsets.Goals as goal

pub returns : goal.returns
returns c = ring_rule _ refl
