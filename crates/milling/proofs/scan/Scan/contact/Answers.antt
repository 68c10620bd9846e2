-- Each turn sees one offset more.
use Rattle.zmap.proofs.ContactOrder.{greater_contact}
use Rattle.milling.proofs.Seen.{met_all, met_more}
use Rattle.milling.proofs.scan.Scan.contact.Goals as goal

pub loop-o-preserved : goal.loop-o-preserved
loop-o-preserved g c = met_more _ _ _ _ _ _ _ c.loop-o-test.true c.loop-o.invariant c.met_at.ensures (greater_contact _ _ _ c.greater-contact.ensures)

pub returns : goal.returns
returns g c =
    let law = g.met.C.Cutter.lawful c.args.self.now.cutter.now in
    met_all _ _ _ _ _ c.offsets-o-items.ensures law c.loop-o-test.false c.loop-o.invariant
