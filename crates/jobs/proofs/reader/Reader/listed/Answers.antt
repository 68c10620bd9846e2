-- There is room for the next item, whose bytes were there.
use Rattle.std.proofs.Common.{◌+◌, ◌≤◌, arith}
use Rattle.jobs.proofs.ExactRuns.{count_within}
use Rattle.jobs.proofs.reader.Reader.listed.Goals as goal

pub push_reserved-requires : goal.push_reserved-requires
push_reserved-requires g c =
    let i = c.loop-at.invariant in
    let within = count_within _ _ _ _ _ _ c.in_ok-n.ensures in
    let h : c.loop-at.at + 1 ≤ g.row.N = c.requires (c.loop-at.at + 1) (omega (arith, within)) (omega (arith, i.takes, c.in_ok-record.ensures.takes, c.count.new.self.short)) in
    omega (arith, i.held, i.room)
