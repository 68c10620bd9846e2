-- The items so far, where they stand, and what they took of the bytes.
use Rattle.std.proofs.Common.{◌≡◌, ◌+◌, ◌-◌, ◌*◌, ◌≤◌, length, map, vec_items, vec_len, vec_capacity}
use Rattle.jobs.specs.Records.{records, records_onto}
use Rattle.jobs.proofs.reader.Reader.listed.Given as goal

abbrev pub invariant-loop-at : goal.invariant-loop-at
invariant-loop-at g l =
    record {
      gives : records_onto g.K.Kind.width (g.K.Kind.item l.kind) l.section (l.n - l.at) l.at (map g.K.Kind.told (vec_items l.items)) l.self.rest.now ≡ records g.K.Kind.width (g.K.Kind.item l.kind) l.section l.n l.initial.self.rest.now;
      takes : length l.self.rest.now + 4 * g.K.Kind.width * l.at ≡ length l.initial.self.rest.now;
      held : vec_len l.items ≡ l.at;
      room : g.row.N ≤ vec_capacity l.items;
    }
