-- The words so far, and what they took of the bytes.
use Rattle.std.proofs.Common.{◌≡◌, ◌+◌, ◌-◌, ◌*◌, length, take}
use Rattle.jobs.specs.Parsers.{words, words_onto}
use Rattle.jobs.proofs.reader.Reader.words.Given as goal

abbrev pub invariant-loop-word : goal.invariant-loop-word
invariant-loop-word g l =
    record {
      gives : words_onto (g.row.N - l.word-index) (take l.word-index l.word-items) l.self.rest.now ≡ words g.row.N l.initial.self.rest.now;
      takes : length l.self.rest.now + 4 * l.word-index ≡ length l.initial.self.rest.now;
      fits : length l.word-items ≡ g.row.N;
    }
