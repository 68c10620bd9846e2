-- The text of each line, as bytes. Assumes nothing.
use Rattle.std.specs.Prelude.{ℕ, List, [], ◌∷◌, Ok, Err, codes, decimal}
use Rattle.zmap.specs.Faults.{parts_of}
use Rattle.zmap.specs.Texts.{bad_parts, contact_text, parts_words, spaced}
use Rattle.lines.specs.declared.line.Line.{Line}
use Rattle.lines.specs.declared.line.Line.TheVariants.{Move, Bad}

-- the words of a line
abbrev pub line_words : Line → List (List ℕ)
line_words (Move number (Ok a)) = decimal number ∷ codes "ok" ∷ decimal a.samples ∷ decimal a.loss ∷ contact_text a.contact ∷ []
line_words (Move number (Err fault)) = decimal number ∷ codes "no" ∷ parts_words (parts_of fault)
line_words (Bad fault section at) = bad_parts fault section at

abbrev pub line_text : Line → List ℕ
line_text l = spaced (line_words l)
