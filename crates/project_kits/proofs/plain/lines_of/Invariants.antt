use Rattle.std.proofs.Common.{◌≡◌, ◌++◌, length}
use Rattle.meaning_texts.specs.Lines.{lines_of}
use Rattle.project_kits.proofs.plain.lines_of.Given as goal

abbrev pub invariant-lines : goal.invariant-lines
invariant-lines l = l.lines ++ lines_of l.rest ≡ lines_of l.text

abbrev pub decreases-lines : goal.decreases-lines
decreases-lines l = length l.rest
