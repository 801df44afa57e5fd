use Rattle.std.proofs.Common.{◌≡◌, ◌+◌, ◌≤◌, ◌++◌, length}
use Rattle.meaning_texts.specs.Lines.{lines_of}
use Rattle.meaning_texts.specs.Limits.{reference_limit}
use Rattle.meaning_texts.specs.References.{read_lines}
use Rattle.request_parser.proofs.lines.read_lines.Given as goal

abbrev pub invariant-lines : goal.invariant-lines
invariant-lines l = record {
  said : read_lines 1 (lines_of l.text) ≡ l.lines ++ read_lines (l.number + 1) (lines_of l.rest);
  few : length l.lines ≤ reference_limit;
  within : l.number + length l.rest ≤ length l.text;
}

abbrev pub decreases-lines : goal.decreases-lines
decreases-lines l = length l.rest
