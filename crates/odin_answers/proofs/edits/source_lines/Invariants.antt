use Rattle.std.proofs.Common.{◌≡◌, ◌-◌, ◌≤◌, map, take, length}
use Rattle.std.specs.FinMap.{entries}
use Rattle.odin_answers.specs.Edits.{source_line}
use Rattle.odin_answers.proofs.edits.source_lines.Given as goal

abbrev pub invariant-loop-name : goal.invariant-loop-name
invariant-loop-name l = record {
  within : length l.lines ≤ length (entries l.sources.texts);
  lines : l.lines ≡ map source_line (take (length l.lines) (entries l.sources.texts));
}

abbrev pub decreases-loop-name : goal.decreases-loop-name
decreases-loop-name l = length (entries l.sources.texts) - length l.lines
