use Rattle.std.proofs.Common.{◌≡◌, ◌++◌, take}
use Rattle.std.specs.List.{flat_map}
use Rattle.meaning_texts.specs.Lines.{with_lf}
use Rattle.meaning_calls.specs.Jobs.{part_lines}
use Rattle.tool_calls.proofs.call_file.write_parts.Given as goal

abbrev pub invariant-loop-place : goal.invariant-loop-place
invariant-loop-place l = l.out ≡ l.initial.out ++ flat_map with_lf (part_lines 1 (take l.place l.parts))
