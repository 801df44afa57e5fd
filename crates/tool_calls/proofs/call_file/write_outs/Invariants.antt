use Rattle.std.proofs.Common.{◌≡◌, ◌++◌, map, take}
use Rattle.std.specs.List.{flat_map}
use Rattle.meaning_texts.specs.Lines.{with_lf}
use Rattle.meaning_calls.specs.Jobs.{out_line}
use Rattle.tool_calls.proofs.call_file.write_outs.Given as goal

abbrev pub invariant-loop-name : goal.invariant-loop-name
invariant-loop-name l = l.out ≡ l.initial.out ++ flat_map with_lf (map out_line (take l.name-index l.names))
