use Rattle.std.proofs.Common.{◌≡◌, ◌++◌, length}
use Rattle.std.specs.Prelude.{filter}
use Rattle.meaning_texts.specs.Lines.{lines_of}
use Rattle.meaning_texts.specs.Tests.{is_name}
use Rattle.dynamic_inputs.proofs.scan.read_scan.Given as goal

abbrev pub invariant-lines : goal.invariant-lines
invariant-lines l = filter is_name (lines_of l.text) ≡ l.names ++ filter is_name (lines_of l.rest)

abbrev pub decreases-lines : goal.decreases-lines
decreases-lines l = length l.rest
