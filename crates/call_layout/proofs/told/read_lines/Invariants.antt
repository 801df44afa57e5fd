use Rattle.std.proofs.Common.{◌≡◌, length}
use Rattle.call_layout.specs.Told.{nothing_told, read_text}
use Rattle.call_layout.proofs.told.read_lines.Given as goal

abbrev pub invariant-lines : goal.invariant-lines
invariant-lines l = read_text nothing_told l.text ≡ read_text l.told l.rest

abbrev pub decreases-lines : goal.decreases-lines
decreases-lines l = length l.rest
