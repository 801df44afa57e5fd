use Rattle.std.proofs.Common.{◌≡◌, ◌++◌, take}
use Rattle.odin_shell.specs.Loading.{spaced}
use Rattle.odin_shell.proofs.load.write_numbers.Given as goal

abbrev pub invariant-loop-number : goal.invariant-loop-number
invariant-loop-number l = l.out ≡ l.initial.out ++ spaced (take l.number-index l.numbers)
