use Rattle.std.proofs.Common.{◌≡◌, ◌++◌, take}
use Rattle.build_view.specs.Escaped.{escaped}
use Rattle.build_view.proofs.escaped.write_escaped.Given as goal

abbrev pub invariant-loop-byte : goal.invariant-loop-byte
invariant-loop-byte l = l.out ≡ l.initial.out ++ escaped (take l.byte-index l.text)
