use Rattle.std.proofs.Common.{take}
use Rattle.request_parser.specs.Kept.{KeepsAll}
use Rattle.request_parser.proofs.merged.keep_all.Given as goal

abbrev pub invariant-loop-param : goal.invariant-loop-param
invariant-loop-param l = KeepsAll (take l.param-index l.more) l.initial.params.items l.params.items
