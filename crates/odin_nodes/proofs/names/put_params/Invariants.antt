use Rattle.std.proofs.Common.{◌≡◌, ◌++◌, take}
use Rattle.std.specs.List.{flat_map}
use Rattle.meaning_texts.specs.Expressions.{param_spelling}
use Rattle.odin_nodes.proofs.names.put_params.Given as goal

abbrev pub invariant-loop-param : goal.invariant-loop-param
invariant-loop-param l = l.out ≡ l.initial.out ++ flat_map param_spelling (take l.param-index l.params)
