use Rattle.std.proofs.Common.{◌≡◌, ◌++◌, take}
use Rattle.std.specs.List.{flat_map}
use Rattle.meaning_texts.specs.Expressions.{param_spelling}
use Rattle.request_parser.proofs.write.put_params.Given as goal

abbrev pub invariant-params : goal.invariant-params
invariant-params l = l.out ≡ l.initial.out ++ flat_map param_spelling (take l.param-index l.params)
