use Rattle.std.proofs.Common.{◌≡◌, take, filter}
use Rattle.std.specs.Prelude.{bytes_eq}
use Rattle.std.specs.List.{list_any}
use Rattle.node_tasks.proofs.outs.used_params.Given as goal

abbrev pub invariant-loop-param : goal.invariant-loop-param
invariant-loop-param l = l.used ≡ filter (λ p. list_any (bytes_eq p.param) l.names) (take l.param-index l.params)
