-- None of those so far.
use Rattle.std.proofs.Common.{◌≡◌, false, take}
use Rattle.std.specs.List.{list_any}
use Rattle.type_graph.specs.Rows.{answer}
use Rattle.type_graph.proofs.rows.Rows.any_has.Given as goal

abbrev pub invariant-loop-start : goal.invariant-loop-start
invariant-loop-start l = list_any (λ start. answer l.self start l.number) (take l.start-index l.starts) ≡ false
