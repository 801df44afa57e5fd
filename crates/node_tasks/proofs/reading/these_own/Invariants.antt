use Rattle.std.proofs.Common.{◌≡◌, take, map}
use Rattle.meaning_tasks.specs.Tasks.{line_led, led_nodes, led_missing}
use Rattle.node_tasks.proofs.reading.these_own.Given as goal

abbrev pub invariant-loop-line : goal.invariant-loop-line
invariant-loop-line l = record {
  nodes_are : l.nodes ≡ led_nodes (map (line_led l.planned l.node l.of) (take l.line-index l.lines));
  missing_are : l.missing ≡ led_missing (map (line_led l.planned l.node l.of) (take l.line-index l.lines));
}
