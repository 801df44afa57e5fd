use Rattle.std.proofs.Common.{◌≡◌, take, map}
use Rattle.meaning_tasks.specs.Tasks.{led_to, led_nodes, led_missing}
use Rattle.node_tasks.proofs.each.elements_own.Given as goal

abbrev pub invariant-loop-element : goal.invariant-loop-element
invariant-loop-element l = record {
  nodes_are : l.nodes ≡ led_nodes (map (led_to l.planned l.node l.of) (take l.element-index l.elements));
  missing_are : l.missing ≡ led_missing (map (led_to l.planned l.node l.of) (take l.element-index l.elements));
}
