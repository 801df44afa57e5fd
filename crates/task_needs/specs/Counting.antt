-- The needs of a node that count, where elements of lists aren't held.
use Rattle.std.specs.Prelude.{List, ◌++◌, flat_map}
use Rattle.object_values.specs.declared.nodes.Node.{Node}
use Rattle.meaning_tasks.specs.Needs.{Known, with_elements}
use Rattle.task_needs.specs.declared.counted.Counted.{Counted}

-- all nodes in order: each whole one with its elements, and then those alone
abbrev pub nodes_in : Known → Counted → List Node
nodes_in known c = flat_map (with_elements known) c.whole ++ c.alone
