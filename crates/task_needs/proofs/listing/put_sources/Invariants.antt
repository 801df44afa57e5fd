use Rattle.std.proofs.Common.{◌≡◌, ◌++◌, take, map}
use Rattle.meaning_tasks.specs.Nodes.{source_node}
use Rattle.task_needs.proofs.listing.put_sources.Given as goal

abbrev pub invariant-loop-name : goal.invariant-loop-name
invariant-loop-name l = l.needs ≡ l.initial.needs ++ map source_node (take l.name-index l.names)
