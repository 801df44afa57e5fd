-- Which nodes have results.
use Rattle.std.specs.Prelude.{Bool, List, is_some}
use Rattle.std.specs.List.{list_all}
use Rattle.object_values.specs.declared.nodes.Node.{Node}
use Rattle.meaning_tasks.specs.Needs.{Results}

-- whether all these nodes have results
abbrev pub all_known : Results → List Node → Bool
all_known seen nodes = list_all (λ n. is_some (seen n)) nodes
