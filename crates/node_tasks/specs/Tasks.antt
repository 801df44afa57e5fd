-- What the last step of a node asks for, by the declarations of the graph.
use Rattle.std.specs.Prelude.{◌≡◌, ⊤, map}
use Rattle.object_values.specs.declared.nodes.Node.{Node}
use Rattle.meaning_graph.specs.Graphs.{Graph}
use Rattle.meaning_tasks.specs.Nodes.{base_of}
use Rattle.meaning_tasks.specs.Tasks.{Task, given, picked, mapped, packed, tooled, read_own, each_own, pack_part, tool_task, task_of}
use Rattle.node_tasks.specs.declared.task.TaskAt.{TaskAt}
use Rattle.node_tasks.specs.declared.task.TaskAt.TheVariants.{Given, Picked, Read, Each, Packed, Tooled}

-- the task for which it stands
abbrev pub told_task : Graph → Node → TaskAt → Task
told_task g n Given = given n.source
told_task g n (Picked key) = picked (base_of n) key.now
told_task g n (Read of) = mapped (base_of n) (read_own g n of.now)
told_task g n (Each of) = mapped (base_of n) (each_own g n of.now)
told_task g n (Packed parts) = packed (map (pack_part g n) parts.now)
told_task g n (Tooled m tool) = tooled (tool_task g n m.now tool.now)

-- the task of the node
abbrev pub IsTaskOf : Graph → Node → TaskAt → Type 0
IsTaskOf g n at = task_of g n ≡ told_task g n at

-- no tool is run
abbrev pub RunsNoTool : Task → Type 0
RunsNoTool (tooled t) = ⊥
RunsNoTool other = ⊤
