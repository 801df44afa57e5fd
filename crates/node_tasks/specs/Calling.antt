-- The call of a tool with its inputs.
use Rattle.std.specs.Prelude.{List}
use Rattle.object_values.specs.declared.calls.CallPart.{CallPart}
use Rattle.object_values.specs.declared.calls.Call.{Call}
use Rattle.meaning_tasks.specs.Tasks.{ToolTask}

-- the tool, its used parameters and its outputs, with these inputs
abbrev pub task_call_with : ToolTask → List CallPart → Call
task_call_with t parts = record {
  tool = t.name;
  version = t.tool.version;
  words = t.tool.words;
  params = t.params;
  parts = parts;
  outs = t.outs;
}
