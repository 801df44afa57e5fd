-- The call of a node whose tool is run: the tool, the used parameters, and the labelled parts.
use Rattle.std.specs.Prelude.{◌≡◌, ℕ, ◌+◌, Bool, cond, ◌&&◌, List, [], ◌∷◌, ◌++◌, map, flat_map, length, Option, Some, None, option_to_list, codes}
use Rattle.std.specs.List.{list_all}
use Rattle.object_values.specs.declared.nodes.Node.{Node}
use Rattle.object_values.specs.declared.views.Part.{Part}
use Rattle.object_values.specs.declared.views.Value.{Value}
use Rattle.object_values.specs.declared.views.Value.TheVariants.{Simple, List as Listed, Compound}
use Rattle.object_values.specs.declared.calls.CallPart.{CallPart}
use Rattle.object_values.specs.declared.calls.Call.{Call}
use Rattle.meaning_texts.specs.Lists.{is_empty}
use Rattle.meaning_graph.specs.Graphs.{Text, Graph}
use Rattle.meaning_tasks.specs.Nodes.{source_node}
use Rattle.meaning_tasks.specs.Labels.{label_of}
use Rattle.meaning_tasks.specs.Tasks.{Task, tooled, ToolTask, Led, led_missing, task_of}
use Rattle.meaning_tasks.specs.Needs.{Results, Known, values_of, has_value, counted_needs, ReachedNames}

abbrev pub text_in : Option (Option Value) → Option Text
text_in (Some (Some (Simple text))) = Some text
text_in other = None

-- one part for a node that is simple
abbrev pub simple_part : Graph → Known → ℕ → Node → CallPart
simple_part g known slot n = record { slot = slot; label = label_of g n; body = text_in (known n) }

-- one part for a part of a compound, with its name after the label
abbrev pub compound_part : ℕ → Text → Part → CallPart
compound_part slot label p =
    record { slot = slot; label = label ++ codes "%" ++ p.name; body = Some p.body }

-- one part for a simple object, one for each element of a list, one for each part of a compound
abbrev pub value_parts : Graph → Known → ℕ → Node → Option (Option Value) → List CallPart
value_parts g known slot n (Some (Some (Simple text))) =
    record { slot = slot; label = label_of g n; body = Some text } ∷ []
value_parts g known slot n (Some (Some (Listed elements))) = map (simple_part g known slot) elements
value_parts g known slot n (Some (Some (Compound parts))) =
    map (compound_part slot (label_of g n)) parts
value_parts g known slot n other = []

abbrev pub node_parts : Graph → Known → ℕ → Node → List CallPart
node_parts g known slot n = value_parts g known slot n (known n)

-- the extras, each with the next slot
abbrev pub extra_parts : Graph → Known → ℕ → List Led → List CallPart
extra_parts g known slot [] = []
extra_parts g known slot (e ∷ extras) =
    flat_map (node_parts g known slot) (option_to_list e.node)
    ++ extra_parts g known (slot + 1) extras

-- a reached source, which may be absent
abbrev pub reached_part : Known → ℕ → Text → CallPart
reached_part known slot x =
    record { slot = slot; label = x; body = text_in (known (source_node x)) }

abbrev pub call_parts : Graph → ToolTask → Known → List Text → List CallPart
call_parts g t known names =
    node_parts g known 0 t.base
    ++ (extra_parts g known 1 t.extras ++ map (reached_part known (length t.extras + 1)) names)

abbrev pub tool_call : Graph → ToolTask → Known → List Text → Call
tool_call g t known names = record {
  tool = t.name;
  version = t.tool.version;
  words = t.tool.words;
  params = t.params;
  parts = call_parts g t known names;
  outs = t.outs;
}

abbrev pub all_valued : Known → List Node → Bool
all_valued known nodes = list_all (λ n. has_value (known n)) nodes

-- The call, and none where no tool is run: a tool isn't run where an extra has no path, or where a
-- need but a reached source has no value.
abbrev pub call_of : Graph → Task → Known → List Text → Option Call
call_of g (tooled t) known names =
    cond
    (is_empty (led_missing t.extras) && all_valued known (counted_needs (tooled t) known names))
    (Some (tool_call g t known names)) None
call_of g other known names = None

-- The call of a node under the results.
pub record CallOf (g : Graph) (n : Node) (seen : Results) (call : Option Call) : Type 0 where
  pub names : List Text
  pub reached : ReachedNames g n seen names
  pub is : call ≡ call_of g (task_of g n) (values_of seen) names
