-- The task of a node: what its last step asks for, by the graph and the node alone, whatever
-- results there are.
use Rattle.std.specs.Prelude.{Bool, true, false, cond, List, [], ◌∷◌, ◌++◌, map, filter, flat_map, Option, Some, None, option_to_list, bytes_eq, slice_get, codes}
use Rattle.std.specs.List.{list_any}
use Rattle.object_values.specs.declared.messages.Status.{Status}
use Rattle.object_values.specs.declared.messages.Status.TheVariants.{Ok, Abort}
use Rattle.object_values.specs.declared.messages.Message.{Message}
use Rattle.object_values.specs.declared.nodes.ParamValue.{ParamValue}
use Rattle.object_values.specs.declared.nodes.Step.{Step}
use Rattle.object_values.specs.declared.nodes.Step.TheVariants.{Maker, Pick}
use Rattle.object_values.specs.declared.nodes.Node.{Node}
use Rattle.object_values.specs.declared.views.Value.{Value}
use Rattle.object_values.specs.declared.views.Value.TheVariants.{Simple, List as Listed}
use Rattle.object_values.specs.declared.expressions.Line.{Line}
use Rattle.object_values.specs.declared.expressions.Line.TheVariants.{Good, Bad}
use Rattle.object_values.specs.declared.expressions.Lines.{Lines}
use Rattle.object_values.specs.declared.expressions.Lines.TheVariants.{These, TooMany}
use Rattle.object_values.specs.declared.graph.PartDecl.{PartDecl}
use Rattle.object_values.specs.declared.graph.Kind.{Kind}
use Rattle.object_values.specs.declared.graph.Kind.TheVariants.{List as ListKind, Compound as CompoundKind}
use Rattle.object_values.specs.declared.graph.Extra.{Extra}
use Rattle.object_values.specs.declared.graph.Extra.TheVariants.{Also, With}
use Rattle.object_values.specs.declared.graph.ToolDecl.{ToolDecl}
use Rattle.object_values.specs.declared.graph.Make.{Make}
use Rattle.object_values.specs.declared.graph.Make.TheVariants.{Tool, Read, Each, Pack}
use Rattle.object_values.specs.declared.graph.MakerDecl.{MakerDecl}
use Rattle.meaning_texts.specs.Reading.{kept_params}
use Rattle.meaning_texts.specs.References.{references}
use Rattle.meaning_graph.specs.Graphs.{Text, Graph, makers, kind_named}
use Rattle.meaning_tasks.specs.Nodes.{source_node, base_of, last_step, onward_named}
use Rattle.meaning_tasks.specs.Labels.{label_of, abort_message, no_path as no_path_to, too_many_references, at_line}
use Rattle.meaning_tasks.specs.NodeOf.{NodeAnswer, is_node, unknown_param, unknown_type, node_of}

-- What a node itself gives, beside its needs: its value, its own status and its own messages.
pub record Own : Type 0 where
  pub value : Option Value
  pub status : Status
  pub messages : List Message

abbrev pub fine : Value → Own
fine v = record { value = Some v; status = Ok; messages = [] }

abbrev pub aborted : List Message → Own
aborted messages = record { value = None; status = Abort; messages = messages }

-- the value, unless there are messages
abbrev pub fine_unless : Value → List Message → Own
fine_unless v [] = fine v
fine_unless v (m ∷ messages) = aborted (m ∷ messages)

-- the message, where there is no node
abbrev pub unless_node : Message → Option Node → List Message
unless_node m None = m ∷ []
unless_node m (Some n) = []

-- the message that there is no path to the type, where there is no node
abbrev pub unless_path : Graph → Node → Text → Option Node → List Message
unless_path g n of led = unless_node (abort_message (label_of g n) (no_path_to of)) led

-- ---- what is led on

-- Where a node is led to: the node, or the message that there is none.
pub record Led : Type 0 where
  pub node : Option Node
  pub missing : List Message

-- from a node along the chosen path to a type, for the node n
abbrev pub led_to : Graph → Node → Text → Node → Led
led_to g n of from = record {
  node = onward_named g from of;
  missing = unless_path g n of (onward_named g from of);
}

abbrev pub led_nodes : List Led → List Node
led_nodes led = flat_map (λ l. option_to_list l.node) led

abbrev pub led_missing : List Led → List Message
led_missing led = flat_map (λ l. l.missing) led

-- the list of all these nodes, unless one is missing
abbrev pub listed_own : List Led → Own
listed_own led = fine_unless (Listed (led_nodes led)) (led_missing led)

-- ---- read

-- a read line has the reading node's parameters, then its own
abbrev pub with_params_of : Node → Node → Node
with_params_of n m = record m { params = kept_params (n.params ++ m.params) }

-- what a line refers to: the node of its expression, and on to the element type
abbrev pub answer_node : Graph → Node → Text → NodeAnswer → Option Node
answer_node g n of (is_node m) = onward_named g (with_params_of n m) of
answer_node g n of refusal = None

abbrev pub line_node : Graph → Node → Text → Line → Option Node
line_node g n of (Bad number) = None
line_node g n of (Good number e) = answer_node g n of (node_of g e)

-- why it refers to none
abbrev pub answer_fault : NodeAnswer → Text
answer_fault (unknown_param name) = codes "unknown parameter"
answer_fault (unknown_type name) = codes "unknown type"
answer_fault other = codes "no path"

abbrev pub line_fault : Graph → Line → Text
line_fault g (Bad number) = at_line number (codes "bad reference")
line_fault g (Good number e) = at_line number (answer_fault (node_of g e))

abbrev pub line_led : Graph → Node → Text → Line → Led
line_led g n of line = record {
  node = line_node g n of line;
  missing =
      unless_node (abort_message (label_of g n) (line_fault g line)) (line_node g n of line);
}

abbrev pub lines_own : Graph → Node → Text → Lines → Own
lines_own g n of (These lines) = listed_own (map (line_led g n of) lines)
lines_own g n of TooMany = aborted (abort_message (label_of g n) too_many_references ∷ [])

-- one reference for each line of the text
abbrev pub read_own : Graph → Node → Text → Value → Own
read_own g n of (Simple text) = lines_own g n of (references text)
read_own g n of other = aborted []

-- ---- each

-- each reference further from its own type to the element type
abbrev pub each_own : Graph → Node → Text → Value → Own
each_own g n of (Listed elements) = listed_own (map (led_to g n of) elements)
each_own g n of other = aborted []

-- ---- kinds

-- the name of the element type of a list type
abbrev pub element_name : Option Kind → Text
element_name (Some (ListKind of)) = of
element_name other = []

abbrev pub parts_of : Option Kind → List PartDecl
parts_of (Some (CompoundKind parts)) = parts
parts_of other = []

abbrev pub is_compound : Option Kind → Bool
is_compound (Some (CompoundKind parts)) = true
is_compound other = false

-- ---- tasks

-- a part of a pack: its name, and where its node is
pub record PackPart : Type 0 where
  pub name : Text
  pub led : Led

-- What runs a tool: the base, the extras, the scan node of a name where there is a path to the scan
-- type, and the outputs.
pub record ToolTask : Type 0 where
  pub base : Node
  pub name : Text
  pub tool : ToolDecl
  pub params : List ParamValue
  pub extras : List Led
  pub root : Text
  pub scan : Text → Option Node
  pub outs : List Text
  pub makes_compound : Bool

pub data Task : Type 0 where
  -- the text of a source
  given : Text → Task
  -- what the key picks from the base
  picked : Node → Text → Task
  -- what follows from the value of the base alone
  mapped : Node → (Value → Own) → Task
  -- the values of the parts
  packed : List PackPart → Task
  tooled : ToolTask → Task
  -- there is no such maker
  unfit : Task

abbrev pub pack_part : Graph → Node → PartDecl → PackPart
pack_part g n p = record { name = p.name; led = led_to g n p.of (base_of n) }

abbrev pub extra_led : Graph → Node → Extra → Led
extra_led g n (Also of) = led_to g n of (base_of n)
extra_led g n (With name) = record { node = Some (source_node name); missing = [] }

-- the scan node of a name, with the node's parameters
abbrev pub scan_node : Graph → Node → Option Text → Text → Option Node
scan_node g n None x = None
scan_node g n (Some of) x = onward_named g (record n { source = x; steps = [] }) of

-- a simple type has one output of its own name, a compound one of each part
abbrev pub outs_of : Text → Option Kind → List Text
outs_of made kind = cond (is_compound kind) (map (λ p. p.name) (parts_of kind)) (made ∷ [])

abbrev pub tool_task : Graph → Node → MakerDecl → ToolDecl → ToolTask
tool_task g n m tool = record {
  base = base_of n;
  name = m.name;
  tool = tool;
  params = filter (λ p. list_any (bytes_eq p.param) tool.uses) n.params;
  extras = map (extra_led g n) tool.extras;
  root = n.source;
  scan = scan_node g n tool.closure;
  outs = outs_of m.to (kind_named g m.to);
  makes_compound = is_compound (kind_named g m.to);
}

abbrev pub make_task : Graph → Node → MakerDecl → Make → Task
make_task g n m (Tool tool) = tooled (tool_task g n m tool)
make_task g n m Read = mapped (base_of n) (read_own g n (element_name (kind_named g m.to)))
make_task g n m Each = mapped (base_of n) (each_own g n (element_name (kind_named g m.to)))
make_task g n m Pack = packed (map (pack_part g n) (parts_of (kind_named g m.to)))

abbrev pub maker_task : Graph → Node → Option MakerDecl → Task
maker_task g n None = unfit
maker_task g n (Some m) = make_task g n m m.make

abbrev pub step_task : Graph → Node → Option Step → Task
step_task g n None = given n.source
step_task g n (Some (Pick key)) = picked (base_of n) key
step_task g n (Some (Maker k)) = maker_task g n (slice_get (makers g) k)

unfoldable pub task_of : Graph → Node → Task
task_of g n = step_task g n (last_step n.steps)
