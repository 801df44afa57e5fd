-- The needs of a node, in order, as far as the results so far show them.
use Rattle.std.specs.Prelude.{◌≡◌, Bool, true, false, cond, List, [], ◌∷◌, ◌++◌, map, filter, flat_map, Option, Some, None, bytes_eq, option_map, option_to_list}
use Rattle.object_values.specs.declared.nodes.Node.{Node}
use Rattle.object_values.specs.declared.views.Value.{Value}
use Rattle.object_values.specs.declared.views.Value.TheVariants.{Simple, List as Listed}
use Rattle.object_values.specs.declared.views.View.{View}
use Rattle.meaning_texts.specs.References.{scanned_names}
use Rattle.meaning_graph.specs.Graphs.{Text, Graph}
use Rattle.meaning_texts.specs.Lists.{IsIn}
use Rattle.meaning_tasks.specs.Nodes.{source_node}
use Rattle.meaning_tasks.specs.Values.{Picked, element, pick}
use Rattle.meaning_tasks.specs.Reached.{AreReached}
use Rattle.meaning_tasks.specs.Tasks.{Task, given, picked, mapped, packed, tooled, unfit, Led, ToolTask, PackPart, led_nodes, task_of}

-- The results so far: of a node nothing, or its view.
abbrev pub Results : Type 0
Results = Node → Option View

-- What is known of each node: nothing, or that it has no value, or its value. Needs and calls go by
-- this alone.
abbrev pub Known : Type 0
Known = Node → Option (Option Value)

abbrev pub values_of : Results → Known
values_of seen n = option_map (λ v. v.value) (seen n)

-- Both know the same of each of the nodes.
abbrev pub AgreeOn : Known → Known → List Node → Type 0
AgreeOn known other nodes = (n : Node) → IsIn n nodes → known n ≡ other n

-- The second has each result of the first.
abbrev pub Grows : {A : Type 0} → (Node → Option A) → (Node → Option A) → Type 0
Grows {A} seen more = (n : Node) (v : A) → seen n ≡ Some v → more n ≡ Some v

-- ---- by what is known of a node

abbrev pub has_value : Option (Option Value) → Bool
has_value (Some (Some v)) = true
has_value other = false

-- the list, where there is a value
abbrev pub where_valued : {A : Type 0} → Option (Option Value) → List A → List A
where_valued (Some (Some v)) xs = xs
where_valued other xs = []

-- the elements of a list
abbrev pub elements_of : Option (Option Value) → List Node
elements_of (Some (Some (Listed elements))) = elements
elements_of other = []

abbrev pub element_in : Option Picked → List Node
element_in (Some (element e)) = e ∷ []
element_in other = []

-- the element that the key picks
abbrev pub picked_element : Text → Option (Option Value) → List Node
picked_element key (Some (Some v)) = element_in (pick v key)
picked_element key other = []

-- ---- needs

-- the node, and its elements where it has a result that is a list
abbrev pub with_elements : Known → Node → List Node
with_elements known n = n ∷ elements_of (known n)

abbrev pub extra_needs : Known → Led → List Node
extra_needs known e = flat_map (with_elements known) (option_to_list e.node)

-- the scan node of a reached name that is present; that of the own source isn't repeated
abbrev pub scan_needs : ToolTask → Known → Text → List Node
scan_needs t known x =
    cond (bytes_eq x t.root) [] (where_valued (known (source_node x)) (option_to_list (t.scan x)))

-- what a tool needs after a base that has a value: its elements, the extras, the scan nodes
abbrev pub tool_needs : ToolTask → Known → List Text → List Node
tool_needs t known names =
    elements_of (known t.base)
    ++ (flat_map (extra_needs known) t.extras
    ++ (option_to_list (t.scan t.root) ++ flat_map (scan_needs t known) names))

-- ---- roles

-- What a need adds: its status and messages, or, if it is a reached source, neither.
pub data Role : Type 0 where
  needed : Role
  reached : Role

pub record Need : Type 0 where
  pub node : Node
  pub role : Role

abbrev pub in_role : Role → List Node → List Need
in_role role nodes = map (λ n. record { node = n; role = role }) nodes

abbrev pub part_nodes : List PackPart → List Node
part_nodes parts = led_nodes (map (λ p. p.led) parts)

-- all needs in order, given the reached names
abbrev pub task_needs : Task → Known → List Text → List Need
task_needs (given name) known names = []
task_needs (picked base key) known names =
    in_role needed (base ∷ picked_element key (known base))
task_needs (mapped base f) known names = in_role needed (base ∷ [])
task_needs (packed parts) known names = in_role needed (part_nodes parts)
task_needs (tooled t) known names =
    in_role needed (t.base ∷ where_valued (known t.base) (tool_needs t known names))
    ++ in_role reached (where_valued (known t.base) (map source_node names))
task_needs unfit known names = []

abbrev pub nodes_of : List Need → List Node
nodes_of needs = map (λ need. need.node) needs

abbrev pub is_counted : Role → Bool
is_counted needed = true
is_counted reached = false

abbrev pub is_reached : Role → Bool
is_reached needed = false
is_reached reached = true

abbrev pub needs_of : Task → Known → List Text → List Node
needs_of t known names = nodes_of (task_needs t known names)

-- those that add their status and messages
abbrev pub counted_needs : Task → Known → List Text → List Node
counted_needs t known names =
    nodes_of (filter (λ need. is_counted need.role) (task_needs t known names))

-- the reached sources
abbrev pub reached_needs : Task → Known → List Text → List Node
reached_needs t known names =
    nodes_of (filter (λ need. is_reached need.role) (task_needs t known names))

-- ---- the lines that lead to names

-- the names in the object of a scan node
abbrev pub lines_in : Option (Option Value) → List Text
lines_in (Some (Some (Simple text))) = scanned_names text
lines_in other = []

abbrev pub lines_by : Known → Option Node → List Text
lines_by known None = []
lines_by known (Some scan) = lines_in (known scan)

-- the lines of the own source, whatever is known of its source node
abbrev pub own_lines : Task → Known → List Text
own_lines (tooled t) known = where_valued (known t.base) (lines_by known (t.scan t.root))
own_lines other known = []

-- the lines of another name, where its source node has a value
abbrev pub other_lines : Task → Known → Text → List Text
other_lines (tooled t) known x =
    where_valued (known t.base) (where_valued (known (source_node x)) (lines_by known (t.scan x)))
other_lines other known x = []

-- The reached names of a node.
abbrev pub ReachedNames : Graph → Node → Results → List Text → Type 0
ReachedNames g n seen names =
    AreReached (own_lines (task_of g n) (values_of seen))
    (other_lines (task_of g n) (values_of seen)) names

-- The list of the needs of a node.
pub record Needs (g : Graph) (n : Node) (seen : Results) (needs : List Node) : Type 0 where
  pub names : List Text
  pub reached : ReachedNames g n seen names
  pub listed : needs ≡ needs_of (task_of g n) (values_of seen) names
