-- Needs by their roles: the counted ones first, and then the reached sources.
use Rattle.std.proofs.Common.{◌≡◌, List, [], ◌∷◌, ◌++◌, ◌⊎◌, map, sym, ap, ◌∙◌, subst, refl}
use Rattle.std.specs.List.{filter}
use Rattle.std.proofs.lemmas.List.{append-nil}
use Rattle.object_values.specs.declared.nodes.Node.{Node}
use Rattle.meaning_graph.specs.Graphs.{Text}
use Rattle.meaning_texts.specs.Lists.{IsIn}
use Rattle.meaning_texts.proofs.Lemmas.{in_left, in_right, in_either}
use Rattle.meaning_tasks.specs.Nodes.{source_node}
use Rattle.meaning_tasks.specs.Tasks.{Task, given, picked, mapped, packed, tooled, unfit, ToolTask, PackPart}
use Rattle.meaning_tasks.specs.Needs.{Known, where_valued, picked_element, tool_needs, Role, needed, reached, Need, in_role, is_counted, is_reached, nodes_of, part_nodes, needs_of, counted_needs, reached_needs}

-- ---- lists in one role

abbrev counted_nodes : List Need → List Node
counted_nodes needs = nodes_of (filter (λ need. is_counted need.role) needs)

abbrev reached_nodes : List Need → List Node
reached_nodes needs = nodes_of (filter (λ need. is_reached need.role) needs)

nodes_in : (role : Role) (nodes : List Node) → nodes_of (in_role role nodes) ≡ nodes
nodes_in role [] = refl
nodes_in role (n ∷ nodes) = ap (λ l. n ∷ l) (nodes_in role nodes)

nodes_front : (role : Role) (nodes : List Node) (rest : List Need) → nodes_of (in_role role nodes ++ rest) ≡ nodes ++ nodes_of rest
nodes_front role [] rest = refl
nodes_front role (n ∷ nodes) rest = ap (λ l. n ∷ l) (nodes_front role nodes rest)

counted_in : (nodes : List Node) → counted_nodes (in_role needed nodes) ≡ nodes
counted_in [] = refl
counted_in (n ∷ nodes) = ap (λ l. n ∷ l) (counted_in nodes)

counted_front : (nodes : List Node) (rest : List Need) → counted_nodes (in_role needed nodes ++ rest) ≡ nodes ++ counted_nodes rest
counted_front [] rest = refl
counted_front (n ∷ nodes) rest = ap (λ l. n ∷ l) (counted_front nodes rest)

none_counted : (nodes : List Node) → counted_nodes (in_role reached nodes) ≡ []
none_counted [] = refl
none_counted (n ∷ nodes) = none_counted nodes

reached_in : (nodes : List Node) → reached_nodes (in_role reached nodes) ≡ nodes
reached_in [] = refl
reached_in (n ∷ nodes) = ap (λ l. n ∷ l) (reached_in nodes)

reached_front : (nodes : List Node) (rest : List Need) → reached_nodes (in_role needed nodes ++ rest) ≡ reached_nodes rest
reached_front [] rest = refl
reached_front (n ∷ nodes) rest = reached_front nodes rest

none_reached : (nodes : List Node) → reached_nodes (in_role needed nodes) ≡ []
none_reached [] = refl
none_reached (n ∷ nodes) = none_reached nodes

-- ---- of a tool

abbrev pub tool_counted : ToolTask → Known → List Text → List Node
tool_counted t known names = t.base ∷ where_valued (known t.base) (tool_needs t known names)

abbrev pub tool_reached : ToolTask → Known → List Text → List Node
tool_reached t known names = where_valued (known t.base) (map source_node names)

pub tool_needs_are : (t : ToolTask) (known : Known) (names : List Text) → needs_of (tooled t) known names ≡ tool_counted t known names ++ tool_reached t known names
tool_needs_are t known names =
    nodes_front needed (tool_counted t known names) (in_role reached (tool_reached t known names))
    ∙ ap (λ l. tool_counted t known names ++ l) (nodes_in reached (tool_reached t known names))

pub tool_counted_are : (t : ToolTask) (known : Known) (names : List Text) → counted_needs (tooled t) known names ≡ tool_counted t known names
tool_counted_are t known names =
    counted_front (tool_counted t known names) (in_role reached (tool_reached t known names))
    ∙ ap (λ l. tool_counted t known names ++ l) (none_counted (tool_reached t known names))
    ∙ append-nil (tool_counted t known names)

pub tool_reached_are : (t : ToolTask) (known : Known) (names : List Text) → reached_needs (tooled t) known names ≡ tool_reached t known names
tool_reached_are t known names =
    reached_front (tool_counted t known names) (in_role reached (tool_reached t known names))
    ∙ reached_in (tool_reached t known names)

-- ---- of the other tasks

pub picked_needs_are : (base : Node) (key : Text) (known : Known) (names : List Text) → needs_of (picked base key) known names ≡ base ∷ picked_element key (known base)
picked_needs_are base key known names = nodes_in needed (base ∷ picked_element key (known base))

pub picked_counted_are : (base : Node) (key : Text) (known : Known) (names : List Text) → counted_needs (picked base key) known names ≡ base ∷ picked_element key (known base)
picked_counted_are base key known names = counted_in (base ∷ picked_element key (known base))

pub packed_needs_are : (parts : List PackPart) (known : Known) (names : List Text) → needs_of (packed parts) known names ≡ part_nodes parts
packed_needs_are parts known names = nodes_in needed (part_nodes parts)

pub packed_counted_are : (parts : List PackPart) (known : Known) (names : List Text) → counted_needs (packed parts) known names ≡ part_nodes parts
packed_counted_are parts known names = counted_in (part_nodes parts)

-- no need of another task is a reached source
pub picked_reached_are : (base : Node) (key : Text) (known : Known) (names : List Text) → reached_needs (picked base key) known names ≡ []
picked_reached_are base key known names = none_reached (base ∷ picked_element key (known base))

pub packed_reached_are : (parts : List PackPart) (known : Known) (names : List Text) → reached_needs (packed parts) known names ≡ []
packed_reached_are parts known names = none_reached (part_nodes parts)

-- ---- of every task

-- where none is reached
all_counted : (needs counted sources nodes : List Node) → needs ≡ nodes → counted ≡ nodes → sources ≡ [] → needs ≡ counted ++ sources
all_counted needs counted sources nodes e f r = e ∙ sym f ∙ sym (append-nil counted) ∙ ap (λ l. counted ++ l) (sym r)

-- The needs are the counted ones and the reached sources.
pub needs_split : (t : Task) (known : Known) (names : List Text) → needs_of t known names ≡ counted_needs t known names ++ reached_needs t known names
needs_split (given name) known names = refl
needs_split (picked base key) known names = all_counted _ _ _ _ (picked_needs_are base key known names) (picked_counted_are base key known names) (picked_reached_are base key known names)
needs_split (mapped base f) known names = refl
needs_split (packed parts) known names = all_counted _ _ _ _ (packed_needs_are parts known names) (packed_counted_are parts known names) (packed_reached_are parts known names)
needs_split unfit known names = refl
needs_split (tooled t) known names =
    let c = tool_counted_are t known names in
    let r = tool_reached_are t known names in
    tool_needs_are t known names ∙ sym (λ i. c i ++ r i)

pub counted_in_needs : (t : Task) (known : Known) (names : List Text) (n : Node) → IsIn n (counted_needs t known names) → IsIn n (needs_of t known names)
counted_in_needs t known names n h = subst (λ l. IsIn n l) (sym (needs_split t known names)) (in_left n (counted_needs t known names) (reached_needs t known names) h)

pub reached_in_needs : (t : Task) (known : Known) (names : List Text) (n : Node) → IsIn n (reached_needs t known names) → IsIn n (needs_of t known names)
reached_in_needs t known names n h = subst (λ l. IsIn n l) (sym (needs_split t known names)) (in_right n (counted_needs t known names) (reached_needs t known names) h)

-- ---- needs of a tool, one by one

pub in_tool_counted : (t : ToolTask) (known : Known) (names : List Text) (n : Node) → IsIn n (tool_counted t known names) → IsIn n (needs_of (tooled t) known names)
in_tool_counted t known names n h = subst (λ l. IsIn n l) (sym (tool_needs_are t known names)) (in_left n (tool_counted t known names) (tool_reached t known names) h)

pub in_tool_reached : (t : ToolTask) (known : Known) (names : List Text) (n : Node) → IsIn n (tool_reached t known names) → IsIn n (needs_of (tooled t) known names)
in_tool_reached t known names n h = subst (λ l. IsIn n l) (sym (tool_needs_are t known names)) (in_right n (tool_counted t known names) (tool_reached t known names) h)

pub from_tool_needs : (t : ToolTask) (known : Known) (names : List Text) (n : Node) → IsIn n (needs_of (tooled t) known names) → IsIn n (tool_counted t known names) ⊎ IsIn n (tool_reached t known names)
from_tool_needs t known names n h = in_either n (tool_counted t known names) (tool_reached t known names) (subst (λ l. IsIn n l) (tool_needs_are t known names) h)
