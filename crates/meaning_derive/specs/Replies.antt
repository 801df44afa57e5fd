-- The replies that show a view, a chain of nodes and the steps to a node. `reply_text` of
-- meaning_commands gives their bytes.
use Rattle.std.specs.Prelude.{List, [], ◌++◌, map, Option, Some, None, slice_get, codes}
use Rattle.object_values.specs.declared.nodes.Step.{Step}
use Rattle.object_values.specs.declared.nodes.Step.TheVariants.{Maker, Pick}
use Rattle.object_values.specs.declared.nodes.Node.{Node}
use Rattle.object_values.specs.declared.views.Value.{Value}
use Rattle.object_values.specs.declared.views.Value.TheVariants.{Simple, List as Listed, Compound}
use Rattle.object_values.specs.declared.views.View.{View}
use Rattle.object_values.specs.declared.graph.MakerDecl.{MakerDecl}
use Rattle.meaning_graph.specs.Graphs.{Text, Graph, makers}
use Rattle.meaning_tasks.specs.Labels.{node_text}
use Rattle.object_values.specs.declared.replies.Reply.{Reply}
use Rattle.object_values.specs.declared.replies.Reply.TheVariants as reply
use Rattle.object_values.specs.declared.replies.ShownBody.{ShownBody}
use Rattle.object_values.specs.declared.replies.ShownBody.TheVariants as body

abbrev pub node_texts : Graph → List Node → List Text
node_texts g nodes = map (node_text g) nodes

-- ---- objects

-- what is shown of a value: a list by the texts of its nodes
abbrev pub shown_body : Graph → Option Value → ShownBody
shown_body g None = body.Nothing
shown_body g (Some (Simple text)) = body.Simple text
shown_body g (Some (Listed elements)) = body.List (node_texts g elements)
shown_body g (Some (Compound parts)) = body.Compound parts

abbrev pub shown : Graph → View → Reply
shown g view = reply.Shown view.status (shown_body g view.value) view.messages

-- ---- refusals

abbrev pub refused_circular : Graph → List Node → Reply
refused_circular g chain = reply.RefusedCircular (node_texts g chain)

abbrev pub refused_deep : Graph → List Node → Reply
refused_deep g chain = reply.RefusedDeep (node_texts g chain)

-- ---- steps

abbrev pub maker_name : Option MakerDecl → Text
maker_name None = []
maker_name (Some m) = m.name

-- a maker by its name, a pick by its key
abbrev pub step_line : Graph → Step → Text
step_line g (Maker k) = maker_name (slice_get (makers g) k)
step_line g (Pick key) = codes "%" ++ key

abbrev pub plan_of : Graph → Node → Reply
plan_of g n = reply.Plan (map (step_line g) n.steps)
