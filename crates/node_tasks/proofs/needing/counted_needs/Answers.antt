use Rattle.std.proofs.Common.{◌∙◌, sym, ap, List, ◌∷◌, map}
use Rattle.object_values.specs.declared.nodes.Node.{Node}
use Rattle.meaning_graph.specs.Graphs.{Text}
use Rattle.meaning_tasks.specs.Nodes.{base_of}
use Rattle.meaning_tasks.specs.Tasks.{PackPart, pack_part}
use Rattle.meaning_tasks.specs.Needs.{Known, values_of, picked_element, counted_needs}
use Rattle.meaning_tasks.proofs.Lemmas.{packed_counted_are, picked_counted_are}
use Rattle.task_needs.specs.Counting.{nodes_in}
use Rattle.node_tasks.proofs.NameLemmas.{ok_on}
use Rattle.node_tasks.proofs.needing.counted_needs.Goals as goal

pub returns-in_ok-nodes-in-Picked : goal.returns-in_ok-nodes-in-Picked
returns-in_ok-nodes-in-Picked g c =
    let known : Known = values_of (g.R.Results.results c.args.seen.now) in
    let base : Node = base_of c.args.node.now in
    ap (nodes_in known) c.only_alone.ensures ∙ c.in_ok-nodes-in-Picked.ensures ∙ ap (λ (key : Text). base ∷ picked_element key (known base)) c.as_slice.ensures
    ∙ sym (picked_counted_are (base_of c.args.node.now) c.in-Picked.key.now known c.args.names.now) ∙ sym (ap (λ t. counted_needs t known c.args.names.now) (rw c.graph.ensures at c.in-Picked.ensures))

pub returns-in_ok-nodes-in-Packed : goal.returns-in_ok-nodes-in-Packed
returns-in_ok-nodes-in-Packed g c =
    let known : Known = values_of (g.R.Results.results c.args.seen.now) in
    let packs : List PackPart = map (pack_part c.args.planned.now c.args.node.now) c.in-Packed.parts.now in
    ap (nodes_in known) c.only_alone-in-Packed.ensures ∙ c.in_ok-nodes-in-Packed.ensures
    ∙ sym (packed_counted_are packs known c.args.names.now) ∙ sym (ap (λ t. counted_needs t known c.args.names.now) (rw c.graph.ensures at c.in-Packed.ensures))

pub returns-in-Tooled : goal.returns-in-Tooled
returns-in-Tooled g c =
    let known : Known = values_of (g.R.Results.results c.args.seen.now) in
    ok_on c.tool_needs.result _ _ c.tool_needs.ensures
    (λ counted e. e c.in-Tooled.field-0.now ∙ sym (ap (λ t. counted_needs t known c.args.names.now) (rw c.graph.ensures at c.in-Tooled.ensures)))
