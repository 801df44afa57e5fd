use Rattle.std.proofs.Common.{◌∙◌, ap, arith, List, ◌++◌, flat_map, append_assoc}
use Rattle.std.specs.Prelude.{option_to_list}
use Rattle.std.proofs.lemmas.List.{take_all}
use Rattle.object_values.specs.declared.nodes.Node.{Node}
use Rattle.meaning_graph.specs.Graphs.{Text}
use Rattle.meaning_tasks.specs.Tasks.{scan_node, tool_task}
use Rattle.meaning_tasks.specs.Needs.{values_of, scan_needs}
use Rattle.node_tasks.proofs.NeedLemmas.{one_more}
use Rattle.node_tasks.proofs.needing.put_scans.Goals as goal

pub loop-name-preserved : goal.loop-name-preserved
loop-name-preserved g c m =
    one_more (scan_needs (tool_task c.args.planned.now c.args.node.now m c.args.tool.now) (values_of (g.R.Results.results c.args.seen.now))) c.args.names.now c.loop-name.name-index c.name-item.result
    c.loop-name-test.true c.name-item.is c.put_scan.new.scans c.loop-name.scans c.put_reached_scan.new.scans (c.loop-name.invariant m) (c.in_ok-put_reached_scan.ensures m)

pub returns : goal.returns
returns g c m =
    let scans : Text → List Node = scan_needs (tool_task c.args.planned.now c.args.node.now m c.args.tool.now) (values_of (g.R.Results.results c.args.seen.now)) in
    let own : Text → List Node = λ x. option_to_list (scan_node c.args.planned.now c.args.node.now c.args.tool.now.closure x) in
    c.loop-name.invariant m
    ∙ (λ i. (c.in_ok-put_scan.ensures ∙ ap (λ x. c.args.scans.now ++ own x) c.as_slice.ensures) i ++ flat_map scans (take_all c.loop-name.name-index c.args.names.now (omega arith) i))
    ∙ append_assoc c.args.scans.now (own c.args.node.now.source) (flat_map scans c.args.names.now)
