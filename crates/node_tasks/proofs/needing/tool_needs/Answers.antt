use Rattle.std.proofs.Common.{◌∙◌, ap, sym, ◌++◌, ◌∷◌, [], List, map, flat_map}
use Rattle.std.specs.Prelude.{option_to_list}
use Rattle.object_values.specs.declared.nodes.Node.{Node}
use Rattle.meaning_tasks.specs.Nodes.{base_of}
use Rattle.meaning_tasks.specs.Tasks.{extra_led, led_nodes, scan_node, tool_task}
use Rattle.meaning_tasks.specs.Needs.{Known, values_of, scan_needs}
use Rattle.node_tasks.proofs.NeedLemmas.{only_base, base_and_others}
use Rattle.node_tasks.proofs.needing.tool_needs.Goals as goal

pub returns-then-not-valued : goal.returns-then-not-valued
returns-then-not-valued g c m =
    only_base c.args.planned.now c.args.node.now m c.args.tool.now (values_of (g.R.Results.results c.args.seen.now)) c.args.names.now c.put_base.new.whole c.in_ok-alone.alone
    (c.in_ok-valued.ensures.base ∙ ap (λ l. l ++ base_of c.args.node.now ∷ []) c.new-whole.ensures) c.in_ok-alone.ensures (sym c.in_ok-valued.ensures.valued ∙ c.if-not-valued.true)

pub returns : goal.returns
returns g c m =
    let known : Known = values_of (g.R.Results.results c.args.seen.now) in
    let extras : List Node = led_nodes (map (extra_led c.args.planned.now c.args.node.now) c.args.tool.now.extras) in
    let scans : List Node = option_to_list (scan_node c.args.planned.now c.args.node.now c.args.tool.now.closure c.args.node.now.source) ++ flat_map (scan_needs (tool_task c.args.planned.now c.args.node.now m c.args.tool.now) known) c.args.names.now in
    base_and_others c.args.planned.now c.args.node.now m c.args.tool.now known c.args.names.now c.put_extras.new.whole c.put_scans.new.scans
    (c.in_ok-put_extras.ensures ∙ ap (λ l. l ++ extras) (c.in_ok-valued.ensures.base ∙ ap (λ l. l ++ base_of c.args.node.now ∷ []) c.new-whole.ensures))
    (c.in_ok-put_scans.ensures m ∙ ap (λ l. l ++ scans) c.in_ok-alone.ensures) (sym c.in_ok-valued.ensures.valued ∙ c.if-not-valued.false)
