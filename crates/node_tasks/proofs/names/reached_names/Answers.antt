use Rattle.std.proofs.Common.{◌≡◌, ◌∙◌, sym, ap, subst, rules, false}
use Rattle.std.specs.Prelude.{None, IfOk}
use Rattle.meaning_tasks.specs.Nodes.{base_of}
use Rattle.meaning_tasks.specs.Reached.{AreReached}
use Rattle.meaning_tasks.specs.Tasks.{tool_task, task_of}
use Rattle.meaning_tasks.specs.Needs.{Known, values_of, has_value, own_lines, other_lines}
use Rattle.node_tasks.proofs.NeedLemmas.{no_tool_names, no_scan_names, no_value_names}
use Rattle.node_tasks.proofs.names.reached_names.Goals as goal

pub returns-in_default : goal.returns-in_default
returns-in_default g c = no_tool_names (task_of c.args.planned.now c.args.node.now) (values_of (g.R.Results.results c.args.seen.now)) c.new.result c.new.ensures (rw c.graph.ensures at c.in_default.ensures.none)

pub returns-then-is_none : goal.returns-then-is_none
returns-then-is_none g c =
    let known : Known = values_of (g.R.Results.results c.args.seen.now) in
    let none : c.in-Some.tool.now.closure ≡ None = search rules in
    subst (λ t. AreReached (own_lines t known) (other_lines t known) c.new-then-is_none.result) (sym (rw c.graph.ensures at c.in-Some.ensures.some))
    (no_scan_names c.args.planned.now c.args.node.now c.in-Some.field-0-0.now c.in-Some.tool.now known c.new-then-is_none.result c.new-then-is_none.ensures none)

pub returns-in_default-value_of : goal.returns-in_default-value_of
returns-in_default-value_of g c =
    let known : Known = values_of (g.R.Results.results c.args.seen.now) in
    let none : has_value (known (base_of c.args.node.now)) ≡ false = sym (ap (λ b. has_value (known b)) c.in_ok-base.ensures) ∙ c.in_default-value_of.ensures.none in
    subst (λ t. AreReached (own_lines t known) (other_lines t known) c.new-in_default-value_of.result) (sym (rw c.graph.ensures at c.in-Some.ensures.some))
    (no_value_names (tool_task c.args.planned.now c.args.node.now c.in-Some.field-0-0.now c.in-Some.tool.now) known c.new-in_default-value_of.result c.new-in_default-value_of.ensures none)

pub returns : goal.returns
returns g c =
    let known : Known = values_of (g.R.Results.results c.args.seen.now) in
    subst (λ t. IfOk c.names_of_tool.result (AreReached (own_lines t known) (other_lines t known))) (sym (rw c.graph.ensures at c.in-Some.ensures.some)) (c.names_of_tool.ensures c.in-Some.field-0-0.now)
