use Rattle.std.proofs.Common.{◌≡◌, ◌∙◌, Bool, false, sym, ap, get_or, arith}
use Rattle.std.specs.List.{list_all}
use Rattle.std.proofs.lemmas.List.{take_all}
use Rattle.std.proofs.lemmas.List.Folds.{list_all_at}
use Rattle.object_values.specs.declared.nodes.Node.{Node}
use Rattle.meaning_tasks.specs.Needs.{Known, values_of, with_elements}
use Rattle.meaning_tasks.specs.Calls.{all_valued}
use Rattle.task_needs.proofs.KnownLemmas.{all_whole}
use Rattle.task_needs.proofs.known.all_whole.Goals as goal

pub returns-then-not-is_whole : goal.returns-then-not-is_whole
returns-then-not-is_whole g c =
    let known : Known = values_of (g.R.Results.results c.args.seen.now) in
    let whole : Node → Bool = λ n. all_valued known (with_elements known n) in
    let missing : whole (get_or c.args.nodes.now c.loop-node.node-index c.node-item.result) ≡ false = ap whole (sym c.node-item.is) ∙ sym c.is_whole.ensures ∙ c.if-not-is_whole.true in
    sym (list_all_at whole c.args.nodes.now c.loop-node.node-index c.node-item.result c.loop-node-test.true missing) ∙ all_whole known c.args.nodes.now

pub returns : goal.returns
returns g c =
    let known : Known = values_of (g.R.Results.results c.args.seen.now) in
    sym c.loop-node.invariant ∙ ap (list_all (λ (n : Node). all_valued known (with_elements known n))) (take_all c.loop-node.node-index c.args.nodes.now (omega arith)) ∙ all_whole known c.args.nodes.now
