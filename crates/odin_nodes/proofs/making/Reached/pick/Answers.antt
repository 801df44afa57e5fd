use Rattle.std.proofs.Common.{◌∙◌, ◌++◌, ◌∷◌, [], ap, sym}
use Rattle.object_values.specs.declared.nodes.Step.TheVariants.{Pick}
use Rattle.meaning_graph.specs.Graphs.{Text, kind_of}
use Rattle.meaning_tasks.specs.Nodes.{picked_type}
use Rattle.odin_nodes.proofs.MakeLemmas.{picks_none, made_by_pick}
use Rattle.odin_nodes.proofs.making.Reached.pick.Goals as goal

pub returns-in_default-clause-err : goal.returns-in_default-clause-err
returns-in_default-clause-err c =
    picks_none c.args.graph.now c.args.self.now.node c.args.self.now.at c.requires.typed c.args.number c.args.key.now
    (sym c.in_default.is ∙ c.picked_type.ensures ∙ ap (λ (k : Text). picked_type c.args.graph.now k (kind_of c.args.graph.now c.args.self.now.at)) c.as_slice.ensures)

pub returns-clause-ok : goal.returns-clause-ok
returns-clause-ok c =
    made_by_pick c.args.graph.now c.args.self.now.node c.args.self.now.at c.requires.typed c.args.number c.args.key.now c.push.new.self c.in-Some.at
    (c.in_ok-push.ensures.ok ∙ ap (λ (k : Text). c.args.self.now.node.steps ++ Pick k ∷ []) (c.in_ok-key.ensures ∙ c.in_ok-copy.ensures))
    (sym c.in-Some.is ∙ c.picked_type.ensures ∙ ap (λ (k : Text). picked_type c.args.graph.now k (kind_of c.args.graph.now c.args.self.now.at)) c.as_slice.ensures)
