-- The steps lead on from the type of the source.
use Rattle.std.proofs.Common.{ℕ, ◌<◌, ◌∙◌, List, length, ap, sym, subst}
use Rattle.std.specs.Prelude.{Some}
use Rattle.object_values.specs.declared.nodes.Step.{Step}
use Rattle.meaning_graph.specs.Graphs.{types}
use Rattle.meaning_graph.specs.Suffixes.{source_type}
use Rattle.meaning_tasks.specs.Nodes.{type_after, reached_type}
use Rattle.odin_nodes.proofs.TypeLemmas.{source_below}
use Rattle.odin_nodes.proofs.types.reached_type.Goals as goal

pub type_after-requires : goal.type_after-requires
type_after-requires c = subst (λ (t : ℕ). t < length (types c.args.graph.now)) (sym c.source_type-source.ensures) (source_below c.args.graph.now c.as_slice.result.now)

pub returns : goal.returns
unfolding reached_type
returns c =
    c.type_after.ensures ∙ ap (λ (l : List Step). type_after c.args.graph.now (Some c.source_type-source.result) l) c.as_slice-2.ensures
    ∙ ap (λ (t : ℕ). type_after c.args.graph.now (Some t) c.args.node.now.steps) (c.source_type-source.ensures ∙ ap (source_type c.args.graph.now) c.as_slice.ensures)
