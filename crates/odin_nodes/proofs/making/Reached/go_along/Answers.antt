-- Each maker of the path takes what the one before it makes.
use Rattle.std.proofs.Common.{◌∙◌, ◌++◌, ℕ, List, map, ap, sym, subst}
use Rattle.std.specs.Prelude.{Some}
use Rattle.object_values.specs.declared.nodes.Step.TheVariants.{Maker}
use Rattle.meaning_graph.specs.Paths.{Chosen}
use Rattle.meaning_tasks.specs.Nodes.{type_after}
use Rattle.path_planner.specs.Ends.{IsChosen}
use Rattle.odin_nodes.proofs.TypeLemmas.{reached_below}
use Rattle.odin_nodes.proofs.MakeLemmas.{path_typed, made_by_path}
use Rattle.odin_nodes.proofs.making.Reached.go_along.Goals as goal

pub plan-requires-clause-from : goal.plan-requires-clause-from
plan-requires-clause-from c = reached_below c.args.planned.now c.args.self.now.node c.args.self.now.at c.requires.typed

pub type_along-requires : goal.type_along-requires
type_along-requires c = record { from = reached_below c.args.planned.now c.args.self.now.node c.args.self.now.at c.requires.typed }

pub unreachable-requires : goal.unreachable-requires
unreachable-requires c =
    let chosen : Chosen c.args.planned.now c.args.self.now.at c.args.to c.in-Some.path = subst (IsChosen c.args.planned.now c.args.self.now.at c.args.to) c.in-Some.is c.in_ok-path.ensures.chosen in
    path_typed c.args.planned.now c.args.self.now.at c.args.to c.in-Some.path chosen.path
    (sym c.in_default-type_along.is ∙ c.type_along.ensures ∙ ap (λ (p : List ℕ). type_after c.args.planned.now (Some c.args.self.now.at) (map Maker p)) c.as_slice.ensures)

pub returns-clause-ok : goal.returns-clause-ok
returns-clause-ok c =
    made_by_path c.args.planned.now c.args.self.now.node c.args.self.now.at c.requires.typed c.args.number c.args.to c.in-Some.path c.put_makers.new.steps c.in-Some-type_along.at
    (c.in_ok-put_makers.ensures ∙ ap (λ (p : List ℕ). c.args.self.now.node.steps ++ map Maker p) c.as_slice-2.ensures)
    (sym c.in-Some.is ∙ c.in_ok-path.ensures.ok)
    (sym c.in-Some-type_along.is ∙ c.type_along.ensures ∙ ap (λ (p : List ℕ). type_after c.args.planned.now (Some c.args.self.now.at) (map Maker p)) c.as_slice.ensures)
