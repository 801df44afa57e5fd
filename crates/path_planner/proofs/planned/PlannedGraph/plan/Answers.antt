-- The computed path is the chosen one.
use Rattle.std.proofs.Common.{◌≡◌, ◌∙◌, ◌<◌, length, arith, ap, sym, subst}
use Rattle.std.specs.Prelude.{IfOk}
use Rattle.std.proofs.lemmas.Result.{IfOk-weaker}
use Rattle.meaning_graph.specs.Graphs.{Graph, types}
use Rattle.meaning_graph.specs.Paths.{chosen_path}
use Rattle.meaning_graph.proofs.Lemmas.{path_chosen}
use Rattle.path_planner.specs.Ends.{Planned, IsChosen, near_from}
use Rattle.path_planner.specs.Near.{IsAllNear}
use Rattle.path_planner.proofs.EndLemmas.{is_chosen}
use Rattle.path_planner.proofs.TableLemmas.{length_rows, row_read}
use Rattle.path_planner.proofs.planned.PlannedGraph.plan.Goals as goal

pub bounds-as_slice-to : goal.bounds-as_slice-to
bounds-as_slice-to c =
    let g = c.self.inside.graph.now in
    let made = c.as_slice.ensures ∙ ap (λ (v : Planned). v.2) (c.plans.view_is ∙ c.self.invariant) in
    omega (arith, ap length made, length_rows (λ n. near_from g n 0 (length (types g))) (length (types g)), ap (λ (g : Graph). length (types g)) c.self.view_is, c.requires.to)

pub route-requires-clause-sized : goal.route-requires-clause-sized
route-requires-clause-sized c =
    let g = c.self.inside.graph.now in
    let made = c.as_slice.ensures ∙ ap (λ (v : Planned). v.2) (c.plans.view_is ∙ c.self.invariant) in
    let to : c.args.to < length (types g) = subst (λ (g : Graph). c.args.to < length (types g)) (sym c.self.view_is) c.requires.to in
    ap length c.as_slice-near.ensures ∙ (row_read g c.args.to c.as_slice.result.now _ made to c.index-as_slice-to.is).sized

pub returns-clause-ok : goal.returns-clause-ok
returns-clause-ok c =
    let g = c.self.inside.graph.now in
    let from = c.args.from in
    let to = c.args.to in
    let made = c.as_slice.ensures ∙ ap (λ (v : Planned). v.2) (c.plans.view_is ∙ c.self.invariant) in
    let below : to < length (types g) = subst (λ (g : Graph). to < length (types g)) (sym c.self.view_is) c.requires.to in
    subst (λ (g : Graph). IfOk c.route.result (λ path. path ≡ chosen_path g from to)) c.self.view_is
    (c.route.ensures to (subst (IsAllNear g to) (sym c.as_slice-near.ensures) (row_read g to c.as_slice.result.now _ made below c.index-as_slice-to.is)))

pub returns-clause-chosen : goal.returns-clause-chosen
returns-clause-chosen c =
    let g = c.args.self.now in
    let from = c.args.from in
    let to = c.args.to in
    IfOk-weaker c.route.result _ _ (λ path is. subst (IsChosen g from to) (sym is) (is_chosen g from to (chosen_path g from to) (path_chosen g from to))) (returns-clause-ok c)
