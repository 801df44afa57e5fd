-- The least maker that leads from the one type to the other is the chosen path.
use Rattle.std.proofs.Common.{◌≡◌, ◌∷◌, [], ◌∙◌, sym, subst, slice_get, option_and_then}
use Rattle.std.specs.Prelude.{Some, IfSome}
use Rattle.meaning_graph.specs.Graphs.{Graph, makers}
use Rattle.meaning_graph.specs.Paths.{made_of, chosen_path}
use Rattle.path_planner.proofs.DirectLemmas.{direct_path, direct_makes}
use Rattle.path_planner.proofs.planned.PlannedGraph.direct.Goals as goal

pub returns-clause-path : goal.returns-clause-path
returns-clause-path c =
    subst (λ (g : Graph). IfSome c.direct.result (λ found. chosen_path g c.args.from c.args.to ≡ Some (found.0 ∷ []))) c.self.view_is
    (direct_path c.self.inside.graph.now c.args.from c.args.to c.direct.result (sym c.is_a.ensures ∙ c.if-is_a.false) c.direct.ensures)

pub returns-clause-makes : goal.returns-clause-makes
returns-clause-makes c =
    subst (λ (g : Graph). IfSome c.direct.result (λ found. Some found.1 ≡ option_and_then (made_of g c.args.from) (slice_get (makers g) found.0))) c.self.view_is
    (direct_makes c.self.inside.graph.now c.args.from c.args.to c.direct.result c.direct.ensures)
