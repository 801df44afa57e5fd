-- By the ends that stand at the maker's number.
use Rattle.std.proofs.Common.{◌≡◌, ◌∙◌, ◌<◌, length, sym, ap, subst, slice_get, option_and_then}
use Rattle.std.specs.Prelude.{Some}
use Rattle.std.proofs.lemmas.Bool.{ltb-true}
use Rattle.meaning_graph.specs.Graphs.{Graph, makers}
use Rattle.meaning_graph.specs.Paths.{made_of}
use Rattle.path_planner.specs.Ends.{Planned, ends_in}
use Rattle.path_planner.proofs.EndLemmas.{place_ends, ends_are_types, made_by_ends}
use Rattle.path_planner.proofs.planned.PlannedGraph.made_type.Goals as goal

ends_at : (c : goal.After-made_by-arg-1) → slice_get (ends_in c.self.inside.graph.now) c.args.number ≡ Some c.in_ok-maker.maker.now
ends_at c =
    let lookup = c.in_ok-maker.ensures.lookup in
    let below : c.args.number < length c.as_slice.result.now = ltb-true c.args.number (length c.as_slice.result.now) (sym lookup.0) in
    place_ends c.self.inside.graph.now c.as_slice.result.now c.args.number c.in_ok-maker.maker.now (c.as_slice.ensures ∙ ap (λ (v : Planned). v.0) (c.plans.view_is ∙ c.self.invariant)) below ∙ ap Some (sym lookup.1)

pub made_by-requires-clause-ends : goal.made_by-requires-clause-ends
made_by-requires-clause-ends c = ends_are_types c.self.inside.graph.now c.args.number c.in_ok-maker.maker.now (ends_at c)

pub returns : goal.returns
returns c =
    let g = c.self.inside.graph.now in
    let lookup = c.in_ok-maker.ensures.lookup in
    let below : c.args.number < length c.as_slice.result.now = ltb-true c.args.number (length c.as_slice.result.now) (sym lookup.0) in
    let at = place_ends g c.as_slice.result.now c.args.number c.in_ok-maker.maker.now (c.as_slice.ensures ∙ ap (λ (v : Planned). v.0) (c.plans.view_is ∙ c.self.invariant)) below ∙ ap Some (sym lookup.1) in
    subst (λ (g : Graph). c.made_by.result ≡ option_and_then (made_of g c.args.from) (slice_get (makers g) c.args.number)) c.self.view_is
    (c.made_by.ensures ∙ made_by_ends g c.args.from c.args.number (Some c.in_ok-maker.maker.now) (sym at))
