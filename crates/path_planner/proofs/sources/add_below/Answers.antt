-- Type by type.
use Rattle.std.proofs.Common.{◌≡◌, ◌∙◌, ◌+◌, length, sym, subst, arith}
use Rattle.meaning_graph.specs.Graphs.{types}
use Rattle.path_planner.specs.Near.{AddsBelow}
use Rattle.path_planner.proofs.SourceLemmas.{adds_one, adds_other}
use Rattle.path_planner.proofs.sources.add_below.Goals as goal
use Rattle.path_planner.proofs.sources.add_below.Goals.{then-is_a+in_ok-push, else-is_a}

pub loop-a-preserved : goal.loop-a-preserved
loop-a-preserved c = elim c.if-is_a.branch [
  | then-is_a+in_ok-push w ↦ subst (AddsBelow c.args.graph.now c.args.of (c.loop-a.a + 1) c.args.sources.now) (sym (w.sources-is ∙ w.in_ok-push.ensures.ok))
      (adds_one c.args.graph.now c.args.of c.args.sources.now c.loop-a.a c.loop-a.sources c.loop-a.invariant (sym c.is_a.ensures ∙ w.if-is_a.true))
  | else-is_a w ↦ subst (AddsBelow c.args.graph.now c.args.of (c.loop-a.a + 1) c.args.sources.now) (sym w.sources-is)
      (adds_other c.args.graph.now c.args.of c.args.sources.now c.loop-a.a c.loop-a.sources c.loop-a.invariant (sym c.is_a.ensures ∙ w.if-is_a.false))
]

pub returns : goal.returns
returns c =
    let all : c.loop-a.a ≡ length (types c.args.graph.now) = omega (arith, c.loop-a-test.false, c.loop-a.auto.a-end, c.type_count-a-end.ensures) in
    subst (λ n. AddsBelow c.args.graph.now c.args.of n c.args.sources.now c.loop-a.sources) all c.loop-a.invariant
