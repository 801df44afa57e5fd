-- Maker by maker.
use Rattle.std.proofs.Common.{◌∙◌, ◌++◌, ◌∷◌, [], ap}
use Rattle.meaning_graph.specs.Graphs.{type_named, as_maker}
use Rattle.type_graph.proofs.Lemmas.{no_other, mapped_push, mapped_stays}
use Rattle.path_planner.specs.Ends.{ends_of}
use Rattle.path_planner.proofs.EndLemmas.{same_ends}
use Rattle.path_planner.proofs.plans.ends_in.Goals as goal
use Rattle.path_planner.proofs.plans.ends_in.Goals.{in-Maker+in_ok-push, in_default}

pub loop-decl-preserved : goal.loop-decl-preserved
loop-decl-preserved c = elim c.match-decl.branch [
  | in-Maker+in_ok-push w ↦
      w.made-is ∙ w.in_ok-push.ensures.ok
      ∙ ap (λ e. c.loop-decl.made ++ e ∷ []) (same_ends (w.type_named.ensures ∙ ap (type_named c.args.graph.now) w.as_slice.ensures) (w.type_named-in-Maker.ensures ∙ ap (type_named c.args.graph.now) w.as_slice-in-Maker.ensures))
      ∙ ap (λ l. l ++ ends_of c.args.graph.now w.in-Maker.maker ∷ []) c.loop-decl.invariant
      ∙ mapped_push as_maker (ends_of c.args.graph.now) c.decls-decl-items.result.now c.loop-decl.decl-index c.decl-item.result c.loop-decl-test.true c.decl-item.is w.in-Maker.maker (ap as_maker w.in-Maker.is)
  | in_default w ↦
      w.made-is ∙ c.loop-decl.invariant
      ∙ mapped_stays as_maker (ends_of c.args.graph.now) c.decls-decl-items.result.now c.loop-decl.decl-index c.decl-item.result c.loop-decl-test.true c.decl-item.is (no_other c.decl-item.result w.in_default.not-Maker)
]
