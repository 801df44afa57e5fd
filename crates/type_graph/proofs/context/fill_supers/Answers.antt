-- Type by type.
use Rattle.std.proofs.Common.{◌∙◌, ◌++◌, ◌∷◌, [], ap}
use Rattle.std.specs.Prelude.{filter_map}
use Rattle.object_values.specs.declared.graph.TypeDecl.{TypeDecl}
use Rattle.type_graph.specs.Places.{place_of}
use Rattle.type_graph.proofs.ContextLemmas.{table_push, table_stays}
use Rattle.type_graph.proofs.context.fill_supers.Goals as goal
use Rattle.type_graph.proofs.context.fill_supers.Goals.{in-ObjectType+in_ok-numbers_of+in_ok-push-2, in_default}

pub loop-decl-preserved : goal.loop-decl-preserved
loop-decl-preserved c =
    let g = c.args.decls.now in
    let at = c.loop-decl.decl-index in
    let item = c.decl-item.result in
    let chosen = filter_map (place_of c.args.names.now) in
    let supers = λ (t : TypeDecl). chosen t.supers in
    elim c.match-decl.branch [
      | in-ObjectType+in_ok-numbers_of+in_ok-push-2 w ↦
          w.supers-is ∙ w.in_ok-push-2.ensures.ok ∙ ap (λ s. c.loop-decl.supers ++ s ∷ []) (w.in_ok-numbers_of.ensures ∙ ap chosen w.as_slice.ensures)
          ∙ table_push supers g at item c.loop-decl-test.true c.decl-item.is c.loop-decl.supers c.loop-decl.invariant w.in-ObjectType.declared w.in-ObjectType.is
      | in_default w ↦
          w.supers-is ∙ table_stays supers g at item c.loop-decl-test.true c.decl-item.is c.loop-decl.supers c.loop-decl.invariant w.in_default.not-ObjectType
    ]
