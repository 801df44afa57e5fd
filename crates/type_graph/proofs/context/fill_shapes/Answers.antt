-- Type by type.
use Rattle.std.proofs.Common.{◌∙◌, ◌++◌, ◌∷◌, [], ap}
use Rattle.object_values.specs.declared.graph.TypeDecl.{TypeDecl}
use Rattle.type_graph.specs.Places.{place_of}
use Rattle.type_graph.specs.Shapes.{shape_of}
use Rattle.type_graph.proofs.ContextLemmas.{table_push, table_stays}
use Rattle.type_graph.proofs.context.fill_shapes.Goals as goal
use Rattle.type_graph.proofs.context.fill_shapes.Goals.{in-ObjectType+in_ok-push-2, in_default}

pub loop-decl-preserved : goal.loop-decl-preserved
loop-decl-preserved c =
    let g = c.args.decls.now in
    let at = c.loop-decl.decl-index in
    let item = c.decl-item.result in
    let shape = λ (t : TypeDecl). shape_of (place_of c.args.names.now) t.kind in
    elim c.match-decl.branch [
      | in-ObjectType+in_ok-push-2 w ↦
          w.shapes-is ∙ w.in_ok-push-2.ensures.ok ∙ ap (λ s. c.loop-decl.shapes ++ s ∷ []) w.shape_of.ensures
          ∙ table_push shape g at item c.loop-decl-test.true c.decl-item.is c.loop-decl.shapes c.loop-decl.invariant w.in-ObjectType.declared w.in-ObjectType.is
      | in_default w ↦
          w.shapes-is ∙ table_stays shape g at item c.loop-decl-test.true c.decl-item.is c.loop-decl.shapes c.loop-decl.invariant w.in_default.not-ObjectType
    ]
