-- Suffix by suffix.
use Rattle.std.proofs.Common.{◌∙◌, ◌++◌, ◌∷◌, [], ap, arith}
use Rattle.std.specs.Prelude.{unwrap_or}
use Rattle.meaning_graph.specs.Graphs.{type_named, as_suffix}
use Rattle.type_graph.specs.Tables.{suffix_number}
use Rattle.type_graph.proofs.ContextLemmas.{mapped_push, mapped_stays, number_fits, no_suffix_there}
use Rattle.type_graph.proofs.tables.fill_suffix_types.Goals as goal
use Rattle.type_graph.proofs.tables.fill_suffix_types.Goals.{in-Suffix+in_ok-push, in_default}

pub overflow_cast-unwrap_or : goal.overflow_cast-unwrap_or
overflow_cast-unwrap_or c = omega (arith, c.unwrap_or.ensures, number_fits c.args.decls.now c.in-Suffix.declared.of c.requires.few c.number.result (c.number.ensures ∙ ap (λ g. type_named g c.in-Suffix.declared.of) c.requires.same))

pub loop-decl-preserved : goal.loop-decl-preserved
loop-decl-preserved c = elim c.match-decl.branch [
  | in-Suffix+in_ok-push w ↦
      w.made-is ∙ w.in_ok-push.ensures.ok ∙ ap (λ n. c.loop-decl.made ++ n ∷ []) (w.unwrap_or.ensures ∙ ap (λ o. unwrap_or o 0) (w.number.ensures ∙ ap (λ g. type_named g w.in-Suffix.declared.of) c.requires.same))
      ∙ ap (λ l. l ++ suffix_number c.args.decls.now w.in-Suffix.declared ∷ []) c.loop-decl.invariant
      ∙ mapped_push as_suffix (suffix_number c.args.decls.now) c.args.decls.now c.loop-decl.decl-index c.decl-item.result c.loop-decl-test.true c.decl-item.is w.in-Suffix.declared (ap as_suffix w.in-Suffix.is)
  | in_default w ↦
      w.made-is ∙ c.loop-decl.invariant
      ∙ mapped_stays as_suffix (suffix_number c.args.decls.now) c.args.decls.now c.loop-decl.decl-index c.decl-item.result c.loop-decl-test.true c.decl-item.is (no_suffix_there c.decl-item.result w.in_default.not-Suffix)
]
