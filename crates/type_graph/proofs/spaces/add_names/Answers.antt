-- Name by name.
use Rattle.std.proofs.Common.{◌∙◌, ◌+◌, sym, ap, subst}
use Rattle.type_graph.specs.Places.{with_place}
use Rattle.type_graph.proofs.SpaceLemmas.{IsSoFar, named_next, other_next}
use Rattle.type_graph.proofs.spaces.add_names.Goals as goal
use Rattle.type_graph.proofs.spaces.add_names.Goals.{in-Some+in_ok-add-2, in_default}

pub loop-decl-preserved : goal.loop-decl-preserved
loop-decl-preserved c = elim c.match-name_in.branch [
  | in-Some+in_ok-add-2 w ↦
      let grown = named_next c.args.space c.args.decls.now c.loop-decl.decl-index c.loop-decl.names c.if-eq.built_in c.loop-decl.declared c.loop-decl.invariant c.decl-item.result c.loop-decl-test.true c.decl-item.is w.in-Some.name.now (sym w.in-Some.ensures) in
      let names_are = w.names-is ∙ w.in_ok-add-2.ensures ∙ ap (λ n. with_place c.loop-decl.names n (c.if-eq.built_in + c.loop-decl.declared)) w.as_slice.ensures in
      subst (λ t. IsSoFar c.args.space c.args.decls.now (c.loop-decl.decl-index + 1) t c.if-eq.built_in c.match-name_in.declared) (sym names_are)
      (subst (λ n. IsSoFar c.args.space c.args.decls.now (c.loop-decl.decl-index + 1) (with_place c.loop-decl.names w.in-Some.name.now (c.if-eq.built_in + c.loop-decl.declared)) c.if-eq.built_in n) (sym w.declared-is) grown)
  | in_default w ↦
      let same = other_next c.args.space c.args.decls.now c.loop-decl.decl-index c.loop-decl.names c.if-eq.built_in c.loop-decl.declared c.loop-decl.invariant c.decl-item.result c.loop-decl-test.true c.decl-item.is (sym w.in_default.ensures) in
      subst (λ t. IsSoFar c.args.space c.args.decls.now (c.loop-decl.decl-index + 1) t c.if-eq.built_in c.match-name_in.declared) (sym w.names-is)
      (subst (λ n. IsSoFar c.args.space c.args.decls.now (c.loop-decl.decl-index + 1) c.loop-decl.names c.if-eq.built_in n) (sym w.declared-is) same)
]
