-- A walk over the table of supertypes answers as the order of types does.
use Rattle.std.proofs.Common.{◌∙◌, ◌<◌, sym, ap, subst, length, get_or, []}
use Rattle.std.specs.List.{list_any}
use Rattle.std.proofs.lemmas.Result.{IfOk-weaker}
use Rattle.meaning_texts.specs.Lists.{IsIn}
use Rattle.meaning_graph.specs.Graphs.{types}
use Rattle.type_graph.specs.Walks.{IsReachedFrom}
use Rattle.meaning_graph.specs.Types.{is_a}
use Rattle.type_graph.proofs.ContextLemmas.{each_type, supers_within, above_is}
use Rattle.type_graph.proofs.context.Context.above.Goals as goal

pub reached-requires-clause-starts : goal.reached-requires-clause-starts
reached-requires-clause-starts c = λ number h.
    subst (λ n. number < n) (sym (ap length c.as_slice.ensures ∙ each_type c.self.inside.decls.now c.self.inside.kinds.supers c.self.invariant.kinds_are.supers_are ∙ ap (λ g. length (types g)) c.self.view_is)) (c.requires number h)

pub reached-requires-clause-supers : goal.reached-requires-clause-supers
reached-requires-clause-supers c = λ number other h.
    subst (λ l. other < length l) (sym c.as_slice.ensures) (supers_within c.self.inside.decls.now c.self.inside.kinds.supers c.self.invariant.kinds_are.supers_are number other (subst (λ l. IsIn other (get_or l number [])) c.as_slice.ensures h))

pub returns : goal.returns
returns c = IfOk-weaker c.reached.result _ _ (λ row reached. record {
  sized = reached.sized ∙ ap length c.as_slice.ensures ∙ each_type c.self.inside.decls.now c.self.inside.kinds.supers c.self.invariant.kinds_are.supers_are ∙ ap (λ g. length (types g)) c.self.view_is;
  right = λ number.
      above_is c.self.inside.decls.now c.self.inside.kinds.supers c.self.invariant.kinds_are.supers_are c.args.starts.now row number
      (λ h. subst (λ l. IsReachedFrom l c.args.starts.now number) c.as_slice.ensures ((reached.right number).0 h))
      (λ r. (reached.right number).1 (subst (λ l. IsReachedFrom l c.args.starts.now number) (sym c.as_slice.ensures) r))
      ∙ ap (λ g. list_any (λ start. is_a g start number) c.args.starts.now) c.self.view_is;
}) c.reached.ensures
