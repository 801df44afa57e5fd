-- The tables are made of the declarations.
use Rattle.std.proofs.Common.{◌+◌, ◌<◌, ◌≤◌, [], get_or, length, sym, subst}
use Rattle.meaning_texts.specs.Lists.{IsIn}
use Rattle.type_graph.specs.Rows.{RowsAreClosed}
use Rattle.type_graph.proofs.ContextLemmas.{kinds_of, supers_within}
use Rattle.type_graph.proofs.ClosingLemmas.{few_supers, ordered_rows}
use Rattle.type_graph.proofs.context.Context.new.Goals as goal

pub rows_if_few-requires-clause-supers : goal.rows_if_few-requires-clause-supers
rows_if_few-requires-clause-supers c = λ number other h.
    let kinds = kinds_of c.args.decls.now c.in_ok-spaces.spaces.types c.in_ok-kinds.kinds c.in_ok-spaces.ensures.types_are c.in_ok-kinds.ensures in
    subst (λ l. other < length l) (sym c.as_slice.ensures)
    (supers_within c.args.decls.now c.in_ok-kinds.kinds.supers kinds.supers_are number other (subst (λ l. IsIn other (get_or l number [])) c.as_slice.ensures h))

pub rows_if_few-requires-clause-sized : goal.rows_if_few-requires-clause-sized
rows_if_few-requires-clause-sized c =
    let kinds = kinds_of c.args.decls.now c.in_ok-spaces.spaces.types c.in_ok-kinds.kinds c.in_ok-spaces.ensures.types_are c.in_ok-kinds.ensures in
    subst (λ l. length l ≤ length c.args.decls.now + 1) (sym c.as_slice.ensures) (few_supers c.args.decls.now c.in_ok-kinds.kinds.supers kinds.supers_are)

pub invariant_of-result : goal.invariant_of-result
invariant_of-result c =
    let kinds = kinds_of c.args.decls.now c.in_ok-spaces.spaces.types c.in_ok-kinds.kinds c.in_ok-spaces.ensures.types_are c.in_ok-kinds.ensures in
    record {
      spaces_are = c.in_ok-spaces.ensures;
      kinds_are = kinds;
      rows_are = λ few. ordered_rows c.args.decls.now c.in_ok-kinds.kinds.supers kinds.supers_are c.in_ok-rows.rows (subst (λ l. RowsAreClosed l c.in_ok-rows.rows) c.as_slice.ensures (c.in_ok-rows.ensures few));
    }
