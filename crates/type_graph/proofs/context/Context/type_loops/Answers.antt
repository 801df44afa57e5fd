-- Supertypes lead back to the type by its number.
use Rattle.std.proofs.Common.{◌∙◌, sym, ap, subst}
use Rattle.std.specs.List.{list_any}
use Rattle.std.specs.Prelude.{filter_map}
use Rattle.std.proofs.lemmas.Result.{IfOk-weaker}
use Rattle.meaning_texts.specs.Lists.{IsIn}
use Rattle.meaning_graph.specs.Graphs.{type_named}
use Rattle.meaning_graph.specs.Types.{is_a}
use Rattle.type_graph.proofs.LoopLemmas.{numbers_within, loop_named, no_loop}
use Rattle.type_graph.proofs.context.Context.type_loops.Goals as goal

pub any_is-requires-clause-starts : goal.any_is-requires-clause-starts
any_is-requires-clause-starts c = λ number h.
    numbers_within c.args.self.now c.args.declared.now.supers number (subst (IsIn number) (c.as_slice-in-Some.ensures ∙ c.in_ok-starts.ensures ∙ ap (filter_map (type_named c.args.self.now)) c.as_slice.ensures) h)

pub returns-in-Some : goal.returns-in-Some
returns-in-Some c =
    let same = c.as_slice-in-Some.ensures ∙ c.in_ok-starts.ensures ∙ ap (filter_map (type_named c.args.self.now)) c.as_slice.ensures in
    IfOk-weaker c.any_is.result _ _ (λ loops is.
    is ∙ ap (list_any (λ start. is_a c.args.self.now start c.in-Some.number)) same
    ∙ loop_named c.args.self.now c.args.declared.now.name c.in-Some.number c.args.declared.now.supers (sym c.in-Some.ensures)) c.any_is.ensures

pub returns : goal.returns
returns c = no_loop c.args.self.now c.args.declared.now.name c.args.declared.now.supers (sym c.in-None.ensures)
