-- The names of a space are those of what is declared there, and the rows are those of the declarations.
use Rattle.std.proofs.Common.{◌∙◌, ◌≤◌, length, sym, ap, subst}
use Rattle.meaning_texts.specs.Limits.{declaration_limit}
use Rattle.meaning_graph.specs.Graphs.{params}
use Rattle.type_graph.specs.Places.{AreOf}
use Rattle.type_graph.specs.Tables.{type_names, suffix_names, AreRows}
use Rattle.type_graph.proofs.ContextLemmas.{names_of_types, names_of_suffixes, names_of_params}
use Rattle.type_graph.proofs.context.Context.into_parts.Goals as goal

pub returns-clause-named : goal.returns-clause-named
returns-clause-named c =
    let g = c.self.inside.decls.now in
    let spaces = c.self.inside.spaces in
    record {
      types_are = subst (AreOf spaces.types) (names_of_types g ∙ ap type_names c.self.view_is) c.self.invariant.spaces_are.types_are;
      params_are = subst (AreOf spaces.params) (names_of_params g ∙ ap params c.self.view_is) c.self.invariant.spaces_are.params_are;
      suffixes_are = subst (AreOf spaces.suffixes) (names_of_suffixes g ∙ ap suffix_names c.self.view_is) c.self.invariant.spaces_are.suffixes_are;
    }

pub returns-clause-ordered : goal.returns-clause-ordered
returns-clause-ordered c = λ few.
    subst (λ g. AreRows g c.self.inside.rows) c.self.view_is (c.self.invariant.rows_are (subst (λ g. length g ≤ declaration_limit) (sym c.self.view_is) few))
