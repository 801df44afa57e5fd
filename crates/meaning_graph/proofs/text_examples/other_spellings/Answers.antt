use Rattle.std.proofs.Common.{[], ◌∷◌, refl}
use Rattle.std.specs.Prelude.{codes}
use Rattle.object_values.specs.declared.graph.Kind.TheVariants.{Simple}
use Rattle.meaning_graph.specs.Types.{is_a}
use Rattle.meaning_graph.specs.Samples.{simple, declared}
use Rattle.meaning_graph.specs.Checks.{has_fault, first_fault}
use Rattle.meaning_graph.proofs.Samples.{spelling_if, text_if}
use Rattle.meaning_graph.proofs.text_examples.other_spellings.Goals as goal

pub returns : goal.returns
unfolding first_fault has_fault is_a
returns c = record {
  read = text_if (codes "# types;\n\ttype  t\nsimple;type u simple is t;# the end") (simple (codes "t") ∷ declared (codes "u") Simple (codes "t" ∷ []) ∷ []) (spelling_if _ refl refl refl) refl;
  empty = text_if [] [] (spelling_if [] refl refl refl) refl;
}
