use Rattle.std.proofs.Common.{refl}
use Rattle.meaning_graph.specs.Types.{is_a}
use Rattle.meaning_graph.specs.Checks.{has_fault, first_fault}
use Rattle.meaning_graph.proofs.text_examples.wrong_kinds.Goals as goal

pub returns : goal.returns
unfolding first_fault has_fault is_a
returns c = record { elements = refl; parts = refl; simple_is_list = refl; list_is_simple = refl; compound_is = refl; suffix_of_list = refl; tool_makes_list = refl; closure_is_list = refl; read_of_list = refl; each_of_simple = refl; each_to_simple = refl; pack_to_simple = refl; unknown_elements = refl }
