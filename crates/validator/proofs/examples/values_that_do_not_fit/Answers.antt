use Rattle.std.proofs.Common.{refl}
use Rattle.std.specs.Fmt.{digits}
use Rattle.meaning_graph.specs.Suffixes.{source_type}
use Rattle.meaning_graph.specs.Types.{is_a}
use Rattle.meaning_tasks.specs.Nodes.{reached_type}
use Rattle.validator.proofs.FitLemmas.{tested_no}
use Rattle.validator.proofs.examples.values_that_do_not_fit.Goals as goal

pub returns : goal.returns
unfolding digits source_type is_a reached_type
returns c = record { header = tested_no _ _ refl; last = tested_no _ _ refl; strange = tested_no _ _ refl; simple_for_list = tested_no _ _ refl; compound_for_list = tested_no _ _ refl; list_for_simple = tested_no _ _ refl; list_for_text = tested_no _ _ refl; simple_for_compound = tested_no _ _ refl }
