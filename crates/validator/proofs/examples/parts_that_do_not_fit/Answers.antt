use Rattle.std.proofs.Common.{refl}
use Rattle.std.specs.Fmt.{digits}
use Rattle.meaning_graph.specs.Suffixes.{source_type}
use Rattle.meaning_graph.specs.Types.{is_a}
use Rattle.meaning_tasks.specs.Nodes.{reached_type}
use Rattle.validator.proofs.FitLemmas.{tested_no}
use Rattle.validator.proofs.examples.parts_that_do_not_fit.Goals as goal

pub returns : goal.returns
unfolding digits source_type is_a reached_type
returns c = record { missing = tested_no _ _ refl; more = tested_no _ _ refl; turned = tested_no _ _ refl; renamed = tested_no _ _ refl }
