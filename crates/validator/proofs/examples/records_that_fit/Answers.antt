use Rattle.std.proofs.Common.{refl}
use Rattle.std.specs.Fmt.{digits}
use Rattle.meaning_graph.specs.Suffixes.{source_type}
use Rattle.meaning_graph.specs.Types.{is_a}
use Rattle.meaning_tasks.specs.Nodes.{reached_type}
use Rattle.validator.proofs.FitLemmas.{tested_so}
use Rattle.validator.proofs.examples.records_that_fit.Goals as goal

pub returns : goal.returns
unfolding digits source_type is_a reached_type
returns c = record { listed = tested_so _ _ refl; empty = tested_so _ _ refl; subtype = tested_so _ _ refl; compound = tested_so _ _ refl; simple = tested_so _ _ refl; text = tested_so _ _ refl; none = tested_so _ _ refl }
