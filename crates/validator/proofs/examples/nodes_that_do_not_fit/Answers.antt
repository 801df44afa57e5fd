use Rattle.std.proofs.Common.{refl}
use Rattle.std.specs.Fmt.{digits}
use Rattle.meaning_graph.specs.Suffixes.{source_type}
use Rattle.meaning_graph.specs.Types.{is_a}
use Rattle.meaning_tasks.specs.Nodes.{reached_type}
use Rattle.validator.proofs.FitLemmas.{tested_no}
use Rattle.validator.proofs.examples.nodes_that_do_not_fit.Goals as goal

pub returns : goal.returns
unfolding digits source_type is_a reached_type
returns c = record { no_maker = tested_no _ _ refl; other_maker = tested_no _ _ refl; picked = tested_no _ _ refl; name = tested_no _ _ refl; param = tested_no _ _ refl; dep = tested_no _ _ refl; dep_name = tested_no _ _ refl; last_dep = tested_no _ _ refl }
