use Rattle.std.proofs.Common.{refl}
use Rattle.meaning_graph.specs.Types.{is_a}
use Rattle.meaning_graph.specs.Checks.{has_fault, first_fault}
use Rattle.meaning_graph.proofs.text_examples.double_names.Goals as goal

pub returns : goal.returns
unfolding first_fault has_fault is_a
returns c = record { types = refl; suffixes = refl; makers = refl; parts = refl; params = refl; apart = refl }
