use Rattle.std.proofs.Common.{refl}
use Rattle.meaning_graph.specs.Types.{is_a}
use Rattle.meaning_graph.specs.Checks.{has_fault, first_fault}
use Rattle.meaning_graph.proofs.Samples.{suffix_begins}
use Rattle.meaning_graph.proofs.text_examples.faults_of_graphs.Goals as goal

pub returns : goal.returns
unfolding first_fault has_fault is_a
returns c = record { unknown_type = refl; begins = suffix_begins; text_twice = refl; double = refl; loop = refl; kind = refl; elements = refl; param = refl; many = λ g d. refl; few = λ g d. refl }
