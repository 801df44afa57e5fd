use Rattle.std.proofs.Common.{refl}
use Rattle.meaning_texts.specs.Reading.{expression_of, kept_params}
use Rattle.meaning_texts.specs.Lines.{lines_of}
use Rattle.meaning_texts.specs.References.{references}
use Rattle.meaning_texts.proofs.examples.reference_lists.Goals as goal

pub returns : goal.returns
unfolding references lines_of expression_of kept_params
returns c = record { bad = refl; passed = refl; two = refl; spaced = refl; one_cr = refl }
