use Rattle.std.proofs.Common.{refl}
use Rattle.meaning_texts.specs.Lines.{warning_lines}
use Rattle.meaning_calls.specs.Outcomes.{message_lines}
use Rattle.meaning_calls.proofs.examples.long_warnings.Goals as goal

pub returns : goal.returns
unfolding message_lines warning_lines
returns c = record { bytes = refl; lines = refl }
