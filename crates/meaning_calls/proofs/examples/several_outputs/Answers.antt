use Rattle.std.proofs.Common.{refl}
use Rattle.std.specs.Fmt.{digits}
use Rattle.meaning_texts.specs.Lines.{warning_lines}
use Rattle.meaning_calls.specs.Outcomes.{message_lines, outcome_of}
use Rattle.meaning_calls.proofs.examples.several_outputs.Goals as goal

pub returns : goal.returns
unfolding outcome_of message_lines warning_lines digits
returns c = record { both = refl; neither = refl; one = refl; ended = refl }
