use Rattle.std.proofs.Common.{refl}
use Rattle.meaning_texts.specs.Lines.{warning_lines}
use Rattle.meaning_calls.specs.Outcomes.{message_lines, outcome_of}
use Rattle.meaning_calls.proofs.examples.long_outputs.Goals as goal

pub returns : goal.returns
unfolding outcome_of message_lines warning_lines
returns c = record { too_long = λ body e. rw e refl; longest = λ body e. rw e refl }
