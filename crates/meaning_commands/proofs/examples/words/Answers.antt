use Rattle.std.proofs.Common.{refl}
use Rattle.std.specs.Fmt.{digits}
use Rattle.meaning_commands.specs.Reading.{formed_command, command_of}
use Rattle.meaning_commands.proofs.examples.words.Goals as goal

pub returns : goal.returns
unfolding formed_command command_of digits
returns c = record { sources = refl; kept = refl; quit = refl; empty = refl; space = refl; other = refl; capital = refl; before = refl; behind = refl; second = refl }
