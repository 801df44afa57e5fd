use Rattle.std.proofs.Common.{refl}
use Rattle.std.specs.Fmt.{digits}
use Rattle.meaning_commands.specs.Reading.{formed_command, command_of}
use Rattle.meaning_commands.proofs.examples.puts.Goals as goal

pub returns : goal.returns
unfolding formed_command command_of digits
returns c = record { some = refl; none = refl; greatest = refl; too_much = refl; longest = refl }
