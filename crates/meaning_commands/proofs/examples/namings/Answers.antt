use Rattle.std.proofs.Common.{refl}
use Rattle.std.specs.Fmt.{digits}
use Rattle.meaning_commands.specs.Reading.{formed_command, command_of}
use Rattle.meaning_commands.proofs.examples.namings.Goals as goal

pub returns : goal.returns
unfolding formed_command command_of digits
returns c = record { take = refl; drop = refl; take_alone = refl; take_nothing = refl; take_two = refl; drop_behind = refl }
