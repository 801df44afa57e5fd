use Rattle.std.proofs.Common.{refl}
use Rattle.std.specs.Fmt.{digits}
use Rattle.meaning_commands.specs.Reading.{formed_command, command_of}
use Rattle.meaning_commands.proofs.examples.bad_names.Goals as goal

pub returns : goal.returns
unfolding formed_command command_of digits
returns c = record { byte = refl; much = refl; long = refl; take = refl; drop = refl; long_take = refl }
