use Rattle.std.proofs.Common.{refl}
use Rattle.std.specs.Fmt.{digits}
use Rattle.meaning_commands.specs.Reading.{formed_command, command_of}
use Rattle.meaning_commands.proofs.examples.requests.Goals as goal

pub returns : goal.returns
unfolding formed_command command_of digits
returns c = record { ask = refl; plan = refl; ask_nothing = refl; ask_space = refl; ask_alone = refl; plan_alone = refl; longer_word = refl }
