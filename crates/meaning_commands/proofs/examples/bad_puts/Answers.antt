use Rattle.std.proofs.Common.{refl}
use Rattle.std.specs.Fmt.{digits}
use Rattle.meaning_commands.specs.Reading.{formed_command, command_of}
use Rattle.meaning_commands.proofs.examples.bad_puts.Goals as goal

pub returns : goal.returns
unfolding formed_command command_of digits
returns c = record { alone = refl; nameless = refl; numberless = refl; empty_number = refl; zero = refl; sign = refl; past = refl; digits = refl; two_spaces = refl; behind_name = refl; behind = refl; four = refl; no_number_first = refl }
