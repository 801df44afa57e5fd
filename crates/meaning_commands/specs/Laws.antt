-- What the laws of commands say.
use Rattle.std.specs.Prelude.{◌≡◌, ◌↔◌, ℕ, List}
use Rattle.odin_bytes.specs.declared.commands.Command.{Command}
use Rattle.meaning_commands.specs.Commands.{Spells}
use Rattle.meaning_commands.specs.Reading.{command_of}

-- A line is the computed command, and no other.
abbrev pub CommandIsExact : Type 0
CommandIsExact = (line : List ℕ) (command : Command) → Spells line command ↔ (command ≡ command_of line)

-- A line is one command.
abbrev pub LineIsOneCommand : Type 0
LineIsOneCommand = (a b : Command) (line : List ℕ) → Spells line a → Spells line b → b ≡ a
