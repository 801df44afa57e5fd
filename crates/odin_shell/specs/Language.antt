-- The commands of a session, as the language of its input.
use Rattle.std.specs.Prelude.{ℕ, Bool, false, cond, nat_le}
use Rattle.meaning_texts.specs.Limits.{body_limit}
use Rattle.meaning_commands.specs.Items.{Language}
use Rattle.odin_bytes.specs.declared.commands.Command.{Command}
use Rattle.odin_bytes.specs.declared.commands.Command.TheVariants.{Put}
use Rattle.meaning_commands.specs.Commands.{Spells, bytes_after_line, ends_run}

-- The bytes after a `put` are kept where they are a text. All others are passed over.
abbrev pub keeps_body : Command → Bool
keeps_body (Put name count) = nat_le count body_limit
keeps_body other = false

-- how many of so many bytes are kept
abbrev pub kept_of : Command → ℕ → ℕ
kept_of command count = cond (keeps_body command) count 0

abbrev pub commands : Language Command
commands = record {
  Spells = λ command line. Spells line command;
  takes = bytes_after_line;
  keeps_body = keeps_body;
  ends_run = ends_run;
}
