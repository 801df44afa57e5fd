-- What stands in the place of a name, and the commands by their first words.
use Rattle.std.specs.Prelude.{ℕ, List, [], ◌∷◌, Option, if◌then◌else◌, codes}
use Rattle.meaning_texts.specs.Tests.{is_name}
use Rattle.odin_bytes.specs.declared.commands.Command.{Command}
use Rattle.odin_bytes.specs.declared.commands.Command.TheVariants.{Take, Remove, Sources, Kept, Quit}
use Rattle.meaning_commands.specs.Reading.{is_argument, naming, word_alone, first_command_of}
use Rattle.odin_commands.specs.declared.read.Argument.{Argument}
use Rattle.odin_commands.specs.declared.read.Argument.TheVariants.{Name, Other, NoWord}

abbrev pub argument_of : List ℕ → Argument
argument_of word = if is_argument word then (if is_name word then Name word else Other) else NoWord

-- the command after `take `, and after `drop `
abbrev pub take_command : List ℕ → Option Command
take_command word = naming (Take word) 0 word

abbrev pub drop_command : List ℕ → Option Command
drop_command word = naming (Remove word) 0 word

-- the command that is a word alone
abbrev pub single_word : List ℕ → Option Command
single_word line = first_command_of (
    word_alone (codes "sources") Sources line
    ∷ word_alone (codes "kept") Kept line
    ∷ word_alone (codes "quit") Quit line
    ∷ [])
