-- The command of a line, computed.
use Rattle.std.specs.Prelude.{ℕ, ◌^◌, Bool, not, ◌&&◌, nat_lt, ◌==◌, List, [], ◌∷◌, length, Option, Some, None, bytes_eq, codes, if◌then◌else◌}
use Rattle.std.specs.List.{list_all}
use Rattle.std.specs.Option.{option_map, option_and_then}
use Rattle.std.specs.Fmt.{decimal}
use Rattle.std.specs.Str.Parse.{digits_value}
use Rattle.meaning_texts.specs.Limits.{command_limit}
use Rattle.meaning_texts.specs.Lists.{is_empty}
use Rattle.meaning_texts.specs.Tests.{is_name}
use Rattle.odin_bytes.specs.declared.commands.Command.{Command}
use Rattle.odin_bytes.specs.declared.commands.Command.TheVariants.{Put, Take, Remove, Ask, Plan, Sources, Kept, Quit, Nothing, Bad, BadName}

-- the number below 2^64 whose digits these are
abbrev pub decimal_number : List ℕ → Option ℕ
decimal_number text =
    if bytes_eq (decimal (digits_value 10 text)) text && nat_lt (digits_value 10 text) (2 ^ 64)
    then Some (digits_value 10 text) else None

-- what stands before the first space, and what after it, if there is one
abbrev pub before_space : List ℕ → List ℕ
before_space [] = []
before_space (b ∷ rest) = if b == 32 then [] else b ∷ before_space rest

abbrev pub behind_space : List ℕ → Option (List ℕ)
behind_space [] = None
behind_space (b ∷ rest) = if b == 32 then Some rest else behind_space rest

-- what stands after these first bytes, if the line has them
abbrev pub behind : List ℕ → List ℕ → Option (List ℕ)
behind [] line = Some line
behind (b ∷ word) [] = None
behind (b ∷ word) (c ∷ line) = if b == c then behind word line else None

-- a byte or more, and no space
abbrev pub is_argument : List ℕ → Bool
is_argument word = not (is_empty word) && list_all (λ b. not (b == 32)) word

-- the command over the word where it is a name, else its refusal, after which so many bytes are
-- passed over
abbrev pub naming : Command → ℕ → List ℕ → Option Command
naming command count word =
    if is_argument word then (if is_name word then Some command else Some (BadName count)) else None

-- `WORD LEN`
abbrev pub put_of : List ℕ → Option ℕ → Option Command
put_of word None = None
put_of word (Some count) = naming (Put word count) count word

abbrev pub put_words : List ℕ → Option Command
put_words rest = put_of (before_space rest) (option_and_then decimal_number (behind_space rest))

abbrev pub word_alone : List ℕ → Command → List ℕ → Option Command
word_alone word command line = if bytes_eq line word then Some command else None

abbrev pub first_command_of : List (Option Command) → Option Command
first_command_of [] = None
first_command_of (None ∷ rest) = first_command_of rest
first_command_of (Some command ∷ rest) = Some command

-- what the line is as each of the commands
abbrev pub readings : List ℕ → List (Option Command)
readings line =
    option_and_then put_words (behind (codes "put ") line)
    ∷ option_and_then (λ word. naming (Take word) 0 word) (behind (codes "take ") line)
    ∷ option_and_then (λ word. naming (Remove word) 0 word) (behind (codes "drop ") line)
    ∷ option_map Ask (behind (codes "ask ") line)
    ∷ option_map Plan (behind (codes "plan ") line)
    ∷ word_alone (codes "sources") Sources line
    ∷ word_alone (codes "kept") Kept line
    ∷ word_alone (codes "quit") Quit line
    ∷ []

-- the command whose shown words the line has
unfoldable pub formed_command : List ℕ → Option Command
formed_command line = first_command_of (readings line)

abbrev pub or_bad : Option Command → Command
or_bad None = Bad
or_bad (Some command) = command

unfoldable pub command_of : List ℕ → Command
command_of line =
    if is_empty line then Nothing else if nat_lt command_limit (length line) then Bad
    else or_bad (formed_command line)
