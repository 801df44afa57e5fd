-- The commands, each by its line.
--
-- The first word of a line tells its command, and the word at the place of a name may be any that has a byte and no space: so a line with a
-- word that is no name is still that command, refused by its name, and the bytes after a `put` are passed over with it.
use Rattle.std.specs.Prelude.{◌≡◌, ◌≢◌, ℕ, ◌<◌, ◌≤◌, ◌^◌, Bool, true, false, List, [], ◌∷◌, ◌++◌, length, codes}
use Rattle.std.specs.Fmt.{decimal}
use Rattle.meaning_texts.specs.Classes.{IsName}
use Rattle.meaning_texts.specs.Limits.{command_limit}
use Rattle.meaning_texts.specs.Lists.{HasNo}
use Rattle.odin_bytes.specs.declared.commands.Command.{Command}
use Rattle.odin_bytes.specs.declared.commands.Command.TheVariants.{Put, Take, Remove, Ask, Plan, Sources, Kept, Quit, Nothing, Bad, BadName}

-- What may stand in the place of a name: one byte or more, and no space.
pub record IsArgument (word : List ℕ) : Type 0 where
  pub some : word ≢ []
  pub spaceless : HasNo 32 word

-- `put WORD LEN`: LEN is a number below 2^64, without a leading zero
pub record IsPut (line word : List ℕ) (count : ℕ) : Type 0 where
  pub word_is : IsArgument word
  pub small : count < 2 ^ 64
  pub is : line ≡ codes "put " ++ (word ++ 32 ∷ decimal count)

-- `take WORD` or `drop WORD`: this verb with its space, and the word
pub record IsNaming (verb line word : List ℕ) : Type 0 where
  pub word_is : IsArgument word
  pub is : line ≡ verb ++ word

-- The line has the words that are shown for the command, whatever its length.
pub data IsForm (line : List ℕ) : Command → Type 0 where
  put : (name : List ℕ) (count : ℕ) → IsPut line name count → IsName name
      → IsForm line (Put name count)
  put_bad : (word : List ℕ) (count : ℕ) → IsPut line word count → ¬ IsName word
      → IsForm line (BadName count)
  take : (name : List ℕ) → IsNaming (codes "take ") line name → IsName name
      → IsForm line (Take name)
  take_bad : (word : List ℕ) → IsNaming (codes "take ") line word → ¬ IsName word
      → IsForm line (BadName 0)
  remove : (name : List ℕ) → IsNaming (codes "drop ") line name → IsName name
      → IsForm line (Remove name)
  remove_bad : (word : List ℕ) → IsNaming (codes "drop ") line word → ¬ IsName word
      → IsForm line (BadName 0)
  -- all that stands after the one space, which may be nothing
  ask : (text : List ℕ) → line ≡ codes "ask " ++ text → IsForm line (Ask text)
  plan : (text : List ℕ) → line ≡ codes "plan " ++ text → IsForm line (Plan text)
  sources : line ≡ codes "sources" → IsForm line Sources
  kept : line ≡ codes "kept" → IsForm line Kept
  quit : line ≡ codes "quit" → IsForm line Quit

-- The line, without its LF and one CR before it, is this command.
pub data Spells (line : List ℕ) : Command → Type 0 where
  nothing : line ≡ [] → Spells line Nothing
  formed : (command : Command) → length line ≤ command_limit → IsForm line command
      → Spells line command
  too_long : command_limit < length line → Spells line Bad
  formless : line ≢ [] → ((command : Command) → ¬ IsForm line command) → Spells line Bad

-- how many bytes after its line belong to the command, whether they are a text or passed over
abbrev pub bytes_after_line : Command → ℕ
bytes_after_line (Put name count) = count
bytes_after_line (BadName count) = count
bytes_after_line other = 0

-- the command is the last one that is read
abbrev pub ends_run : Command → Bool
ends_run Quit = true
ends_run other = false
