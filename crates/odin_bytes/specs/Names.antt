-- What is wrong with a text that is no name.
use Rattle.std.specs.Prelude.{◌≡◌, ℕ, ◌<◌, ◌≤◌, not, List, [], length, Some, position}
use Rattle.meaning_texts.specs.Limits.{word_limit}
use Rattle.meaning_texts.specs.Classes.{is_name_byte, IsName}
use Rattle.odin_bytes.specs.declared.names.NameFault.{NameFault}
use Rattle.odin_bytes.specs.declared.names.NameFault.TheVariants.{Empty, TooLong, BadByte, Memory}

-- the first of these that holds: no byte, too many bytes, or the first place of a byte that is no name byte
abbrev pub IsNameFault : List ℕ → NameFault → Type 0
IsNameFault text Empty = text ≡ []
IsNameFault text TooLong = word_limit < length text
IsNameFault text (BadByte place) = (length text ≤ word_limit) × (position (λ b. not (is_name_byte b)) text ≡ Some place)
IsNameFault text Memory = IsName text
