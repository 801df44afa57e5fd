-- What the lines of messages tell.
use Rattle.std.specs.Prelude.{◌≡◌, ℕ, true, false, ◌⊎◌, List, ◌++◌, codes}
use Rattle.object_values.specs.declared.messages.Message.{Message}
use Rattle.meaning_commands.specs.Formed.{IsFormedMessage}
use Rattle.odin_bytes.specs.Spellings.{AreBytes}
use Rattle.build_files.specs.MessageLines.{message_line}

-- the same text, or with and without a `./` in front
abbrev pub SameButHere : List ℕ → List ℕ → Type 0
SameButHere a b = (a ≡ b) ⊎ (a ≡ codes "./" ++ b) ⊎ (b ≡ codes "./" ++ a)

-- Two texts that have the same line are the same, but for a `./` in front.
abbrev pub LineTellsText : Type 0
LineTellsText =
    (m n : Message) → AreBytes m.text → AreBytes n.text
    → message_line false m ≡ message_line false n → SameButHere m.text n.text

-- Two messages of replies that have the same line with its label are the same.
abbrev pub LabelledLineTellsMessage : Type 0
LabelledLineTellsMessage =
    (m n : Message) → IsFormedMessage m → IsFormedMessage n → AreBytes m.label → AreBytes n.label
    → message_line true m ≡ message_line true n → m ≡ n
