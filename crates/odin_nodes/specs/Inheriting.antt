-- Messages that are inherited bit by bit.
use Rattle.std.specs.Prelude.{◌≡◌, ◌≤◌, List, ◌++◌, length}
use Rattle.std.specs.List.{IsDistinct}
use Rattle.object_values.specs.declared.messages.Message.{Message}
use Rattle.object_values.specs.contracts.messages.MessagePartialEq.TheImpl.{ghosts as message_eq}
use Rattle.meaning_texts.specs.Limits.{message_limit}
use Rattle.meaning_tasks.specs.Values.{inherit}

-- what is inherited after the new messages is what is inherited after the old ones with these
abbrev pub Inherits : List Message → List Message → List Message → Type 0
Inherits old messages new = (more : List Message) → inherit new more ≡ inherit old (messages ++ more)

-- no more than the limit, and all different
pub record AreFew (messages : List Message) : Type 0 where
  pub short : length messages ≤ message_limit
  pub distinct : IsDistinct message_eq.eq messages
