-- Values and what is picked from them, the order of statuses, and messages without doubles.
use Rattle.std.specs.Prelude.{ℕ, ◌-◌, Bool, cond, ◌&&◌, nat_le, ◌==◌, List, ◌++◌, take, Option, None, bytes_eq, find, slice_get, option_map, option_and_then}
use Rattle.object_values.specs.declared.messages.Status.{Status}
use Rattle.object_values.specs.declared.messages.Status.TheVariants.{Ok, Warning, Error, Abort}
use Rattle.object_values.specs.declared.messages.Message.{Message}
use Rattle.object_values.specs.declared.nodes.Node.{Node}
use Rattle.object_values.specs.declared.views.Value.{Value}
use Rattle.object_values.specs.declared.views.Value.TheVariants.{Simple, List as Listed, Compound}
use Rattle.meaning_texts.specs.Lists.{once}
use Rattle.meaning_texts.specs.Limits.{message_limit}
use Rattle.meaning_graph.specs.Graphs.{Text}
use Rattle.meaning_tasks.specs.Nodes.{element_number}

-- ---- picks

-- an element of a list, or the body of a part
pub data Picked : Type 0 where
  element : Node → Picked
  body : Text → Picked

-- What a key picks: element K from 1 of a list, or the part of that name of a compound, and nothing
-- else.
abbrev pub pick : Value → Text → Option Picked
pick (Simple text) key = None
pick (Listed elements) key =
    option_map element (option_and_then (λ k. slice_get elements (k - 1)) (element_number key))
pick (Compound parts) key = option_map (λ p. body p.body) (find (λ p. bytes_eq p.name key) parts)

-- ---- statuses

-- the place in the order of statuses
abbrev pub rank : Status → ℕ
rank Ok = 0
rank Warning = 1
rank Error = 2
rank Abort = 3

-- the later one
abbrev pub worst : Status → Status → Status
worst a b = cond (nat_le (rank a) (rank b)) b a

-- ---- messages

abbrev pub is_message : Message → Message → Bool
is_message m other =
    bytes_eq m.label other.label && rank m.level == rank other.level && bytes_eq m.text other.text

-- each message once, where it stands first
abbrev pub messages_once : List Message → List Message
messages_once = once (λ later m. is_message m later)

-- those of the needs and then the own, each once, and no more than the limit
unfoldable pub inherit : List Message → List Message → List Message
inherit needs own = take message_limit (messages_once (needs ++ own))
