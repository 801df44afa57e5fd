-- What the worked examples stand on: views of nodes by their texts, and what a node settles to from
-- them.
use Rattle.std.specs.Prelude.{cond, List, [], ◌∷◌, Option, Some, None, bytes_eq, codes}
use Rattle.object_values.specs.declared.messages.Status.{Status}
use Rattle.object_values.specs.declared.messages.Status.TheVariants.{Ok, Warning, Abort}
use Rattle.object_values.specs.declared.messages.Message.{Message}
use Rattle.object_values.specs.declared.nodes.Step.TheVariants.{Maker}
use Rattle.object_values.specs.declared.nodes.Node.{Node}
use Rattle.object_values.specs.declared.views.Part.{Part}
use Rattle.object_values.specs.declared.views.Value.{Value}
use Rattle.object_values.specs.declared.views.Value.TheVariants.{Simple, List as Listed}
use Rattle.object_values.specs.declared.views.View.{View}
use Rattle.object_values.specs.declared.calls.Outcome.{Outcome}
use Rattle.meaning_graph.specs.Graphs.{Text, Graph}
use Rattle.meaning_tasks.specs.Labels.{node_text}
use Rattle.meaning_tasks.specs.NodeSamples.{at_steps, parameter}
use Rattle.meaning_tasks.specs.Needs.{Results}
use Rattle.meaning_tasks.specs.Settle.{settle}
use Rattle.meaning_commands.specs.Replies.{reply_text}
use Rattle.meaning_derive.specs.Replies.{shown}

-- ---- nodes, parts and messages

abbrev pub at_source : Text → Node
at_source name = at_steps name []

-- NAME:o over c-units
abbrev pub object_of : Text → Node
object_of name = at_steps name (Maker 1 ∷ [])

-- NAME+debug:o over c-units
abbrev pub debugged_object : Text → Node
debugged_object name =
    record { source = name; params = parameter (codes "debug") ∷ []; steps = Maker 1 ∷ [] }

abbrev pub part : Text → Text → Part
part name body = record { name = name; body = body }

abbrev pub message : Text → Status → Text → Message
message label level text = record { label = label; level = level; text = text }

-- ---- views

abbrev pub good : Value → View
good v = record { value = Some v; status = Ok; messages = [] }

-- the text with a warning of a.c:o
abbrev pub ex_warned_view : Text → Text → View
ex_warned_view text warning = record {
  value = Some (Simple text);
  status = Warning;
  messages = message (codes "a.c:o") Warning warning ∷ [];
}

abbrev pub aborted_view : List Message → View
aborted_view messages = record { value = None; status = Abort; messages = messages }

-- ---- results

-- a node by its text, and its view
abbrev pub ViewByText : Type 0
ViewByText = Text × View

abbrev pub results_of : Graph → List ViewByText → Results
results_of g [] n = None
results_of g (e ∷ entries) n =
    cond (bytes_eq e.0 (node_text g n)) (Some e.1) (results_of g entries n)

abbrev pub simple_at : Text → Text → ViewByText
simple_at name text = (name, good (Simple text))

abbrev pub listed_at : Text → List Node → ViewByText
listed_at name elements = (name, good (Listed elements))

abbrev pub warned_at : Text → Text → Text → ViewByText
warned_at name text warning = (name, ex_warned_view text warning)

-- at `Abort` with one message, which may be of another label
abbrev pub aborted_at : Text → Text → Text → ViewByText
aborted_at name label text = (name, aborted_view (message label Abort text ∷ []))

-- ---- outcomes

abbrev pub ex_made_by : Text → Text → Option Outcome
ex_made_by name body = Some (record { status = Ok; lines = []; outputs = part name body ∷ [] })

abbrev pub ended_by : Text → Option Outcome
ended_by text =
    Some
    (record { status = Abort; lines = record { level = Abort; text = text } ∷ []; outputs = [] })

-- ---- settling

-- no source has a text
abbrev pub ex_no_texts : Text → Option Text
ex_no_texts name = None

-- the reply, as bytes, that shows what the node settles to, with these reached names
abbrev pub settled_reply : Graph → List ViewByText → Node → Option Outcome → List Text → Text
settled_reply g entries n outcome names =
    reply_text (shown g (settle g ex_no_texts n (results_of g entries) outcome names))
