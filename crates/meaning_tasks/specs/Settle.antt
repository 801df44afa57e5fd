-- What a node itself gives from its needs, and the view that it is settled to.
use Rattle.std.specs.Prelude.{◌≡◌, ℕ, Bool, true, false, cond, List, [], ◌∷◌, map, flat_map, length, Option, Some, None, option_to_list}
use Rattle.object_values.specs.declared.messages.Status.{Status}
use Rattle.object_values.specs.declared.messages.Status.TheVariants.{Ok, Abort}
use Rattle.object_values.specs.declared.messages.Message.{Message}
use Rattle.object_values.specs.declared.nodes.Node.{Node}
use Rattle.object_values.specs.declared.views.Part.{Part}
use Rattle.object_values.specs.declared.views.Value.{Value}
use Rattle.object_values.specs.declared.views.Value.TheVariants.{Simple, Compound}
use Rattle.object_values.specs.declared.views.View.{View}
use Rattle.object_values.specs.declared.calls.OwnLine.{OwnLine}
use Rattle.object_values.specs.declared.calls.Outcome.{Outcome}
use Rattle.meaning_graph.specs.Graphs.{Text, Graph}
use Rattle.meaning_tasks.specs.Labels.{label_of, abort_message, no_source, no_element}
use Rattle.meaning_tasks.specs.Values.{Picked, element, body, pick, worst, inherit}
use Rattle.meaning_tasks.specs.Tasks.{Own, fine, aborted, fine_unless, Task, given, picked, mapped, packed, tooled, PackPart, led_missing, task_of}
use Rattle.meaning_tasks.specs.Needs.{Results, Known, values_of, where_valued, counted_needs, reached_needs, ReachedNames}
use Rattle.meaning_tasks.specs.Calls.{text_in, all_valued}

-- the texts of the sources
abbrev pub SourceLookup : Type 0
SourceLookup = Text → Option Text

-- ---- what a node itself gives

abbrev pub given_own : Text → Text → Option Text → Own
given_own label name None = aborted (abort_message label (no_source name) ∷ [])
given_own label name (Some text) = fine (Simple text)

-- the value of an element, which gives its own status and messages by being a need
abbrev pub element_own : Option (Option Value) → Own
element_own None = aborted []
element_own (Some v) = record { value = v; status = Ok; messages = [] }

-- Only a list can lack what is picked, where the node fits.
abbrev pub pick_own : Text → Known → Text → Option Picked → Own
pick_own label known key None = aborted (abort_message label (no_element key) ∷ [])
pick_own label known key (Some (element e)) = element_own (known e)
pick_own label known key (Some (body text)) = fine (Simple text)

abbrev pub picked_own : Text → Known → Text → Option (Option Value) → Own
picked_own label known key (Some (Some v)) = pick_own label known key (pick v key)
picked_own label known key other = aborted []

abbrev pub mapped_own : (Value → Own) → Option (Option Value) → Own
mapped_own f (Some (Some v)) = f v
mapped_own f other = aborted []

abbrev pub named_body : Text → Option Text → List Part
named_body name None = []
named_body name (Some text) = record { name = name; body = text } ∷ []

abbrev pub part_body : Known → PackPart → List Part
part_body known p =
    flat_map (λ n. named_body p.name (text_in (known n))) (option_to_list p.led.node)

abbrev pub packed_own : Known → List PackPart → Own
packed_own known parts =
    fine_unless (Compound (flat_map (part_body known) parts))
    (led_missing (map (λ p. p.led) parts))

abbrev pub labelled : Text → OwnLine → Message
labelled label line = record { label = label; level = line.level; text = line.text }

abbrev pub first_body : List Part → Text
first_body [] = []
first_body (p ∷ parts) = p.body

-- the value that the outputs make
abbrev pub made_value : Bool → List Part → Value
made_value true outputs = Compound outputs
made_value false outputs = Simple (first_body outputs)

abbrev pub at_status : Status → Value → List Message → Own
at_status Abort v messages = aborted messages
at_status status v messages = record { value = Some v; status = status; messages = messages }

-- without an outcome the tool isn't run
abbrev pub outcome_own : Text → Bool → List Message → Option Outcome → Own
outcome_own label makes_compound missing None = aborted missing
outcome_own label makes_compound missing (Some o) =
    at_status o.status (made_value makes_compound o.outputs) (map (labelled label) o.lines)

-- What a node with steps itself gives: by what is known of its needs, and by the outcome of its
-- call.
abbrev pub stepped_own : Text → Task → Known → Option Outcome → Own
stepped_own label (picked base key) known outcome = picked_own label known key (known base)
stepped_own label (mapped base f) known outcome = mapped_own f (known base)
stepped_own label (packed parts) known outcome = packed_own known parts
stepped_own label (tooled t) known outcome =
    outcome_own label t.makes_compound
    (where_valued (known t.base) (led_missing t.extras)) outcome
stepped_own label other known outcome = aborted []

-- the same of every node: a source gives its text
abbrev pub own_of : Text → SourceLookup → Task → Known → Option Outcome → Own
own_of label texts (given name) known outcome = given_own label name (texts name)
own_of label texts task known outcome = stepped_own label task known outcome

-- ---- the view

abbrev pub status_in : Option View → Status
status_in None = Abort
status_in (Some v) = v.status

abbrev pub messages_in : Option View → List Message
messages_in None = []
messages_in (Some v) = v.messages

-- the worst of the own status and those of the needs
abbrev pub worst_of : Results → Status → List Node → Status
worst_of seen own [] = own
worst_of seen own (n ∷ needs) = worst (status_in (seen n)) (worst_of seen own needs)

abbrev pub messages_of : Results → List Node → List Message
messages_of seen needs = flat_map (λ n. messages_in (seen n)) needs

-- The view from what the node itself gives and from its needs but the reached sources. It has a
-- value where all these have.
abbrev pub settled : Results → Own → List Node → View
settled seen own counted = record {
  value = cond (all_valued (values_of seen) counted) own.value None;
  status = worst_of seen own.status counted;
  messages = inherit (messages_of seen counted) own.messages;
}

-- the view of a node, given the reached names
abbrev pub settle : Graph → SourceLookup → Node → Results → Option Outcome → List Text → View
settle g texts n seen outcome names =
    settled seen (own_of (label_of g n) texts (task_of g n) (values_of seen) outcome)
    (counted_needs (task_of g n) (values_of seen) names)

-- A node settles to the view under the results, with the outcome of its call.
pub record Settles (g : Graph) (texts : SourceLookup) (n : Node) (seen : Results)
    (outcome : Option Outcome) (view : View) : Type 0 where
  pub names : List Text
  pub reached : ReachedNames g n seen names
  pub is : view ≡ settle g texts n seen outcome names

-- A node with steps settles to the view, whatever the sources hold: what it gives itself, and how
-- many of its needs are reached sources.
pub record SettlesWith (g : Graph) (n : Node) (seen : Results) (outcome : Option Outcome)
    (itself : Own) (result : View) (count : ℕ) : Type 0 where
  pub names : List Text
  pub reached : ReachedNames g n seen names
  pub own : itself ≡ stepped_own (label_of g n) (task_of g n) (values_of seen) outcome
  pub view : result ≡ settled seen itself (counted_needs (task_of g n) (values_of seen) names)
  pub sources : count ≡ length (reached_needs (task_of g n) (values_of seen) names)
