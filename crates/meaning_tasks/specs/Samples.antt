-- What the worked examples of needs stand on: what is known of nodes by their texts.
use Rattle.std.specs.Prelude.{ℕ, cond, List, [], ◌∷◌, map, Option, Some, None, bytes_eq, option_map}
use Rattle.object_values.specs.declared.messages.Status.TheVariants.{Ok, Abort}
use Rattle.object_values.specs.declared.messages.Message.{Message}
use Rattle.object_values.specs.declared.nodes.Node.{Node}
use Rattle.object_values.specs.declared.views.Value.{Value}
use Rattle.object_values.specs.declared.views.Value.TheVariants.{Simple, List as Listed}
use Rattle.object_values.specs.declared.views.View.{View}
use Rattle.object_values.specs.declared.calls.CallPart.{CallPart}
use Rattle.object_values.specs.declared.calls.Call.{Call}
use Rattle.object_values.specs.declared.calls.Outcome.{Outcome}
use Rattle.meaning_graph.specs.Graphs.{Text, Graph}
use Rattle.meaning_tasks.specs.Labels.{label_of, node_text}
use Rattle.meaning_tasks.specs.Reached.{reached_names}
use Rattle.meaning_tasks.specs.Tasks.{task_of}
use Rattle.meaning_tasks.specs.Needs.{Results, Known, values_of, own_lines, other_lines, needs_of, counted_needs, reached_needs}
use Rattle.meaning_tasks.specs.Calls.{call_of}
use Rattle.meaning_tasks.specs.Settle.{stepped_own, settled}

-- a node by its text, and its value where it isn't at `Abort`
abbrev pub ValueByText : Type 0
ValueByText = Text × Option Value

abbrev pub known_of : Graph → List ValueByText → Known
known_of g [] n = None
known_of g (e ∷ entries) n = cond (bytes_eq e.0 (node_text g n)) (Some e.1) (known_of g entries n)

abbrev pub simple_entry : Text → Text → ValueByText
simple_entry name text = (name, Some (Simple text))

abbrev pub listed_entry : Text → List Node → ValueByText
listed_entry name elements = (name, Some (Listed elements))

abbrev pub aborted_entry : Text → ValueByText
aborted_entry name = (name, None)

-- the names that are reached over the listed ones
abbrev pub names_over : Graph → List Text → Known → Node → List Text
names_over g listed known n =
    reached_names listed (own_lines (task_of g n) known) (other_lines (task_of g n) known)

abbrev pub names_of : Graph → List Text → List ValueByText → Node → List Text
names_of g listed entries n = names_over g listed (known_of g entries) n

-- the texts of the needs, of the counted ones, and of the reached sources
abbrev pub need_texts : Graph → List Text → List ValueByText → Node → List Text
need_texts g listed entries n =
    map (node_text g) (needs_of (task_of g n) (known_of g entries) (names_of g listed entries n))

abbrev pub counted_texts : Graph → List Text → List ValueByText → Node → List Text
counted_texts g listed entries n =
    map (node_text g)
    (counted_needs (task_of g n) (known_of g entries) (names_of g listed entries n))

abbrev pub reached_texts : Graph → List Text → List ValueByText → Node → List Text
reached_texts g listed entries n =
    map (node_text g)
    (reached_needs (task_of g n) (known_of g entries) (names_of g listed entries n))

-- the call and its parts, where the tool is run
abbrev pub ex_call_in : Graph → List Text → List ValueByText → Node → Option Call
ex_call_in g listed entries n =
    call_of g (task_of g n) (known_of g entries) (names_of g listed entries n)

abbrev pub parts_of_call : Graph → List Text → List ValueByText → Node → Option (List CallPart)
parts_of_call g listed entries n = option_map (λ c. c.parts) (ex_call_in g listed entries n)

abbrev pub call_part : ℕ → Text → Option Text → CallPart
call_part slot label body = record { slot = slot; label = label; body = body }

-- ---- results

-- a node by its text, and its result
abbrev pub Result : Type 0
Result = Text × View

abbrev pub ex_results_of : Graph → List Result → Results
ex_results_of g [] n = None
ex_results_of g (r ∷ results) n =
    cond (bytes_eq r.0 (node_text g n)) (Some r.1) (ex_results_of g results n)

abbrev pub simple_view : Text → View
simple_view text = record { value = Some (Simple text); status = Ok; messages = [] }

abbrev pub aborted_view : List Message → View
aborted_view messages = record { value = None; status = Abort; messages = messages }

-- the view of a node with steps
abbrev pub view_over : Graph → List Text → Results → Option Outcome → Node → View
view_over g listed seen outcome n =
    settled seen (stepped_own (label_of g n) (task_of g n) (values_of seen) outcome)
    (counted_needs (task_of g n) (values_of seen) (names_over g listed (values_of seen) n))
