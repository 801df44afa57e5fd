-- What a store holds, as its users see it, and how it changes.
use Rattle.std.specs.Prelude.{◌≡◌, ◌≢◌, ⊤, ℕ, Bool, true, false, cond, bytes_eq, List, [], ◌∷◌, ◌++◌, Option, Some, None, IsSome, IsTrue}
use Rattle.std.specs.FinMap as map
use Rattle.std.specs.List.{All}
use Rattle.object_values.specs.declared.calls.Call.{Call}
use Rattle.object_values.specs.declared.calls.Outcome.{Outcome}
use Rattle.object_values.specs.declared.facts.Fact.{Fact}
use Rattle.object_values.specs.Texts.{Text, Texts}
use Rattle.meaning_graph.specs.Graphs.{Graph}
use Rattle.meaning_graph.specs.Grammar.{GraphText}
use Rattle.meaning_records.specs.Tables.{Calls, put_facts}
use Rattle.meaning_records.specs.States.{State}
use Rattle.meaning_records.specs.Stands.{Stands}
use Rattle.validator.specs.Fitting.{FactFits, fact_fits}

-- the text of the graph for which it is held, the sources, the kept calls with their outcomes in the order in which they were kept, and what is noted of
-- nodes and counts: the last of each since that graph
pub record Held : Type 0 where
  pub text : Text
  pub sources : Texts
  pub calls : Calls
  pub records : List Fact

-- what is noted of nodes counts where the last graph has the text
abbrev pub counts : Text → Option Text → Bool
counts text None = false
counts text (Some last) = bytes_eq last text

-- what is held for the graph of a text
abbrev pub held_of : Text → State → Held
held_of text state = record { text = text; sources = state.sources; calls = state.tables.calls; records = cond (counts text state.graph) state.tables.records [] }

-- All that was noted since the last graph fits the graph of the text, where it counts.
abbrev pub NotedFit : Text → State → Type 0
NotedFit text state = (g : Graph) → GraphText text g → counts text state.graph ≡ true → All (FactFits g) state.noted

-- all that it has of nodes fits the graph of its text
abbrev pub NotedFits : Text → List Fact → Type 0
NotedFits text facts = (g : Graph) → GraphText text g → All (FactFits g) facts

-- the same by a test that computes
abbrev pub NotedPass : Text → List Fact → Type 0
NotedPass text facts = (g : Graph) → GraphText text g → All (λ (fact : Fact). IsTrue (fact_fits g fact)) facts

-- A change: a source gets a text or goes, a call is kept with its outcome, or facts are noted of nodes.
pub data Change : Type 0 where
  puts : Text → Text → Change
  drops : Text → Change
  keeps : Call → Outcome → Change
  notes : List Fact → Change

abbrev pub apply : Change → Held → Held
apply (puts name text) held = record held { sources = map.insert held.sources name text }
apply (drops name) held = record held { sources = map.remove held.sources name }
apply (keeps call outcome) held = record held { calls = held.calls ++ (call, outcome) ∷ [] }
apply (notes facts) held = record held { records = put_facts facts held.records }

-- A change is due: a put where the source has another text, or isn't there; a drop where it is there; the keeping of a call always; and the noting of
-- facts where there are some.
abbrev pub IsDue : Change → Held → Type 0
IsDue (puts name text) held = map.get held.sources name ≢ Some text
IsDue (drops name) held = IsSome (map.get held.sources name)
IsDue (keeps call outcome) held = ⊤
IsDue (notes facts) held = facts ≢ []

-- the image stands for just this
abbrev pub StandsFor : Held → List ℕ → Type 0
StandsFor held image = (state : State) × Stands image state × NotedFit held.text state × (held_of held.text state ≡ held)
