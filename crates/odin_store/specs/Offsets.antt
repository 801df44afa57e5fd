-- Where an image isn't a store's for the graph of a text. What its records are is tested first, and then what they say: a record that was noted of a
-- node counts where the last graph is that of the text, and then it fits the graph.
use Rattle.std.specs.Prelude.{◌≡◌, ◌⊎◌, ⊤, ℕ, true, List, [], ◌∷◌, ◌++◌}
use Rattle.std.specs.List.{All}
use Rattle.object_values.specs.declared.facts.Fact.{Fact}
use Rattle.object_values.specs.Texts.{Text}
use Rattle.object_values.specs.declared.items.Item.{Item}
use Rattle.object_values.specs.declared.items.Item.TheVariants as it_is
use Rattle.meaning_graph.specs.Graphs.{Graph}
use Rattle.meaning_graph.specs.Grammar.{GraphText}
use Rattle.meaning_records.specs.Front.{start_of}
use Rattle.meaning_records.specs.Images.{gate_after, IsStore, NotOurs}
use Rattle.meaning_records.specs.Records.{item}
use Rattle.meaning_records.specs.Stands.{Stands, HasBadRecord}
use Rattle.meaning_records.specs.States.{State, nothing, Reads, ReadsAll, spell_batch}
use Rattle.validator.specs.Fitting.{FactFits}
use Rattle.odin_store.specs.Held.{counts, NotedFit}

-- ---- the gates of what is noted

-- for each record that was noted since the last graph, the gate of its payload, once an item stands in the payload of this gate
abbrev pub gates_with : ℕ → Item → List ℕ → List ℕ
gates_with gate (it_is.Graph text) gates = []
gates_with gate (it_is.Node stored) gates = gates ++ gate ∷ []
gates_with gate other gates = gates

abbrev pub gates_with_all : ℕ → List Item → List ℕ → List ℕ
gates_with_all gate [] gates = gates
gates_with_all gate (it ∷ items) gates = gates_with_all gate items (gates_with gate it gates)

-- so they are after payloads that follow each other from a gate on
abbrev pub AreGates : ℕ → List (List ℕ) → List ℕ → List ℕ → Type 0
AreGates gate [] old new = new ≡ old
AreGates gate (payload ∷ payloads) old new =
    (items : List Item) × All item.fits items × (payload ≡ spell_batch items) × AreGates (gate_after gate payload) payloads (gates_with_all gate items old) new

-- the first of these records that doesn't fit has this gate
abbrev pub FirstUnfit : Graph → List Fact → List ℕ → ℕ → Type 0
FirstUnfit g (fact ∷ facts) (gate ∷ gates) at = (¬ FactFits g fact × (at ≡ gate)) ⊎ (FactFits g fact × FirstUnfit g facts gates at)
FirstUnfit g facts gates at = ⊥

-- ---- offsets

-- the first of these payloads, if there is one, doesn't read
abbrev pub Stops : State → List (List ℕ) → Type 0
Stops state [] = ⊤
Stops state (payload ∷ rest) = (next : State) → ¬ Reads state payload next

-- As far as the payloads of the image read, what counts doesn't all fit, and this is the gate of the first record that doesn't.
pub record HasUnfit (text : Text) (image : List ℕ) (at : ℕ) : Type 0 where
  pub before : List (List ℕ)
  pub rest : List (List ℕ)
  pub end : ℕ
  pub store : IsStore image (before ++ rest) end
  pub state : State
  pub read : ReadsAll nothing before state
  pub stops : Stops state rest
  pub graph : Graph
  pub spelled : GraphText text graph
  pub counted : counts text state.graph ≡ true
  pub gates : List ℕ
  pub are : AreGates (start_of image) before [] gates
  pub first : FirstUnfit graph state.noted gates at

-- The image stands for nothing for this graph, at this offset: its records aren't whole, or one doesn't read, and what counts before it fits; or
-- what counts doesn't.
abbrev pub IsNotFor : Text → List ℕ → ℕ → Type 0
IsNotFor text image at =
    NotOurs image at ⊎ (((bad : HasBadRecord image at) × NotedFit text bad.state) ⊎ HasUnfit text image at)

-- the image stands for this state, and what counts fits
abbrev pub StandsFit : Text → List ℕ → State → Type 0
StandsFit text image state = Stands image state × NotedFit text state

-- For each graph's text an image stands for something that fits, or has just one such offset.
pub record OneOffset : Type 0 where
  pub one : (text : Text) (g : Graph) → GraphText text g → (image : List ℕ)
      → ((state : State) × StandsFit text image state) ⊎ ((at : ℕ) × IsNotFor text image at)
  pub apart : (text : Text) (image : List ℕ) (at : ℕ) (state : State) → IsNotFor text image at → ¬ StandsFit text image state
  pub same : (text : Text) (image : List ℕ) (at other : ℕ) → IsNotFor text image at → IsNotFor text image other → other ≡ at
