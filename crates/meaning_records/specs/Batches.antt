-- The batches that a store writes: the contents that it needs and that the file hasn't, each once, and then the item, or the records of nodes.
use Rattle.std.specs.Prelude.{◌≡◌, ◌⊎◌, ◌↔◌, ⊤, ℕ, ◌+◌, ◌≤◌, List, [], ◌∷◌, ◌++◌, length, map, Option, Some, None, IsNone}
use Rattle.std.specs.List.{All, flat_map}
use Rattle.object_values.specs.declared.messages.Status.TheVariants.{Abort}
use Rattle.object_values.specs.declared.records.Role.{Role}
use Rattle.object_values.specs.declared.records.Role.TheVariants.{Needed, Reached}
use Rattle.object_values.specs.declared.facts.FactDep.{FactDep}
use Rattle.object_values.specs.declared.facts.Fact.{Fact}
use Rattle.object_values.specs.declared.facts.Fresh.{Fresh}
use Rattle.object_values.specs.declared.views.Part.{Part}
use Rattle.object_values.specs.declared.views.Value.{Value}
use Rattle.object_values.specs.declared.views.Value.TheVariants.{Simple}
use Rattle.object_values.specs.declared.calls.CallPart.{CallPart}
use Rattle.object_values.specs.declared.calls.Call.{Call}
use Rattle.object_values.specs.declared.calls.Outcome.{Outcome}
use Rattle.object_values.specs.Texts.{Text}
use Rattle.meaning_texts.specs.Lists.{IsIn}
use Rattle.meaning_texts.specs.Limits.{height_limit}
use Rattle.object_values.specs.declared.items.StoredCall.{StoredCall}
use Rattle.object_values.specs.declared.items.StoredOutcome.{StoredOutcome}
use Rattle.object_values.specs.declared.items.StoredRecord.{StoredRecord}
use Rattle.object_values.specs.declared.items.Item.{Item}
use Rattle.object_values.specs.declared.items.Item.TheVariants.{Graph, Content, Put, Dropped, Kept, Node}
use Rattle.meaning_records.specs.Tables.{IsShort, IsNoContent, IsText, IsNoText, IsCallOf, IsOutcomeOf, IsFactOf}

-- the contents of texts
abbrev pub contents_of : List Text → List Value
contents_of = map Simple

-- ---- a graph, and edits of sources

abbrev pub graph_batch : Text → List Item
graph_batch text = Graph text ∷ []

-- a text that the file has, or that is written before the item
abbrev pub IsPutBatch : List Value → Text → Text → List Item → Type 0
IsPutBatch contents name text items =
    ((number : ℕ) × IsText contents number text × (items ≡ Put name number ∷ []))
    ⊎ (IsNoText contents text × (items ≡ Content (Simple text) ∷ Put name (length contents) ∷ []))

abbrev pub drop_batch : Text → List Item
drop_batch name = Dropped name ∷ []

-- ---- a call with its outcome

abbrev pub body_of : Option Text → List Text
body_of None = []
body_of (Some text) = text ∷ []

-- the texts that a call and its outcome need
abbrev pub needed_texts : Call → Outcome → List Text
needed_texts call outcome = flat_map (λ (p : CallPart). body_of p.body) call.parts ++ map (λ (o : Part). o.body) outcome.outputs

-- each once
abbrev pub EachTextOnce : List Text → Type 0
EachTextOnce [] = ⊤
EachTextOnce (text ∷ texts) = (¬ IsIn text texts) × EachTextOnce texts

pub record IsCallBatch (contents : List Value) (call : Call) (outcome : Outcome) (items : List Item) : Type 0 where
  -- the texts that are written: needed, each once, and such as the file hasn't
  pub added : List Text
  pub once : EachTextOnce added
  pub needed : All (λ text. IsIn text (needed_texts call outcome)) added
  pub new : All (IsNoText contents) added
  -- the call and the outcome by the numbers that stand then
  pub stored : StoredCall
  pub given : StoredOutcome
  pub called : IsCallOf (contents ++ contents_of added) stored call
  pub came : IsOutcomeOf (contents ++ contents_of added) given outcome
  pub items_are : items ≡ map Content (contents_of added) ++ Kept stored given ∷ []

-- ---- records of nodes

-- the facts of what is to be noted
abbrev pub facts_of : List Fresh → List Fact
facts_of = map (λ (f : Fresh). f.fact)

-- what was there of a value
abbrev pub value_list : Option Value → List Value
value_list None = []
value_list (Some value) = value ∷ []

-- the values that a fact needs: its own, and those of its deps
abbrev pub fact_values : Fact → List Value
fact_values fact = value_list fact.value ++ flat_map (λ (d : FactDep). value_list d.value) fact.deps

abbrev pub needed_values : List Fresh → List Value
needed_values = flat_map (λ (f : Fresh). fact_values f.fact)

-- after a reached source come reached sources alone
abbrev pub AreReachedLast : List FactDep → Type 0
AreReachedLast [] = ⊤
AreReachedLast (dep ∷ deps) = (dep.role ≡ Reached → All (λ (d : FactDep). d.role ≡ Reached) deps) × AreReachedLast deps

-- how many of the deps are reached sources
abbrev pub reached_in : Role → ℕ
reached_in Needed = 0
reached_in Reached = 1

abbrev pub reached_count : List FactDep → ℕ
reached_count [] = 0
reached_count (dep ∷ deps) = reached_in dep.role + reached_count deps

-- What may be noted: its values are short, its reached sources stand last, its height is one of a node with steps, and it has a value exactly where
-- its present status isn't abort.
pub record IsNotable (fresh : Fresh) : Type 0 where
  pub short : All IsShort (fact_values fresh.fact)
  pub last : AreReachedLast fresh.fact.deps
  pub least : 1 ≤ fresh.present.height
  pub most : fresh.present.height ≤ height_limit
  pub valued : IsNone fresh.fact.value ↔ (fresh.present.status ≡ Abort)

-- the record by which a file has it
pub record IsRecordOf (contents : List Value) (stored : StoredRecord) (fresh : Fresh) : Type 0 where
  pub says : IsFactOf contents stored fresh.fact
  pub reached : stored.reached ≤ length stored.deps
  pub status : stored.status ≡ fresh.present.status
  pub messages : stored.messages ≡ fresh.present.messages
  pub height : stored.height ≡ fresh.present.height

abbrev pub AreRecordsOf : List Value → List StoredRecord → List Fresh → Type 0
AreRecordsOf contents [] [] = ⊤
AreRecordsOf contents [] (fresh ∷ more) = ⊥
AreRecordsOf contents (stored ∷ others) [] = ⊥
AreRecordsOf contents (stored ∷ others) (fresh ∷ more) = IsRecordOf contents stored fresh × AreRecordsOf contents others more

-- each once
abbrev pub EachOnce : List Value → Type 0
EachOnce [] = ⊤
EachOnce (value ∷ values) = (¬ IsIn value values) × EachOnce values

pub record IsNotesBatch (contents : List Value) (fresh : List Fresh) (items : List Item) : Type 0 where
  -- the values that are written: needed, each once, and such as the file hasn't
  pub added : List Value
  pub once : EachOnce added
  pub needed : All (λ value. IsIn value (needed_values fresh)) added
  pub new : All (IsNoContent contents) added
  -- the records by the numbers that stand then, in order
  pub stored : List StoredRecord
  pub records : AreRecordsOf (contents ++ added) stored fresh
  pub items_are : items ≡ map Content added ++ map Node stored
