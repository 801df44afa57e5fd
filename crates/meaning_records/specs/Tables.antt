-- What the items of a store file bring into its tables: contents by number, kept calls with their outcomes, in the order in which they came, and what is
-- noted of nodes.
use Rattle.std.specs.Prelude.{◌≡◌, ◌↔◌, ⊤, ℕ, ◌≤◌, nat_lt, cond, List, [], ◌∷◌, ◌++◌, length, Option, Some, None, IsNone, slice_get}
use Rattle.std.specs.List.{All}
use Rattle.std.specs.Map.{lookup}
use Rattle.object_values.specs.declared.messages.Status.TheVariants.{Abort}
use Rattle.object_values.specs.contracts.nodes.NodePartialEq.TheImpl.{ghosts as node_eq}
use Rattle.object_values.specs.declared.records.Role.{Role}
use Rattle.object_values.specs.declared.records.Role.TheVariants.{Needed, Reached}
use Rattle.object_values.specs.declared.facts.FactDep.{FactDep}
use Rattle.object_values.specs.declared.facts.Fact.{Fact}
use Rattle.object_values.specs.declared.views.Part.{Part}
use Rattle.object_values.specs.declared.views.Value.{Value}
use Rattle.object_values.specs.declared.views.Value.TheVariants.{Simple, List as Listed, Compound}
use Rattle.object_values.specs.declared.calls.CallPart.{CallPart}
use Rattle.object_values.specs.declared.calls.Call.{Call}
use Rattle.object_values.specs.declared.calls.Outcome.{Outcome}
use Rattle.object_values.specs.contracts.calls.CallPartialEq.TheImpl.{ghosts as call_eq}
use Rattle.meaning_texts.specs.Classes.{IsName}
use Rattle.meaning_texts.specs.Limits.{body_limit, height_limit}
use Rattle.meaning_calls.specs.Jobs.{IsWellFormed}
use Rattle.meaning_calls.specs.Outcomes.{OutcomeFits}
use Rattle.object_values.specs.declared.items.StoredPart.{StoredPart}
use Rattle.object_values.specs.declared.items.StoredCall.{StoredCall}
use Rattle.object_values.specs.declared.items.StoredOutput.{StoredOutput}
use Rattle.object_values.specs.declared.items.StoredOutcome.{StoredOutcome}
use Rattle.object_values.specs.declared.items.StoredDep.{StoredDep}
use Rattle.object_values.specs.declared.items.StoredRecord.{StoredRecord}
use Rattle.object_values.specs.declared.items.Item.{Item}
use Rattle.object_values.specs.declared.items.Item.TheVariants.{Graph, Content, Put, Dropped, Kept, Node}

-- kept calls with their outcomes
abbrev pub Calls : Type 0
Calls = List (Call × Outcome)

pub record Tables : Type 0 where
  pub contents : List Value
  pub calls : Calls
  -- the last of each node since the last graph, in the order in which the nodes were first noted
  pub records : List Fact

-- ---- contents

-- no simple value and no part is longer than the limit
abbrev pub IsShort : Value → Type 0
IsShort (Simple text) = length text ≤ body_limit
IsShort (Listed nodes) = ⊤
IsShort (Compound parts) = All (λ (p : Part). length p.body ≤ body_limit) parts

-- the content of this number is this value
abbrev pub IsContent : List Value → ℕ → Value → Type 0
IsContent contents number value = slice_get contents number ≡ Some value

-- the value is no content
abbrev pub IsNoContent : List Value → Value → Type 0
IsNoContent contents value = (number : ℕ) → ¬ IsContent contents number value

-- the content of this number is this text
abbrev pub IsText : List Value → ℕ → List ℕ → Type 0
IsText contents number text = slice_get contents number ≡ Some (Simple text)

-- the text is no content
abbrev pub IsNoText : List Value → List ℕ → Type 0
IsNoText contents text = (number : ℕ) → ¬ IsText contents number text

-- ---- calls and outcomes by the numbers of their contents

-- the body of an input
abbrev pub IsBody : List Value → Option ℕ → Option (List ℕ) → Type 0
IsBody contents None body = body ≡ None
IsBody contents (Some number) None = ⊥
IsBody contents (Some number) (Some text) = IsText contents number text

pub record IsPartOf (contents : List Value) (stored : StoredPart) (part : CallPart) : Type 0 where
  pub slot : part.slot ≡ stored.slot
  pub label : part.label ≡ stored.label
  pub body : IsBody contents stored.content part.body

abbrev pub ArePartsOf : List Value → List StoredPart → List CallPart → Type 0
ArePartsOf contents [] [] = ⊤
ArePartsOf contents [] (part ∷ parts) = ⊥
ArePartsOf contents (stored ∷ more) [] = ⊥
ArePartsOf contents (stored ∷ more) (part ∷ parts) = IsPartOf contents stored part × ArePartsOf contents more parts

-- the call that an item keeps
pub record IsCallOf (contents : List Value) (stored : StoredCall) (call : Call) : Type 0 where
  pub tool : call.tool ≡ stored.tool
  pub version : call.version ≡ stored.version
  pub words : call.words ≡ stored.words
  pub params : call.params ≡ stored.params
  pub parts : ArePartsOf contents stored.parts call.parts
  pub outs : call.outs ≡ stored.outs

pub record IsOutputOf (contents : List Value) (stored : StoredOutput) (output : Part) : Type 0 where
  pub name : output.name ≡ stored.name
  pub body : IsText contents stored.content output.body

abbrev pub AreOutputsOf : List Value → List StoredOutput → List Part → Type 0
AreOutputsOf contents [] [] = ⊤
AreOutputsOf contents [] (output ∷ outputs) = ⊥
AreOutputsOf contents (stored ∷ more) [] = ⊥
AreOutputsOf contents (stored ∷ more) (output ∷ outputs) = IsOutputOf contents stored output × AreOutputsOf contents more outputs

-- and its outcome
pub record IsOutcomeOf (contents : List Value) (stored : StoredOutcome) (outcome : Outcome) : Type 0 where
  pub status : outcome.status ≡ stored.status
  pub lines : outcome.lines ≡ stored.lines
  pub outputs : AreOutputsOf contents stored.outputs outcome.outputs

-- ---- records of nodes by the numbers of their contents

-- the value of this number, or none where there is no number
abbrev pub IsValueOf : List Value → Option ℕ → Option Value → Type 0
IsValueOf contents None value = value ≡ None
IsValueOf contents (Some number) None = ⊥
IsValueOf contents (Some number) (Some value) = IsContent contents number value

-- the role of a dep after which so many more come: the last ones of a record are its reached sources
abbrev pub role_before : ℕ → ℕ → Role
role_before more reached = cond (nat_lt more reached) Reached Needed

pub record IsDepOf (contents : List Value) (wanted : Role) (stored : StoredDep) (dep : FactDep) : Type 0 where
  pub node : dep.node ≡ stored.node
  pub role : dep.role ≡ wanted
  pub value : IsValueOf contents stored.content dep.value

abbrev pub AreDepsOf : List Value → ℕ → List StoredDep → List FactDep → Type 0
AreDepsOf contents reached [] [] = ⊤
AreDepsOf contents reached [] (dep ∷ deps) = ⊥
AreDepsOf contents reached (stored ∷ more) [] = ⊥
AreDepsOf contents reached (stored ∷ more) (dep ∷ deps) =
    IsDepOf contents (role_before (length more) reached) stored dep × AreDepsOf contents reached more deps

-- what the record of a node says
pub record IsFactOf (contents : List Value) (stored : StoredRecord) (fact : Fact) : Type 0 where
  pub node : fact.node ≡ stored.node
  pub deps : AreDepsOf contents stored.reached stored.deps fact.deps
  pub value : IsValueOf contents stored.value fact.value
  pub own_status : fact.own_status ≡ stored.own_status
  pub own_messages : fact.own_messages ≡ stored.own_messages

-- A record that may be noted: all its contents are there, no more deps are reached than there are, its height is one of a node with steps, and it has
-- a value exactly where its status isn't abort.
pub record MayBeNoted (contents : List Value) (stored : StoredRecord) (fact : Fact) : Type 0 where
  pub says : IsFactOf contents stored fact
  pub reached : stored.reached ≤ length stored.deps
  pub least : 1 ≤ stored.height
  pub most : stored.height ≤ height_limit
  pub valued : IsNone stored.value ↔ (stored.status ≡ Abort)

-- ---- kept calls

-- the outcome that is kept of a call
abbrev pub kept_outcome : Calls → Call → Option Outcome
kept_outcome calls call = lookup (call_eq.eq call) calls

-- ---- items

-- A call that may be kept: all its contents are there, it is well formed, its outcome fits it, and it isn't kept yet.
pub record MayBeKept (tables : Tables) (stored : StoredCall) (given : StoredOutcome) (call : Call) (outcome : Outcome) : Type 0 where
  pub called : IsCallOf tables.contents stored call
  pub came : IsOutcomeOf tables.contents given outcome
  pub formed : IsWellFormed call
  pub fits : OutcomeFits call outcome
  pub new : IsNone (kept_outcome tables.calls call)

-- the tables with one content more, and with one call more
abbrev pub with_content : Value → Tables → Tables
with_content value tables = record tables { contents = tables.contents ++ value ∷ [] }

abbrev pub with_call : Call → Outcome → Tables → Tables
with_call call outcome tables = record tables { calls = tables.calls ++ (call, outcome) ∷ [] }

-- a fact in the place of that of its node, or after the others
abbrev pub put_fact : Fact → List Fact → List Fact
put_fact fact [] = fact ∷ []
put_fact fact (f ∷ facts) = cond (node_eq.eq fact.node f.node) (fact ∷ facts) (f ∷ put_fact fact facts)

-- one fact after another
abbrev pub put_facts : List Fact → List Fact → List Fact
put_facts [] facts = facts
put_facts (fact ∷ more) facts = put_facts more (put_fact fact facts)

-- and with what is noted of one node, or of none
abbrev pub with_fact : Fact → Tables → Tables
with_fact fact tables = record tables { records = put_fact fact tables.records }

abbrev pub without_records : Tables → Tables
without_records tables = record tables { records = [] }

-- An item may come after these tables, as far as they tell, and they are those then.
abbrev pub Loads : Tables → Item → Tables → Type 0
Loads old (Graph text) new = new ≡ without_records old
Loads old (Content value) new = IsShort value × (new ≡ with_content value old)
Loads old (Put name number) new = IsName name × ((text : List ℕ) × IsText old.contents number text) × (new ≡ old)
Loads old (Dropped name) new = IsName name × (new ≡ old)
Loads old (Kept stored given) new = (call : Call) × (outcome : Outcome) × MayBeKept old stored given call outcome × (new ≡ with_call call outcome old)
Loads old (Node stored) new = (fact : Fact) × MayBeNoted old.contents stored fact × (new ≡ with_fact fact old)

abbrev pub LoadsAll : Tables → List Item → Tables → Type 0
LoadsAll old [] new = new ≡ old
LoadsAll old (it ∷ items) new = (next : Tables) × Loads old it next × LoadsAll next items new
